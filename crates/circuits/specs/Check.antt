-- The plain check: "checking a refutation and building its circuit (one call)", with what it leaves in both lent tables.
use Rattle.std.specs.Prelude.{◌≡◌, ℕ, ◌*◌, cond, Result, Ok, Err, List, [], ◌∷◌, ◌++◌, length, ◌==◌, nat_le, slice_index}
use Rattle.records.specs.Step.{step_count}
use Rattle.records.specs.Tests.{Test, test, first_failed, table_tests, room_tests}
use Rattle.records.specs.Derivation.{Outcome, judged, derived}
use Rattle.records.specs.Refusal as Records
use Rattle.circuits.specs.declared.checking.Refusal.{Refusal}
use Rattle.circuits.specs.declared.checking.Refusal.TheVariants.{Derivation, GatesTooShort}
use Rattle.circuits.specs.declared.checking.Circuit.{Circuit}
use Rattle.circuits.specs.declared.checking.Answer.{Answer}
use Rattle.circuits.specs.Gate.{with_gates}
use Rattle.circuits.specs.Build.{plain_build}

-- "The check returns number, place, root reference and gate count", and the two lent tables afterwards
pub record Checked : Type 0 where
  pub number : ℕ
  pub place : ℕ
  pub root : ℕ
  pub count : ℕ
  pub work : List ℕ
  pub gates : List ℕ

-- 6: "gate table shorter than 24s bytes"
unfoldable pub gate_room_tests : List ℕ → List ℕ → List Test
gate_room_tests steps gates = test (nat_le (24 * step_count steps) (length gates)) 6 0 ∷ []

-- 1 to 6, in document 01's order: "1 to 6 change nothing"
unfoldable pub plain_tests : ℕ → ℕ → List ℕ → List ℕ → List ℕ → List ℕ → List ℕ → List Test
plain_tests h most a b steps work gates = table_tests h most a b steps ++ (room_tests h steps work ++ gate_room_tests steps gates)

-- "A refusal has 0 for the last two. .. No refusal writes a gate."
abbrev pub refusal : Outcome → List ℕ → Checked
refusal o gates = record { number = o.number; place = o.place; root = 0; count = 0; work = o.work; gates = gates }

-- "Acceptance: 0, the root's clause number, its reference, the count."
unfoldable pub plain_accepted : ℕ → List ℕ → List ℕ → List ℕ → List ℕ → Outcome → Checked
plain_accepted h a b steps gates o =
    let x = plain_build h a b steps in
    record {
      number = 0;
      place = o.place;
      root = slice_index x.references o.place;
      count = length x.gates;
      work = o.work;
      gates = with_gates gates 0 x.gates;
    }

-- an outcome refuses, or the next decides
abbrev pub unless_refused : Outcome → List ℕ → Checked → Checked
unless_refused o gates next = cond (o.number == 0) next (refusal o gates)

-- 1 to 6 before anything is written, then the derivation with 7 to 11, then the gates
unfoldable pub plain_checked : ℕ → ℕ → List ℕ → List ℕ → List ℕ → List ℕ → List ℕ → Checked
plain_checked h most a b steps work gates =
    unless_refused (judged (first_failed (plain_tests h most a b steps work gates)) work) gates
    (unless_refused (derived h most a b steps work) gates (plain_accepted h a b steps gates (derived h most a b steps work)))

-- "The check returns number, place, root reference and gate count": those of a refusal by name, and of a circuit
abbrev pub refusal_number : Refusal → ℕ
refusal_number (Derivation refusal) = Records.refusal_number refusal
refusal_number GatesTooShort = 6

abbrev pub refusal_place : Refusal → ℕ
refusal_place (Derivation refusal) = Records.refusal_place refusal
refusal_place GatesTooShort = 0

abbrev pub answer_of : Result Circuit Refusal → Answer
answer_of (Ok c) = record { number = 0; place = c.clause; root = c.root; count = c.count }
answer_of (Err refusal) = record { number = refusal_number refusal; place = refusal_place refusal; root = 0; count = 0 }

-- the answer r and the two lent tables afterwards, w and g, are those of the outcome
pub record Checks (o : Checked) (r : Answer) (w g : List ℕ) : Type 0 where
  pub number : r.number ≡ o.number
  pub place : r.place ≡ o.place
  pub root : r.root ≡ o.root
  pub count : r.count ≡ o.count
  pub work : w ≡ o.work
  pub gates : g ≡ o.gates
