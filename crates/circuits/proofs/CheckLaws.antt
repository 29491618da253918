-- The laws of the plain check: its answer stage by stage, when it accepts, and that the circuit it then leaves is an interpolant of common variables that the evaluator accepts.
use Rattle.std.proofs.Common.{◌≡◌, ℕ, ◌+◌, ◌*◌, ◌<◌, ◌≤◌, Bool, true, false, cond, eqb, leb, List, [], ◌++◌, length, get_or, take, drop, sym, refl, ap, ◌∙◌, arith, eq-eqb, ne_eqb, eqb-true, le-leb, leb-true}
use borrow.Author.Tests.{eqb-false, lt-leb}
use Rattle.records.specs.Bits.{digit}
use Rattle.records.specs.Clause.{has, empty}
use Rattle.records.specs.Table.{records}
use Rattle.records.specs.Step.{step_at, step_count}
use Rattle.records.specs.Tests.{Verdict, first_failed, table_tests, room_tests}
use Rattle.records.specs.Derivation.{inputs, clause_at, Outcome, judged, derived, ByRule, clause_count, last_work, Sizes}
use Rattle.records.proofs.TestLaws.{Passed, Numbered, passed_none, none_passed, fails, tables_numbered, room_numbered}
use Rattle.records.proofs.AcceptanceLaws.{Accepted, acceptance, accepts}
use Rattle.circuits.specs.Gate.{Gate, gates_of}
use Rattle.circuits.specs.Rule.{symmetric_rule}
use Rattle.circuits.specs.Build.{plain, symmetric_start, plain_build}
use Rattle.circuits.specs.Value.{value}
use Rattle.circuits.specs.Check.{Checked, gate_room_tests, plain_tests, refusal, plain_accepted, unless_refused, plain_checked}
use Rattle.circuits.specs.Evaluate.{evaluated}
use Rattle.records.proofs.TestLaws.{no_test, numbered_append, passed_append, append_passed, after_passed, after_refused, sizes_pass}
use Rattle.circuits.proofs.GateLaws.{length_with_gates, gates_of_written, bytes_written, rest_unchanged}
use Rattle.circuits.proofs.BuildLaws.{plain_orderly, gates_few, InPlace, built_in_place, inputs_in_place}
use Rattle.circuits.proofs.CircuitLaws.{plain_faithful}
use Rattle.circuits.proofs.InterpolantLaws.{Interpolates, pivots_small, symmetric_interpolates}
use Rattle.circuits.proofs.EvaluateLaws.{evaluation_accepts}
use Rattle.circuits.proofs.VariableLaws.{Within, AllWithin, InBoth, plain_names_no_other, symmetric_within}

-- tests 1 to 6
pub gate_room_numbered : (steps gates : List ℕ) → Numbered (gate_room_tests steps gates)
unfolding gate_room_tests
gate_room_numbered steps gates = (omega arith, tt)

pub plain_numbered : (h most : ℕ) (a b steps work gates : List ℕ) → Numbered (plain_tests h most a b steps work gates)
unfolding plain_tests
plain_numbered h most a b steps work gates =
    numbered_append (table_tests h most a b steps) (room_tests h steps work ++ gate_room_tests steps gates) (tables_numbered h most a b steps)
    (numbered_append (room_tests h steps work) (gate_room_tests steps gates) (room_numbered h steps work) (gate_room_numbered steps gates))

-- the check by its stages: each list of tests where those before it pass, then the derivation
pub refusal_answers : (o : Outcome) (gates : List ℕ) (next : Checked) → (o.number ≡ 0 → ⊥) → unless_refused o gates next ≡ refusal o gates
refusal_answers o gates next n = rw (ne_eqb o.number 0 n) refl

module _ (h most : ℕ) (a b steps work gates : List ℕ) where
  pub tests_refuse : (v : Verdict) → first_failed (plain_tests h most a b steps work gates) ≡ v → (v.number ≡ 0 → ⊥) → plain_checked h most a b steps work gates ≡ refusal (judged v work) gates
  unfolding plain_checked
  tests_refuse v e n = rw e (refusal_answers (judged v work) gates _ n)

  pub tables_refuse : ((first_failed (table_tests h most a b steps)).number ≡ 0 → ⊥) → plain_checked h most a b steps work gates ≡ refusal (judged (first_failed (table_tests h most a b steps)) work) gates
  unfolding plain_tests
  tables_refuse n = tests_refuse (first_failed (table_tests h most a b steps)) (after_refused (table_tests h most a b steps) (room_tests h steps work ++ gate_room_tests steps gates) n) n

  module _ (tables : Passed (table_tests h most a b steps)) where
    pub room_refuses : ((first_failed (room_tests h steps work)).number ≡ 0 → ⊥) → plain_checked h most a b steps work gates ≡ refusal (judged (first_failed (room_tests h steps work)) work) gates
    unfolding plain_tests
    room_refuses n =
        tests_refuse (first_failed (room_tests h steps work))
        (after_passed (table_tests h most a b steps) (room_tests h steps work ++ gate_room_tests steps gates) tables ∙ after_refused (room_tests h steps work) (gate_room_tests steps gates) n) n

    module _ (room : Passed (room_tests h steps work)) where
      pub gate_room_refuses : length gates < 24 * step_count steps → plain_checked h most a b steps work gates ≡ refusal (judged (record { number = 6; place = 0 }) work) gates
      unfolding plain_tests gate_room_tests
      gate_room_refuses l =
          tests_refuse (record { number = 6; place = 0 })
          (after_passed (table_tests h most a b steps) (room_tests h steps work ++ gate_room_tests steps gates) tables ∙ after_passed (room_tests h steps work) (gate_room_tests steps gates) room
          ∙ fails (leb (24 * step_count steps) (length gates)) 6 0 [] (lt-leb (24 * step_count steps) (length gates) l)) (λ e. absurd (omega arith))

      module _ (gate-room : 24 * step_count steps ≤ length gates) where
        derivation_decides : plain_checked h most a b steps work gates ≡ unless_refused (derived h most a b steps work) gates (plain_accepted h a b steps gates (derived h most a b steps work))
        unfolding plain_checked plain_tests gate_room_tests
        derivation_decides =
            rw (
              passed_none (plain_tests h most a b steps work gates)
                  (passed_append (table_tests h most a b steps) (room_tests h steps work ++ gate_room_tests steps gates) tables
                  (passed_append (room_tests h steps work) (gate_room_tests steps gates) room (le-leb (24 * step_count steps) (length gates) gate-room, tt))),
              no_test,
            ) refl

        pub derivation_refuses : ((derived h most a b steps work).number ≡ 0 → ⊥) → plain_checked h most a b steps work gates ≡ refusal (derived h most a b steps work) gates
        derivation_refuses n = derivation_decides ∙ refusal_answers (derived h most a b steps work) gates _ n

        pub derivation_accepts : (derived h most a b steps work).number ≡ 0 → plain_checked h most a b steps work gates ≡ plain_accepted h a b steps gates (derived h most a b steps work)
        derivation_accepts e = derivation_decides ∙ rw (eq-eqb (derived h most a b steps work).number 0 e) refl

  -- all tables within the limits, each step by the rule and some clause empty are accepted
  pub plain_accepts : Sizes h most a b steps work → 24 * step_count steps ≤ length gates
      → ((i : ℕ) → i < step_count steps → ByRule h (clause_at h a b (last_work h a b steps work)) (inputs h a b + i) (step_at steps i))
      → (k : ℕ) → k < clause_count h a b steps → empty (clause_at h a b (last_work h a b steps work) k) ≡ true → (plain_checked h most a b steps work gates).number ≡ 0
  unfolding plain_accepted
  plain_accepts sizes gate-room rules k l e =
      let pass = sizes_pass h most a b steps work sizes in
      ap (λ (c : Checked). c.number) (derivation_accepts pass.0 pass.1 gate-room (accepts h most a b steps work sizes rules k l e))

-- no refusal: the outcome before has none, and the next is the answer
pub next_answers : (o : Outcome) (gates : List ℕ) (next : Checked) → (unless_refused o gates next).number ≡ 0 → (o.number ≡ 0) × (unless_refused o gates next ≡ next)
next_answers o gates next e = go (eqb o.number 0) refl e
  where
    go : (t : Bool) → eqb o.number 0 ≡ t → (cond t next (refusal o gates)).number ≡ 0 → (o.number ≡ 0) × (cond t next (refusal o gates) ≡ next)
    go true q f = (eqb-true o.number 0 q, refl)
    go false q f = absurd (eqb-false o.number 0 q f)

-- what acceptance is
pub record PlainAccepted (h most : ℕ) (a b steps work gates : List ℕ) : Type 0 where
  pub room : 24 * step_count steps ≤ length gates
  pub accepted : Accepted h most a b steps work
  pub outcome : plain_checked h most a b steps work gates ≡ plain_accepted h a b steps gates (derived h most a b steps work)

module _ (h most : ℕ) (a b steps work gates : List ℕ) where
  pub plain_acceptance : (plain_checked h most a b steps work gates).number ≡ 0 → PlainAccepted h most a b steps work gates
  unfolding plain_checked plain_tests gate_room_tests
  plain_acceptance e =
      let tests = next_answers (judged (first_failed (plain_tests h most a b steps work gates)) work) gates
      (unless_refused (derived h most a b steps work) gates (plain_accepted h a b steps gates (derived h most a b steps work))) e in
      let steps-and-root = next_answers (derived h most a b steps work) gates (plain_accepted h a b steps gates (derived h most a b steps work)) (sym (ap (λ (c : Checked). c.number) tests.1) ∙ e) in
      let passed = none_passed (plain_tests h most a b steps work gates) (plain_numbered h most a b steps work gates) tests.0 in
      let rooms = (append_passed (table_tests h most a b steps) (room_tests h steps work ++ gate_room_tests steps gates) passed).1 in
      let gate-room = (append_passed (room_tests h steps work) (gate_room_tests steps gates) rooms).1 in
      record {
        room = leb-true (24 * step_count steps) (length gates) gate-room.0;
        accepted = acceptance h most a b steps work steps-and-root.0;
        outcome = tests.1 ∙ steps-and-root.1;
      }

  -- the circuit that the check leaves: the first gates of the gate table, as many as it counts
  abbrev pub circuit_left : List Gate
  circuit_left = gates_of (plain_checked h most a b steps work gates).gates (plain_checked h most a b steps work gates).count

  module _ (given : PlainAccepted h most a b steps work gates) where
    pub circuit_left_is : circuit_left ≡ (plain_build h a b steps).gates
    unfolding plain_accepted
    circuit_left_is = rw given.outcome (gates_of_written gates (plain_build h a b steps).gates)

    pub count_is : (plain_checked h most a b steps work gates).count ≡ length (plain_build h a b steps).gates
    unfolding plain_accepted
    count_is = rw given.outcome refl

    pub root_is : (plain_checked h most a b steps work gates).root ≡ get_or (plain_build h a b steps).references (derived h most a b steps work).place 0
    unfolding plain_accepted
    root_is = rw given.outcome refl

    -- read at the root it is an interpolant
    pub plain_interpolates : Interpolates h a b (λ (σ : ℕ → Bool). value (8 * h) σ circuit_left (plain_checked h most a b steps work gates).root)
    unfolding plain_build
    plain_interpolates =
        rw (circuit_left_is, root_is)
        (symmetric_interpolates h (plain (8 * h)) (plain_faithful (8 * h)) [] a b (derived h most a b steps work).work (step_at steps) (step_count steps)
        given.accepted.derivation_is (derived h most a b steps work).place given.accepted.root_in given.accepted.root_empty)

    -- and every variable that a gate or the root names is common
    pub plain_common : AllWithin (8 * h) (InBoth h a b) circuit_left × Within (8 * h) (InBoth h a b) (plain_checked h most a b steps work gates).root
    unfolding plain_build
    plain_common =
        let all = symmetric_within h (plain (8 * h)) (plain_names_no_other (8 * h)) a b 0 (step_at steps) (step_count steps) in
        rw (circuit_left_is, root_is) (all.0, all.1 (derived h most a b steps work).place)

    -- its gates are formed, at most three a step, and the root is there
    plain_place : InPlace (8 * h) 0 (plain_build h a b steps)
    unfolding plain_build
    plain_place =
        built_in_place (8 * h) (plain (8 * h)) (plain_orderly (8 * h)) (symmetric_rule h a b) 0 (symmetric_start h a b) (step_at steps)
        (inputs_in_place (8 * h) 0 (records (2 * h) a) (records (2 * h) b)) (step_count steps)
        (pivots_small h a b (derived h most a b steps work).work (step_at steps) (step_count steps) given.accepted.derivation_is)

    plain_few : length (plain_build h a b steps).gates ≤ 3 * step_count steps
    unfolding plain_build
    plain_few = omega (arith, gates_few (plain (8 * h)) (symmetric_rule h a b) 0 (symmetric_start h a b) (step_at steps) (8 * h) (plain_orderly (8 * h)) (step_count steps))

    pub count_few : (plain_checked h most a b steps work gates).count ≤ 3 * step_count steps
    count_few = omega (arith, count_is, plain_few)

    -- the gate table keeps its length, and its bytes behind the circuit
    pub gates_rest : drop (8 * (plain_checked h most a b steps work gates).count) (plain_checked h most a b steps work gates).gates ≡ drop (8 * (plain_checked h most a b steps work gates).count) gates
    unfolding plain_accepted
    gates_rest = rw given.outcome (rest_unchanged gates (plain_build h a b steps).gates)

    pub gates_length : length (plain_checked h most a b steps work gates).gates ≡ length gates
    unfolding plain_accepted
    gates_length = rw given.outcome (length_with_gates gates 0 (plain_build h a b steps).gates (omega (arith, plain_few, given.room)))

    -- the evaluator never refuses the circuit's bytes at the root: it answers the circuit's value
    pub circuit_evaluated : (limit : ℕ) → 3 * most ≤ limit → (assignment : List ℕ) → length assignment ≡ h
        → evaluated h limit assignment (take (8 * (plain_checked h most a b steps work gates).count) (plain_checked h most a b steps work gates).gates) (plain_checked h most a b steps work gates).root
        ≡ record { number = 0; place = 0; value = digit (value (8 * h) (has assignment) circuit_left (plain_checked h most a b steps work gates).root) }
    unfolding plain_accepted
    circuit_evaluated limit enough assignment size =
        let place = plain_place in
        rw (given.outcome, bytes_written gates (plain_build h a b steps).gates, gates_of_written gates (plain_build h a b steps).gates)
        (evaluation_accepts h limit assignment (plain_build h a b steps).gates (get_or (plain_build h a b steps).references (derived h most a b steps work).place 0) size
        (omega (arith, plain_few, given.accepted.sizes.few)) place.formed (omega (arith, place.below (derived h most a b steps work).place)))
