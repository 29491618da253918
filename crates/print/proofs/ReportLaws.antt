-- The laws of the report: which files pass, that the gates of three files fit, and the text by its parts.
use Prim.Native.Nat.{ℕ, ◌*◌, ◌≤◌}
use mathlib.Core.Path.{◌≡◌, refl, sym, ◌∙◌}
use mathlib.Core.List.{List, ◌++◌, append-nil}
use native.Mathlib.Omega.{arith}
use borrow.Author.Tests.{eq-eqb, ne_eqb, leb-true}
use lib.ListN.{length, replicate}
use Rattle.records.specs.Tests.{Verdict, first_failed, Says}
use Rattle.records.proofs.TestLaws.{Numbered, none_passed}
use Rattle.circuits.specs.declared.checking.Answer.{Answer}
use Rattle.circuits.specs.Check.{plain_checked, Checks}
use Rattle.circuits.proofs.CheckLaws.{plain_acceptance, count_few, gates_length}
use Rattle.print.specs.Line.{answer_line, gate_lines, printed_by, printed}
use Rattle.print.specs.Report.{file_tests, own_work, own_gates, files_checked, answered, report_text}
use Rattle.print.proofs.TextLaws.{appended}

-- no refusal: each file is within its limit
files_numbered : (a b steps : List ℕ) → Numbered (file_tests a b steps)
unfolding file_tests
files_numbered a b steps = (omega arith, (omega arith, (omega arith, tt)))

pub files_within : (a b steps : List ℕ) → (first_failed (file_tests a b steps)).number ≡ 0 → (length a ≤ 16384) × (length b ≤ 16384) × (length steps ≤ 2048)
unfolding file_tests
files_within a b steps e =
    let passed = none_passed (file_tests a b steps) (files_numbered a b steps) e in
    (leb-true (length a) 16384 passed.0, leb-true (length b) 16384 passed.1.0, leb-true (length steps) 2048 passed.1.1.0)

-- 256 steps have at most 768 gates, and the gate table holds them
pub gates_fit : (a b steps work gates : List ℕ) (r : Answer) (w g : List ℕ) → Checks (plain_checked 32 1024 a b steps work gates) r w g → length steps ≤ 2048 → length gates ≡ 6144
    → r.number ≡ 0 → (r.count ≤ 768) × (8 * r.count ≤ length g)
gates_fit a b steps work gates r w g p l e n =
    let given = plain_acceptance 32 1024 a b steps work gates (sym p.number ∙ n) in
    let few = count_few 32 1024 a b steps work gates given in
    let same = gates_length 32 1024 a b steps work gates given in
    (omega (arith, p.count), rw p.gates (omega (arith, p.count)))

-- the text of an outcome: line one, and on acceptance the gates behind it
pub refused_text : (number place root count : ℕ) (gates out : List ℕ) {out' : List ℕ} → (number ≡ 0 → ⊥) → out' ≡ out ++ answer_line number place root count
    → out' ≡ out ++ printed_by number place root count gates
unfolding printed_by
refused_text number place root count gates out n p = rw (ne_eqb number 0 n, append-nil) p

pub accepted_text : (number place root count : ℕ) (gates out : List ℕ) {out₁ out₂ : List ℕ} → number ≡ 0 → out₁ ≡ out ++ answer_line number place root count
    → out₂ ≡ out₁ ++ gate_lines gates count → out₂ ≡ out ++ printed_by number place root count gates
unfolding printed_by
accepted_text number place root count gates out e p q = rw (eq-eqb number 0 e) (appended (answer_line number place root count) (gate_lines gates count) out p q)

pub printed_is : (a b steps work gates : List ℕ) (r : Answer) (w g : List ℕ) → Checks (plain_checked 32 1024 a b steps work gates) r w g → work ≡ replicate 16384 0
    → gates ≡ replicate 6144 0 → printed_by r.number r.place r.root r.count g ≡ printed (files_checked a b steps)
unfolding files_checked own_work own_gates
printed_is a b steps work gates r w g p e f = rw (p.number, p.place, p.root, p.count, p.gates, e, f) refl

-- the report: a file's refusal, or else the outcome
module _ (a b steps : List ℕ) (v : Verdict) (says : Says (first_failed (file_tests a b steps)) v) where
  pub file_refused : (v.number ≡ 0 → ⊥) → answer_line v.number v.place 0 0 ≡ report_text a b steps
  unfolding report_text answered
  file_refused n = rw (says.number, says.place, ne_eqb (first_failed (file_tests a b steps)).number 0 (λ e. n (says.number ∙ e))) refl

  pub files_reported : v.number ≡ 0 → printed (files_checked a b steps) ≡ report_text a b steps
  unfolding report_text answered
  files_reported e = rw (eq-eqb (first_failed (file_tests a b steps)).number 0 (sym says.number ∙ e)) refl
