-- The laws of `pass`: no test of a list fails, as a truth value, as a fact of each test, and by the number of the first that fails.
use mathlib.Core.Path.{◌≡◌, refl, sym, ap, ◌∙◌}
use mathlib.Core.Bool.{true, false, and-eq-true_iff, true≢false, not-eq-not}
use mathlib.Core.List.{List, [], ◌∷◌}
use Rattle.records.specs.Lists.{every}
use Rattle.records.specs.Tests.{Verdict, Test, first_failed}
use Rattle.records.proofs.TestLaws.{Passed, Numbered, passed_none, none_passed, no_test}
use Rattle.demands.specs.Tables.{pass}

pub pass_passed : (ts : List Test) → pass ts ≡ true → Passed ts
unfolding pass every
pass_passed [] e = tt
pass_passed (t ∷ ts) e = let both = (and-eq-true_iff t.passed (pass ts)).0 e in (both.0, pass_passed ts both.1)

pub passed_pass : (ts : List Test) → Passed ts → pass ts ≡ true
unfolding pass every
passed_pass [] all = refl
passed_pass (t ∷ ts) all = rw all.0 (passed_pass ts all.1)

-- with no refusal all pass, and with one they do not
pub none_pass : (ts : List Test) → Numbered ts → (first_failed ts).number ≡ 0 → pass ts ≡ true
none_pass ts numbered e = passed_pass ts (none_passed ts numbered e)

pub pass_none : (ts : List Test) → pass ts ≡ true → first_failed ts ≡ record { number = 0; place = 0 }
pass_none ts e = passed_none ts (pass_passed ts e) ∙ no_test

pub refused_fails : (ts : List Test) → ((first_failed ts).number ≡ 0 → ⊥) → pass ts ≡ false
refused_fails ts n = not-eq-not.0 (λ e. n (ap (λ (v : Verdict). v.number) (pass_none ts e)))

pub fails_refused : (ts : List Test) → Numbered ts → pass ts ≡ false → (first_failed ts).number ≡ 0 → ⊥
fails_refused ts numbered e z = true≢false (sym (none_pass ts numbered z) ∙ e)
