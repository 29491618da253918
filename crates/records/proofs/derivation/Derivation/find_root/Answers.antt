-- `records::derivation::Derivation::find_root` meets its contract: A, then B, then the results. Assumes nothing.
use mathlib.Core.Path.{sym, ◌∙◌}
use Rattle.records.proofs.DerivationLaws.{found_in_a, found_in_b, found_in_results, found_in_none}
use Rattle.records.proofs.derivation.Derivation.find_root.Goals as goal

pub returns-in-Some : goal.returns-in-Some
returns-in-Some g c = found_in_a _ _ _ _ _ _ (sym c.in-Some.is ∙ c.first_empty_of.ensures)

pub returns-in-Some-first_empty_of : goal.returns-in-Some-first_empty_of
returns-in-Some-first_empty_of g c =
    found_in_b _ _ _ _ _ (sym c.in_default.is ∙ c.first_empty_of.ensures) _ (sym c.in-Some-first_empty_of.is ∙ c.first_empty_of-2.ensures)

pub returns-in_err-k : goal.returns-in_err-k
returns-in_err-k g c =
    rw c.from_residual.ensures
    (found_in_none _ _ _ _ _ (sym c.in_default.is ∙ c.first_empty_of.ensures) (sym c.in_default-first_empty_of.is ∙ c.first_empty_of-2.ensures) (sym c.in_err-k.was ∙ c.first_empty_of-3.ensures))

pub returns : goal.returns
returns g c =
    found_in_results _ _ _ _ _ (sym c.in_default.is ∙ c.first_empty_of.ensures) (sym c.in_default-first_empty_of.is ∙ c.first_empty_of-2.ensures) _
    (sym c.in_ok-k.was ∙ c.first_empty_of-3.ensures)
