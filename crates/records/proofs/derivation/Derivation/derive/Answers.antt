-- `records::derivation::Derivation::derive` meets its contract: the steps' stage, and then the root's. Assumes nothing.
use mathlib.Core.Path.{refl, ap, ◌∙◌}
use Rattle.std.proofs.lemmas.Result.{err_from_is_err_and}
use Rattle.std.specs.Option.{ok_or}
use Rattle.records.specs.declared.refusals.Refusal.TheVariants.{NoEmptyClause}
use Rattle.records.proofs.DerivationLaws.{stage_refused, stage_passed, root_answered}
use Rattle.records.proofs.derivation.Derivation.derive.Goals as goal

pub returns-in_err-run_steps : goal.returns-in_err-run_steps
returns-in_err-run_steps g c =
    let p = err_from_is_err_and c.from_residual.result c.from_residual.ensures.1 in
    rw (p.1, p.2) (stage_refused _ _ _ c.run_steps.result c.run_steps.ensures _ _ c.in_err-run_steps.was)

pub returns : goal.returns
returns g c =
    let d = c.args.self.now in
    rw (c.ok_or.ensures.value ∙ ap (λ o. ok_or o NoEmptyClause) c.find_root.ensures)
    (stage_passed _ _ _ c.run_steps.result c.run_steps.ensures _ _ c.in_ok-run_steps.was _ _ (root_answered g.row.HALF d.a.now d.b.now _ _ _ refl))
