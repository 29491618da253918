-- `print::report::write_checked` meets its contract: the program's own tables hold 256 steps and their gates. Assumes nothing.
use mathlib.Core.Path.{◌≡◌, sym, ap, ◌∙◌, subst}
use Prim.Native.Nat.{ℕ}
use mathlib.Core.List.{List}
use Rattle.circuits.specs.declared.checking.Answer.{Answer}
use Rattle.circuits.specs.Check.{Checked, Checks}
use lib.ListN.{length, length-replicate}
use Rattle.print.proofs.ReportLaws.{gates_fit, printed_is}
use Rattle.print.proofs.report.write_checked.Goals as goal

-- what holds of an answer holds of the same numbers handed on
handed_on : (o : Checked) (r r' : Answer) (work gates : List ℕ) → r' ≡ r → Checks o r work gates → Checks o r' work gates
handed_on o r r' work gates e checks = subst (λ (r : Answer). Checks o r work gates) (sym e) checks

pub write_outcome-requires-clause-fits : goal.write_outcome-requires-clause-fits
write_outcome-requires-clause-fits c =
    gates_fit c.args.a.now c.args.b.now c.args.steps.now _ _ c.into-answer.result _ _ (handed_on _ _ _ _ _ c.into-answer.ensures c.check.ensures) c.requires.within (ap length c.zeros-gates.ensures ∙ length-replicate {A = ℕ} 6144 0)

pub returns : goal.returns
returns c =
    let args = c.args in
    rw (← printed_is args.a.now args.b.now args.steps.now _ _ c.into-answer.result _ _ (handed_on _ _ _ _ _ c.into-answer.ensures c.check.ensures) c.zeros-work.ensures c.zeros-gates.ensures) c.write_outcome.ensures
