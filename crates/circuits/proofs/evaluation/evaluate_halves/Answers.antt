-- `circuits::evaluation::evaluate_halves` meets its contract: the gates, then the root. Assumes nothing.
use Rattle.std.proofs.Common.{arith, refl}
use Rattle.std.proofs.lemmas.Result.{err_from_is_err_and}
use Rattle.circuits.proofs.EvaluateInsideLaws.{within_gates, within_root, within_value}
use Rattle.circuits.proofs.evaluation.evaluate_halves.Goals as goal

pub returns-in_err-evaluate_gates : goal.returns-in_err-evaluate_gates
returns-in_err-evaluate_gates c =
    let p = err_from_is_err_and c.from_residual.result c.from_residual.ensures.1 in
    rw (p.1, p.2) (within_gates _ _ _ _ _ (rw c.in_err-evaluate_gates.was at c.evaluate_gates.ensures))

pub returns-then-half-table : goal.returns-then-half-table
returns-then-half-table c = within_root _ _ _ _ _ (rw c.in_ok-evaluate_gates.was at c.evaluate_gates.ensures) (omega arith)

pub returns : goal.returns
returns c = within_value _ _ _ _ _ (rw c.in_ok-evaluate_gates.was at c.evaluate_gates.ensures) (omega arith) refl
