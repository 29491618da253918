-- `circuits::evaluation::evaluate_gate` meets its contract: 22 by kind, 23, or the value of the lowest bits. Assumes nothing.
use Rattle.std.proofs.Common.{refl}
use Rattle.std.proofs.lemmas.Result.{err_from_is_err_and}
use Rattle.circuits.proofs.EvaluateInsideLaws.{gate_refused, gate_valued}
use Rattle.circuits.proofs.evaluation.evaluate_gate.Goals as goal

pub returns-in_err-kind : goal.returns-in_err-kind
returns-in_err-kind c =
    let p = err_from_is_err_and c.from_residual.result c.from_residual.ensures.1 in
    rw (p.1, p.2) (gate_refused c.args.values.now c.args.k (rw c.in_err-kind.was at c.test_gate.ensures))

pub bounds-values-left : goal.bounds-values-left
bounds-values-left c = (c.test_gate.ensures.formed _ c.in_ok-kind.was).1

pub bounds-values-right : goal.bounds-values-right
bounds-values-right c = (c.test_gate.ensures.formed _ c.in_ok-kind.was).2

pub returns : goal.returns
returns c = gate_valued c.args.values.now c.args.k (rw c.in_ok-kind.was at c.test_gate.ensures) c.gate_value.ensures refl
