-- `circuits::evaluation::evaluate` meets its contract: the lengths, and behind them what the gates and the root give. Assumes nothing.
use Rattle.std.proofs.Common.{arith}
use Rattle.std.proofs.lemmas.Result.{err_from_is_err_and}
use Rattle.circuits.proofs.EvaluateInsideLaws.{lengths_size, lengths_few, evaluated_lengths, evaluated_within_lem}
use Rattle.circuits.proofs.evaluation.evaluate.Goals as goal

pub returns-in_err-test_lengths : goal.returns-in_err-test_lengths
returns-in_err-test_lengths c =
    let p = err_from_is_err_and c.from_residual.result c.from_residual.ensures.1 in
    rw (p.1, p.2) (evaluated_lengths _ _ _ _ _ _ c.in_err-test_lengths.ensures)

pub evaluate_in-requires : goal.evaluate_in-requires
evaluate_in-requires c = (lengths_size _ _ _ _ c.in_ok-test_lengths.ensures, omega arith, omega arith)

pub returns-then-table-le4096 : goal.returns-then-table-le4096
returns-then-table-le4096 c = rw (evaluated_within_lem _ _ _ _ c.in_ok-test_lengths.ensures _) c.evaluate_in.ensures

pub evaluate_in-requires-2 : goal.evaluate_in-requires-2
evaluate_in-requires-2 c =
    let good = c.in_ok-test_lengths.ensures in
    (lengths_size _ _ _ _ good, omega (arith, lengths_few _ _ _ _ good), omega arith)

pub returns : goal.returns
returns c = rw (evaluated_within_lem _ _ _ _ c.in_ok-test_lengths.ensures _) c.evaluate_in-2.ensures
