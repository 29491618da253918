-- `circuits::evaluation::fill_row` meets its contract: the values passed are those of the row. Assumes nothing.
use Rattle.std.proofs.Common.{◌+◌, [], get_or, ◌∙◌, lt_irrefl, arith, get_or-set_other}
use Rattle.records.proofs.ClauseLaws.{written_behind}
use Rattle.circuits.specs.EvaluateInside.{row_value}
use Rattle.circuits.specs.declared.evaluation.TheConstants.{ROWS}
use Rattle.circuits.proofs.EvaluateInsideLaws.{row_at}
use Rattle.circuits.proofs.evaluation.fill_row.Goals as goal

pub loop-i-preserved : goal.loop-i-preserved
loop-i-preserved c =
    let args = c.args in
    let loop = c.loop-i in
    let here = args.at + loop.i in
    let x = get_or (get_or ROWS args.n []) loop.i 0 in
    record {
      filled = written_behind args.at (row_value args.n) loop.values loop.i x (omega (arith, loop.auto.values)) loop.invariant.filled (row_at args.n (omega arith) loop.i (omega arith));
      before = λ r l. get_or-set_other loop.values here r x 0 (λ q. lt_irrefl r (omega arith)) ∙ loop.invariant.before r l;
    }
