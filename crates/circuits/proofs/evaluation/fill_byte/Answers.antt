-- `circuits::evaluation::fill_byte` meets its contract: a row for each half of the byte. Assumes nothing.
use Rattle.circuits.proofs.EvaluateInsideLaws.{filled_byte}
use Rattle.circuits.proofs.evaluation.fill_byte.Goals as goal

pub returns : goal.returns
returns c =
    let args = c.args in
    filled_byte args.assignment.now args.values.now _ _ args.j _ c.from-byte.ensures c.fill_row.ensures c.fill_row-2.ensures c.requires.before
