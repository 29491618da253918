-- `circuits::evaluation::test_lengths` meets its contract: 20 and 21. Assumes nothing.
use Rattle.std.proofs.Common.{sym}
use Rattle.circuits.proofs.EvaluateInsideLaws.{length_assignment, length_odd, length_many, length_good}
use Rattle.circuits.proofs.evaluation.test_lengths.Goals as goal

pub returns-then-assignment-half : goal.returns-then-assignment-half
returns-then-assignment-half c =
    let args = c.args in
    sym (length_assignment args.half args.most args.assignment.now args.table.now c.if-assignment-half.true)

pub returns-then-table-ne0 : goal.returns-then-table-ne0
returns-then-table-ne0 c = sym (length_odd _ _ _ _ c.if-assignment-half.false c.if-table-ne0.true)

pub returns-then-most-table : goal.returns-then-most-table
returns-then-most-table c = sym (length_many _ _ _ _ c.if-assignment-half.false c.if-table-ne0.false c.if-most-table.true)

pub returns : goal.returns
returns c = sym (length_good _ _ _ _ c.if-assignment-half.false c.if-table-ne0.false c.if-most-table.false)
