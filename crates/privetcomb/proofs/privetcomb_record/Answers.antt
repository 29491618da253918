-- `privetcomb::privetcomb_record` meets its contract: the test of the length decides which part it is. Assumes nothing.
use native.Mathlib.Omega.{arith}
use Rattle.privetcomb.proofs.PartLaws.{part_in, part_out}
use Rattle.privetcomb.proofs.privetcomb_record.Goals as goal

pub returns-then-table-r : goal.returns-then-table-r
returns-then-table-r c = let args = c.args in part_out args.table.now args.r (omega arith)

pub returns : goal.returns
returns c =
    let args = c.args in
    let there = part_in args.table.now args.r (omega arith) in
    record { start = there.start; length_is = there.length_is }
