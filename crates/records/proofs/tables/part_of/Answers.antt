-- `records::tables::part_of` meets its contract. Assumes nothing.
use native.Mathlib.Omega.{arith}
use lib.ListN.{length}
use Rattle.records.proofs.TableLaws.{whole, record_at_part}
use Rattle.records.proofs.tables.part_of.Goals as goal

pub overflow_mul-start : goal.overflow_mul-start
overflow_mul-start c = omega (arith, whole c.args.size (length c.args.table.now) c.args.r c.requires.0 c.requires.1)

pub overflow_add-result : goal.overflow_add-result
overflow_add-result c = omega (arith, whole c.args.size (length c.args.table.now) c.args.r c.requires.0 c.requires.1)

pub slice_bounds-result-end : goal.slice_bounds-result-end
slice_bounds-result-end c = omega (arith, whole c.args.size (length c.args.table.now) c.args.r c.requires.0 c.requires.1)

pub returns : goal.returns
returns c = record_at_part _ _ _ (whole c.args.size (length c.args.table.now) c.args.r c.requires.0 c.requires.1)
