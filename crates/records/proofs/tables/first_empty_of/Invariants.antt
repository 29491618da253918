-- `records::tables::first_empty_of` meets its contract: every record passed has a byte that is not zero. Assumes nothing.
use Prim.Native.Nat.{ℕ, ◌<◌}
use mathlib.Core.Path.{◌≡◌}
use mathlib.Core.Bool.{false}
use lib.Dec.{eqb}
use lib.ListN.{take}
use Rattle.std.proofs.Common.{None}
use Rattle.records.specs.Clause.{empty}
use Rattle.records.specs.Table.{record_at}
use Rattle.records.proofs.tables.first_empty_of.Given as goal

abbrev pub invariant-loop-byte : goal.invariant-loop-byte
invariant-loop-byte l = eqb l.all 0 ≡ empty (take l.byte-index l.byte-items)

abbrev pub invariant-records : goal.invariant-records
invariant-records l = (l.first ≡ None) × ((k : ℕ) → k < l.r → empty (record_at l.size l.table k) ≡ false)
