-- `records::tables::copy_record` meets its contract: the bytes passed are the record's. Assumes nothing.
use Prim.Native.Nat.{ℕ, ◌+◌, ◌*◌, ◌≤◌, ◌<◌}
use mathlib.Core.Path.{◌≡◌}
use lib.ListN.{length, get_or}
use Rattle.records.proofs.tables.copy_record.Given as goal

abbrev pub invariant-loop-i : goal.invariant-loop-i
invariant-loop-i l = (length l.part ≡ 128) × (l.size * l.r + l.size ≤ length l.table) × ((k : ℕ) → k < l.i → get_or l.part k 0 ≡ get_or l.table (l.size * l.r + k) 0)
