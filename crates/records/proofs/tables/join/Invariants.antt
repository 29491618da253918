-- `records::tables::join` meets its contract: the bytes passed hold the literals of both. Assumes nothing.
use Prim.Native.Nat.{ℕ, ◌≤◌, ◌<◌}
use mathlib.Core.Path.{◌≡◌}
use lib.Bits.{bit_or}
use lib.ListN.{get_or}
use Rattle.records.proofs.tables.join.Given as goal

abbrev pub invariant-loop-i : goal.invariant-loop-i
invariant-loop-i l = ((k : ℕ) → k < l.i → get_or l.to k 0 ≡ bit_or (get_or l.initial.to k 0) (get_or l.from k 0)) × ((k : ℕ) → l.i ≤ k → get_or l.to k 0 ≡ get_or l.initial.to k 0)
