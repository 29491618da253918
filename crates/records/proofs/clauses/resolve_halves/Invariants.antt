-- `records::clauses::resolve_halves` meets its contract: in both halves the bytes passed are those of the resolvent. Assumes nothing.
use Prim.Native.Nat.{ℕ, ◌+◌, ◌<◌}
use mathlib.Core.Path.{◌≡◌}
use lib.ListN.{get_or}
use Rattle.records.specs.Inside.{positive_byte, negative_byte}
use Rattle.records.proofs.clauses.resolve_halves.Given as goal

abbrev pub invariant-loop-i : goal.invariant-loop-i
invariant-loop-i l =
    (k : ℕ) → k < l.i → (get_or l.part k 0 ≡ positive_byte l.left l.right l.pivot k) × (get_or l.part (l.half + k) 0 ≡ negative_byte l.half l.left l.right l.pivot k)
