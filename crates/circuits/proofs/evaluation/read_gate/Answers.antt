-- `circuits::evaluation::read_gate` meets its contract: the record's bytes, two by two. Assumes nothing.
use Prim.Native.Nat.{ℕ, ◌+◌, ◌*◌}
use mathlib.Core.Path.{◌≡◌}
use mathlib.Core.List.{List}
use native.Mathlib.Omega.{arith}
use lib.ListN.{get_or}
use Rattle.records.specs.Step.{pair_at}
use Rattle.circuits.proofs.evaluation.read_gate.Goals as goal

-- a byte and the next one, little endian, are the number there
two_bytes : (table : List ℕ) (at next n r : ℕ) → next ≡ at + 1 → r ≡ n → n ≡ get_or table at 0 + get_or table next 0 * 256 → r ≡ pair_at table at
two_bytes table at next n r behind same read = rw (← behind) (omega (arith, same, read))

pub returns : goal.returns
returns c =
    let table = c.args.table.now in
    let at = 8 * c.args.k in
    record {
      kind = two_bytes table at (at + 1) _ _ (omega arith) c.from.ensures c.from_le_bytes.ensures;
      left = two_bytes table (at + 2) (at + 3) _ _ (omega arith) c.from-2.ensures c.from_le_bytes-2.ensures;
      right = two_bytes table (at + 4) (at + 5) _ _ (omega arith) c.from-3.ensures c.from_le_bytes-3.ensures;
      tail = two_bytes table (at + 6) (at + 7) _ _ (omega arith) c.from-4.ensures c.from_le_bytes-4.ensures;
    }
