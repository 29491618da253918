-- The laws of a record's part: which it is, and that it is the record.
use Prim.Native.Nat.{ℕ, ◌+◌, ◌*◌, ◌≤◌, ◌<◌}
use mathlib.Core.Path.{◌≡◌, refl, ap₂, ◌∙◌}
use mathlib.Core.Bool.{Bool, true, false, cond}
use mathlib.Core.List.{List, []}
use borrow.Author.Tests.{le-leb, lt-leb}
use lib.ListN.{length, take, drop}
use Rattle.records.specs.Table.{record_at}
use Rattle.privetcomb.specs.declared.Part.{Part}
use Rattle.privetcomb.specs.Part.{has_record, PartOf}

-- where the table has the record, and where it has not
pub part_in : (table : List ℕ) (r : ℕ) → 64 * (r + 1) ≤ length table → PartOf table r (record { start = 64 * r; length = 64 })
part_in table r l = let there = le-leb (64 * (r + 1)) (length table) l in record { start = rw there refl; length_is = rw there refl }

pub part_out : (table : List ℕ) (r : ℕ) → length table < 64 * (r + 1) → PartOf table r (record { start = 0; length = 0 })
part_out table r l = let past = lt-leb (64 * (r + 1)) (length table) l in record { start = rw past refl; length_is = rw past refl }

-- the bytes of the part are those that `record` of the step layer promises
pub part_is_record : (table : List ℕ) (r : ℕ) (p : Part) → PartOf table r p → take p.length (drop p.start table) ≡ record_at 64 table r
unfolding record_at
part_is_record table r p given = ap₂ (λ (start n : ℕ). take n (drop start table)) given.start given.length_is ∙ go (has_record table r)
  where
    go : (b : Bool) → take (cond b 64 0) (drop (cond b (64 * r) 0) table) ≡ cond b (take 64 (drop (64 * r) table)) []
    go true = refl
    go false = refl
