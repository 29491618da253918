-- "the record handed back is the caller's own 64 bytes from 64r. Otherwise it is the empty part": as a start and a length.
use Rattle.std.specs.Prelude.{ℕ, ◌+◌, ◌*◌, ◌≡◌, Bool, cond, List, length, leb}
use Rattle.privetcomb.specs.declared.Part.{Part}

-- "If 64(r + 1) is at most the table's length, as whole numbers"
abbrev pub has_record : List ℕ → ℕ → Bool
has_record table r = leb (64 * (r + 1)) (length table)

-- p is the part of record r
pub record PartOf (table : List ℕ) (r : ℕ) (p : Part) : Type 0 where
  pub start : p.start ≡ cond (has_record table r) (64 * r) 0
  pub length_is : p.length ≡ cond (has_record table r) 64 0
