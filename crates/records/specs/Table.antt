-- Tables: "records of one fixed size, without a header". A table's bytes past its last whole record are no record.
use Rattle.std.specs.Prelude.{ℕ, ◌+◌, ◌*◌, ◌/◌, Bool, true, false, ◌||◌, cond, List, [], ◌++◌, length, take, drop, leb}
use Rattle.records.specs.Lists.{tabulate, first, some}
use Rattle.records.specs.Clause.{has, holds, bytes_of, empty}

-- "If 64(r + 1) is at most the table's length, as whole numbers, the record handed back is the caller's own 64 bytes from
-- 64r. Otherwise it is the empty part." Here for records of w bytes.
unfoldable pub record_at : ℕ → List ℕ → ℕ → List ℕ
record_at w table r = cond (leb (w * (r + 1)) (length table)) (take w (drop (w * r) table)) []

-- how many records a table has
abbrev pub records : ℕ → List ℕ → ℕ
records w table = length table / w

-- the table with new bytes for its record i
unfoldable pub put : ℕ → List ℕ → ℕ → List ℕ → List ℕ
put w table i new = take (w * i) table ++ (new ++ drop w (drop (w * i) table))

-- the first of a table's first n records that has no literal, or n
unfoldable pub first_empty : ℕ → List ℕ → ℕ → ℕ
first_empty w table n = first (λ r. empty (record_at w table r)) n

-- the clauses of a table: all of its records
unfoldable pub clauses_of : ℕ → List ℕ → List (List ℕ)
clauses_of h table = tabulate (records (2 * h) table) (record_at (2 * h) table)

-- "where it occurs in the whole of tables A and B": variable v occurs in a table where some clause holds a literal of it
unfoldable pub occurs : ℕ → List ℕ → ℕ → Bool
occurs h table v = some (λ c. holds h c true v || holds h c false v) (clauses_of h table)

-- the record of all literals of a table
unfoldable pub literals_of : ℕ → List ℕ → List ℕ
literals_of h table = bytes_of (2 * h) (λ l. some (λ c. has c l) (clauses_of h table))
