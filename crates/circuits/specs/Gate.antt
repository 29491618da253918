-- "Gate, 8 bytes. Byte 0 is 1 for AND, 2 for OR; byte 1 zero; 2-3 left input; 4-5 right input; 6-7 zero."
use Rattle.std.specs.Prelude.{ℕ, ◌+◌, ◌*◌, ◌/◌, ◌%◌, Bool, cond, ◌&&◌, List, [], ◌∷◌, ◌++◌, length, take, drop, ◌==◌, nat_lt, slice_index}
use Rattle.records.specs.Lists.{tabulate}
use Rattle.records.specs.Table.{record_at, records}
use Rattle.records.specs.Step.{pair_at}
use Rattle.circuits.specs.declared.kinds.Kind.{Kind}
use Rattle.circuits.specs.declared.kinds.Kind.TheVariants.{And, Or}

pub record Gate : Type 0 where
  pub kind : ℕ
  pub left : ℕ
  pub right : ℕ

-- the byte of a kind
abbrev pub kind_byte : Kind → ℕ
kind_byte And = 1
kind_byte Or = 2

abbrev pub and_gate : ℕ → ℕ → Gate
and_gate left right = record { kind = 1; left = left; right = right }

abbrev pub or_gate : ℕ → ℕ → Gate
or_gate left right = record { kind = 2; left = left; right = right }

-- a gate's bytes, "Numbers of two bytes are little endian"
abbrev pub gate_bytes : Gate → List ℕ
gate_bytes g = g.kind ∷ (0 ∷ (g.left % 256 ∷ (g.left / 256 ∷ (g.right % 256 ∷ (g.right / 256 ∷ (0 ∷ (0 ∷ [])))))))

-- the bytes of gates, one record after the other
unfoldable pub gates_bytes : List Gate → List ℕ
gates_bytes [] = []
gates_bytes (g ∷ gs) = gate_bytes g ++ gates_bytes gs

-- the gate in a record's bytes
abbrev pub gate_of : List ℕ → Gate
gate_of bytes = record { kind = slice_index bytes 0; left = pair_at bytes 2; right = pair_at bytes 4 }

-- gate k of a table; past the table's end every byte reads as zero
unfoldable pub gate_at : List ℕ → ℕ → Gate
gate_at table k = gate_of (record_at 8 table k)

-- bytes 1, 6 and 7 of a record are zero
abbrev pub spare_of : List ℕ → Bool
spare_of bytes = slice_index bytes 1 == 0 && slice_index bytes 6 == 0 && slice_index bytes 7 == 0

-- those of gate k of a table
unfoldable pub spare_at : List ℕ → ℕ → Bool
spare_at table k = spare_of (record_at 8 table k)

-- the first n gates of a table: "The circuit is the first records of the gate table, as many as the count returned .. bytes after them are no part of it."
unfoldable pub gates_of : List ℕ → ℕ → List Gate
gates_of table n = tabulate n (gate_at table)

-- a table with other bytes from the position start on
unfoldable pub over : List ℕ → ℕ → List ℕ → List ℕ
over table start bytes = take start table ++ (bytes ++ drop (start + length bytes) table)

-- a table with gates written behind its first n
abbrev pub with_gates : List ℕ → ℕ → List Gate → List ℕ
with_gates table n gs = over table (8 * n) (gates_bytes gs)

-- a table with gate k written; where the table has no record k nothing changes
unfoldable pub gate_written : List ℕ → ℕ → Gate → List ℕ
gate_written table k g = cond (nat_lt k (records 8 table)) (with_gates table k (g ∷ [])) table
