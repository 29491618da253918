-- "Evaluating takes an assignment, a gate table and a root reference. It returns number, place and value, writes nothing, and a refusal has value 0."
use Rattle.std.specs.Prelude.{◌≡◌, ℕ, zero, suc, ◌*◌, ◌%◌, Bool, cond, ◌&&◌, ◌||◌, List, [], ◌∷◌, ◌++◌, length, ◌==◌, nat_le, nat_lt, slice_index}
use Rattle.records.specs.Bits.{bit_of, digit}
use Rattle.records.specs.Clause.{has}
use Rattle.records.specs.Table.{records}
use Rattle.records.specs.Tests.{Verdict, Test, test, first_failed, refused}
use Rattle.circuits.specs.declared.evaluation.Evaluated.{Evaluated}
use Rattle.circuits.specs.Reference.{gate_reference}
use Rattle.circuits.specs.Gate.{Gate, gate_at, spare_at, gates_of}
use Rattle.circuits.specs.Value.{kind_value, value}

-- r gives number, place and value of e
pub record Evaluates (e r : Evaluated) : Type 0 where
  pub number : r.number ≡ e.number
  pub place : r.place ≡ e.place
  pub value : r.value ≡ e.value

-- a refusal, or the value
abbrev pub answered : Verdict → Bool → Evaluated
answered v x = record { number = v.number; place = v.place; value = cond (refused v) 0 (digit x) }

-- 20: "assignment not of 32 bytes". 21: "gate table not a multiple of 8 bytes, or above 24,576", here above 8 times the most gates
unfoldable pub length_tests : ℕ → ℕ → List ℕ → List ℕ → List Test
length_tests h most assignment table =
    test (length assignment == h) 20 0
    ∷ (test (length table % 8 == 0 && nat_le (length table) (8 * most)) 21 0
    ∷ [])

-- "22: byte 0 not 1 or 2 ..; 23: an input of gate k is 514 + k or above", of a gate on plain numbers whose own reference is given
unfoldable pub form_tests : ℕ → ℕ → Gate → List Test
form_tests own k g =
    test (g.kind == 1 || g.kind == 2) 22 k
    ∷ (test (nat_lt g.left own && nat_lt g.right own) 23 k
    ∷ [])

-- ".. or byte 1, 6 or 7 not zero": gate k of a table
abbrev pub record_tests : ℕ → List ℕ → ℕ → List Test
record_tests own table k = test (spare_at table k) 22 k ∷ form_tests own k (gate_at table k)

-- gate k's own reference is 514 + k, here over N variables
abbrev pub gate_tests : ℕ → List ℕ → ℕ → List Test
gate_tests N table k = record_tests (gate_reference N k) table k

-- "Then by gate, from 0": the first k gates
unfoldable pub gates_tests : ℕ → List ℕ → ℕ → List Test
gates_tests N table zero = []
gates_tests N table (suc k) = gates_tests N table k ++ gate_tests N table k

-- "Last, 24: root reference is 514 + gates or above."
unfoldable pub reference_tests : ℕ → ℕ → ℕ → List Test
reference_tests N root count = test (nat_lt root (gate_reference N count)) 24 0 ∷ []

-- the value that is kept for a reference, a byte a reference: the byte's lowest bit
unfoldable pub kept_at : List ℕ → ℕ → Bool
kept_at bytes r = bit_of (slice_index bytes r) 0

-- "Byte 0 is 1 for AND, 2 for OR", of the values that are kept for a gate's two inputs
abbrev pub kept_value : List ℕ → Gate → Bool
kept_value bytes g = kind_value g.kind (kept_at bytes g.left) (kept_at bytes g.right)

-- one gate on plain numbers, gate k, behind the references whose values are kept: 22 by its kind, 23, or its value. "514 + k is gate k", so that
-- its own reference is the number of references before it
unfoldable pub gate_evaluated : List ℕ → ℕ → Gate → Evaluated
gate_evaluated bytes k g = answered (first_failed (form_tests (length bytes) k g)) (kept_value bytes g)

-- all tests in their order
unfoldable pub evaluation_tests : ℕ → ℕ → List ℕ → List ℕ → ℕ → List Test
evaluation_tests h most assignment table root =
    length_tests h most assignment table ++ (gates_tests (8 * h) table (records 8 table) ++ reference_tests (8 * h) root (records 8 table))

-- "Accepted: 0, 0, and the root's value, 0 or 1." In an assignment "bit 1 means true".
unfoldable pub evaluated : ℕ → ℕ → List ℕ → List ℕ → ℕ → Evaluated
evaluated h most assignment table root =
    answered (first_failed (evaluation_tests h most assignment table root)) (value (8 * h) (has assignment) (gates_of table (records 8 table)) root)
