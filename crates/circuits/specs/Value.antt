-- The value of each gate of a list, and of a reference, under an assignment of truth values to the variables.
use Rattle.std.specs.Prelude.{ℕ, ◌+◌, ◌-◌, ◌*◌, ◌/◌, ◌%◌, Bool, false, cond, not, ◌&&◌, ◌||◌, List, [], ◌∷◌, ◌++◌, ◌==◌, nat_lt, slice_index_or}
use Rattle.circuits.specs.Gate.{Gate}

-- "0 is false, 1 is true, 2 + 2v is xv, 3 + 2v is not xv .., and 514 + k is gate k", where the gates so far have the values vs
unfoldable pub reference_value : ℕ → (ℕ → Bool) → List Bool → ℕ → Bool
reference_value N assignment vs r =
    cond (nat_lt r 2) (r == 1)
    (cond (nat_lt r (2 + 2 * N)) (cond (r % 2 == 0) (assignment ((r - 2) / 2)) (not (assignment ((r - 2) / 2))))
    (slice_index_or vs (r - (2 + 2 * N)) false))

-- "Byte 0 is 1 for AND, 2 for OR"
abbrev pub kind_value : ℕ → Bool → Bool → Bool
kind_value kind left right = cond (kind == 1) (left && right) (left || right)

-- the AND/OR of the values of a gate's two inputs
unfoldable pub gate_value : ℕ → (ℕ → Bool) → List Bool → Gate → Bool
gate_value N assignment vs g = kind_value g.kind (reference_value N assignment vs g.left) (reference_value N assignment vs g.right)

-- the values vs, and behind them those of the gates in order, each from the values before it
unfoldable pub values : ℕ → (ℕ → Bool) → List Bool → List Gate → List Bool
values N assignment vs [] = vs
values N assignment vs (g ∷ gs) = values N assignment (vs ++ (gate_value N assignment vs g ∷ [])) gs

-- the value of the circuit of gates gs, "read at that root"
abbrev pub value : ℕ → (ℕ → Bool) → List Gate → ℕ → Bool
value N assignment gs root = reference_value N assignment (values N assignment [] gs) root
