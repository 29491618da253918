-- "Inputs of gates are references: 0 is false, 1 is true, 2 + 2v is xv, 3 + 2v is not xv (so 2 to 513), and 514 + k is gate k, counted from 0."
-- Here over N variables. Document 01 has 256, so that gate 0 is 514.
use Rattle.std.specs.Prelude.{ℕ, ◌+◌, ◌*◌}

abbrev pub positive : ℕ → ℕ
positive v = 2 + 2 * v

abbrev pub negative : ℕ → ℕ
negative v = 3 + 2 * v

abbrev pub gate_reference : ℕ → ℕ → ℕ
gate_reference N k = 2 + 2 * N + k
