-- The lines: "Fields are decimal with one space between, lines end in one LF."
use Rattle.std.specs.Prelude.{ℕ, zero, suc, cond, List, [], ◌∷◌, ◌++◌, eqb}
use Rattle.circuits.specs.Reference.{gate_reference}
use Rattle.circuits.specs.Gate.{Gate, gate_at}
use Rattle.circuits.specs.Check.{Checked}
use Rattle.print.specs.Decimal.{decimal}

abbrev pub space : ℕ
space = 32

abbrev pub line_end : ℕ
line_end = 10

-- a field with the byte behind it
unfoldable pub ended : List ℕ → ℕ → List ℕ
ended field byte = field ++ (byte ∷ [])

-- four fields in a line
unfoldable pub line : List ℕ → List ℕ → List ℕ → List ℕ → List ℕ
line first second third fourth = ended first space ++ (ended second space ++ (ended third space ++ ended fourth line_end))

-- "line one is number, place, root reference, gate count"
unfoldable pub answer_line : ℕ → ℕ → ℕ → ℕ → List ℕ
answer_line number place root count = line (decimal number) (decimal place) (decimal root) (decimal count)

-- "`and` or `or`": byte 0 of a gate "is 1 for AND, 2 for OR"
unfoldable pub kind_word : ℕ → List ℕ
kind_word kind = cond (eqb kind 1) (97 ∷ (110 ∷ (100 ∷ []))) (111 ∷ (114 ∷ []))

-- gate k: "its reference, `and` or `or`, left input, right input"
unfoldable pub gate_line : ℕ → Gate → List ℕ
gate_line k g = line (decimal (gate_reference 256 k)) (kind_word g.kind) (decimal g.left) (decimal g.right)

-- "each gate follows": the first gates of a table, as many as the count
unfoldable pub gate_lines : List ℕ → ℕ → List ℕ
gate_lines table zero = []
gate_lines table (suc k) = gate_lines table k ++ gate_line k (gate_at table k)

-- "on acceptance each gate follows"
unfoldable pub printed_by : ℕ → ℕ → ℕ → ℕ → List ℕ → List ℕ
printed_by number place root count gates = answer_line number place root count ++ cond (eqb number 0) (gate_lines gates count) []

-- the whole text of a check's outcome
abbrev pub printed : Checked → List ℕ
printed o = printed_by o.number o.place o.root o.count o.gates
