-- The build: a fold over the steps, over the way of adding a gate, the rule of a pivot, the state it starts from, and the number n of gates before.
use Rattle.std.specs.Prelude.{ℕ, zero, suc, ◌+◌, ◌*◌, List, [], ◌∷◌, ◌++◌, length, replicate, slice_index}
use Rattle.records.specs.declared.steps.Step.{Step}
use Rattle.records.specs.Table.{records}
use Rattle.records.specs.Step.{step_at, step_count}
use Rattle.circuits.specs.Reference.{positive, negative, gate_reference}
use Rattle.circuits.specs.Gate.{Gate, kind_byte, and_gate, or_gate}
use Rattle.circuits.specs.declared.rules.Rule.{Rule}
use Rattle.circuits.specs.declared.rules.Rule.TheVariants.{One, Both}
use Rattle.circuits.specs.Rule.{symmetric_rule}

-- the gates that something adds, and the reference of its result
pub record Added : Type 0 where
  pub gates : List Gate
  pub reference : ℕ

-- a way of adding a gate, behind so many gates
abbrev pub Adding : Type 0
Adding = ℕ → Gate → Added

-- "none merged or simplified": the gate itself, as the next one
abbrev pub plain : ℕ → Adding
plain N n g = record { gates = g ∷ []; reference = gate_reference N n }

-- the gates of a step with pivot p, whose antecedents have the references l and r, behind n gates: "The last is the step's reference."
unfoldable pub emit : Adding → Rule → ℕ → ℕ → ℕ → ℕ → Added
emit add (One kind) n p l r = add n (record { kind = kind_byte kind; left = l; right = r })
emit add Both n p l r =
    let low = add n (or_gate (positive p) l) in
    let high = add (n + length low.gates) (or_gate (negative p) r) in
    let last = add (n + length low.gates + length high.gates) (and_gate low.reference high.reference) in
    record { gates = low.gates ++ (high.gates ++ last.gates); reference = last.reference }

-- "Each clause has a reference": those of the clauses so far, and the gates so far
pub record Build : Type 0 where
  pub references : List ℕ
  pub gates : List Gate

-- the same of step s, over the references of the clauses so far
abbrev pub emit_step : Adding → Rule → ℕ → Step → List ℕ → Added
emit_step add u n s references = emit add u n s.pivot (slice_index references s.left) (slice_index references s.right)

-- what step s adds
abbrev pub emitted : Adding → (ℕ → Rule) → ℕ → Step → Build → Added
emitted add rule n s x = emit_step add (rule s.pivot) (n + length x.gates) s x.references

-- one step more
abbrev pub advanced : Build → Added → Build
advanced x more = record { references = x.references ++ (more.reference ∷ []); gates = x.gates ++ more.gates }

-- "Gates stand in step order, for all steps": the state after the first i steps
unfoldable pub built : Adding → (ℕ → Rule) → ℕ → Build → (ℕ → Step) → ℕ → Build
built add rule n start step zero = start
built add rule n start step (suc i) =
    let x = built add rule n start step i in
    advanced x (emitted add rule n (step i) x)

-- "Clause of A: 0. Clause of B: 1."
unfoldable pub input_references : ℕ → ℕ → List ℕ
input_references a b = replicate a 0 ++ replicate b 1

-- "Clause of A: 0. Clause of B: 1", for the clauses of both tables; no gate is made for them
abbrev pub symmetric_start : ℕ → List ℕ → List ℕ → Build
symmetric_start h a b = record { references = input_references (records (2 * h) a) (records (2 * h) b); gates = [] }

-- the symmetric system, over a way of adding a gate, behind n gates
abbrev pub symmetric_build : ℕ → Adding → List ℕ → List ℕ → ℕ → (ℕ → Step) → ℕ → Build
symmetric_build h add a b n step s = built add (symmetric_rule h a b) n (symmetric_start h a b) step s

-- document 01's build: plain, from the start of the gate table, over all steps of a table
unfoldable pub plain_build : ℕ → List ℕ → List ℕ → List ℕ → Build
plain_build h a b steps = symmetric_build h (plain (8 * h)) a b 0 (step_at steps) (step_count steps)
