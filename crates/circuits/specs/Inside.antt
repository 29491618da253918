-- What the private pieces ask and promise. No public contract speaks of these.
use Rattle.std.specs.Prelude.{◌≡◌, ℕ, ◌+◌, ◌*◌, ◌<◌, ◌≤◌, Bool, ◌||◌, List, [], ◌∷◌, length, take, slice_index, slice_set}
use Rattle.records.specs.declared.steps.Step.{Step}
use Rattle.records.specs.Clause.{has}
use Rattle.records.specs.Step.{step_at, step_count}
use Rattle.circuits.specs.declared.building.Builder.{Builder}
use Rattle.circuits.specs.declared.building.Made.{Made}
use Rattle.circuits.specs.declared.building.Built.{Built}
use Rattle.circuits.specs.declared.rules.Rule.{Rule}
use Rattle.circuits.specs.declared.rules.Literals.{Literals}
use Rattle.circuits.specs.Gate.{Gate, with_gates}
use Rattle.circuits.specs.Rule.{symmetric}
use Rattle.circuits.specs.Build.{Added, Build}

-- some literal of variable v is in a record
unfoldable pub mentions : ℕ → List ℕ → ℕ → Bool
mentions h all v = has all v || has all (8 * h + v)

-- the symmetric rule by the records of the literals of A and of B
unfoldable pub rule_by : ℕ → Literals → ℕ → Rule
rule_by h literals v = symmetric (mentions h literals.of_a v) (mentions h literals.of_b v)

-- table t has room for k gates behind those of builder b, and each has a reference, as each of 3 times 1,024 has
abbrev pub HasRoom : ℕ → Builder → List ℕ → Type 0
HasRoom k b t = (8 * (b.next + k) ≤ length t) × (b.next + k ≤ 3072)

-- a step's numbers are those of a variable and of two of 1,024 clauses
abbrev pub InReach : Step → Type 0
InReach s = (s.pivot < 256) × (s.left < 1024) × (s.right < 1024)

-- from builder b and table t to builder b' and table t' gate g is added
pub record Puts (b : Builder) (t : List ℕ) (g : Gate) (b' : Builder) (t' : List ℕ) : Type 0 where
  pub next : b'.next ≡ b.next + 1
  pub step : b'.step ≡ b.step
  pub table : t' ≡ with_gates t b.next (g ∷ [])

-- the same of several gates, and r has their reference
pub record Adds (b : Builder) (t : List ℕ) (more : Added) (r : Made) (t' : List ℕ) : Type 0 where
  pub next : r.builder.next ≡ b.next + length more.gates
  pub step : r.builder.step ≡ b.step
  pub reference : r.reference ≡ more.reference
  pub table : t' ≡ with_gates t b.next more.gates

-- one turn: the gates are added, their reference is kept for clause k, and the step is done
pub record Turns (b : Builder) (t rs : List ℕ) (k : ℕ) (more : Added) (b' : Builder) (t' rs' : List ℕ) : Type 0 where
  pub next : b'.next ≡ b.next + length more.gates
  pub step : b'.step ≡ b.step + 1
  pub references : rs' ≡ slice_set rs k more.reference
  pub table : t' ≡ with_gates t b.next more.gates

-- what the derivation leaves of the steps, behind n inputs, and test 6 of the gate table
pub record Buildable (h n : ℕ) (steps gates : List ℕ) : Type 0 where
  pub few : n + step_count steps ≤ 1024
  pub room : 24 * step_count steps ≤ length gates
  pub pivots : (i : ℕ) → i < step_count steps → (step_at steps i).pivot < 8 * h
  pub lefts : (i : ℕ) → i < step_count steps → (step_at steps i).left < n + i
  pub rights : (i : ℕ) → i < step_count steps → (step_at steps i).right < n + i

-- all steps: their gates behind none, as many as r says, and the references of k clauses
pub record StepsBuilt (x : Build) (k : ℕ) (t : List ℕ) (r : ℕ) (t' rs' : List ℕ) : Type 0 where
  pub count : r ≡ length x.gates
  pub references : take k rs' ≡ x.references
  pub table : t' ≡ with_gates t 0 x.gates

-- the whole build, with the reference of clause root
pub record Builds (x : Build) (root : ℕ) (t : List ℕ) (r : Built) (t' : List ℕ) : Type 0 where
  pub reference : r.reference ≡ slice_index x.references root
  pub count : r.count ≡ length x.gates
  pub table : t' ≡ with_gates t 0 x.gates
