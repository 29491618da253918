-- The wrong checks of document 01, from "Builds that look right" and "Each of these is tried and has to be rejected": each is a predicate over any check that says what such a check does.
-- The right check is `plain_check 32 1024`.
use Rattle.std.specs.Prelude.{ℕ, suc, ◌+◌, ◌≤◌, ◌<◌, ◌≡◌, Bool, true, false, not, ◌&&◌, ◌||◌, cond, ◌⊎◌, List, [], ◌∷◌, eqb, ltb}
use Rattle.records.specs.declared.steps.Step.{Step}
use Rattle.records.specs.Clause.{has, literal, bytes_of, empty}
use Rattle.records.specs.Table.{record_at, records, occurs}
use Rattle.records.specs.Step.{step_at, step_count}
use Rattle.records.specs.Derivation.{inputs}
use Rattle.circuits.specs.Reference.{positive, negative}
use Rattle.circuits.specs.Gate.{and_gate, or_gate, gates_bytes}
use Rattle.demands.specs.Tables.{Tables, Check, pass, limits, circuit}
use Rattle.demands.specs.Resolvents.{clause, clauses, Resolvents}

-- "a check that refuses everything". Such is the one that answers 4 to all tables.
abbrev pub RefusesEverything : Check → Type 0
RefusesEverything check = (t : Tables) → (check t).number ≡ 0 → ⊥

-- "one fixed circuit": any two acceptances have the same circuit and root. Such is the check that answers 0, 0, 0, 0 to all tables.
pub record FixedCircuit (check : Check) : Type 0 where
  pub same_circuit : (t u : Tables) → (check t).number ≡ 0 → (check u).number ≡ 0 → circuit (check t) ≡ circuit (check u)
  pub same_root : (t u : Tables) → (check t).number ≡ 0 → (check u).number ≡ 0 → (check t).root ≡ (check u).root

-- "or one writing nothing": the gate table stays as it is. Such is the check that answers the right numbers and writes no gate.
abbrev pub WritesNothing : Check → Type 0
WritesNothing check = (t : Tables) → (check t).gates ≡ t.gates

-- "one that resolves the first step and copies later rows": on acceptance each result is the first one. Such is the right check with work record 0 copied over the later ones.
abbrev pub CopiesRows : Check → Type 0
CopiesRows check = (t : Tables) → (check t).number ≡ 0 → (i : ℕ) → i < step_count t.steps → record_at 64 (check t).work i ≡ record_at 64 (check t).work 0

-- "an invented gate count": on acceptance the count follows from the number of steps alone. Such is the right check that says three gates for each step.
pub record InventsCount (check : Check) : Type 0 where
  pub invented : ℕ → ℕ
  pub counts : (t : Tables) → (check t).number ≡ 0 → (check t).count ≡ invented (step_count t.steps)

-- step i of the tables
abbrev pub step : Tables → ℕ → Step
step t i = step_at t.steps i

-- two clauses joined, without either literal of the pivot
abbrev pub joined_without : List ℕ → List ℕ → ℕ → ℕ → Bool
joined_without left right pivot l = (has left l || has right l) && not (eqb l (literal 32 true pivot)) && not (eqb l (literal 32 false pivot))

-- "Taking both signs of the pivot out of the joined clause.": the results, where no step is refused. Such is the right check with this rule for the resolvent.
abbrev pub BothSigns : Check → Type 0
BothSigns check = (t : Tables) → ((check t).number ≡ 0) ⊎ ((check t).number ≡ 11) → (i : ℕ) → i < step_count t.steps
    → record_at 64 (check t).work i ≡ bytes_of 64 (joined_without (clause 32 t (check t).work (step t i).left) (clause 32 t (check t).work (step t i).right) (step t i).pivot)

-- "Colouring a pivot by the antecedents' origin instead of by the tables.": a single step with both antecedents from A has the one gate of an A-only pivot. Such is the right
-- check with these colours.
abbrev pub ByOrigin : Check → Type 0
ByOrigin check = (t : Tables) → (check t).number ≡ 0 → step_count t.steps ≡ 1 → (step t 0).left < records 64 t.a → (step t 0).right < records 64 t.a
    → circuit (check t) ≡ gates_bytes (or_gate 0 0 ∷ [])

-- "Clause of A: 0. Clause of B: 1."
abbrev pub input_reference : Tables → ℕ → ℕ
input_reference t k = cond (ltb k (records 64 t.a)) 0 1

-- "Pairing the positive literal with the right reference": the gates of a single step with a common pivot, whose result is the root, since no input clause is empty. Such is the
-- right check with L and R exchanged.
abbrev pub CrossedPair : Check → Type 0
CrossedPair check = (t : Tables) → (check t).number ≡ 0 → step_count t.steps ≡ 1 → occurs 32 t.a (step t 0).pivot ≡ true → occurs 32 t.b (step t 0).pivot ≡ true
    → ((k : ℕ) → k < inputs 32 t.a t.b → empty (clause 32 t [] k) ≡ false)
    → (circuit (check t)
    ≡ gates_bytes (or_gate (positive (step t 0).pivot) (input_reference t (step t 0).right) ∷ or_gate (negative (step t 0).pivot) (input_reference t (step t 0).left) ∷ and_gate 514 515 ∷ []))
    × ((check t).root ≡ 516)

-- "Taking the last clause as root": its number is the place. Such is the right check with the place and the reference of the last clause.
abbrev pub LastRoot : Check → Type 0
LastRoot check = (t : Tables) → (check t).number ≡ 0 → suc (check t).place ≡ clauses 32 t

-- "or skipping the steps after the root": where the first i steps are by the rule and a clause so far is empty, the tables are accepted. Such is the right check that
-- stops at the first empty clause.
abbrev pub SkipsAfterRoot : Check → Type 0
SkipsAfterRoot check = (t : Tables) (results : List ℕ) (i k : ℕ) → pass (limits 32 1024 t) ≡ true → i ≤ step_count t.steps → Resolvents 32 t i results
    → k < inputs 32 t.a t.b + i → empty (clause 32 t results k) ≡ true → (check t).number ≡ 0
