-- Demand 3: "If accepted: every assignment that satisfies all of A makes the circuit true, none satisfies all of B and the circuit at once, every variable named in a gate occurs in both A and B. And all tables within the limits, each step well formed and by the rule, some clause empty, are accepted."
use Rattle.std.specs.Prelude.{ℕ, ◌*◌, ◌<◌, ◌≡◌, true, ◌⊎◌, List, length}
use Rattle.records.specs.Clause.{has, empty}
use Rattle.records.specs.Table.{occurs}
use Rattle.records.specs.Step.{step_count}
use Rattle.records.specs.Meaning.{satisfies_all}
use Rattle.circuits.specs.Reference.{positive, negative}
use Rattle.circuits.specs.Gate.{gate_at}
use Rattle.circuits.specs.Check.{Checked}
use Rattle.circuits.specs.declared.evaluation.Evaluated.{Evaluated}
use Rattle.demands.specs.Tables.{Tables, Check, Evaluation, pass, limits, circuit}
use Rattle.demands.specs.Resolvents.{clause, clauses, Resolvents}

-- "the evaluator's answer on the first 8 times count bytes at the returned root"
abbrev pub answer_at : Evaluation → Checked → List ℕ → Evaluated
answer_at evaluate o assignment = evaluate assignment (circuit o) o.root

-- reference r is a literal of variable v
abbrev pub Names : ℕ → ℕ → Type 0
Names r v = (r ≡ positive v) ⊎ (r ≡ negative v)

-- an accepted outcome's circuit stands between A and B, under every assignment of h bytes
pub record Between (h : ℕ) (t : Tables) (evaluate : Evaluation) (o : Checked) : Type 0 where
  pub never_refused : (assignment : List ℕ) → length assignment ≡ h → (answer_at evaluate o assignment).number ≡ 0
  pub true_by_a : (assignment : List ℕ) → length assignment ≡ h → satisfies_all h (has assignment) t.a ≡ true → (answer_at evaluate o assignment).value ≡ 1
  pub false_by_b : (assignment : List ℕ) → length assignment ≡ h → satisfies_all h (has assignment) t.b ≡ true → (answer_at evaluate o assignment).value ≡ 0
  pub common : (k v : ℕ) → k < o.count → v < 8 * h → Names (gate_at o.gates k).left v ⊎ Names (gate_at o.gates k).right v
      → (occurs h t.a v ≡ true) × (occurs h t.b v ≡ true)

pub record Demand3 (h most : ℕ) (check : Check) (evaluate : Evaluation) : Type 0 where
  pub between : (t : Tables) → (check t).number ≡ 0 → Between h t evaluate (check t)
  -- the results are those of the rule, in whichever work table they stand
  pub accepts : (t : Tables) (results : List ℕ) (k : ℕ) → pass (limits h most t) ≡ true → Resolvents h t (step_count t.steps) results
      → k < clauses h t → empty (clause h t results k) ≡ true → (check t).number ≡ 0
