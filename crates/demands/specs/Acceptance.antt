-- Demand 2: "On acceptance each work record is the resolvent that the rule gives, and the gates are, record for record, the symmetric partial interpolants of the survey. Reading a gate table back gives the AND/OR value for any assignment; a malformed one is refused."
use Rattle.std.specs.Prelude.{ℕ, zero, suc, ◌+◌, ◌*◌, ◌<◌, ◌≡◌, Bool, true, false, List, get_or, drop}
use Rattle.records.specs.Bits.{digit}
use Rattle.records.specs.Clause.{has, empty}
use Rattle.records.specs.Table.{records, occurs}
use Rattle.records.specs.Step.{step_at, step_count}
use Rattle.records.specs.Tests.{first_failed}
use Rattle.circuits.specs.Gate.{gates_bytes, gates_of}
use Rattle.circuits.specs.Build.{Build, plain_build}
use Rattle.circuits.specs.Check.{Checked}
use Rattle.circuits.specs.Evaluate.{evaluation_tests}
use Rattle.demands.specs.Tables.{Tables, Check, Evaluation, pass, limits, circuit}
use Rattle.demands.specs.Resolvents.{clause, clauses, Resolvents}
use Rattle.demands.specs.Formula.{Formula, Definition20, truth, unfolded}

-- "Acceptance: 0, the root's clause number": the first clause in number order that has no literal
pub record Root (h : ℕ) (t : Tables) (o : Checked) : Type 0 where
  pub there : o.place < clauses h t
  pub is_empty : empty (clause h t o.work o.place) ≡ true
  pub is_first : (k : ℕ) → k < o.place → empty (clause h t o.work k) ≡ false

-- how many gates a step has by its pivot: "one gate" where it is A-only or B-only, "three gates" where it is common
abbrev pub gates_of_pivot : Bool → Bool → ℕ
gates_of_pivot true true = 3
gates_of_pivot true false = 1
gates_of_pivot false in_b = 1

-- the first i steps together
unfoldable pub gates_of_steps : ℕ → Tables → ℕ → ℕ
gates_of_steps h t zero = 0
gates_of_steps h t (suc i) =
    gates_of_steps h t i + gates_of_pivot (occurs h t.a (step_at t.steps i).pivot) (occurs h t.b (step_at t.steps i).pivot)

-- the gates and the references that the rules give
abbrev pub build : ℕ → Tables → Build
build h t = plain_build h t.a t.b t.steps

-- the formula of clause k: the outcome's circuit, unfolded at the clause's reference
abbrev pub formula_at : ℕ → Tables → Checked → ℕ → Formula
formula_at h t o k = unfolded (8 * h) (gates_of o.gates o.count) (get_or (build h t).references k 0)

-- the gates, "record for record"; "gate bytes from 8 times the count on are unchanged"; "the root reference is that of the root clause"
pub record Interpolants (h : ℕ) (t : Tables) (o : Checked) : Type 0 where
  pub gates : circuit o ≡ gates_bytes (build h t).gates
  pub rest : drop (8 * o.count) o.gates ≡ drop (8 * o.count) t.gates
  pub count : o.count ≡ gates_of_steps h t (step_count t.steps)
  pub root : o.root ≡ get_or (build h t).references o.place 0
  pub partial : Definition20 h t.a t.b (step_at t.steps) (step_count t.steps) (formula_at h t o)

-- what acceptance is: the tables are within the limits, all steps are good and their resolvents stand in the work table, whose other bytes are
-- unchanged, there is a root, and the gates are its interpolants
pub record Acceptance (h most : ℕ) (t : Tables) (o : Checked) : Type 0 where
  pub within : pass (limits h most t) ≡ true
  pub work : Resolvents h t (step_count t.steps) o.work
  pub root : Root h t o
  pub interpolants : Interpolants h t o

-- what evaluating is: a malformed table is refused, by its first test that fails, and any other has its AND/OR value
pub record Reads (h most : ℕ) (evaluate : Evaluation) : Type 0 where
  pub refused : (assignment table : List ℕ) (root : ℕ) → pass (evaluation_tests h most assignment table root) ≡ false
      → evaluate assignment table root
      ≡ record {
        number = (first_failed (evaluation_tests h most assignment table root)).number;
        place = (first_failed (evaluation_tests h most assignment table root)).place;
        value = 0;
      }
  pub malformed : (assignment table : List ℕ) (root : ℕ) → pass (evaluation_tests h most assignment table root) ≡ false → (evaluate assignment table root).number ≡ 0 → ⊥
  pub read : (assignment table : List ℕ) (root : ℕ) → pass (evaluation_tests h most assignment table root) ≡ true
      → evaluate assignment table root
      ≡ record { number = 0; place = 0; value = digit (truth (has assignment) (unfolded (8 * h) (gates_of table (records 8 table)) root)) }

pub record Demand2 (h most limit : ℕ) (check : Check) (evaluate : Evaluation) : Type 0 where
  pub accepted : (t : Tables) → (check t).number ≡ 0 → Acceptance h most t (check t)
  pub reads : Reads h limit evaluate
