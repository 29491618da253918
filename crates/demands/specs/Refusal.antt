-- Demand 1: "A refusal gives its number and place, leaves the gate table untouched, and leaves in the work table the resolvents of the steps already found good and no other change."
use Rattle.std.specs.Prelude.{ℕ, ◌<◌, ◌≡◌, true, false, ◌⊎◌}
use Rattle.records.specs.Clause.{empty}
use Rattle.records.specs.Step.{step_count}
use Rattle.records.specs.Tests.{first_failed}
use Rattle.circuits.specs.Check.{Checked}
use Rattle.demands.specs.Tables.{Tables, Check, pass, limits}
use Rattle.demands.specs.Resolvents.{clause, clauses, tests_of, Resolvents}

-- 1 to 6: the first test that fails gives number and place. "1 to 6 change nothing."
pub record ByLimits (h most : ℕ) (t : Tables) (o : Checked) : Type 0 where
  pub failed : pass (limits h most t) ≡ false
  pub number : o.number ≡ (first_failed (limits h most t)).number
  pub place : o.place ≡ (first_failed (limits h most t)).place
  pub work : o.work ≡ t.work

-- 7 to 10: the first failing step is named. "7 to 10 at step i leave work records 0 to i-1 as resolvents."
pub record ByStep (h most : ℕ) (t : Tables) (o : Checked) : Type 0 where
  pub within : pass (limits h most t) ≡ true
  pub step : o.place < step_count t.steps
  pub failed : pass (tests_of h t o.work o.place) ≡ false
  pub number : o.number ≡ (first_failed (tests_of h t o.work o.place)).number
  pub work : Resolvents h t o.place o.work

-- 11: "no clause is empty". "11 leaves all s of them."
pub record ByRoot (h most : ℕ) (t : Tables) (o : Checked) : Type 0 where
  pub within : pass (limits h most t) ≡ true
  pub number : o.number ≡ 11
  pub place : o.place ≡ 0
  pub none : (k : ℕ) → k < clauses h t → empty (clause h t o.work k) ≡ false
  pub work : Resolvents h t (step_count t.steps) o.work

-- "A refusal has 0 for the last two. .. No refusal writes a gate."
pub record Refusal (h most : ℕ) (t : Tables) (o : Checked) : Type 0 where
  pub root : o.root ≡ 0
  pub count : o.count ≡ 0
  pub gates : o.gates ≡ t.gates
  pub reason : ByLimits h most t o ⊎ ByStep h most t o ⊎ ByRoot h most t o

abbrev pub Demand1 : ℕ → ℕ → Check → Type 0
Demand1 h most check = (t : Tables) → ((check t).number ≡ 0 → ⊥) → Refusal h most t (check t)
