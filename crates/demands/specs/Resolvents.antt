-- The clauses of a run: the input clauses, and the results that a work table holds.
use Rattle.std.specs.Prelude.{ℕ, ◌+◌, ◌*◌, ◌<◌, ◌≡◌, true, List, length, drop}
use Rattle.records.specs.Table.{record_at}
use Rattle.records.specs.Step.{step_at, step_count}
use Rattle.records.specs.Tests.{Test, step_tests}
use Rattle.records.specs.Derivation.{inputs, clause_at, result_of}
use Rattle.demands.specs.Tables.{Tables, pass}

-- clause k, where the results stand in a work table
abbrev pub clause : ℕ → Tables → List ℕ → ℕ → List ℕ
clause h t results k = clause_at h t.a t.b results k

-- how many clauses there are, results counted
abbrev pub clauses : ℕ → Tables → ℕ
clauses h t = inputs h t.a t.b + step_count t.steps

-- 7 to 10 of step i: it is well formed and by the rule where they pass
abbrev pub tests_of : ℕ → Tables → List ℕ → ℕ → List Test
tests_of h t results i = step_tests h (clause h t results) (inputs h t.a t.b + i) i (step_at t.steps i)

-- "the resolvents of the steps already found good and no other change": of the first i steps, in a work table that was the tables' own
pub record Resolvents (h : ℕ) (t : Tables) (i : ℕ) (results : List ℕ) : Type 0 where
  pub good : (j : ℕ) → j < i → pass (tests_of h t results j) ≡ true
  pub resolvents : (j : ℕ) → j < i → record_at (2 * h) results j ≡ result_of h t.a t.b results (step_at t.steps j)
  pub rest : drop (2 * h * i) results ≡ drop (2 * h * i) t.work
  pub size : length results ≡ length t.work
