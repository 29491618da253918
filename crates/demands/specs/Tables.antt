-- What goes in, and what comes out: any check is a function from the five tables to an outcome, and any evaluation one from an assignment, a gate table and a root reference.
use Rattle.std.specs.Prelude.{ℕ, ◌*◌, Bool, List, take}
use Rattle.records.specs.Lists.{every}
use Rattle.records.specs.Tests.{Test}
use Rattle.circuits.specs.Check.{Checked, plain_tests, plain_checked}
use Rattle.circuits.specs.declared.evaluation.Evaluated.{Evaluated}

-- "two clause tables and a step table go in", and the two lent tables, as they are before
pub record Tables : Type 0 where
  pub a : List ℕ
  pub b : List ℕ
  pub steps : List ℕ
  pub work : List ℕ
  pub gates : List ℕ

abbrev pub Check : Type 0
Check = Tables → Checked

abbrev pub Evaluation : Type 0
Evaluation = List ℕ → List ℕ → ℕ → Evaluated

-- no test of the list fails
unfoldable pub pass : List Test → Bool
pass tests = every (λ x. x.passed) tests

-- the limits: tests 1 to 6, over the half h and the most clauses
abbrev pub limits : ℕ → ℕ → Tables → List Test
limits h most t = plain_tests h most t.a t.b t.steps t.work t.gates

-- "The circuit is the first records of the gate table, as many as the count returned": its bytes
abbrev pub circuit : Checked → List ℕ
circuit o = take (8 * o.count) o.gates

-- the check that the contract of `check` cites
abbrev pub plain_check : ℕ → ℕ → Check
plain_check h most t = plain_checked h most t.a t.b t.steps t.work t.gates
