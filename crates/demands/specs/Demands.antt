-- The three demands together, of a check and an evaluation: over the half h, the most clauses, and the most gates that are evaluated.
use Rattle.std.specs.Prelude.{ℕ}
use Rattle.demands.specs.Tables.{Check, Evaluation}
use Rattle.demands.specs.Refusal.{Demand1}
use Rattle.demands.specs.Acceptance.{Demand2}
use Rattle.demands.specs.Interpolant.{Demand3}

pub record Demands (h most limit : ℕ) (check : Check) (evaluate : Evaluation) : Type 0 where
  pub demand_1 : Demand1 h most check
  pub demand_2 : Demand2 h most limit check evaluate
  pub demand_3 : Demand3 h most check evaluate
