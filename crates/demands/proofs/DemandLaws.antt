-- The three demands are met by the check and the evaluation that the contracts of `circuits` cite: for every half, and for the bytes of document 01.
use Prim.Native.Nat.{ℕ, ◌*◌, ◌≤◌}
use native.Mathlib.Omega.{arith}
use Rattle.circuits.specs.Evaluate.{evaluated}
use Rattle.demands.specs.Tables.{plain_check}
use Rattle.demands.specs.Demands.{Demands}
use Rattle.demands.proofs.RefusalLaws.{demand_1}
use Rattle.demands.proofs.AcceptanceLaws.{demand_2}
use Rattle.demands.proofs.InterpolantLaws.{demand_3}

-- over the half h, at most `most` clauses, and an evaluation of at least three gates a clause
pub demands : (h most limit : ℕ) → 3 * most ≤ limit → Demands h most limit (plain_check h most) (evaluated h limit)
demands h most limit enough = record { demand_1 = demand_1 h most; demand_2 = demand_2 h most limit; demand_3 = demand_3 h most limit enough }

-- document 01: halves of 32 bytes, 1,024 clauses, 3,072 gates. The contract of `check` is `Checks` of this check, that of `evaluate` is `Evaluates` of this evaluation.
pub document_demands : Demands 32 1024 3072 (plain_check 32 1024) (evaluated 32 3072)
document_demands = demands 32 1024 3072 (omega arith)
