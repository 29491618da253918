-- `circuits::evaluation::evaluate_gates` meets its contract: the values so far are those behind the first k gates. Assumes nothing.
use Rattle.std.proofs.Common.{[]}
use Rattle.records.specs.Clause.{has}
use Rattle.records.proofs.TestLaws.{Passed}
use Rattle.circuits.specs.Gate.{gates_of}
use Rattle.circuits.specs.Value.{values as values_of}
use Rattle.circuits.specs.Evaluate.{gates_tests}
use Rattle.circuits.specs.EvaluateInside.{Known}
use Rattle.circuits.proofs.evaluation.evaluate_gates.Given as goal
use Rattle.std.proofs.Common.{◌*◌}

abbrev pub invariant-loop-k : goal.invariant-loop-k
invariant-loop-k l = record {
  passed : Passed (gates_tests (8 * l.half) l.table l.k);
  known : Known (8 * l.half) (has l.assignment) (values_of (8 * l.half) (has l.assignment) [] (gates_of l.table l.k)) l.k l.values;
}
