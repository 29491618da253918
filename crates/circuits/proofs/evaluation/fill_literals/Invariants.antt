-- `circuits::evaluation::fill_literals` meets its contract: the literals of the first j bytes are filled in. Assumes nothing.
use Rattle.std.proofs.Common.{◌*◌}
use Rattle.circuits.specs.EvaluateInside.{Filled}
use Rattle.circuits.proofs.evaluation.fill_literals.Given as goal

abbrev pub invariant-loop-j : goal.invariant-loop-j
invariant-loop-j l = Filled (8 * l.j) l.assignment (8 * l.j) l.values
