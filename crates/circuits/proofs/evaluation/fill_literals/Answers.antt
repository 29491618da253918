-- `circuits::evaluation::fill_literals` meets its contract: the literals of the first j bytes are filled in. Assumes nothing.
use Rattle.std.proofs.Common.{arith}
use Rattle.circuits.proofs.EvaluateInsideLaws.{filled_start}
use Rattle.circuits.proofs.evaluation.fill_literals.Goals as goal

pub loop-j-init : goal.loop-j-init
loop-j-init c = filled_start _ _ c.args.values.now (omega arith)
