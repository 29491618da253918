-- `privetcomb::privetcomb_evaluate` meets its contract: it is that of the call. Assumes nothing.
use Rattle.circuits.specs.Evaluate.{evaluated, Evaluates}
use Rattle.circuits.specs.Malformed.{evaluated_of}
use Rattle.privetcomb.proofs.privetcomb_evaluate.Goals as goal

pub returns : goal.returns
returns c =
    let args = c.args in
    let answered : Evaluates (evaluated 32 3072 args.assignment.now args.table.now args.root) (evaluated_of c.evaluate.result) = c.evaluate.ensures in
    rw c.into.ensures answered
