-- `privetcomb::privetcomb_check` meets its contract: it is that of the call. Assumes nothing.
use Rattle.circuits.specs.Check.{plain_checked, answer_of, Checks}
use Rattle.privetcomb.proofs.privetcomb_check.Goals as goal

pub returns : goal.returns
returns c =
    let call = c.check in
    let args = c.args in
    let answered : Checks (plain_checked 32 1024 args.a.now args.b.now args.steps.now args.work.now args.gates.now) (answer_of call.result) call.new.work call.new.gates = call.ensures in
    rw c.into.ensures answered
