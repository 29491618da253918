-- `circuits::building::Builder::take_step` meets its contract: the step that is read, by the rule of its pivot. Assumes nothing.
use Rattle.circuits.specs.Inside.{rule_by}
use Rattle.circuits.proofs.building.Builder.take_step.Goals as goal

pub returns : goal.returns
unfolding rule_by
returns c =
    let read = c.read_step-step.ensures in
    rw (← read.left, ← read.right, ← read.pivot, ← c.occurs_in.ensures, ← c.occurs_in-2.ensures, ← c.symmetric-rule.ensures) c.turn.ensures
