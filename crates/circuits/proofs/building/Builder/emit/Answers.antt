-- `circuits::building::Builder::emit` meets its contract: the gate is added, and its reference is 514 and the number of gates before. Assumes nothing.
use Rattle.std.proofs.Common.{refl}
use Rattle.circuits.proofs.building.Builder.emit.Goals as goal

pub returns : goal.returns
returns c =
    let add = c.add-builder in
    record { next = add.ensures.next; step = add.ensures.step; reference = refl; table = add.ensures.table }
