-- `circuits::building::build_steps` meets its contract: the builder, the gate table and the references are those of the build after as many steps. Assumes nothing.
use Rattle.std.proofs.Common.{arith}
use Rattle.circuits.proofs.BuildLaws.{plain_orderly}
use Rattle.circuits.proofs.InsideLaws.{again, room, at_start, at_end}
use Rattle.circuits.proofs.building.build_steps.Goals as goal

pub loop-builder-init : goal.loop-builder-init
loop-builder-init c = (omega arith, at_start _ _ _ c.requires.1)

pub take_step-builder-requires-clause-room : goal.take_step-builder-requires-clause-room
take_step-builder-requires-clause-room c =
    let loop = c.loop-builder in
    let pre = c.requires.0 in
    let some = room 256 (plain_orderly 256) loop.invariant.1 (omega (arith, loop.invariant.0, pre.room)) in
    omega (arith, some, pre.few, pre.room)

pub loop-builder-preserved : goal.loop-builder-preserved
loop-builder-preserved c =
    let loop = c.loop-builder in
    let pre = c.requires.0 in
    let turned = c.take_step-builder.ensures in
    let some = room 256 (plain_orderly 256) loop.invariant.1 (omega (arith, loop.invariant.0, pre.room)) in
    let i = loop.builder.step in
    (omega (arith, turned.step), again loop.invariant.1 turned (pre.lefts i (omega arith)) (pre.rights i (omega arith)) (omega (arith, pre.few)) (omega (arith, some, pre.room)))

pub returns : goal.returns
returns c =
    let loop = c.loop-builder in
    at_end loop.invariant.1 (omega (arith, loop.invariant.0))
