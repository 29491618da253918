-- `circuits::building::Builder::resolve` meets its contract: three gates in a row at a common pivot, or one gate. Assumes nothing.
use Rattle.std.proofs.Common.{arith}
use Rattle.circuits.specs.Build.{plain, emit}
use Rattle.circuits.proofs.InsideLaws.{adds_both}
use Rattle.circuits.proofs.building.Builder.resolve.Goals as goal

pub returns-in-One : goal.returns-in-One
unfolding emit
returns-in-One c = rw c.in-One.is c.emit.ensures

pub returns-in-Both : goal.returns-in-Both
returns-in-Both c =
    let args = c.args in
    let pre = c.requires in
    let first = c.emit-low in
    let second = c.emit-high in
    let third = c.emit-in-Both in
    rw c.in-Both.is
    (adds_both (plain 256) args.self args.gates.now first.new.gates second.new.gates third.new.gates
    first.result second.result third.result args.pivot args.left args.right first.ensures second.ensures third.ensures
    (omega (arith, pre.0, first.ensures.next)) (omega (arith, pre.0, first.ensures.next, second.ensures.next)))
