-- `circuits::building::Builder::turn` meets its contract. Assumes nothing.
use Rattle.std.proofs.Common.{arith}
use Rattle.circuits.specs.Build.{plain, emit_step}
use Rattle.circuits.specs.Inside.{Adds}
use Rattle.circuits.proofs.building.Builder.turn.Goals as goal

pub returns : goal.returns
returns c =
    let args = c.args in
    let resolve = c.resolve-made in
    let made : Adds args.self args.gates.now (emit_step (plain 256) args.rule args.self.next args.step args.references.now) resolve.result resolve.new.gates =
    resolve.ensures in
    record { next = omega (arith, made.next, c.advance.ensures); step = omega (arith, made.step, c.advance.ensures); references = rw made.reference; table = made.table }
