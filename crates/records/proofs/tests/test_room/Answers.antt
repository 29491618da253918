-- `records::tests::test_room` meets its contract. Assumes nothing.
use lib.ListN.{length}
use Prim.Native.Nat.{◌*◌, ◌/◌}
use mathlib.Core.Path.{refl}
use native.Mathlib.Omega.{arith}
use borrow.Author.Tests.{lt-leb, le-leb}
use Rattle.records.specs.Tests.{first_failed, room_tests}
use Rattle.records.proofs.tests.test_room.Goals as goal

pub returns-then-work-steps : goal.returns-then-work-steps
unfolding room_tests first_failed
returns-then-work-steps c =
    let args = c.args in
    rw (lt-leb (64 * (length args.steps.now / 8)) (length args.work.now) (omega arith)) (record { number = refl; place = refl })

pub returns : goal.returns
unfolding room_tests first_failed
returns c =
    let args = c.args in
    rw (le-leb (64 * (length args.steps.now / 8)) (length args.work.now) (omega arith)) (record { number = refl; place = refl })
