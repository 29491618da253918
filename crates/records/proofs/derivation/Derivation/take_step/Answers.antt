-- `records::derivation::Derivation::take_step` meets its contract: tests 7 and 8, and then 9, 10 and the resolvent. Assumes nothing.
use Prim.Native.Nat.{◌+◌, ◌*◌, ◌≤◌}
use mathlib.Core.Path.{◌≡◌, refl, ap, ◌∙◌}
use native.Mathlib.Omega.{arith}
use lib.ListN.{length}
use Rattle.records.specs.Derivation.{stored}
use Rattle.records.specs.Inside.{faulted}
use Rattle.records.specs.Table.{put}
use Rattle.records.proofs.TableLaws.{next_record, records_room, length_record_at, record_at_part, put_part, put_same}
use Rattle.records.proofs.DerivationLaws.{clause_size}
use Rattle.records.proofs.InsideLaws.{pivot_number_lem}
use Rattle.records.proofs.derivation.Derivation.take_step.Goals as goal

pub copy_clause-requires : goal.copy_clause-requires
copy_clause-requires g c =
    let d = c.args.self.now in
    omega (arith, c.test_order.ensures.left_earlier (ap faulted c.in_ok-test_order.was), c.requires.own_number, records_room (2 * g.row.HALF) c.args.work.now (c.args.i + 1) (omega arith) c.requires.sized.room)

pub copy_clause-requires-2 : goal.copy_clause-requires-2
copy_clause-requires-2 g c =
    let d = c.args.self.now in
    omega (arith, c.test_order.ensures.right_earlier (ap faulted c.in_ok-test_order.was), c.requires.own_number, records_room (2 * g.row.HALF) c.args.work.now (c.args.i + 1) (omega arith) c.requires.sized.room)

pub resolve_tested-requires : goal.resolve_tested-requires
resolve_tested-requires g c =
    let d = c.args.self.now in
    let left = ap length c.copy_clause.ensures ∙ clause_size g.row.HALF d.a.now d.b.now c.args.work.now c.args.step.left (omega arith)
    (omega (arith, c.test_order.ensures.left_earlier (ap faulted c.in_ok-test_order.was), c.requires.own_number, records_room (2 * g.row.HALF) c.args.work.now (c.args.i + 1) (omega arith) c.requires.sized.room)) in
    let right = ap length c.copy_clause-2.ensures ∙ clause_size g.row.HALF d.a.now d.b.now c.args.work.now c.args.step.right (omega arith)
    (omega (arith, c.test_order.ensures.right_earlier (ap faulted c.in_ok-test_order.was), c.requires.own_number, records_room (2 * g.row.HALF) c.args.work.now (c.args.i + 1) (omega arith) c.requires.sized.room)) in
    let part = ap length (record_at_part (2 * g.row.HALF) c.args.work.now c.args.i (omega (arith, next_record (2 * g.row.HALF) c.args.i, c.requires.sized.room)))
    ∙ length_record_at (2 * g.row.HALF) c.args.work.now c.args.i (omega (arith, next_record (2 * g.row.HALF) c.args.i, c.requires.sized.room)) in (
      omega arith,
      (omega (arith, left, right), omega (arith, left, right), part),
    )

pub returns : goal.returns
unfolding stored
returns g c =
    let d = c.args.self.now in
    let work = c.args.work.now in
    let i = c.args.i in
    let passed : faulted c.test_order.result ≡ 0 = ap faulted c.in_ok-test_order.was in
    let order = c.test_order.ensures in
    let here : 2 * g.row.HALF * i + 2 * g.row.HALF ≤ length work = omega (arith, next_record (2 * g.row.HALF) i, c.requires.sized.room) in
    record {
      number = c.resolve_tested.ensures.number
          ∙ rw (c.copy_clause.ensures, c.copy_clause-2.ensures, ← c.requires.own_number) (pivot_number_lem g.row.HALF _ c.args.own i c.args.step (order.zeros passed) (order.left_earlier passed) (order.right_earlier passed));
      good = λ z. put_part (2 * g.row.HALF) work i _ (2 * g.row.HALF * i) refl ∙ ap (put (2 * g.row.HALF) work i) (rw (c.resolve_tested.ensures.good z, c.copy_clause.ensures, c.copy_clause-2.ensures) refl);
      bad = λ n.
          put_part (2 * g.row.HALF) work i _ (2 * g.row.HALF * i) refl
          ∙ ap (put (2 * g.row.HALF) work i) (c.resolve_tested.ensures.bad n ∙ record_at_part (2 * g.row.HALF) work i here) ∙ put_same (2 * g.row.HALF) work i here;
    }
