-- `records::tables::copy_record` meets its contract: the bytes passed are the record's. Assumes nothing.
use Prim.Native.Nat.{◌+◌, ◌*◌}
use mathlib.Core.Path.{refl, sym, ◌∙◌}
use native.Mathlib.Omega.{arith}
use lib.ListN.{get_or, length-set}
use lib.Seq.{ext_get_or, get_or-take, length-take-le}
use Rattle.records.proofs.ClauseLaws.{written}
use Rattle.records.proofs.TableLaws.{whole, length_record_at, byte_record_at}
use Rattle.records.proofs.tables.copy_record.Goals as goal

pub loop-i-init : goal.loop-i-init
loop-i-init c = (c.told-part, whole _ _ _ c.requires.0 c.requires.2, λ k l. absurd (omega arith))

pub loop-i-preserved : goal.loop-i-preserved
loop-i-preserved c =
    let loop = c.loop-i in
    let args = c.args in (
      simp length-set loop.invariant.0,
      loop.invariant.1,
      written (λ k. get_or args.table.now (args.size * args.r + k) 0) loop.part loop.i _ (omega arith) loop.invariant.2 refl,
    )

pub returns : goal.returns
returns c =
    let args = c.args in
    let loop = c.loop-i in
    let size = length-take-le args.size loop.part (omega arith) in
    ext_get_or 0 _ _ (size ∙ sym (length_record_at args.size args.table.now args.r loop.invariant.1))
    (λ i l. get_or-take args.size loop.part i 0 (omega arith) ∙ loop.invariant.2 i (omega arith) ∙ sym (byte_record_at args.size args.table.now args.r i loop.invariant.1 (omega arith)))
