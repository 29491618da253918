-- `records::tables::join_all` meets its contract: after r records all their literals are there. Assumes nothing.
use Prim.Native.Nat.{◌*◌}
use mathlib.Core.Path.{sym, ap, ap₂, ◌∙◌}
use native.Mathlib.Omega.{arith}
use lib.ListN.{length}
use Rattle.records.specs.Inside.{joined}
use Rattle.records.proofs.TableLaws.{whole, length_record_at, bytes_record_at, literals_before, no_literals, more_literals, all_literals}
use Rattle.records.proofs.ClauseLaws.{length_bytes_of}
use Rattle.records.proofs.tables.join_all.Goals as goal

pub loop-r-init : goal.loop-r-init
loop-r-init c = c.requires.2 ∙ no_literals _ _

pub join-requires : goal.join-requires
join-requires c =
    let table = c.args.table.now in
    let r = c.loop-r.r in
    ap length c.loop-r.invariant ∙ length_bytes_of _ _
    ∙ sym (ap length c.part_of.ensures ∙ length_record_at (2 * c.args.half) table r (whole (2 * c.args.half) (length table) r (omega arith) (omega arith)))

pub loop-r-preserved : goal.loop-r-preserved
loop-r-preserved c =
    c.join.ensures ∙ ap₂ joined c.part_of.ensures c.loop-r.invariant
    ∙ more_literals c.args.half c.args.table.now c.loop-r.r (bytes_record_at _ _ _ (λ i. omega (arith, c.type_inv.table i)))

pub returns : goal.returns
returns c = c.loop-r.invariant ∙ ap (literals_before c.args.half c.args.table.now) (omega arith) ∙ all_literals _ _
