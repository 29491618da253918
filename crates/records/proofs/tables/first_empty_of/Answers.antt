-- `records::tables::first_empty_of` meets its contract: every record passed has a byte that is not zero. Assumes nothing.
use mathlib.Core.Path.{refl, sym, ap, ◌∙◌}
use native.Mathlib.Omega.{arith}
use borrow.Author.Count.{below_more}
use borrow.Author.Tests.{eq-eqb, ne_eqb}
use Rattle.std.proofs.lemmas.List.{take_all}
use Rattle.records.specs.Lists.{every}
use Rattle.records.specs.Clause.{empty}
use Rattle.records.specs.Table.{record_at, first_empty}
use Rattle.records.proofs.ListLaws.{first_is, found_at, found_not}
use Rattle.records.proofs.ClauseLaws.{empty_joined}
use Rattle.records.proofs.tables.first_empty_of.Goals as goal

pub loop-byte-init : goal.loop-byte-init
unfolding empty every
loop-byte-init c = refl

pub loop-byte-preserved : goal.loop-byte-preserved
loop-byte-preserved c = empty_joined _ _ _ (omega arith) c.loop-byte.invariant

pub records-preserved : goal.records-preserved
records-preserved c =
    let loop = c.loop-byte in
    let part = take_all loop.byte-index _ (omega arith) ∙ c.part_of-byte-items.ensures in
    (c.records.invariant.0, below_more _ _ c.records.invariant.1 (ap empty (sym part) ∙ sym loop.invariant ∙ ne_eqb loop.all 0 c.if-all-eq0.false))

pub returns-after-records : goal.returns-after-records
unfolding first_empty
returns-after-records c =
    let records = c.records in
    records.invariant.0
    ∙ found_not _ _ (omega (arith, first_is (λ r. empty (record_at c.args.size c.args.table.now r)) c.args.n records.r (omega arith) records.invariant.1 (λ l. absurd (omega arith))))

pub returns-then-all-eq0 : goal.returns-then-all-eq0
unfolding first_empty
returns-then-all-eq0 c =
    let loop = c.loop-byte in
    let part = take_all loop.byte-index _ (omega arith) ∙ c.part_of-byte-items.ensures in
    found_at _ _ _ (first_is _ _ _ (omega arith) c.records.invariant.1 (λ l. ap empty (sym part) ∙ sym loop.invariant ∙ eq-eqb loop.all 0 c.if-all-eq0.true)) (omega arith)
