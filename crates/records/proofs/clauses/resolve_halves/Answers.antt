-- `records::clauses::resolve_halves` meets its contract: in both halves the bytes passed are those of the resolvent. Assumes nothing.
use Prim.Native.Nat.{ℕ, ◌+◌}
use mathlib.Core.Path.{ap, ◌∙◌}
use native.Mathlib.Omega.{arith}
use lib.Bits.{bit_and, bit_or}
use lib.ListN.{get_or}
use Rattle.records.specs.Inside.{positive_byte, negative_byte}
use Rattle.records.proofs.ClauseLaws.{mask_within, mask_byte, written_halves, resolvent_is}
use Rattle.records.proofs.clauses.resolve_halves.Goals as goal

pub overflow_add-mask : goal.overflow_add-mask
overflow_add-mask c =
    let mask_start = c.mask_start-from in
    let args = c.args in
    let loop = c.loop-i in
    let pre = c.requires in
    omega (arith, mask_start.ensures, mask_within args.half args.pivot loop.i pre.masked.1 (omega arith))

pub bounds-masks-from : goal.bounds-masks-from
bounds-masks-from c =
    let pre = c.requires in
    let mask_start = c.mask_start-from in
    let args = c.args in
    let loop = c.loop-i in
    omega (arith, pre.masked.2.size, mask_start.ensures, mask_within args.half args.pivot loop.i pre.masked.1 (omega arith))

pub loop-i-preserved : goal.loop-i-preserved
unfolding positive_byte negative_byte
loop-i-preserved c =
    let mask_start = c.mask_start-from in
    let pre = c.requires in
    let loop = c.loop-i in
    let args = c.args in
    let start = ap (λ (n : ℕ). get_or args.masks.now (n + loop.i) 0) mask_start.ensures in
    let mask = start ∙ mask_byte args.half args.masks.now args.pivot loop.i pre.masked.2 pre.masked.1 (omega arith) in
    written_halves (positive_byte args.left.now args.right.now args.pivot) (negative_byte args.half args.left.now args.right.now args.pivot) args.half loop.part loop.i
    _
    _
    (omega arith)
    (omega arith)
    loop.invariant
    (ap (λ (m : ℕ). bit_or (bit_and (get_or args.left.now loop.i 0) m) (get_or args.right.now loop.i 0)) mask)
    (ap (λ (m : ℕ). bit_or (get_or args.left.now (args.half + loop.i) 0) (bit_and (get_or args.right.now (args.half + loop.i) 0) m)) mask)

pub returns : goal.returns
returns c =
    let pre = c.requires in
    let args = c.args in
    let loop = c.loop-i in
    resolvent_is args.half args.left.now args.right.now args.pivot pre.masked.1 (λ i. omega (arith, c.type_inv.left i)) (λ i. omega (arith, c.type_inv.right i))
    loop.part (omega arith) (λ k l. loop.invariant k (omega arith))
