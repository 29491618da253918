-- `records::derivation::Derivation::resolve_tested` meets its contract: 9, 10, or the resolvent. Assumes nothing.
use Prim.Native.Nat.{◌+◌, ◌*◌, ◌/◌}
use mathlib.Core.Path.{◌≡◌, refl}
use mathlib.Core.Bool.{true, false}
use native.Mathlib.Omega.{arith}
use Rattle.records.specs.Inside.{pivot_number}
use Rattle.records.proofs.ClauseLaws.{holds_past, holds_masked, lacks_masked}
use Rattle.records.proofs.InsideLaws.{pivot_refused}
use Rattle.records.proofs.derivation.Derivation.resolve_tested.Goals as goal

pub returns-then-variables-pivot : goal.returns-then-variables-pivot
unfolding pivot_number
returns-then-variables-pivot g c =
    let if1 = c.if-variables-pivot in
    let args = c.args in
    pivot_refused _ _ _ _ _ 9 (omega arith) (rw (holds_past g.row.HALF args.left.now true args.pivot if1.true) refl)

pub returns-then-left-at-eq0 : goal.returns-then-left-at-eq0
unfolding pivot_number
returns-then-left-at-eq0 g c =
    let if1 = c.if-variables-pivot in
    let mask-of = c.mask_of-mask in
    let if2 = c.if-left-at-eq0 in
    let args = c.args in
    pivot_refused _ _ _ _ _ 9 (omega arith) (rw (lacks_masked g.row.HALF args.left.now true args.pivot _ _ if1.false mask-of.ensures refl if2.true) refl)

pub returns-then-right-at-eq0 : goal.returns-then-right-at-eq0
unfolding pivot_number
returns-then-right-at-eq0 g c =
    let if1 = c.if-variables-pivot in
    let mask-of = c.mask_of-mask in
    let if2 = c.if-left-at-eq0 in
    let if3 = c.if-right-at-eq0 in
    let args = c.args in
    let at : g.row.HALF + args.pivot / 8 ≡ (8 * g.row.HALF + args.pivot) / 8 = omega arith in
    pivot_refused _ _ _ _ _ 10 (omega arith)
    (rw (
      holds_masked g.row.HALF args.left.now true args.pivot _ _ if1.false mask-of.ensures refl if2.false,
      lacks_masked g.row.HALF args.right.now false args.pivot _ _ if1.false mask-of.ensures at if3.true,
    ) refl)

pub returns : goal.returns
unfolding pivot_number
returns g c =
    let if1 = c.if-variables-pivot in
    let mask-of = c.mask_of-mask in
    let if2 = c.if-left-at-eq0 in
    let if3 = c.if-right-at-eq0 in
    let resolve-halves = c.resolve_halves in
    let args = c.args in
    let at : g.row.HALF + args.pivot / 8 ≡ (8 * g.row.HALF + args.pivot) / 8 = omega arith in
    record {
      number = rw (
        holds_masked g.row.HALF args.left.now true args.pivot _ _ if1.false mask-of.ensures refl if2.false,
        holds_masked g.row.HALF args.right.now false args.pivot _ _ if1.false mask-of.ensures at if3.false,
      ) refl;
      good = λ z. resolve-halves.ensures;
      bad = λ n. absurd (n refl);
    }
