-- `records::derivation::test_order` meets its contract. Assumes nothing.
use mathlib.Core.Path.{refl}
use native.Mathlib.Omega.{arith}
use Rattle.records.proofs.TestLaws.{spare_fails, left_late, right_late}
use Rattle.records.proofs.InsideLaws.{order_refused}
use Rattle.records.proofs.derivation.test_order.Goals as goal

pub returns-then-not-step : goal.returns-then-not-step
returns-then-not-step c = order_refused _ _ 7 (omega arith) (λ h clause i. spare_fails h clause _ i _ c.if-not-step.true)

pub returns-then-own-step : goal.returns-then-own-step
returns-then-own-step c = order_refused _ _ 8 (omega arith) (λ h clause i. left_late h clause _ i _ c.if-not-step.false (omega (arith, c.if-own-step.true)))

pub returns-then-own-step-2 : goal.returns-then-own-step-2
returns-then-own-step-2 c = order_refused _ _ 8 (omega arith) (λ h clause i. right_late h clause _ i _ c.if-not-step.false (omega (arith, c.if-own-step-2.true)))

pub returns : goal.returns
returns c =
    record {
      bad = λ n. absurd (n refl);
      zeros = λ z. c.if-not-step.false;
      left_earlier = λ z. c.if-own-step.false;
      right_earlier = λ z. c.if-own-step-2.false;
    }
