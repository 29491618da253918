-- `records::steps::read_step` meets its contract. Assumes nothing.
use Prim.Native.Nat.{◌<◌}
use mathlib.Core.Path.{refl, subst}
use native.Mathlib.Omega.{arith}
use lib.ListN.{length, get_or}
use Rattle.records.specs.Step.{step_at}
use Rattle.records.proofs.TableLaws.{short_record}
use Rattle.records.proofs.StepLaws.{spare_joined}
use Rattle.records.proofs.steps.read_step.Goals as goal

pub returns-then-s-lt8 : goal.returns-then-s-lt8
unfolding step_at
returns-then-s-lt8 c =
    let record_of = c.record_of-s in
    let none = short_record 8 _ _ (subst (λ l. length l < 8) record_of.ensures c.if-s-lt8.true) in
    record {
      left = rw none refl;
      right = rw none refl;
      pivot = rw none refl;
      spare = rw none refl;
    }

pub returns : goal.returns
unfolding step_at
returns c =
    let record_of = c.record_of-s in
    let s = record_of.result.now in
    record {
      left = rw (← record_of.ensures) (omega (arith, c.from.ensures));
      right = rw (← record_of.ensures) (omega (arith, c.from-2.ensures));
      pivot = rw (← record_of.ensures) c.from-3.ensures;
      spare = rw (← record_of.ensures) (spare_joined (get_or s 5 0) (get_or s 6 0) (get_or s 7 0));
    }
