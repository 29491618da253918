-- The laws of steps as they are read.
use Prim.Native.Nat.{ℕ}
use mathlib.Core.Path.{◌≡◌, ap, ◌∙◌}
use mathlib.Core.Bool.{Bool, ◌&&◌}
use mathlib.Core.List.{List}
use lib.Bits.{bit_or}
use lib.Dec.{eqb}
use Rattle.records.specs.declared.steps.Step.{Step}
use Rattle.records.specs.Step.{step_at, StepRead}
use Rattle.records.proofs.BitLaws.{or_zero}

-- the spare bytes are zero where they are zero joined
pub spare_joined : (x y z : ℕ) → eqb (bit_or (bit_or x y) z) 0 ≡ (eqb x 0 && eqb y 0 && eqb z 0)
spare_joined x y z = or_zero (bit_or x y) z ∙ ap (λ (b : Bool). b && eqb z 0) (or_zero x y)

-- what was read is the step itself
pub read_is : (steps : List ℕ) (i : ℕ) (s : Step) → StepRead steps i s → s ≡ step_at steps i
read_is steps i s r = λ j. record { left = r.left j; right = r.right j; pivot = r.pivot j; spare = r.spare j }
