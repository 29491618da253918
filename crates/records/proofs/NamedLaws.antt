-- The laws of refusals by name: each number is above 0, and number and place tell which refusal it is.
use Rattle.std.specs.Prelude.{ℕ, ◌≡◌, cond, Result, Ok, Err, eqb}
use Rattle.std.proofs.Common.{refl, sym, ap, ◌∙◌, arith}
use Rattle.records.specs.declared.refusals.StepFault.{StepFault}
use Rattle.records.specs.declared.refusals.StepFault.TheVariants.{SpareByte, AntecedentNotEarlier, LeftLacksPivot, RightLacksPivot}
use Rattle.records.specs.declared.refusals.Refusal.{Refusal}
use Rattle.records.specs.declared.refusals.Refusal.TheVariants.{LengthOfA, LengthOfB, LengthOfSteps, TooManyClauses, WorkTooShort, AtStep, NoEmptyClause}
use Rattle.records.specs.Refusal.{fault_number, refusal_number, refusal_place, verdict_by}

pub fault_numbered : (fault : StepFault) → fault_number fault ≡ 0 → ⊥
fault_numbered SpareByte e = absurd (omega arith)
fault_numbered AntecedentNotEarlier e = absurd (omega arith)
fault_numbered LeftLacksPivot e = absurd (omega arith)
fault_numbered RightLacksPivot e = absurd (omega arith)

pub numbered : (r : Refusal) → refusal_number r ≡ 0 → ⊥
numbered LengthOfA e = absurd (omega arith)
numbered LengthOfB e = absurd (omega arith)
numbered LengthOfSteps e = absurd (omega arith)
numbered TooManyClauses e = absurd (omega arith)
numbered WorkTooShort e = absurd (omega arith)
numbered (AtStep fault i) e = fault_numbered fault e
numbered NoEmptyClause e = absurd (omega arith)

-- the refusal that has a number and a place
abbrev pub refusal_by : ℕ → ℕ → Refusal
refusal_by n i =
    cond (eqb n 1) LengthOfA
    (cond (eqb n 2) LengthOfB
    (cond (eqb n 3) LengthOfSteps
    (cond (eqb n 4) TooManyClauses
    (cond (eqb n 5) WorkTooShort
    (cond (eqb n 7) (AtStep SpareByte i)
    (cond (eqb n 8) (AtStep AntecedentNotEarlier i)
    (cond (eqb n 9) (AtStep LeftLacksPivot i)
    (cond (eqb n 10) (AtStep RightLacksPivot i) NoEmptyClause))))))))

told : (r : Refusal) → refusal_by (refusal_number r) (refusal_place r) ≡ r
told LengthOfA = refl
told LengthOfB = refl
told LengthOfSteps = refl
told TooManyClauses = refl
told WorkTooShort = refl
told (AtStep SpareByte i) = refl
told (AtStep AntecedentNotEarlier i) = refl
told (AtStep LeftLacksPivot i) = refl
told (AtStep RightLacksPivot i) = refl
told NoEmptyClause = refl

pub refusal_same : (r s : Refusal) → refusal_number r ≡ refusal_number s → refusal_place r ≡ refusal_place s → r ≡ s
refusal_same r s n p = sym (told r) ∙ (λ j. refusal_by (n j) (p j)) ∙ told s

-- an answer is told by its verdict, where what is accepted is told by its place
pub answer_same : {A : Type 0} (place : A → ℕ) → ((x y : A) → place x ≡ place y → x ≡ y) → (r s : Result A Refusal)
    → (verdict_by place r).number ≡ (verdict_by place s).number → (verdict_by place r).place ≡ (verdict_by place s).place → r ≡ s
answer_same place same (Ok x) (Ok y) n p = ap Ok (same x y p)
answer_same place same (Ok x) (Err s) n p = absurd (numbered s (sym n))
answer_same place same (Err r) (Ok y) n p = absurd (numbered r n)
answer_same place same (Err r) (Err s) n p = ap Err (refusal_same r s n p)
