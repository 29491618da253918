-- Document 01's number and place of each refusal, and of an answer.
use Rattle.std.specs.Prelude.{ℕ, Result, Ok, Err}
use Rattle.records.specs.declared.refusals.StepFault.{StepFault}
use Rattle.records.specs.declared.refusals.StepFault.TheVariants.{SpareByte, AntecedentNotEarlier, LeftLacksPivot, RightLacksPivot}
use Rattle.records.specs.declared.refusals.Refusal.{Refusal}
use Rattle.records.specs.declared.refusals.Refusal.TheVariants.{LengthOfA, LengthOfB, LengthOfSteps, TooManyClauses, WorkTooShort, AtStep, NoEmptyClause}
use Rattle.records.specs.Tests.{Verdict}

-- "step byte 5, 6 or 7 not zero", "left or right not below the step's own clause number", "left lacks the positive pivot", "right lacks the negative pivot"
abbrev pub fault_number : StepFault → ℕ
fault_number SpareByte = 7
fault_number AntecedentNotEarlier = 8
fault_number LeftLacksPivot = 9
fault_number RightLacksPivot = 10

-- "A's length is not a multiple of 64", B's, "step table's length is not a multiple of 8", "a + b + s above 1,024", "work table shorter than 64s bytes", and
-- "no clause is empty"
abbrev pub refusal_number : Refusal → ℕ
refusal_number LengthOfA = 1
refusal_number LengthOfB = 2
refusal_number LengthOfSteps = 3
refusal_number TooManyClauses = 4
refusal_number WorkTooShort = 5
refusal_number (AtStep fault i) = fault_number fault
refusal_number NoEmptyClause = 11

-- the step, and 0 of all others
abbrev pub refusal_place : Refusal → ℕ
refusal_place LengthOfA = 0
refusal_place LengthOfB = 0
refusal_place LengthOfSteps = 0
refusal_place TooManyClauses = 0
refusal_place WorkTooShort = 0
refusal_place (AtStep fault i) = i
refusal_place NoEmptyClause = 0

-- what is accepted has number 0 and a place of its own, as "0, the root's clause number"
abbrev pub verdict_by : {A : Type 0} → (A → ℕ) → Result A Refusal → Verdict
verdict_by place (Ok x) = record { number = 0; place = place x }
verdict_by place (Err e) = record { number = refusal_number e; place = refusal_place e }

-- of the derivation, whose place is the root's clause number
abbrev pub verdict_of : Result ℕ Refusal → Verdict
verdict_of = verdict_by (λ root. root)

-- of tests, which have no place where they pass
abbrev pub tested : Result (Unit {0}) Refusal → Verdict
tested = verdict_by (λ _. 0)
