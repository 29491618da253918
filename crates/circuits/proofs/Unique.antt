-- Uniqueness: two outcomes that meet the promise of a public function are equal. Each theorem speaks of exactly what the contract says.
use Rattle.std.proofs.Common.{◌≡◌, ℕ, Bool, true, false, cond, ◌==◌, Result, Ok, Err, List, refl, sym, ap, ◌∙◌}
use Rattle.records.specs.declared.refusals.StepFault.TheVariants.{SpareByte, AntecedentNotEarlier, LeftLacksPivot, RightLacksPivot}
use Rattle.records.specs.declared.refusals.Refusal as Records
use Rattle.records.specs.declared.refusals.Refusal.TheVariants.{LengthOfA, LengthOfB, LengthOfSteps, TooManyClauses, WorkTooShort, AtStep, NoEmptyClause}
use Rattle.records.proofs.NamedLaws.{refusal_by}
use Rattle.circuits.specs.declared.checking.Refusal.{Refusal}
use Rattle.circuits.specs.declared.checking.Refusal.TheVariants.{Derivation, GatesTooShort}
use Rattle.circuits.specs.declared.checking.Circuit.{Circuit}
use Rattle.circuits.specs.declared.checking.Answer.{Answer}
use Rattle.circuits.specs.declared.evaluation.Evaluated.{Evaluated}
use Rattle.circuits.specs.declared.refusals.GateFault.{GateFault}
use Rattle.circuits.specs.declared.refusals.GateFault.TheVariants.{Form, InputNotEarlier}
use Rattle.circuits.specs.declared.refusals.Malformed.{Malformed}
use Rattle.circuits.specs.declared.refusals.Malformed.TheVariants.{LengthOfAssignment, LengthOfGates, AtGate, RootNotThere}
use Rattle.circuits.specs.Malformed.{fault_number, malformed_number, malformed_place, evaluated_of}
use Rattle.circuits.specs.Gate.{gate_written}
use Rattle.circuits.specs.Check as Check
use Rattle.circuits.specs.Check.{Checked, plain_checked, Checks}
use Rattle.circuits.specs.Evaluate.{gate_evaluated, evaluated, Evaluates}

-- what equals the same is equal
same : {A : Type 0} {x y z : A} → x ≡ z → y ≡ z → x ≡ y
same p q = p ∙ sym q

pub write_gate_unique : (table : List ℕ) (k kind left right : ℕ) (last last' : List ℕ)
    → last ≡ gate_written table k (record { kind = kind; left = left; right = right }) → last' ≡ gate_written table k (record { kind = kind; left = left; right = right }) → last ≡ last'
write_gate_unique table k kind left right last last' = same

-- the four numbers of an answer, and both lent tables afterwards
pub checks_unique : (o : Checked) (last last' left left' : List ℕ) (r r' : Answer) → Checks o r last left → Checks o r' last' left' → (r ≡ r') × (last ≡ last') × (left ≡ left')
checks_unique o last last' left left' r r' p q = (
  λ j.
      record {
        number = same p.number q.number j;
        place = same p.place q.place j;
        root = same p.root q.root j;
        count = same p.count q.count j;
      },
  same p.work q.work,
  same p.gates q.gates,
)

-- and they determine the result
checked_of : Answer → Result Circuit Refusal
checked_of a =
    cond (a.number == 0) (Ok (record { clause = a.place; root = a.root; count = a.count }))
    (Err (cond (a.number == 6) GatesTooShort (Derivation (refusal_by a.number a.place))))

checked_read : (r : Result Circuit Refusal) → checked_of (Check.answer_of r) ≡ r
unfolding checked_of
checked_read (Ok c) = refl
checked_read (Err (Derivation LengthOfA)) = refl
checked_read (Err (Derivation LengthOfB)) = refl
checked_read (Err (Derivation LengthOfSteps)) = refl
checked_read (Err (Derivation TooManyClauses)) = refl
checked_read (Err (Derivation WorkTooShort)) = refl
checked_read (Err (Derivation (AtStep SpareByte i))) = refl
checked_read (Err (Derivation (AtStep AntecedentNotEarlier i))) = refl
checked_read (Err (Derivation (AtStep LeftLacksPivot i))) = refl
checked_read (Err (Derivation (AtStep RightLacksPivot i))) = refl
checked_read (Err (Derivation NoEmptyClause)) = refl
checked_read (Err GatesTooShort) = refl

-- the result, and both lent tables afterwards
pub check_unique : (a b steps work gates last last' left left' : List ℕ) (r r' : Result Circuit Refusal)
    → Checks (plain_checked 32 1024 a b steps work gates) (Check.answer_of r) last left → Checks (plain_checked 32 1024 a b steps work gates) (Check.answer_of r') last' left'
    → (r ≡ r') × (last ≡ last') × (left ≡ left')
check_unique a b steps work gates last last' left left' r r' p q =
    let all = checks_unique (plain_checked 32 1024 a b steps work gates) last last' left left' (Check.answer_of r) (Check.answer_of r') p q in
    (sym (checked_read r) ∙ ap checked_of all.0 ∙ checked_read r', all.1, all.2)

pub refusal_number_unique : (refusal : Refusal) (r r' : ℕ) → r ≡ Check.refusal_number refusal → r' ≡ Check.refusal_number refusal → r ≡ r'
refusal_number_unique refusal r r' = same

pub refusal_place_unique : (refusal : Refusal) (r r' : ℕ) → r ≡ Check.refusal_place refusal → r' ≡ Check.refusal_place refusal → r ≡ r'
refusal_place_unique refusal r r' = same

pub refusal_from_unique : (refusal : Records.Refusal) (r r' : Refusal) → r ≡ Derivation refusal → r' ≡ Derivation refusal → r ≡ r'
refusal_from_unique refusal r r' = same

pub answer_from_unique : (checked : Result Circuit Refusal) (r r' : Answer) → r ≡ Check.answer_of checked → r' ≡ Check.answer_of checked → r ≡ r'
answer_from_unique checked r r' = same

-- the three numbers of an answer
pub evaluates_unique : (e r r' : Evaluated) → Evaluates e r → Evaluates e r' → r ≡ r'
evaluates_unique e r r' p q = λ j. record { number = same p.number q.number j; place = same p.place q.place j; value = same p.value q.value j }

-- and they determine the answer
evaluation_by : Evaluated → Result Bool Malformed
evaluation_by e =
    cond (e.number == 0) (Ok (e.value == 1))
    (Err (cond (e.number == 20) LengthOfAssignment (cond (e.number == 21) LengthOfGates (cond (e.number == 22) (AtGate Form e.place) (cond (e.number == 23) (AtGate InputNotEarlier e.place) RootNotThere)))))

answer_read : (r : Result Bool Malformed) → evaluation_by (evaluated_of r) ≡ r
unfolding evaluation_by
answer_read (Ok true) = refl
answer_read (Ok false) = refl
answer_read (Err LengthOfAssignment) = refl
answer_read (Err LengthOfGates) = refl
answer_read (Err (AtGate Form k)) = refl
answer_read (Err (AtGate InputNotEarlier k)) = refl
answer_read (Err RootNotThere) = refl

answers_unique : (e : Evaluated) (r r' : Result Bool Malformed) → Evaluates e (evaluated_of r) → Evaluates e (evaluated_of r') → r ≡ r'
answers_unique e r r' p q = sym (answer_read r) ∙ ap evaluation_by (evaluates_unique e (evaluated_of r) (evaluated_of r') p q) ∙ answer_read r'

pub evaluate_unique : (assignment table : List ℕ) (root : ℕ) (r r' : Result Bool Malformed)
    → Evaluates (evaluated 32 3072 assignment table root) (evaluated_of r) → Evaluates (evaluated 32 3072 assignment table root) (evaluated_of r') → r ≡ r'
evaluate_unique assignment table root = answers_unique (evaluated 32 3072 assignment table root)

pub evaluate_gate_unique : (kind left right k : ℕ) (values : List ℕ) (r r' : Result Bool Malformed)
    → Evaluates (gate_evaluated values k (record { kind = kind; left = left; right = right })) (evaluated_of r)
    → Evaluates (gate_evaluated values k (record { kind = kind; left = left; right = right })) (evaluated_of r') → r ≡ r'
evaluate_gate_unique kind left right k values = answers_unique (gate_evaluated values k (record { kind = kind; left = left; right = right }))

pub fault_number_unique : (fault : GateFault) (r r' : ℕ) → r ≡ fault_number fault → r' ≡ fault_number fault → r ≡ r'
fault_number_unique fault r r' = same

pub malformed_number_unique : (malformed : Malformed) (r r' : ℕ) → r ≡ malformed_number malformed → r' ≡ malformed_number malformed → r ≡ r'
malformed_number_unique malformed r r' = same

pub malformed_place_unique : (malformed : Malformed) (r r' : ℕ) → r ≡ malformed_place malformed → r' ≡ malformed_place malformed → r ≡ r'
malformed_place_unique malformed r r' = same

pub evaluated_from_unique : (answer : Result Bool Malformed) (r r' : Evaluated) → r ≡ evaluated_of answer → r' ≡ evaluated_of answer → r ≡ r'
evaluated_from_unique answer r r' = same
