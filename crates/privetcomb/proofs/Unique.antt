-- Uniqueness: two outcomes that meet the promise of an exported function are equal. Each theorem speaks of exactly what the contract says.
use Prim.Native.Nat.{ℕ}
use mathlib.Core.Path.{◌≡◌, sym, ◌∙◌}
use mathlib.Core.List.{List}
use Rattle.circuits.specs.declared.checking.Answer.{Answer}
use Rattle.circuits.specs.declared.evaluation.Evaluated.{Evaluated}
use Rattle.circuits.specs.Check.{plain_checked, Checks}
use Rattle.circuits.specs.Evaluate.{evaluated, Evaluates}
use Rattle.circuits.proofs.Unique.{checks_unique, evaluates_unique}
use Rattle.privetcomb.specs.declared.Part.{Part}
use Rattle.privetcomb.specs.Part.{PartOf}

-- the answer, and both lent tables afterwards
pub privetcomb_check_unique : (a b steps work gates last last' left left' : List ℕ) (r r' : Answer)
    → Checks (plain_checked 32 1024 a b steps work gates) r last left → Checks (plain_checked 32 1024 a b steps work gates) r' last' left' → (r ≡ r') × (last ≡ last') × (left ≡ left')
privetcomb_check_unique a b steps work gates = checks_unique (plain_checked 32 1024 a b steps work gates)

pub privetcomb_evaluate_unique : (assignment table : List ℕ) (root : ℕ) (r r' : Evaluated)
    → Evaluates (evaluated 32 3072 assignment table root) r → Evaluates (evaluated 32 3072 assignment table root) r' → r ≡ r'
privetcomb_evaluate_unique assignment table root = evaluates_unique (evaluated 32 3072 assignment table root)

pub privetcomb_record_unique : (table : List ℕ) (r : ℕ) (p p' : Part) → PartOf table r p → PartOf table r p' → p ≡ p'
privetcomb_record_unique table r p p' x y = λ j. record { start = (x.start ∙ sym y.start) j; length = (x.length_is ∙ sym y.length_is) j }
