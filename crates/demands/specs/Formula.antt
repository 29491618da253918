-- Partial interpolants as formulas, after Definition 20 of source document 002, and the formula that gates stand for.
use Rattle.std.specs.Prelude.{ℕ, ◌+◌, ◌-◌, ◌*◌, ◌/◌, ◌%◌, ◌<◌, ◌≡◌, Bool, true, false, not, ◌&&◌, ◌||◌, cond, List, [], ◌∷◌, ◌++◌, get_or, eqb, ltb}
use Rattle.records.specs.declared.steps.Step.{Step}
use Rattle.records.specs.Table.{records, occurs}
use Rattle.records.specs.Derivation.{inputs}
use Rattle.circuits.specs.Gate.{Gate}

infixl 20 ◌or◌
infixl 20 ◌and◌
pub data Formula : Type 0 where
  bottom top : Formula
  variable negated : ℕ → Formula
  ◌or◌ ◌and◌ : Formula → Formula → Formula

-- the truth value of a formula
unfoldable pub truth : (ℕ → Bool) → Formula → Bool
truth σ bottom = false
truth σ top = true
truth σ (variable v) = σ v
truth σ (negated v) = not (σ v)
truth σ (f or g) = truth σ f || truth σ g
truth σ (f and g) = truth σ f && truth σ g

-- "If l is A-colored, then PI(c) = PI(p1) ∨ PI(p2), if l is B-colored, then PI(c) = PI(p1) ∧ PI(p2) and if l is transparent, then
-- PI(c) = (l ∨ PI(p1)) ∧ (¬l ∨ PI(p2))": by whether the variable occurs in A, and in B. Here p1 holds l, the positive literal.
abbrev pub interpolant_of : Bool → Bool → ℕ → Formula → Formula → Formula
interpolant_of true true v f g = (variable v or f) and (negated v or g)
interpolant_of true false v f g = f or g
interpolant_of false in_b v f g = f and g

-- Definition 20: PI gives each clause its partial interpolant. "If c: C ∈ A, then PI(c) = ⊥. If c: C ∈ B, then PI(c) = ⊤. If c: C ∨ D is a
-- propositional resolvent of p1: l ∨ C and p2: ¬l ∨ D" then by the color of l.
pub record Definition20 (h : ℕ) (a b : List ℕ) (step : ℕ → Step) (s : ℕ) (PI : ℕ → Formula) : Type 0 where
  pub of_a : (k : ℕ) → k < records (2 * h) a → PI k ≡ bottom
  pub of_b : (k : ℕ) → k < records (2 * h) b → PI (records (2 * h) a + k) ≡ top
  pub of_step : (i : ℕ) → i < s
      → PI (inputs h a b + i)
      ≡ interpolant_of (occurs h a (step i).pivot) (occurs h b (step i).pivot) (step i).pivot (PI (step i).left) (PI (step i).right)

-- the formula of a reference, where the gates so far have the formulas fs
unfoldable pub reference_formula : ℕ → List Formula → ℕ → Formula
reference_formula N fs r =
    cond (ltb r 2) (cond (eqb r 1) top bottom)
    (cond (ltb r (2 + 2 * N)) (cond (eqb (r % 2) 0) (variable ((r - 2) / 2)) (negated ((r - 2) / 2)))
    (get_or fs (r - (2 + 2 * N)) bottom))

-- of a gate: "1 for AND, 2 for OR"
abbrev pub gate_formula : ℕ → List Formula → Gate → Formula
gate_formula N fs g = cond (eqb g.kind 1) (reference_formula N fs g.left and reference_formula N fs g.right) (reference_formula N fs g.left or reference_formula N fs g.right)

-- of each gate of a list in order, behind the formulas fs
unfoldable pub formulas : ℕ → List Formula → List Gate → List Formula
formulas N fs [] = fs
formulas N fs (g ∷ gs) = formulas N (fs ++ (gate_formula N fs g ∷ [])) gs

-- gates unfolded at a reference
abbrev pub unfolded : ℕ → List Gate → ℕ → Formula
unfolded N gs r = reference_formula N (formulas N [] gs) r
