-- The laws of formulas: the truth value of gates unfolded is their value, gates added behind change no formula, and the plain build gives each clause the formula of Definition 20.
use Prim.Native.Nat.{ℕ, zero, suc, ◌+◌, ◌-◌, ◌*◌, ◌/◌, ◌%◌, ◌≤◌, ◌<◌}
use mathlib.Core.Path.{◌≡◌, refl, sym, ap, ap₂, ◌∙◌}
use mathlib.Core.Bool.{Bool, true, false, not, ◌&&◌, ◌||◌, cond}
use mathlib.Core.List.{List, [], ◌∷◌, ◌++◌, map, map-append}
use native.Mathlib.Nat.{add-zero}
use native.Mathlib.Omega.{arith}
use borrow.Author.Tests.{ltb-false, lt-ltb, le-ltb}
use lib.Dec.{eqb, ltb}
use lib.ListN.{length, get_or, length-append, get_or-append, get_or-map}
use lib.Seq.{get_or-append_seam}
use Rattle.records.specs.declared.steps.Step.{Step}
use Rattle.records.specs.Table.{records, occurs}
use Rattle.records.specs.Step.{step_at, step_count}
use Rattle.records.specs.Derivation.{inputs, Derivation}
use Rattle.circuits.specs.Reference.{positive, negative, gate_reference}
use Rattle.circuits.specs.Gate.{Gate, and_gate, or_gate}
use Rattle.circuits.specs.Rule.{symmetric, symmetric_rule}
use Rattle.circuits.specs.Build.{Added, plain, emit, Build, emitted, built, symmetric_start, symmetric_build, plain_build}
use Rattle.circuits.specs.Value.{reference_value, kind_value, gate_value, values, value}
use Rattle.circuits.proofs.BuildLaws.{plain_orderly, gates_of_rule, built_next, reference_stays, reference_new, gates_stay, plain_next_count, InPlace, built_in_place, length_inputs, input_a, input_b, inputs_in_place}
use Rattle.circuits.proofs.InterpolantLaws.{pivots_small}
use Rattle.demands.specs.Tables.{Tables}
use Rattle.demands.specs.Formula.{Formula, bottom, top, variable, negated, ◌or◌, ◌and◌, truth, interpolant_of, Definition20, reference_formula, gate_formula, formulas, unfolded}
use Rattle.demands.specs.Acceptance.{gates_of_pivot, gates_of_steps}

-- the truth value of a formula that stands for gates is the value of the gates
module _ (N : ℕ) (σ : ℕ → Bool) where
  -- of a reference
  truth_reference : (fs : List Formula) (r : ℕ) → truth σ (reference_formula N fs r) ≡ reference_value N σ (map (truth σ) fs) r
  unfolding truth reference_formula reference_value
  truth_reference fs r = go (ltb r 2) (eqb r 1) (ltb r (2 + 2 * N)) (eqb (r % 2) 0)
    where
      v : ℕ
      v = (r - 2) / 2

      f : Formula
      f = get_or fs (r - (2 + 2 * N)) bottom

      go : (constant one literal even : Bool)
          → truth σ (cond constant (cond one top bottom) (cond literal (cond even (variable v) (negated v)) f))
          ≡ cond constant one (cond literal (cond even (σ v) (not (σ v))) (get_or (map (truth σ) fs) (r - (2 + 2 * N)) false))
      go true true literal even = refl
      go true false literal even = refl
      go false one true true = refl
      go false one true false = refl
      go false one false even = sym (get_or-map (truth σ) fs (r - (2 + 2 * N)) bottom)

  -- of a gate
  truth_gate : (fs : List Formula) (g : Gate) → truth σ (gate_formula N fs g) ≡ gate_value N σ (map (truth σ) fs) g
  unfolding truth gate_value
  truth_gate fs g =
      go (eqb g.kind 1) (reference_formula N fs g.left) (reference_formula N fs g.right)
      ∙ ap₂ (kind_value g.kind) (truth_reference fs g.left) (truth_reference fs g.right)
    where
      go : (meets : Bool) (left right : Formula)
          → truth σ (cond meets (left and right) (left or right)) ≡ cond meets (truth σ left && truth σ right) (truth σ left || truth σ right)
      go true left right = refl
      go false left right = refl

  -- of each gate of a list
  truth_formulas : (fs : List Formula) (gs : List Gate) → map (truth σ) (formulas N fs gs) ≡ values N σ (map (truth σ) fs) gs
  unfolding formulas values
  truth_formulas fs [] = refl
  truth_formulas fs (g ∷ gs) =
      truth_formulas (fs ++ (gate_formula N fs g ∷ [])) gs
      ∙ ap (λ (vs : List Bool). values N σ vs gs) (map-append (truth σ) fs (gate_formula N fs g ∷ []) ∙ ap (λ (x : Bool). map (truth σ) fs ++ (x ∷ [])) (truth_gate fs g))

  -- and of a circuit
  pub truth_unfolded : (gs : List Gate) (r : ℕ) → truth σ (unfolded N gs r) ≡ value N σ gs r
  truth_unfolded gs r = truth_reference (formulas N [] gs) r ∙ ap (λ (vs : List Bool). reference_value N σ vs r) (truth_formulas [] gs)

-- formulas, over N variables
module _ (N : ℕ) where
  -- of each kind of reference
  formula_false : (fs : List Formula) → reference_formula N fs 0 ≡ bottom
  unfolding reference_formula
  formula_false fs = refl

  formula_true : (fs : List Formula) → reference_formula N fs 1 ≡ top
  unfolding reference_formula
  formula_true fs = refl

  formula_positive : (fs : List Formula) (v : ℕ) → v < N → reference_formula N fs (positive v) ≡ variable v
  unfolding reference_formula
  formula_positive fs v l =
      let even : (2 + 2 * v) % 2 ≡ 0 = omega arith in
      let same : (2 + 2 * v - 2) / 2 ≡ v = omega arith in
      rw (le-ltb (2 + 2 * v) 2 (omega arith), lt-ltb (2 + 2 * v) (2 + 2 * N) (omega arith), even, same) refl

  formula_negative : (fs : List Formula) (v : ℕ) → v < N → reference_formula N fs (negative v) ≡ negated v
  unfolding reference_formula
  formula_negative fs v l =
      let odd : (3 + 2 * v) % 2 ≡ 1 = omega arith in
      let same : (3 + 2 * v - 2) / 2 ≡ v = omega arith in
      rw (le-ltb (3 + 2 * v) 2 (omega arith), lt-ltb (3 + 2 * v) (2 + 2 * N) (omega arith), odd, same) refl

  -- of the last gate
  formula_last : (fs : List Formula) (f : Formula) (k : ℕ) → k ≡ length fs → reference_formula N (fs ++ (f ∷ [])) (gate_reference N k) ≡ f
  unfolding reference_formula
  formula_last fs f k e =
      let gate : 2 + 2 * N + k - (2 + 2 * N) ≡ length fs = omega arith in
      rw (le-ltb (2 + 2 * N + k) 2 (omega arith), le-ltb (2 + 2 * N + k) (2 + 2 * N) (omega arith), gate) (get_or-append_seam fs f [] bottom)

  -- a reference has the formula that the gates below it give
  formula_earlier : (fs hs : List Formula) (r : ℕ) → r < gate_reference N (length fs) → reference_formula N (fs ++ hs) r ≡ reference_formula N fs r
  unfolding reference_formula
  formula_earlier fs hs r l = go (ltb r (2 + 2 * N)) refl
    where
      go : (t : Bool) → ltb r (2 + 2 * N) ≡ t → reference_formula N (fs ++ hs) r ≡ reference_formula N fs r
      go true e = rw e refl
      go false e =
          let late : 2 + 2 * N ≤ r = ltb-false r (2 + 2 * N) e in
          rw (e, get_or-append fs hs bottom (r - (2 + 2 * N)) (omega arith)) refl

  -- gates behind gates
  formulas_append : (fs : List Formula) (gs hs : List Gate) → formulas N fs (gs ++ hs) ≡ formulas N (formulas N fs gs) hs
  unfolding formulas
  formulas_append fs [] hs = refl
  formulas_append fs (g ∷ gs) hs = formulas_append (fs ++ (gate_formula N fs g ∷ [])) gs hs

  -- a formula a gate
  length_formulas : (fs : List Formula) (gs : List Gate) → length (formulas N fs gs) ≡ length fs + length gs
  unfolding formulas
  length_formulas fs [] = sym (add-zero (length fs))
  length_formulas fs (g ∷ gs) =
      omega (arith, length_formulas (fs ++ (gate_formula N fs g ∷ [])) gs, length-append fs (gate_formula N fs g ∷ []))

  -- gates added behind change no formula
  formula_stays : (fs : List Formula) (gs : List Gate) (r : ℕ) → r < gate_reference N (length fs) → reference_formula N (formulas N fs gs) r ≡ reference_formula N fs r
  unfolding formulas
  formula_stays fs [] r l = refl
  formula_stays fs (g ∷ gs) r l =
      formula_stays (fs ++ (gate_formula N fs g ∷ [])) gs r (omega (arith, length-append fs (gate_formula N fs g ∷ [])))
      ∙ formula_earlier fs (gate_formula N fs g ∷ []) r l

  unfolded_stays : (gs hs : List Gate) (r : ℕ) → r < gate_reference N (length gs) → unfolded N (gs ++ hs) r ≡ unfolded N gs r
  unfolded_stays gs hs r l =
      ap (λ (fs : List Formula). reference_formula N fs r) (formulas_append [] gs hs)
      ∙ formula_stays (formulas N [] gs) hs r (omega (arith, length_formulas [] gs))

  -- a step's gates have the formula that its pivot gives, by whether it occurs in A, and in B
  emit_formula : (in_a in_b : Bool) (fs : List Formula) (n p l r : ℕ) → n ≡ length fs → p < N → r < gate_reference N n
      → let more = emit (plain N) (symmetric in_a in_b) n p l r in
      reference_formula N (formulas N fs more.gates) more.reference ≡ interpolant_of in_a in_b p (reference_formula N fs l) (reference_formula N fs r)
  unfolding emit formulas
  emit_formula true true fs n p l r e small right =
      formula_last both_sides (gate_formula N both_sides (and_gate (gate_reference N n) (gate_reference N (n + 1)))) (n + 1 + 1) (omega (arith, high_count))
      ∙ ap₂ ◌and◌
      (formula_earlier low_side (high ∷ []) (gate_reference N n) (omega (arith, low_count)) ∙ formula_last fs low n e
      ∙ ap (λ (f : Formula). f or reference_formula N fs l) (formula_positive fs p small))
      (formula_last low_side high (n + 1) (omega (arith, low_count)) ∙ ap₂ ◌or◌ (formula_negative low_side p small) (formula_earlier fs (low ∷ []) r (omega arith)))
    where
      low : Formula
      low = gate_formula N fs (or_gate (positive p) l)

      low_side : List Formula
      low_side = fs ++ (low ∷ [])

      low_count : length low_side ≡ length fs + 1
      low_count = length-append fs (low ∷ [])

      high : Formula
      high = gate_formula N low_side (or_gate (negative p) r)

      both_sides : List Formula
      both_sides = low_side ++ (high ∷ [])

      high_count : length both_sides ≡ length fs + 1 + 1
      high_count = length-append low_side (high ∷ []) ∙ ap (λ (k : ℕ). k + 1) low_count
  emit_formula true false fs n p l r e small right = formula_last fs (reference_formula N fs l or reference_formula N fs r) n e
  emit_formula false in_b fs n p l r e small right = formula_last fs (reference_formula N fs l and reference_formula N fs r) n e

-- the formula at clause k's reference
abbrev pub clause_formula : ℕ → Build → ℕ → Formula
clause_formula N x k = unfolded N x.gates (get_or x.references k 0)

-- the plain build of a derivation's steps
module _ (h : ℕ) (a b last : List ℕ) (step : ℕ → Step) (s : ℕ) (given : Derivation h a b last step s) where
  -- after the first i steps
  abbrev after : ℕ → Build
  after i = symmetric_build h (plain (8 * h)) a b 0 step i

  -- each input clause has a reference
  inputs_are : length (symmetric_start h a b).references ≡ inputs h a b
  inputs_are = length_inputs (records (2 * h) a) (records (2 * h) b)

  -- all references are there
  after_in_place : (i : ℕ) → i ≤ s → InPlace (8 * h) 0 (after i)
  after_in_place i l =
      built_in_place (8 * h) (plain (8 * h)) (plain_orderly (8 * h)) (symmetric_rule h a b) 0 (symmetric_start h a b) step
      (inputs_in_place (8 * h) 0 (records (2 * h) a) (records (2 * h) b)) i (λ j m. pivots_small h a b last step s given j (omega arith))

  -- later steps change no clause's formula
  clause_formula_stays : (i j k : ℕ) → i ≤ j → j ≤ s → k < inputs h a b + i → clause_formula (8 * h) (after j) k ≡ clause_formula (8 * h) (after i) k
  clause_formula_stays i j k l m n =
      let e : i + (j - i) ≡ j = omega arith in
      let later = gates_stay (plain (8 * h)) (symmetric_rule h a b) 0 (symmetric_start h a b) step i (j - i) in
      ap₂ (unfolded (8 * h)) (ap (λ (m : ℕ). (after m).gates) (sym e) ∙ later.1)
      (ap (λ (m : ℕ). get_or (after m).references k 0) (sym e)
      ∙ reference_stays (plain (8 * h)) (symmetric_rule h a b) 0 (symmetric_start h a b) step i (j - i) k (omega (arith, inputs_are)))
      ∙ unfolded_stays (8 * h) (after i).gates later.0 (get_or (after i).references k 0) (omega (arith, (after_in_place i (omega arith)).below k))

  -- the clauses of the inputs have the formulas that they start with
  input_formula : (k : ℕ) → k < inputs h a b → clause_formula (8 * h) (after s) k ≡ reference_formula (8 * h) [] (get_or (symmetric_start h a b).references k 0)
  unfolding built formulas
  input_formula k l = clause_formula_stays 0 s k (omega arith) (omega arith) (omega arith)

  -- and the result of a step the one that its pivot gives
  step_formula : (i : ℕ) → i < s
      → clause_formula (8 * h) (after s) (inputs h a b + i)
      ≡ interpolant_of (occurs h a (step i).pivot) (occurs h b (step i).pivot) (step i).pivot (clause_formula (8 * h) (after s) (step i).left) (clause_formula (8 * h) (after s) (step i).right)
  unfolding symmetric_rule
  step_formula i l =
      clause_formula_stays (suc i) s (inputs h a b + i) (omega arith) (omega arith) (omega arith)
      ∙ new
      ∙ sym (ap₂ (interpolant_of (occurs h a (step i).pivot) (occurs h b (step i).pivot) (step i).pivot) (clause_formula_stays i s (step i).left (omega arith) (omega arith) (given.by_rule i l).left_earlier)
      (clause_formula_stays i s (step i).right (omega arith) (omega arith) (given.by_rule i l).right_earlier))
    where
      x : Build
      x = after i

      fs : List Formula
      fs = formulas (8 * h) [] x.gates

      more : Added
      more = emitted (plain (8 * h)) (symmetric_rule h a b) 0 (step i) x

      reference_is : get_or (after (suc i)).references (inputs h a b + i) 0 ≡ more.reference
      reference_is =
          ap (λ (n : ℕ). get_or (after (suc i)).references (n + i) 0) (sym inputs_are)
          ∙ reference_new (plain (8 * h)) (symmetric_rule h a b) 0 (symmetric_start h a b) step i

      new : clause_formula (8 * h) (after (suc i)) (inputs h a b + i)
          ≡ interpolant_of (occurs h a (step i).pivot) (occurs h b (step i).pivot) (step i).pivot (clause_formula (8 * h) (after i) (step i).left) (clause_formula (8 * h) (after i) (step i).right)
      new =
          ap₂ (unfolded (8 * h)) (ap (λ (y : Build). y.gates) (built_next (plain (8 * h)) (symmetric_rule h a b) 0 (symmetric_start h a b) step i)) reference_is
          ∙ ap (λ (ws : List Formula). reference_formula (8 * h) ws more.reference) (formulas_append (8 * h) [] x.gates more.gates)
          ∙ emit_formula (8 * h) (occurs h a (step i).pivot) (occurs h b (step i).pivot) fs (0 + length x.gates) (step i).pivot (get_or x.references (step i).left 0) (get_or x.references (step i).right 0)
          (sym (length_formulas (8 * h) [] x.gates)) (pivots_small h a b last step s given i l) ((after_in_place i (omega arith)).below (step i).right)

  -- so the clauses have the partial interpolants of Definition 20
  pub plain_definition_20 : Definition20 h a b step s (clause_formula (8 * h) (symmetric_build h (plain (8 * h)) a b 0 step s))
  plain_definition_20 =
      record {
        of_a = λ k l. input_formula k (omega arith) ∙ ap (reference_formula (8 * h) []) (input_a (records (2 * h) a) (records (2 * h) b) k l) ∙ formula_false (8 * h) [];
        of_b = λ k l. input_formula (records (2 * h) a + k) (omega arith) ∙ ap (reference_formula (8 * h) []) (input_b (records (2 * h) a) (records (2 * h) b) k l) ∙ formula_true (8 * h) [];
        of_step = step_formula;
      }

-- a step has as many gates as its pivot says
pivot_gates : (in_a in_b : Bool) → gates_of_rule (symmetric in_a in_b) ≡ gates_of_pivot in_a in_b
pivot_gates true true = refl
pivot_gates true false = refl
pivot_gates false in_b = refl

-- and so have all steps together
pub gates_of_steps_lem : (h : ℕ) (t : Tables) → length (plain_build h t.a t.b t.steps).gates ≡ gates_of_steps h t (step_count t.steps)
unfolding plain_build built symmetric_rule gates_of_steps
gates_of_steps_lem h t = go (step_count t.steps)
  where
    go : (i : ℕ) → length (symmetric_build h (plain (8 * h)) t.a t.b 0 (step_at t.steps) i).gates ≡ gates_of_steps h t i
    go zero = refl
    go (suc i) =
        plain_next_count (8 * h) (symmetric_rule h t.a t.b) 0 (symmetric_start h t.a t.b) (step_at t.steps) i
        ∙ ap₂ ◌+◌ (go i) (pivot_gates (occurs h t.a (step_at t.steps i).pivot) (occurs h t.b (step_at t.steps i).pivot))
