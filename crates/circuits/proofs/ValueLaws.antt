-- The laws of values: of each kind of reference, and that gates added behind change no value.
use Rattle.std.proofs.Common.{◌≡◌, ℕ, ◌+◌, ◌-◌, ◌*◌, ◌/◌, ◌%◌, ◌<◌, ◌≤◌, Bool, true, false, not, ltb, List, [], ◌∷◌, ◌++◌, length, get_or, sym, refl, ap, ◌∙◌, add-zero, zero-add, arith, length-append, ltb-false, le-ltb, lt-ltb}
use lib.ListN.{get_or-append}
use Rattle.circuits.specs.Reference.{positive, negative, gate_reference}
use Rattle.circuits.specs.Gate.{Gate}
use Rattle.circuits.specs.Value.{reference_value, gate_value, values, value}

module _ (N : ℕ) (σ : ℕ → Bool) where
  pub value_false : (vs : List Bool) → reference_value N σ vs 0 ≡ false
  unfolding reference_value
  value_false vs = refl

  pub value_true : (vs : List Bool) → reference_value N σ vs 1 ≡ true
  unfolding reference_value
  value_true vs = refl

  pub value_positive : (vs : List Bool) (v : ℕ) → v < N → reference_value N σ vs (positive v) ≡ σ v
  unfolding reference_value
  value_positive vs v l =
      let even : (2 + 2 * v) % 2 ≡ 0 = omega arith in
      let variable : (2 + 2 * v - 2) / 2 ≡ v = omega arith in
      rw (le-ltb (2 + 2 * v) 2 (omega arith), lt-ltb (2 + 2 * v) (2 + 2 * N) (omega arith), even, variable) refl

  pub value_negative : (vs : List Bool) (v : ℕ) → v < N → reference_value N σ vs (negative v) ≡ not (σ v)
  unfolding reference_value
  value_negative vs v l =
      let odd : (3 + 2 * v) % 2 ≡ 1 = omega arith in
      let variable : (3 + 2 * v - 2) / 2 ≡ v = omega arith in
      rw (le-ltb (3 + 2 * v) 2 (omega arith), lt-ltb (3 + 2 * v) (2 + 2 * N) (omega arith), odd, variable) refl

  pub value_gate : (vs : List Bool) (k : ℕ) → reference_value N σ vs (gate_reference N k) ≡ get_or vs k false
  unfolding reference_value
  value_gate vs k =
      let gate : 2 + 2 * N + k - (2 + 2 * N) ≡ k = omega arith in
      rw (le-ltb (2 + 2 * N + k) 2 (omega arith), le-ltb (2 + 2 * N + k) (2 + 2 * N) (omega arith), gate) refl

  -- a reference has the value that the gates below it give
  pub value_earlier : (vs ws : List Bool) (r : ℕ) → r < gate_reference N (length vs) → reference_value N σ (vs ++ ws) r ≡ reference_value N σ vs r
  unfolding reference_value
  value_earlier vs ws r l = go (ltb r (2 + 2 * N)) refl
    where
      go : (t : Bool) → ltb r (2 + 2 * N) ≡ t → reference_value N σ (vs ++ ws) r ≡ reference_value N σ vs r
      go true e = rw e refl
      go false e =
          let late : 2 + 2 * N ≤ r = ltb-false r (2 + 2 * N) e in
          rw (e, get_or-append vs ws false (r - (2 + 2 * N)) (omega arith)) refl

  pub values_append : (vs : List Bool) (gs hs : List Gate) → values N σ vs (gs ++ hs) ≡ values N σ (values N σ vs gs) hs
  unfolding values
  values_append vs [] hs = refl
  values_append vs (g ∷ gs) hs = values_append (vs ++ (gate_value N σ vs g ∷ [])) gs hs

  pub length_values : (vs : List Bool) (gs : List Gate) → length (values N σ vs gs) ≡ length vs + length gs
  unfolding values
  length_values vs [] = sym (add-zero (length vs))
  length_values vs (g ∷ gs) =
      omega (arith, length_values (vs ++ (gate_value N σ vs g ∷ [])) gs, length-append vs (gate_value N σ vs g ∷ []))

  -- gates added behind change no value
  pub value_stays : (vs : List Bool) (gs : List Gate) (r : ℕ) → r < gate_reference N (length vs) → reference_value N σ (values N σ vs gs) r ≡ reference_value N σ vs r
  unfolding values
  value_stays vs [] r l = refl
  value_stays vs (g ∷ gs) r l =
      value_stays (vs ++ (gate_value N σ vs g ∷ [])) gs r (omega (arith, length-append vs (gate_value N σ vs g ∷ [])))
      ∙ value_earlier vs (gate_value N σ vs g ∷ []) r l

  pub circuit_length : (gs : List Gate) → length (values N σ [] gs) ≡ length gs
  circuit_length gs = length_values [] gs ∙ zero-add (length gs)

  pub circuit_stays : (gs hs : List Gate) (r : ℕ) → r < gate_reference N (length gs) → value N σ (gs ++ hs) r ≡ value N σ gs r
  circuit_stays gs hs r l =
      ap (λ (vs : List Bool). reference_value N σ vs r) (values_append [] gs hs)
      ∙ value_stays (values N σ [] gs) hs r (omega (arith, circuit_length gs))
