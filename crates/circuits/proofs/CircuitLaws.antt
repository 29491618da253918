-- The circuit has the values of the rules: of each clause's reference, over every way of adding a gate that keeps its promise.
use Rattle.std.proofs.Common.{◌≡◌, ℕ, suc, ◌+◌, ◌-◌, ◌<◌, ◌≤◌, Bool, false, not, ◌&&◌, ◌||◌, List, [], ◌∷◌, ◌++◌, length, get_or, sym, refl, ap, ◌∙◌, ap₂, append_assoc, arith, length-append}
use lib.Seq.{get_or-append_seam}
use Rattle.records.specs.declared.steps.Step.{Step}
use Rattle.circuits.specs.Reference.{positive, negative, gate_reference}
use Rattle.circuits.specs.Gate.{Gate, and_gate, or_gate}
use Rattle.circuits.specs.declared.rules.Rule.{Rule}
use Rattle.circuits.specs.declared.kinds.Kind.TheVariants.{And, Or}
use Rattle.circuits.specs.declared.rules.Rule.TheVariants.{One, Both}
use Rattle.circuits.specs.Build.{Added, Adding, plain, emit, Build, emitted, built}
use Rattle.circuits.specs.Value.{reference_value, gate_value, values, value}
use Rattle.circuits.proofs.ValueLaws.{value_positive, value_negative, value_gate, values_append, length_values, value_stays, circuit_length, circuit_stays}
use Rattle.circuits.proofs.BuildLaws.{Formed, Orderly, plain_orderly, built_next, reference_stays, reference_new, gates_stay, InPlace, built_in_place}

-- the truth value that a rule gives, where the pivot has the value x
abbrev pub rule_value : Rule → Bool → Bool → Bool → Bool
rule_value (One Or) x left right = left || right
rule_value (One And) x left right = left && right
rule_value Both x left right = (x || left) && (not x || right)

-- what is added behind gates with the values vs has the value x
abbrev pub Gives : ℕ → (ℕ → Bool) → List Bool → Added → Bool → Type 0
Gives N σ vs more x = reference_value N σ (values N σ vs more.gates) more.reference ≡ x

-- what a way of adding a gate promises: its result is there, and has the gate's value
pub record Faithful (N : ℕ) (add : Adding) : Type 0 where
  pub orderly : Orderly N add
  pub gives : (σ : ℕ → Bool) (vs : List Bool) (g : Gate) → Formed N (length vs) g → Gives N σ vs (add (length vs) g) (gate_value N σ vs g)

pub plain_faithful : (N : ℕ) → Faithful N (plain N)
unfolding values
plain_faithful N =
    record {
      orderly = plain_orderly N;
      gives = λ σ vs g formed. value_gate N σ (vs ++ (gate_value N σ vs g ∷ [])) (length vs) ∙ get_or-append_seam vs (gate_value N σ vs g) [] false;
    }

module _ (N : ℕ) (add : Adding) (faithful : Faithful N add) (σ : ℕ → Bool) where
  -- a step's gates have the value of its rule
  pub emit_gives : (u : Rule) (vs : List Bool) (n p l r : ℕ) → n ≡ length vs → p < N → l < gate_reference N n → r < gate_reference N n
      → Gives N σ vs (emit add u n p l r) (rule_value u (σ p) (reference_value N σ vs l) (reference_value N σ vs r))
  unfolding emit gate_value
  emit_gives (One Or) vs n p l r e small left right = rw e (faithful.gives σ vs (or_gate l r) (refl, omega arith, omega arith))
  emit_gives (One And) vs n p l r e small left right = rw e (faithful.gives σ vs (and_gate l r) (refl, omega arith, omega arith))
  emit_gives Both vs n p l r e small left right = rw e all
    where
      low : Added
      low = add (length vs) (or_gate (positive p) l)

      behind_low : List Bool
      behind_low = values N σ vs low.gates

      low_count : length behind_low ≡ length vs + length low.gates
      low_count = length_values N σ vs low.gates

      high : Added
      high = add (length vs + length low.gates) (or_gate (negative p) r)

      behind_high : List Bool
      behind_high = values N σ behind_low high.gates

      high_count : length behind_high ≡ length vs + length low.gates + length high.gates
      high_count = length_values N σ behind_low high.gates ∙ ap (λ (n : ℕ). n + length high.gates) low_count

      last : Added
      last = add (length vs + length low.gates + length high.gates) (and_gate low.reference high.reference)

      low_below : low.reference < gate_reference N (length vs + length low.gates)
      low_below = (faithful.orderly.ordered (length vs) (or_gate (positive p) l) (refl, omega arith, omega arith)).below

      high_below : high.reference < gate_reference N (length vs + length low.gates + length high.gates)
      high_below = (faithful.orderly.ordered (length vs + length low.gates) (or_gate (negative p) r) (refl, omega arith, omega arith)).below

      low_gives : reference_value N σ behind_high low.reference ≡ (σ p || reference_value N σ vs l)
      low_gives =
          value_stays N σ behind_low high.gates low.reference (omega (arith, low_below, low_count))
          ∙ faithful.gives σ vs (or_gate (positive p) l) (refl, omega arith, omega arith)
          ∙ ap (λ (x : Bool). x || reference_value N σ vs l) (value_positive N σ vs p small)

      high_gives : reference_value N σ behind_high high.reference ≡ (not (σ p) || reference_value N σ vs r)
      high_gives =
          (rw low_count at (faithful.gives σ behind_low (or_gate (negative p) r) (refl, omega (arith, low_count), omega (arith, low_count))))
          ∙ ap₂ ◌||◌ (value_negative N σ behind_low p small) (value_stays N σ vs low.gates r (omega arith))

      last_gives : reference_value N σ (values N σ behind_high last.gates) last.reference ≡ (reference_value N σ behind_high low.reference && reference_value N σ behind_high high.reference)
      last_gives =
          rw high_count at (faithful.gives σ behind_high (and_gate low.reference high.reference) (refl, omega (arith, low_below, high_count), omega (arith, high_below, high_count)))

      all : Gives N σ vs (record { gates = low.gates ++ (high.gates ++ last.gates); reference = last.reference })
          ((σ p || reference_value N σ vs l) && (not (σ p) || reference_value N σ vs r))
      all =
          ap (λ (ws : List Bool). reference_value N σ ws last.reference)
          (values_append N σ vs low.gates (high.gates ++ last.gates) ∙ values_append N σ behind_low high.gates last.gates)
          ∙ last_gives ∙ ap₂ ◌&&◌ low_gives high_gives

-- the value at clause k's reference, behind the gates front
abbrev pub clause_value : ℕ → (ℕ → Bool) → List Gate → Build → ℕ → Bool
clause_value N σ front x k = value N σ (front ++ x.gates) (get_or x.references k 0)

-- the build of s steps whose pivots are variables, behind the gates front
module _ (N : ℕ) (add : Adding) (faithful : Faithful N add) (rule : ℕ → Rule) (front : List Gate) (start : Build) (step : ℕ → Step) (s : ℕ)
    (place : InPlace N (length front) start) (pivots : (i : ℕ) → i < s → (step i).pivot < N) (σ : ℕ → Bool) where
  after : ℕ → Build
  after i = built add rule (length front) start step i

  after_in_place : (i : ℕ) → i ≤ s → InPlace N (length front) (after i)
  unfolding after
  after_in_place i l = built_in_place N add faithful.orderly rule (length front) start step place i (λ j m. pivots j (omega arith))

  -- later steps change no value
  later_value : (i j r : ℕ) → i ≤ j → r < gate_reference N (length front + length (after i).gates) → value N σ (front ++ (after j).gates) r ≡ value N σ (front ++ (after i).gates) r
  unfolding after
  later_value i j r l small =
      let e : i + (j - i) ≡ j = omega arith in
      let later = gates_stay add rule (length front) start step i (j - i) in
      let same : (after j).gates ≡ (after i).gates ++ later.0 = ap (λ (m : ℕ). (after m).gates) (sym e) ∙ later.1 in
      ap (λ (gs : List Gate). value N σ gs r) (ap (λ (gs : List Gate). front ++ gs) same ∙ sym (append_assoc front (after i).gates later.0))
      ∙ circuit_stays N σ (front ++ (after i).gates) later.0 r (omega (arith, length-append front (after i).gates))

  clause_value_stays : (i j k : ℕ) → i ≤ j → j ≤ s → k < length start.references + i → clause_value N σ front (after j) k ≡ clause_value N σ front (after i) k
  unfolding after
  clause_value_stays i j k l m n =
      let e : i + (j - i) ≡ j = omega arith in
      ap (value N σ (front ++ (after j).gates))
      (ap (λ (m : ℕ). get_or (after m).references k 0) (sym e) ∙ reference_stays add rule (length front) start step i (j - i) k n)
      ∙ later_value i j (get_or (after i).references k 0) l ((after_in_place i (omega arith)).below k)

  -- the clauses of the start have the values that they start with
  pub start_value : (k : ℕ) → k < length start.references → clause_value N σ front (built add rule (length front) start step s) k ≡ clause_value N σ front start k
  unfolding after built
  start_value k l = clause_value_stays 0 s k (omega arith) (omega arith) (omega arith)

  -- and the result of a step has the value that its rule gives
  pub step_value : (i : ℕ) → i < s → (step i).left < length start.references + i → (step i).right < length start.references + i
      → clause_value N σ front (built add rule (length front) start step s) (length start.references + i)
      ≡ rule_value (rule (step i).pivot) (σ (step i).pivot) (clause_value N σ front (built add rule (length front) start step s) (step i).left)
      (clause_value N σ front (built add rule (length front) start step s) (step i).right)
  unfolding after
  step_value i l left right =
      clause_value_stays (suc i) s (length start.references + i) (omega arith) (omega arith) (omega arith)
      ∙ new
      ∙ sym (ap₂ (rule_value (rule (step i).pivot) (σ (step i).pivot)) (clause_value_stays i s (step i).left (omega arith) (omega arith) left)
      (clause_value_stays i s (step i).right (omega arith) (omega arith) right))
    where
      x : Build
      x = built add rule (length front) start step i

      vs : List Bool
      vs = values N σ [] (front ++ x.gates)

      count : length front + length x.gates ≡ length vs
      count = sym (circuit_length N σ (front ++ x.gates) ∙ length-append front x.gates)

      more : Added
      more = emitted add rule (length front) (step i) x

      gates_are : front ++ (built add rule (length front) start step (suc i)).gates ≡ front ++ x.gates ++ more.gates
      gates_are = ap (λ (y : Build). front ++ y.gates) (built_next add rule (length front) start step i) ∙ sym (append_assoc front x.gates more.gates)

      new : clause_value N σ front (built add rule (length front) start step (suc i)) (length start.references + i)
          ≡ rule_value (rule (step i).pivot) (σ (step i).pivot) (clause_value N σ front x (step i).left) (clause_value N σ front x (step i).right)
      new =
          ap₂ (λ (gs : List Gate) (r : ℕ). value N σ gs r) gates_are (reference_new add rule (length front) start step i)
          ∙ ap (λ (ws : List Bool). reference_value N σ ws more.reference) (values_append N σ [] (front ++ x.gates) more.gates)
          ∙ emit_gives N add faithful σ (rule (step i).pivot) vs (length front + length x.gates) (step i).pivot (get_or x.references (step i).left 0) (get_or x.references (step i).right 0) count (pivots i l)
          ((after_in_place i (omega arith)).below (step i).left) ((after_in_place i (omega arith)).below (step i).right)
