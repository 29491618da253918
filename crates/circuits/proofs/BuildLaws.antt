-- The laws of the build: what a way of adding a gate promises, and with it how many gates there are, what stays, and what comes before what.
use Rattle.std.proofs.Common.{◌≡◌, ℕ, zero, suc, ◌+◌, ◌-◌, ◌*◌, ◌<◌, ◌≤◌, true, ◌||◌, eqb, List, [], ◌∷◌, ◌++◌, length, get_or, replicate, sym, refl, ap, ◌∙◌, append_assoc, append-nil, arith, length-append, get_or-append-add}
use mathlib.Core.Logic.{by_cases}
use native.Mathlib.Decide.{dec_lt}
use lib.ListN.{length-replicate, get_or-append, get_or-eq_default, get_or-replicate}
use lib.Seq.{get_or-append_seam}
use Rattle.records.specs.declared.steps.Step.{Step}
use Rattle.circuits.specs.Reference.{positive, negative, gate_reference}
use Rattle.circuits.specs.Gate.{Gate, kind_byte, and_gate, or_gate}
use Rattle.circuits.specs.declared.rules.Rule.{Rule}
use Rattle.circuits.specs.declared.kinds.Kind.TheVariants.{And, Or}
use Rattle.circuits.specs.declared.rules.Rule.TheVariants.{One, Both}
use Rattle.circuits.specs.Build.{Added, Adding, plain, emit, Build, emitted, advanced, built, input_references}

-- gate k is AND or OR, and its inputs have references below its own: what tests 22 and 23 ask for
abbrev pub Formed : ℕ → ℕ → Gate → Type 0
Formed N k g = ((eqb g.kind 1 || eqb g.kind 2) ≡ true) × (g.left < gate_reference N k) × (g.right < gate_reference N k)

-- so is each of the gates, behind n gates
abbrev pub AllFormed : ℕ → ℕ → List Gate → Type 0
AllFormed N n [] = Unit {0}
AllFormed N n (g ∷ gs) = Formed N n g × AllFormed N (suc n) gs

pub formed_append : (N n m : ℕ) (gs hs : List Gate) → m ≡ n + length gs → AllFormed N n gs → AllFormed N m hs → AllFormed N n (gs ++ hs)
formed_append N n m [] hs e p q = let same : n ≡ m = omega arith in rw same q
formed_append N n m (g ∷ gs) hs e p q = (p.0, formed_append N (suc n) m gs hs (omega arith) p.1 q)

pub formed_at : (N n : ℕ) (gs : List Gate) (d : Gate) (k : ℕ) → AllFormed N n gs → k < length gs → Formed N (n + k) (get_or gs k d)
formed_at N n [] d k p l = absurd (omega arith)
formed_at N n (g ∷ gs) d zero p l = (p.0.0, omega (arith, p.0.1), omega (arith, p.0.2))
formed_at N n (g ∷ gs) d (suc k) p l =
    let there = formed_at N (suc n) gs d k p.1 (omega arith) in
    (there.0, omega (arith, there.1), omega (arith, there.2))

-- what is added behind n gates: its gates are formed, and its reference is below the next gate's
pub record Ordered (N n : ℕ) (more : Added) : Type 0 where
  pub formed : AllFormed N n more.gates
  pub below : more.reference < gate_reference N (n + length more.gates)

-- a way of adding a gate: at most one gate, and it keeps the order
pub record Orderly (N : ℕ) (add : Adding) : Type 0 where
  pub one : (n : ℕ) (g : Gate) → length (add n g).gates ≤ 1
  pub ordered : (n : ℕ) (g : Gate) → Formed N n g → Ordered N n (add n g)

pub plain_orderly : (N : ℕ) → Orderly N (plain N)
plain_orderly N = record { one = λ n g. omega arith; ordered = λ n g formed. record { formed = (formed, tt); below = omega arith } }

-- how many gates a step adds
abbrev pub gates_of_rule : Rule → ℕ
gates_of_rule (One kind) = 1
gates_of_rule Both = 3

pub plain_count : (N : ℕ) (u : Rule) (n p l r : ℕ) → length (emit (plain N) u n p l r).gates ≡ gates_of_rule u
unfolding emit
plain_count N (One kind) n p l r = refl
plain_count N Both n p l r = refl

module _ (N : ℕ) (add : Adding) (orderly : Orderly N add) where
  pub emit_few : (u : Rule) (n p l r : ℕ) → length (emit add u n p l r).gates ≤ 3
  unfolding emit
  emit_few (One kind) n p l r = omega (arith, orderly.one n (record { kind = kind_byte kind; left = l; right = r }))
  emit_few Both n p l r =
      let low = add n (or_gate (positive p) l) in
      let high = add (n + length low.gates) (or_gate (negative p) r) in
      let last = add (n + length low.gates + length high.gates) (and_gate low.reference high.reference) in
      omega (
        arith,
        orderly.one n (or_gate (positive p) l),
        orderly.one (n + length low.gates) (or_gate (negative p) r),
        orderly.one (n + length low.gates + length high.gates) (and_gate low.reference high.reference),
        length-append low.gates (high.gates ++ last.gates),
        length-append high.gates last.gates,
      )

  pub emit_ordered : (u : Rule) (n p l r : ℕ) → p < N → l < gate_reference N n → r < gate_reference N n → Ordered N n (emit add u n p l r)
  unfolding emit
  emit_ordered (One Or) n p l r small left right = orderly.ordered n (or_gate l r) (refl, left, right)
  emit_ordered (One And) n p l r small left right = orderly.ordered n (and_gate l r) (refl, left, right)
  emit_ordered Both n p l r small left right =
      let low = add n (or_gate (positive p) l) in
      let high = add (n + length low.gates) (or_gate (negative p) r) in
      let last = add (n + length low.gates + length high.gates) (and_gate low.reference high.reference) in
      let low_is = orderly.ordered n (or_gate (positive p) l) (refl, omega arith, left) in
      let high_is = orderly.ordered (n + length low.gates) (or_gate (negative p) r) (refl, omega arith, omega arith) in
      let last_is =
      orderly.ordered (n + length low.gates + length high.gates) (and_gate low.reference high.reference) (refl, omega (arith, low_is.below), high_is.below) in
      record {
        formed =
            formed_append N n (n + length low.gates) low.gates (high.gates ++ last.gates) refl low_is.formed
            (formed_append N (n + length low.gates) (n + length low.gates + length high.gates) high.gates last.gates refl high_is.formed last_is.formed);
        below = omega (arith, last_is.below, length-append low.gates (high.gates ++ last.gates), length-append high.gates last.gates);
      }

-- a list with one member more
pub get_d_snoc : (P : ℕ → Type 0) (xs : List ℕ) (x : ℕ) → ((k : ℕ) → P (get_or xs k 0)) → P x → P 0 → (k : ℕ) → P (get_or (xs ++ (x ∷ [])) k 0)
get_d_snoc P [] x all here none zero = here
get_d_snoc P [] x all here none (suc k) = none
get_d_snoc P (y ∷ xs) x all here none zero = all zero
get_d_snoc P (y ∷ xs) x all here none (suc k) = get_d_snoc P xs x (λ j. all (suc j)) here none k

-- the build, over a way of adding, a rule, the number n of gates before, a start and the steps
module _ (add : Adding) (rule : ℕ → Rule) (n : ℕ) (start : Build) (step : ℕ → Step) where
  pub built_next : (i : ℕ) → built add rule n start step (suc i) ≡ advanced (built add rule n start step i) (emitted add rule n (step i) (built add rule n start step i))
  unfolding built
  built_next i = refl

  pub length_references : (i : ℕ) → length (built add rule n start step i).references ≡ length start.references + i
  unfolding built
  length_references zero = omega arith
  length_references (suc i) =
      let x = built add rule n start step i in
      omega (arith, length-append x.references ((emitted add rule n (step i) x).reference ∷ []), length_references i)

  -- the references that are there stay
  pub reference_stays : (i more k : ℕ) → k < length start.references + i
      → get_or (built add rule n start step (i + more)).references k 0 ≡ get_or (built add rule n start step i).references k 0
  unfolding built
  reference_stays i zero k l = let e : i + zero ≡ i = omega arith in rw e refl
  reference_stays i (suc more) k l =
      let e : i + suc more ≡ suc (i + more) = omega arith in
      let x = built add rule n start step (i + more) in
      ap (λ (j : ℕ). get_or (built add rule n start step j).references k 0) e
      ∙ get_or-append x.references ((emitted add rule n (step (i + more)) x).reference ∷ []) 0 k (omega (arith, length_references (i + more)))
      ∙ reference_stays i more k l

  -- step i's reference
  pub reference_new : (i : ℕ) → get_or (built add rule n start step (suc i)).references (length start.references + i) 0
      ≡ (emitted add rule n (step i) (built add rule n start step i)).reference
  unfolding built
  reference_new i =
      let x = built add rule n start step i in
      ap (λ (k : ℕ). get_or (x.references ++ ((emitted add rule n (step i) x).reference ∷ [])) k 0) (sym (length_references i))
      ∙ get_or-append_seam x.references (emitted add rule n (step i) x).reference [] 0

  -- the gates that are there stay too
  pub gates_stay : (i more : ℕ) → (later : List Gate) × ((built add rule n start step (i + more)).gates ≡ (built add rule n start step i).gates ++ later)
  unfolding built
  gates_stay i zero = let e : i + zero ≡ i = omega arith in ([], rw e (sym (append-nil (built add rule n start step i).gates)))
  gates_stay i (suc more) =
      let e : i + suc more ≡ suc (i + more) = omega arith in
      let x = built add rule n start step (i + more) in
      let before = gates_stay i more in
      let new = (emitted add rule n (step (i + more)) x).gates in (
        before.0 ++ new,
        ap (λ (j : ℕ). (built add rule n start step j).gates) e ∙ ap (λ (gs : List Gate). gs ++ new) before.1
            ∙ append_assoc (built add rule n start step i).gates before.0 new,
      )

  -- at most three gates a step
  pub gates_few : (N : ℕ) → Orderly N add → (i : ℕ) → length (built add rule n start step i).gates ≤ length start.gates + 3 * i
  unfolding built
  gates_few N orderly zero = omega arith
  gates_few N orderly (suc i) =
      let x = built add rule n start step i in
      omega (
        arith,
        gates_few N orderly i,
        length-append x.gates (emitted add rule n (step i) x).gates,
        emit_few N add orderly (rule (step i).pivot) (n + length x.gates) (step i).pivot (get_or x.references (step i).left 0) (get_or x.references (step i).right 0),
      )

-- the plain build: a step adds as many gates as its rule has
pub plain_next_count : (N : ℕ) (rule : ℕ → Rule) (n : ℕ) (start : Build) (step : ℕ → Step) (i : ℕ)
    → length (built (plain N) rule n start step (suc i)).gates ≡ length (built (plain N) rule n start step i).gates + gates_of_rule (rule (step i).pivot)
plain_next_count N rule n start step i =
    let x = built (plain N) rule n start step i in
    ap (λ (y : Build). length y.gates) (built_next (plain N) rule n start step i)
    ∙ length-append x.gates (emitted (plain N) rule n (step i) x).gates
    ∙ ap (λ (m : ℕ). length x.gates + m)
    (plain_count N (rule (step i).pivot) (n + length x.gates) (step i).pivot (get_or x.references (step i).left 0) (get_or x.references (step i).right 0))

-- a state behind n gates whose gates are formed and whose references are all there
pub record InPlace (N n : ℕ) (x : Build) : Type 0 where
  pub formed : AllFormed N n x.gates
  pub below : (k : ℕ) → get_or x.references k 0 < gate_reference N (n + length x.gates)

module _ (N : ℕ) (add : Adding) (orderly : Orderly N add) (rule : ℕ → Rule) (n : ℕ) where
  pub emitted_ordered : (x : Build) (s : Step) → s.pivot < N → InPlace N n x → Ordered N (n + length x.gates) (emitted add rule n s x)
  emitted_ordered x s small place =
      emit_ordered N add orderly (rule s.pivot) (n + length x.gates) s.pivot (get_or x.references s.left 0) (get_or x.references s.right 0) small
      (place.below s.left) (place.below s.right)

  pub built_in_place : (start : Build) (step : ℕ → Step) → InPlace N n start → (i : ℕ) → ((j : ℕ) → j < i → (step j).pivot < N) → InPlace N n (built add rule n start step i)
  unfolding built
  built_in_place start step place zero small = place
  built_in_place start step place (suc i) small =
      let x = built add rule n start step i in
      let before = built_in_place start step place i (λ j l. small j (omega arith)) in
      let more = emitted add rule n (step i) x in
      let new = emitted_ordered x (step i) (small i (omega arith)) before in
      let count = length-append x.gates more.gates in
      record {
        formed = formed_append N n (n + length x.gates) x.gates more.gates refl before.formed new.formed;
        below =
            get_d_snoc (λ (r : ℕ). r < gate_reference N (n + length (x.gates ++ more.gates))) x.references more.reference
            (λ k. omega (arith, before.below k)) (omega (arith, new.below)) (omega arith);
      }

-- the references of the inputs
pub length_inputs : (a b : ℕ) → length (input_references a b) ≡ a + b
unfolding input_references
length_inputs a b = omega (arith, length-append {A = ℕ} (replicate a 0) (replicate b 1), length-replicate {A = ℕ} a 0, length-replicate {A = ℕ} b 1)

pub input_a : (a b k : ℕ) → k < a → get_or (input_references a b) k 0 ≡ 0
unfolding input_references
input_a a b k l = get_or-append (replicate a 0) (replicate b 1) 0 k (omega (arith, length-replicate {A = ℕ} a 0)) ∙ get_or-replicate a k 0 0 l

pub input_b : (a b k : ℕ) → k < b → get_or (input_references a b) (a + k) 0 ≡ 1
unfolding input_references
input_b a b k l =
    ap (λ (m : ℕ). get_or (replicate a 0 ++ replicate b 1) (m + k) 0) (sym (length-replicate a 0))
    ∙ get_or-append-add (replicate a 0) (replicate b 1) k 0 ∙ get_or-replicate b k 1 0 l

-- each is 0 or 1
pub input_either : (P : ℕ → Type 0) → P 0 → P 1 → (a b k : ℕ) → P (get_or (input_references a b) k 0)
input_either P zero_is one_is a b k =
    by_cases (dec_lt k a) (λ l. rw (input_a a b k l) zero_is)
    (λ l.
    by_cases (dec_lt k (a + b)) (λ m. let e : k ≡ a + (k - a) = omega arith in rw (e, input_b a b (k - a) (omega arith)) one_is)
    (λ m. rw (get_or-eq_default (input_references a b) 0 {n = k} (omega (arith, length_inputs a b))) zero_is))

pub inputs_in_place : (N n a b : ℕ) → InPlace N n (record { references = input_references a b; gates = [] })
inputs_in_place N n a b = record { formed = tt; below = input_either (λ (r : ℕ). r < gate_reference N (n + 0)) (omega arith) (omega arith) a b }
