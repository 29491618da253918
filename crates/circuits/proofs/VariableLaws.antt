-- Which variables the gates of a build name: in the symmetric build only those that occur in both A and B.
use Rattle.std.proofs.Common.{◌≡◌, ℕ, zero, suc, ◌+◌, ◌*◌, ◌<◌, Bool, true, false, ◌⊎◌, List, [], ◌∷◌, ◌++◌, length, get_or, refl, inl, inr, arith}
use Rattle.records.specs.declared.steps.Step.{Step}
use Rattle.records.specs.Table.{records, occurs}
use Rattle.circuits.specs.Reference.{positive, negative, gate_reference}
use Rattle.circuits.specs.Gate.{Gate, and_gate, or_gate}
use Rattle.circuits.specs.declared.rules.Rule.{Rule}
use Rattle.circuits.specs.declared.kinds.Kind.TheVariants.{And, Or}
use Rattle.circuits.specs.declared.rules.Rule.TheVariants.{One, Both}
use Rattle.circuits.specs.Rule.{symmetric, symmetric_rule}
use Rattle.circuits.specs.Build.{Added, Adding, plain, emit, Build, emitted, built, symmetric_start, symmetric_build}
use Rattle.circuits.proofs.BuildLaws.{get_d_snoc, input_either}

-- reference r is a literal of variable v
abbrev pub Names : ℕ → ℕ → Type 0
Names r v = (r ≡ positive v) ⊎ (r ≡ negative v)

-- a reference, and the inputs of gates, name only variables that are allowed
abbrev pub Within : ℕ → (ℕ → Type 0) → ℕ → Type 0
Within N Allowed r = (v : ℕ) → v < N → Names r v → Allowed v

abbrev pub AllWithin : ℕ → (ℕ → Type 0) → List Gate → Type 0
AllWithin N Allowed [] = Unit {0}
AllWithin N Allowed (g ∷ gs) = Within N Allowed g.left × Within N Allowed g.right × AllWithin N Allowed gs

abbrev pub AddedWithin : ℕ → (ℕ → Type 0) → Added → Type 0
AddedWithin N Allowed more = AllWithin N Allowed more.gates × Within N Allowed more.reference

-- a way of adding a gate that names nothing that the gate's inputs do not
abbrev pub NamesNoOther : ℕ → Adding → Type 1
NamesNoOther N add = (Allowed : ℕ → Type 0) (n : ℕ) (g : Gate) → Within N Allowed g.left → Within N Allowed g.right → AddedWithin N Allowed (add n g)

module _ (N : ℕ) (Allowed : ℕ → Type 0) where
  pub within_append : (gs hs : List Gate) → AllWithin N Allowed gs → AllWithin N Allowed hs → AllWithin N Allowed (gs ++ hs)
  within_append [] hs p q = q
  within_append (g ∷ gs) hs p q = (p.0, p.1, within_append gs hs p.2 q)

  pub within_at : (gs : List Gate) (d : Gate) (k : ℕ) → AllWithin N Allowed gs → k < length gs → Within N Allowed (get_or gs k d).left × Within N Allowed (get_or gs k d).right
  within_at [] d k p l = absurd (omega arith)
  within_at (g ∷ gs) d zero p l = (p.0, p.1)
  within_at (g ∷ gs) d (suc k) p l = within_at gs d k p.2 (omega arith)

  -- the constants and the gates name no variable, and a literal its own
  pub false_within : Within N Allowed 0
  false_within v l (inl e) = absurd (omega arith)
  false_within v l (inr e) = absurd (omega arith)

  pub true_within : Within N Allowed 1
  true_within v l (inl e) = absurd (omega arith)
  true_within v l (inr e) = absurd (omega arith)

  pub gate_within : (k : ℕ) → Within N Allowed (gate_reference N k)
  gate_within k v l (inl e) = absurd (omega arith)
  gate_within k v l (inr e) = absurd (omega arith)

  pub positive_within : (p : ℕ) → Allowed p → Within N Allowed (positive p)
  positive_within p allowed v l (inl e) = let same : v ≡ p = omega arith in rw same allowed
  positive_within p allowed v l (inr e) = absurd (omega arith)

  pub negative_within : (p : ℕ) → Allowed p → Within N Allowed (negative p)
  negative_within p allowed v l (inl e) = absurd (omega arith)
  negative_within p allowed v l (inr e) = let same : v ≡ p = omega arith in rw same allowed

pub plain_names_no_other : (N : ℕ) → NamesNoOther N (plain N)
plain_names_no_other N Allowed n g left right = ((left, right, tt), gate_within N Allowed n)

module _ (N : ℕ) (Allowed : ℕ → Type 0) (add : Adding) (no_other : NamesNoOther N add) where
  -- a step names its pivot where the rule is both
  pub emit_within : (u : Rule) (n p l r : ℕ) → (u ≡ Both → Allowed p) → Within N Allowed l → Within N Allowed r → AddedWithin N Allowed (emit add u n p l r)
  unfolding emit
  emit_within (One Or) n p l r pivot left right = no_other Allowed n (or_gate l r) left right
  emit_within (One And) n p l r pivot left right = no_other Allowed n (and_gate l r) left right
  emit_within Both n p l r pivot left right =
      let low = add n (or_gate (positive p) l) in
      let high = add (n + length low.gates) (or_gate (negative p) r) in
      let last = add (n + length low.gates + length high.gates) (and_gate low.reference high.reference) in
      let low-is = no_other Allowed n (or_gate (positive p) l) (positive_within N Allowed p (pivot refl)) left in
      let high_is = no_other Allowed (n + length low.gates) (or_gate (negative p) r) (negative_within N Allowed p (pivot refl)) right in
      let last-is = no_other Allowed (n + length low.gates + length high.gates) (and_gate low.reference high.reference) low-is.1 high_is.1 in
      (within_append N Allowed low.gates (high.gates ++ last.gates) low-is.0 (within_append N Allowed high.gates last.gates high_is.0 last-is.0), last-is.1)

  -- so the build, whose start names only what is allowed
  pub built_within : (rule : ℕ → Rule) → ((p : ℕ) → rule p ≡ Both → Allowed p) → (n : ℕ) (start : Build) (step : ℕ → Step)
      → AllWithin N Allowed start.gates → ((k : ℕ) → Within N Allowed (get_or start.references k 0)) → (i : ℕ)
      → AllWithin N Allowed (built add rule n start step i).gates × ((k : ℕ) → Within N Allowed (get_or (built add rule n start step i).references k 0))
  unfolding built
  built_within rule pivots n start step gates references zero = (gates, references)
  built_within rule pivots n start step gates references (suc i) =
      let x = built add rule n start step i in
      let before = built_within rule pivots n start step gates references i in
      let s = step i in
      let more = emitted add rule n s x in
      let new = emit_within (rule s.pivot) (n + length x.gates) s.pivot (get_or x.references s.left 0) (get_or x.references s.right 0) (pivots s.pivot) (before.1 s.left) (before.1 s.right) in (
        within_append N Allowed x.gates more.gates before.0 new.0,
        get_d_snoc (Within N Allowed) x.references more.reference before.1 new.1 (false_within N Allowed),
      )

-- variable v occurs in both tables
abbrev pub InBoth : ℕ → List ℕ → List ℕ → ℕ → Type 0
InBoth h a b v = (occurs h a v ≡ true) × (occurs h b v ≡ true)

pub symmetric_both : (h : ℕ) (a b : List ℕ) (p : ℕ) → symmetric_rule h a b p ≡ Both → InBoth h a b p
unfolding symmetric_rule
symmetric_both h a b p = go (occurs h a p) (occurs h b p)
  where
    go : (x y : Bool) → symmetric x y ≡ Both → (x ≡ true) × (y ≡ true)
    go true true e = (refl, refl)
    go true false e = (refl, cc)
    go false y e = (cc, cc)

-- the symmetric build: its gates, and the reference of each clause
pub symmetric_within : (h : ℕ) (add : Adding) → NamesNoOther (8 * h) add → (a b : List ℕ) (n : ℕ) (step : ℕ → Step) (s : ℕ)
    → AllWithin (8 * h) (InBoth h a b) (symmetric_build h add a b n step s).gates
    × ((k : ℕ) → Within (8 * h) (InBoth h a b) (get_or (symmetric_build h add a b n step s).references k 0))
symmetric_within h add no_other a b n step s =
    built_within (8 * h) (InBoth h a b) add no_other (symmetric_rule h a b) (symmetric_both h a b) n (symmetric_start h a b) step tt
    (input_either (Within (8 * h) (InBoth h a b)) (false_within (8 * h) (InBoth h a b)) (true_within (8 * h) (InBoth h a b)) (records (2 * h) a) (records (2 * h) b)) s
