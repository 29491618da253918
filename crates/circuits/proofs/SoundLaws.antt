-- One induction over a derivation, for every law about partial interpolants. Beside the clauses runs a value for each, of any type. A law has
-- a chosen set of variables and a property Good of values; then each clause's value is good, or the clause holds a true literal of the set.
use Rattle.std.proofs.Common.{◌≡◌, ℕ, ◌+◌, ◌*◌, ◌<◌, ◌≤◌, Bool, true, false, not, ◌&&◌, eqb, ◌⊎◌, List, sym, refl, ap, ◌∙◌, inl, inr, true≢false, arith, eqb-true}
use mathlib.Core.Bool.{or-true, and-false}
use Rattle.records.specs.declared.steps.Step.{Step}
use Rattle.records.specs.Clause.{holds, resolvent, empty}
use Rattle.records.specs.Table.{record_at, records, occurs}
use Rattle.records.specs.Meaning.{satisfies_all}
use Rattle.records.specs.Derivation.{inputs, clause_at, Derivation}
use Rattle.records.proofs.NumberLaws.{strong, in_parts}
use Rattle.records.proofs.ClauseLaws.{holds_bound, holds_resolvent}
use Rattle.records.proofs.TableLaws.{occurs_here}
use Rattle.records.proofs.DerivationLaws.{clause_a, clause_b}
use Rattle.records.proofs.MeaningLaws.{empty_holds, satisfies_which, empty_unsatisfied, satisfies_all_at}
use Rattle.circuits.specs.declared.rules.Rule.{Rule}
use Rattle.circuits.specs.declared.kinds.Kind.TheVariants.{And, Or}
use Rattle.circuits.specs.declared.rules.Rule.TheVariants.{One, Both}
use Rattle.circuits.specs.Rule.{symmetric, symmetric_rule}
use Rattle.circuits.proofs.CircuitLaws.{rule_value}

-- the clause holds a literal that σ makes true, of a variable that is chosen
pub record Satisfied (h : ℕ) (chosen σ : ℕ → Bool) (c : List ℕ) : Type 0 where
  pub variable : ℕ
  pub held : holds h c (σ variable) variable ≡ true
  pub is_chosen : chosen variable ≡ true

-- the clause holds a literal
pub record Holding (h : ℕ) (c : List ℕ) : Type 0 where
  pub sign : Bool
  pub variable : ℕ
  pub held : holds h c sign variable ≡ true

-- a clause and its value
abbrev pub Known : {X : Type 0} → ℕ → (ℕ → Bool) → (ℕ → Bool) → (X → Type 0) → List ℕ → X → Type 0
Known h chosen σ Good c x = Good x ⊎ Satisfied h chosen σ c

-- what a law asks of the operation on values at pivot p
pub record Keeps {X : Type 0} (chosen σ : ℕ → Bool) (Good : X → Type 0) (operation : ℕ → X → X → X) (p : ℕ) : Type 0 where
  pub at_false : chosen p ≡ true → σ p ≡ false → (x y : X) → Good x → Good (operation p x y)
  pub at_true : chosen p ≡ true → σ p ≡ true → (x y : X) → Good y → Good (operation p x y)
  pub outside : chosen p ≡ false → (x y : X) → Good x → Good y → Good (operation p x y)

-- a literal is not the pivot's where the pivot would make it another
not_pivot : (side : Bool) (v p : ℕ) → (v ≡ p → side ≡ false) → (side && eqb v p) ≡ false
not_pivot side v p other = go (eqb v p) refl
  where
    go : (t : Bool) → eqb v p ≡ t → (side && t) ≡ false
    go true e = rw (other (eqb-true v p e)) refl
    go false e = and-false side

-- one step
module _ {X : Type 0} (h : ℕ) (chosen σ : ℕ → Bool) (Good : X → Type 0) (operation : ℕ → X → X → X) (p : ℕ) (small : p < 8 * h) (keeps : Keeps chosen σ Good operation p)
    (left right : List ℕ) (x y : X) where
  from_left : (t : Satisfied h chosen σ left) → (t.variable ≡ p → σ t.variable ≡ false) → Satisfied h chosen σ (resolvent h left right p)
  from_left t other =
      record {
        variable = t.variable;
        held =
            holds_resolvent h left right p (σ t.variable) t.variable small
            ∙ rw (t.held, not_pivot (σ t.variable) t.variable p other) refl;
        is_chosen = t.is_chosen;
      }

  from_right : (t : Satisfied h chosen σ right) → (t.variable ≡ p → not (σ t.variable) ≡ false) → Satisfied h chosen σ (resolvent h left right p)
  from_right t other =
      record {
        variable = t.variable;
        held =
            holds_resolvent h left right p (σ t.variable) t.variable small
            ∙ rw (t.held, not_pivot (not (σ t.variable)) t.variable p other) (or-true (holds h left (σ t.variable) t.variable && not (σ t.variable && eqb t.variable p)));
        is_chosen = t.is_chosen;
      }

  pub resolvent_known : Known h chosen σ Good left x → Known h chosen σ Good right y → Known h chosen σ Good (resolvent h left right p) (operation p x y)
  resolvent_known known-left known-right = by_choice (chosen p) refl
    where
      by_left : chosen p ≡ true → σ p ≡ false → Known h chosen σ Good left x → Known h chosen σ Good (resolvent h left right p) (operation p x y)
      by_left c e (inl good) = inl (keeps.at_false c e x y good)
      by_left c e (inr t) = inr (from_left t (λ q. ap σ q ∙ e))

      by_right : chosen p ≡ true → σ p ≡ true → Known h chosen σ Good right y → Known h chosen σ Good (resolvent h left right p) (operation p x y)
      by_right c e (inl good) = inl (keeps.at_true c e x y good)
      by_right c e (inr t) = inr (from_right t (λ q. ap not (ap σ q ∙ e)))

      by_both : chosen p ≡ false → Known h chosen σ Good left x → Known h chosen σ Good right y → Known h chosen σ Good (resolvent h left right p) (operation p x y)
      by_both c (inl good) (inl well) = inl (keeps.outside c x y good well)
      by_both c (inr t) k = inr (from_left t (λ q. absurd (true≢false (sym t.is_chosen ∙ ap chosen q ∙ c))))
      by_both c (inl good) (inr t) = inr (from_right t (λ q. absurd (true≢false (sym t.is_chosen ∙ ap chosen q ∙ c))))

      by_value : chosen p ≡ true → (b : Bool) → σ p ≡ b → Known h chosen σ Good (resolvent h left right p) (operation p x y)
      by_value c false e = by_left c e known-left
      by_value c true e = by_right c e known-right

      by_choice : (b : Bool) → chosen p ≡ b → Known h chosen σ Good (resolvent h left right p) (operation p x y)
      by_choice true c = by_value c (σ p) refl
      by_choice false c = by_both c known-left known-right

-- the induction. Inputs without a literal are passed over: no step uses them.
module _ {X : Type 0} (h : ℕ) (a b last : List ℕ) (step : ℕ → Step) (s : ℕ) (given : Derivation h a b last step s) (chosen σ : ℕ → Bool) (Good : X → Type 0)
    (operation : ℕ → X → X → X) (keeps : (p : ℕ) → Keeps chosen σ Good operation p) (value : ℕ → X)
    (follows : (i : ℕ) → i < s → value (inputs h a b + i) ≡ operation (step i).pivot (value (step i).left) (value (step i).right))
    (at-inputs : (k : ℕ) → k < inputs h a b → Holding h (clause_at h a b last k) → Known h chosen σ Good (clause_at h a b last k) (value k)) where
  pub follow : (k : ℕ) → k < inputs h a b + s → (inputs h a b ≤ k) ⊎ Holding h (clause_at h a b last k) → Known h chosen σ Good (clause_at h a b last k) (value k)
  follow = strong Claim next
    where
      Claim : ℕ → Type 0
      Claim k = k < inputs h a b + s → (inputs h a b ≤ k) ⊎ Holding h (clause_at h a b last k) → Known h chosen σ Good (clause_at h a b last k) (value k)

      input : (k : ℕ) → k < inputs h a b → Claim k
      input k l m (inl late) = absurd (omega arith)
      input k l m (inr holding) = at-inputs k l holding

      result : (i : ℕ) → ((m : ℕ) → m < inputs h a b + i → Claim m) → Claim (inputs h a b + i)
      result i earlier l live =
          let rule = given.by_rule i (omega arith) in
          let known-left = earlier (step i).left rule.left_earlier (omega (arith, rule.left_earlier)) (inr (record { sign = true; variable = (step i).pivot; held = rule.left_holds })) in
          let known-right = earlier (step i).right rule.right_earlier (omega (arith, rule.right_earlier)) (inr (record { sign = false; variable = (step i).pivot; held = rule.right_holds })) in
          rw (given.result i (omega arith), follows i (omega arith))
          (resolvent_known h chosen σ Good operation (step i).pivot (holds_bound h (clause_at h a b last (step i).left) true (step i).pivot rule.left_holds) (keeps (step i).pivot)
          (clause_at h a b last (step i).left) (clause_at h a b last (step i).right) (value (step i).left) (value (step i).right) known-left known-right)

      next : (k : ℕ) → ((m : ℕ) → m < k → Claim m) → Claim k
      next = in_parts (λ (k : ℕ). ((m : ℕ) → m < k → Claim m) → Claim k) (inputs h a b) (λ k l earlier. input k l) result

  -- an empty clause has a good value itself, where each empty input has
  pub empty_good : ((k : ℕ) → k < inputs h a b → empty (clause_at h a b last k) ≡ true → Good (value k))
      → (k : ℕ) → k < inputs h a b + s → empty (clause_at h a b last k) ≡ true → Good (value k)
  empty_good at-input = in_parts (λ (k : ℕ). k < inputs h a b + s → empty (clause_at h a b last k) ≡ true → Good (value k)) (inputs h a b) (λ k l m e. at-input k l e) result
    where
      none : (k : ℕ) → empty (clause_at h a b last k) ≡ true → Known h chosen σ Good (clause_at h a b last k) (value k) → Good (value k)
      none k e (inl good) = good
      none k e (inr t) = absurd (true≢false (sym t.held ∙ empty_holds h (clause_at h a b last k) (σ t.variable) t.variable e))

      result : (i : ℕ) → inputs h a b + i < inputs h a b + s → empty (clause_at h a b last (inputs h a b + i)) ≡ true → Good (value (inputs h a b + i))
      result i l e = none (inputs h a b + i) e (follow (inputs h a b + i) l (inl (omega arith)))

-- the operation on truth values that a rule of pivots gives
abbrev pub rule_operation : (ℕ → Rule) → (ℕ → Bool) → ℕ → Bool → Bool → Bool
rule_operation rule σ p x y = rule_value (rule p) (σ p) x y

-- true is kept where only pivots outside the set have AND
pub keeps_true : (rule : ℕ → Rule) (chosen σ : ℕ → Bool) → ((p : ℕ) → rule p ≡ One And → chosen p ≡ false) → (p : ℕ) → Keeps chosen σ (λ (x : Bool). x ≡ true) (rule_operation rule σ) p
keeps_true rule chosen σ outside-only p =
    record {
      at_false = λ c e x y good. rw (e, good) (left (rule p) y (λ q. true≢false (sym c ∙ outside-only p q)));
      at_true = λ c e x y good. rw (e, good) (right (rule p) x (λ q. true≢false (sym c ∙ outside-only p q)));
      outside = λ c x y good well. rw (good, well) (two (rule p) (σ p));
    }
  where
    left : (u : Rule) (y : Bool) → (u ≡ One And → ⊥) → rule_value u false true y ≡ true
    left (One Or) y n = refl
    left (One And) y n = absurd (n refl)
    left Both y n = refl

    right : (u : Rule) (x : Bool) → (u ≡ One And → ⊥) → rule_value u true x true ≡ true
    right (One Or) x n = or-true x
    right (One And) x n = absurd (n refl)
    right Both x n = refl

    two : (u : Rule) (x : Bool) → rule_value u x true true ≡ true
    two (One Or) x = refl
    two (One And) x = refl
    two Both true = refl
    two Both false = refl

-- false is kept where only pivots outside the set have OR
pub keeps_false : (rule : ℕ → Rule) (chosen σ : ℕ → Bool) → ((p : ℕ) → rule p ≡ One Or → chosen p ≡ false) → (p : ℕ) → Keeps chosen σ (λ (x : Bool). x ≡ false) (rule_operation rule σ) p
keeps_false rule chosen σ outside-only p =
    record {
      at_false = λ c e x y good. rw (e, good) (left (rule p) y (λ q. true≢false (sym c ∙ outside-only p q)));
      at_true = λ c e x y good. rw (e, good) (right (rule p) x (λ q. true≢false (sym c ∙ outside-only p q)));
      outside = λ c x y good well. rw (good, well) (two (rule p) (σ p));
    }
  where
    left : (u : Rule) (y : Bool) → (u ≡ One Or → ⊥) → rule_value u false false y ≡ false
    left (One Or) y n = absurd (n refl)
    left (One And) y n = refl
    left Both y n = refl

    right : (u : Rule) (x : Bool) → (u ≡ One Or → ⊥) → rule_value u true x false ≡ false
    right (One Or) x n = absurd (n refl)
    right (One And) x n = and-false x
    right Both x n = refl

    two : (u : Rule) (x : Bool) → rule_value u x false false ≡ false
    two (One Or) x = refl
    two (One And) x = refl
    two Both true = refl
    two Both false = refl

-- a clause of a satisfied table holds a true literal, of a variable that occurs in the table, and so is not empty
module _ (h : ℕ) (σ : ℕ → Bool) (t : List ℕ) (all : satisfies_all h σ t ≡ true) (r : ℕ) (l : r < records (2 * h) t) where
  pub satisfied_in : Satisfied h (occurs h t) σ (record_at (2 * h) t r)
  satisfied_in =
      let w = satisfies_which h σ (record_at (2 * h) t r) (satisfies_all_at h σ t r all l) in
      record { variable = w.0; held = w.1; is_chosen = occurs_here h t r (σ w.0) w.0 l w.1 }

  pub not_empty : empty (record_at (2 * h) t r) ≡ true → ⊥
  not_empty e = true≢false (sym (satisfies_all_at h σ t r all l) ∙ empty_unsatisfied h σ (record_at (2 * h) t r) e)

-- the rules of the symmetric system
pub symmetric_meet : (h : ℕ) (a b : List ℕ) (p : ℕ) → symmetric_rule h a b p ≡ One And → occurs h a p ≡ false
unfolding symmetric_rule
symmetric_meet h a b p = go (occurs h a p) (occurs h b p)
  where
    go : (x y : Bool) → symmetric x y ≡ One And → x ≡ false
    go false y e = refl
    go true true e = cc
    go true false e = cc

pub symmetric_join : (h : ℕ) (a b : List ℕ) (p : ℕ) → symmetric_rule h a b p ≡ One Or → occurs h b p ≡ false
unfolding symmetric_rule
symmetric_join h a b p = go (occurs h a p) (occurs h b p)
  where
    go : (x y : Bool) → symmetric x y ≡ One Or → y ≡ false
    go x false e = refl
    go true true e = cc
    go false true e = cc

-- the truth values of the symmetric system: "Clause of A: 0. Clause of B: 1", and those of the results by their steps' rules
pub record SymmetricValues (h : ℕ) (a b : List ℕ) (step : ℕ → Step) (s : ℕ) (σ : ℕ → Bool) (value : ℕ → Bool) : Type 0 where
  pub in_a : (k : ℕ) → k < records (2 * h) a → value k ≡ false
  pub in_b : (k : ℕ) → k < records (2 * h) b → value (records (2 * h) a + k) ≡ true
  pub of_steps : (i : ℕ) → i < s → value (inputs h a b + i) ≡ rule_operation (symmetric_rule h a b) σ (step i).pivot (value (step i).left) (value (step i).right)

-- what holds of the clauses of A and of B holds of the inputs
pub by_inputs : (h : ℕ) (a b last : List ℕ) (P : List ℕ → ℕ → Type 0) → ((k : ℕ) → k < records (2 * h) a → P (record_at (2 * h) a k) k)
    → ((k : ℕ) → k < records (2 * h) b → P (record_at (2 * h) b k) (records (2 * h) a + k)) → (k : ℕ) → k < inputs h a b → P (clause_at h a b last k) k
by_inputs h a b last P of_a of_b =
    in_parts (λ (k : ℕ). k < inputs h a b → P (clause_at h a b last k) k) (records (2 * h) a)
    (λ k l m. rw (clause_a h a b last k l) (of_a k l))
    (λ k m. let l : k < records (2 * h) b = omega arith in rw (clause_b h a b last k l) (of_b k l))

-- at an empty clause the value is true where A is satisfied, and false where B is
module _ (h : ℕ) (a b last : List ℕ) (step : ℕ → Step) (s : ℕ) (given : Derivation h a b last step s) (σ : ℕ → Bool) (value : ℕ → Bool) (values : SymmetricValues h a b step s σ value) where
  pub true_by_a : satisfies_all h σ a ≡ true → (k : ℕ) → k < inputs h a b + s → empty (clause_at h a b last k) ≡ true → value k ≡ true
  true_by_a all =
      empty_good h a b last step s given (occurs h a) σ (λ (x : Bool). x ≡ true) (rule_operation (symmetric_rule h a b) σ)
      (keeps_true (symmetric_rule h a b) (occurs h a) σ (symmetric_meet h a b)) value values.of_steps
      (by_inputs h a b last (λ (c : List ℕ) (k : ℕ). Holding h c → Known h (occurs h a) σ (λ (x : Bool). x ≡ true) c (value k))
      (λ k l holding. inr (satisfied_in h σ a all k l)) (λ k l holding. inl (values.in_b k l)))
      (by_inputs h a b last (λ (c : List ℕ) (k : ℕ). empty c ≡ true → value k ≡ true) (λ k l e. absurd (not_empty h σ a all k l e)) (λ k l e. values.in_b k l))

  pub false_by_b : satisfies_all h σ b ≡ true → (k : ℕ) → k < inputs h a b + s → empty (clause_at h a b last k) ≡ true → value k ≡ false
  false_by_b all =
      empty_good h a b last step s given (occurs h b) σ (λ (x : Bool). x ≡ false) (rule_operation (symmetric_rule h a b) σ)
      (keeps_false (symmetric_rule h a b) (occurs h b) σ (symmetric_join h a b)) value values.of_steps
      (by_inputs h a b last (λ (c : List ℕ) (k : ℕ). Holding h c → Known h (occurs h b) σ (λ (x : Bool). x ≡ false) c (value k))
      (λ k l holding. inl (values.in_a k l)) (λ k l holding. inr (satisfied_in h σ b all k l)))
      (by_inputs h a b last (λ (c : List ℕ) (k : ℕ). empty c ≡ true → value k ≡ false) (λ k l e. values.in_a k l) (λ k l e. absurd (not_empty h σ b all k l e)))
