-- The laws of what clauses say: which literal satisfies a clause, and that resolution is sound.
use Prim.Native.Nat.{ℕ, ◌*◌, ◌<◌}
use mathlib.Core.Path.{◌≡◌, refl, sym, ap, ◌∙◌}
use mathlib.Core.Bool.{Bool, true, false, not, ◌&&◌, ◌||◌, and-false, or-true, false≢true, not-eq-not}
use mathlib.Core.List.{List}
use borrow.Author.Tests.{eqb-true}
use lib.Dec.{eqb, ltb}
use Rattle.records.specs.Clause.{literal, holds, resolvent, empty}
use Rattle.records.specs.Table.{record_at, records}
use Rattle.records.specs.Meaning.{satisfies, satisfies_all}
use Rattle.records.proofs.ListLaws.{some_here, some_where}
use Rattle.records.proofs.ClauseLaws.{empty_has, holds_bound, holds_resolvent}
use Rattle.records.proofs.TableLaws.{every_clause}

-- the empty clause holds no literal
pub empty_holds : (h : ℕ) (c : List ℕ) (sign : Bool) (v : ℕ) → empty c ≡ true → holds h c sign v ≡ false
unfolding holds
empty_holds h c sign v e = rw (empty_has c e (literal h sign v)) (and-false (ltb v (8 * h)))

module _ (h : ℕ) (σ : ℕ → Bool) where
  -- a clause is satisfied by a literal of it that the assignment makes true, and there is one where it is satisfied
  pub satisfies_by : (c : List ℕ) (sign : Bool) (v : ℕ) → holds h c sign v ≡ true → σ v ≡ sign → satisfies h σ c ≡ true
  unfolding satisfies
  satisfies_by c sign v e t = some_here (λ v. holds h c (σ v) v) (8 * h) (λ v. v) v (holds_bound h c sign v e) (rw t e)

  pub satisfies_which : (c : List ℕ) → satisfies h σ c ≡ true → (v : ℕ) × (holds h c (σ v) v ≡ true)
  unfolding satisfies
  satisfies_which c e = let w = some_where (λ v. holds h c (σ v) v) (8 * h) (λ v. v) e in (w.0, w.2)

  pub empty_unsatisfied : (c : List ℕ) → empty c ≡ true → satisfies h σ c ≡ false
  empty_unsatisfied c e = not-eq-not.0 (λ t. let w = satisfies_which c t in false≢true (sym (empty_holds h c (σ w.0) w.0 e) ∙ w.1))

  -- each clause of a satisfied table
  pub satisfies_all_at : (t : List ℕ) (r : ℕ) → satisfies_all h σ t ≡ true → r < records (2 * h) t → satisfies h σ (record_at (2 * h) t r) ≡ true
  unfolding satisfies_all
  satisfies_all_at t r e l = every_clause h t (satisfies h σ) e r l

  -- the rule is sound: the side whose pivot literal is false keeps the literal that satisfies it
  pub resolvent_satisfied : (left right : List ℕ) (p : ℕ) → p < 8 * h → satisfies h σ left ≡ true → satisfies h σ right ≡ true → satisfies h σ (resolvent h left right p) ≡ true
  resolvent_satisfied left right p small by_left by_right = go (σ p) refl
    where
      -- a literal with another truth value than the pivot's is not the pivot's
      other : (side : Bool) (v : ℕ) → (v ≡ p → side ≡ false) → (side && eqb v p) ≡ false
      other side v f = test (eqb v p) refl
        where
          test : (t : Bool) → eqb v p ≡ t → (side && t) ≡ false
          test true q = rw (f (eqb-true v p q)) refl
          test false q = and-false side

      kept : (v : ℕ) → (holds h left (σ v) v && not (σ v && eqb v p) || holds h right (σ v) v && not (not (σ v) && eqb v p)) ≡ true → satisfies h σ (resolvent h left right p) ≡ true
      kept v e = satisfies_by (resolvent h left right p) (σ v) v (holds_resolvent h left right p (σ v) v small ∙ e) refl

      go : (t : Bool) → σ p ≡ t → satisfies h σ (resolvent h left right p) ≡ true
      go true q =
          let w = satisfies_which right by_right in
          kept w.0 (rw (w.1, other (not (σ w.0)) w.0 (λ e. ap not (ap σ e ∙ q))) (or-true (holds h left (σ w.0) w.0 && not (σ w.0 && eqb w.0 p))))
      go false q =
          let w = satisfies_which left by_left in
          kept w.0 (rw (w.1, other (σ w.0) w.0 (λ e. ap σ e ∙ q)) refl)
