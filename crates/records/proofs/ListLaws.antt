-- The laws of lists made of a rule, and of searches.
use Prim.Native.Nat.{ℕ, zero, suc, ◌+◌, ◌-◌, ◌≤◌, ◌<◌}
use mathlib.Core.Path.{◌≡◌, refl, sym, ap, ap₂, ◌∙◌, subst}
use mathlib.Core.List.{List, [], ◌∷◌, ◌++◌}
use mathlib.Core.Bool.{Bool, true, false, ◌&&◌, ◌||◌, cond, true≢false, or-true, or-false, or_assoc, and-true, and_assoc}
use native.Mathlib.Nat.{zero-add}
use native.Mathlib.Numerals.{add-one}
use native.Mathlib.Decide.{dec_lt}
use native.Mathlib.Omega.{arith}
use borrow.Author.Tests.{lt-ltb, le-ltb, ltb-true, ltb-false}
use lib.Dec.{ltb}
use lib.ListN.{length, get_or}
use Rattle.std.proofs.Common.{Some, None}
use Rattle.records.specs.Lists.{tabulate, first, found, some, every}

-- tabulate
pub length_tabulate : {A : Type 0} (n : ℕ) (f : ℕ → A) → length (tabulate n f) ≡ n
unfolding tabulate
length_tabulate zero f = refl
length_tabulate (suc n) f = ap suc (length_tabulate n (λ i. f (suc i)))

pub tabulate_none : {A : Type 0} (f : ℕ → A) → tabulate 0 f ≡ []
unfolding tabulate
tabulate_none f = refl

pub get_d_tabulate : {A : Type 0} (n : ℕ) (f : ℕ → A) (d : A) (i : ℕ) → i < n → get_or (tabulate n f) i d ≡ f i
unfolding tabulate
get_d_tabulate zero f d i h = absurd (omega arith)
get_d_tabulate (suc n) f d zero h = refl
get_d_tabulate (suc n) f d (suc i) h = get_d_tabulate n (λ i. f (suc i)) d i (omega arith)

-- a list is made of its members, and a rule has one member more at the end
pub tabulate_members : {A : Type 0} (xs : List A) (f : ℕ → A) (d : A) → ((k : ℕ) → k < length xs → f k ≡ get_or xs k d) → tabulate (length xs) f ≡ xs
unfolding tabulate
tabulate_members [] f d same = refl
tabulate_members (x ∷ xs) f d same =
    ap₂ (λ y ys. y ∷ ys) (same zero (omega arith)) (tabulate_members xs (λ i. f (suc i)) d (λ k l. same (suc k) (omega arith)))

pub tabulate_snoc : {A : Type 0} (n : ℕ) (f : ℕ → A) → tabulate (suc n) f ≡ tabulate n f ++ (f n ∷ [])
unfolding tabulate
tabulate_snoc zero f = refl
tabulate_snoc (suc n) f = ap (λ ys. f 0 ∷ ys) (tabulate_snoc n (λ i. f (suc i)))

-- first: the one that has all before it false, and is true itself where it is below n
pub first_is : (p : ℕ → Bool) (n r : ℕ) → r ≤ n → ((k : ℕ) → k < r → p k ≡ false) → (r < n → p r ≡ true) → r ≡ first p n
unfolding first
first_is p zero r h b f = omega arith
first_is p (suc n) zero h b f = rw (f (omega arith)) refl
first_is p (suc n) (suc r) h b f =
    rw (b 0 (omega arith)) (ap suc (first_is (λ i. p (suc i)) n r (omega arith) (λ k l. b (suc k) (omega arith)) (λ l. f (omega arith))))

picked_le : (b : Bool) (f n : ℕ) → f ≤ n → cond b zero (suc f) ≤ suc n
picked_le true f n l = omega arith
picked_le false f n l = omega arith

pub first_le : (p : ℕ → Bool) (n : ℕ) → first p n ≤ n
unfolding first
first_le p zero = omega arith
first_le p (suc n) = picked_le (p zero) (first (λ i. p (suc i)) n) n (first_le (λ i. p (suc i)) n)

picked_holds : (p : ℕ → Bool) (b : Bool) (f n : ℕ) → p zero ≡ b → (f < n → p (suc f) ≡ true) → cond b zero (suc f) < suc n → p (cond b zero (suc f)) ≡ true
picked_holds p true f n e ih h = e
picked_holds p false f n e ih h = ih (omega arith)

pub first_holds : (p : ℕ → Bool) (n : ℕ) → first p n < n → p (first p n) ≡ true
unfolding first
first_holds p zero h = absurd (omega arith)
first_holds p (suc n) h = picked_holds p (p zero) (first (λ i. p (suc i)) n) n refl (first_holds (λ i. p (suc i)) n) h

picked_before : (p : ℕ → Bool) (b : Bool) (f k : ℕ) → p zero ≡ b → ((j : ℕ) → j < f → p (suc j) ≡ false) → k < cond b zero (suc f) → p k ≡ false
picked_before p true f k e ih h = absurd (omega arith)
picked_before p false f zero e ih h = e
picked_before p false f (suc k) e ih h = ih k (omega arith)

pub first_before : (p : ℕ → Bool) (n k : ℕ) → k < first p n → p k ≡ false
unfolding first
first_before p zero k h = absurd (omega arith)
first_before p (suc n) k h = picked_before p (p zero) (first (λ i. p (suc i)) n) k refl (first_before (λ i. p (suc i)) n) h

-- where p is true of a number below n, the first such is below n too
pub first_found : (p : ℕ → Bool) (n k : ℕ) → k < n → p k ≡ true → first p n < n
first_found p n k l t = go (dec_lt (first p n) n)
  where
    go : Dec (first p n < n) → first p n < n
    go (yes h) = h
    go (no h) = absurd (true≢false (sym t ∙ first_before p n k (omega arith)))

-- the first of m + n numbers is the first of the m, or else the first of the n after them
pub first_in : (p : ℕ → Bool) (m n r : ℕ) → r ≡ first p m → r < m → r ≡ first p (m + n)
first_in p m n r e h =
    let l : first p m < m = omega arith in
    e ∙ first_is p (m + n) (first p m) (omega arith) (first_before p m) (λ _. first_holds p m l)

pub first_past : (p : ℕ → Bool) (m n r : ℕ) → m ≤ first p m → r ≡ first (λ i. p (m + i)) n → m + r ≡ first p (m + n)
first_past p m n r h e =
    ap (λ (x : ℕ). m + x) e
    ∙ first_is p (m + n) (m + first (λ i. p (m + i)) n) (omega (arith, first_le (λ i. p (m + i)) n)) (λ k a. each k a (dec_lt k m))
    (λ a. first_holds (λ i. p (m + i)) n (omega arith))
  where
    each : (k : ℕ) → k < m + first (λ i. p (m + i)) n → Dec (k < m) → p k ≡ false
    each k l (yes a) = first_before p m k (omega arith)
    each k l (no a) =
        let q : m + (k - m) ≡ k = omega arith in
        subst (λ (x : ℕ). p x ≡ false) q (first_before (λ i. p (m + i)) n (k - m) (omega arith))

-- tests that agree below n have the same first
pub first_same : (p q : ℕ → Bool) (n : ℕ) → ((k : ℕ) → k < n → p k ≡ q k) → first p n ≡ first q n
first_same p q n e =
    first_is q n (first p n) (first_le p n) (λ k l. sym (e k (omega (arith, first_le p n))) ∙ first_before p n k l)
    (λ l. sym (e (first p n) l) ∙ first_holds p n l)

-- a search's answer, by the number that is found
pub found_at : (n k r : ℕ) → r ≡ k → r < n → Some r ≡ found n k
found_at n k r e l = rw (← e, lt-ltb r n l) refl

pub found_not : (n k : ℕ) → n ≤ k → None ≡ found n k
found_not n k l = rw (le-ltb k n l) refl

-- and the other way round
pub found_some : (n k r : ℕ) → Some r ≡ found n k → (r ≡ k) × (k < n)
found_some n k r e = go (ltb k n) refl e
  where
    go : (b : Bool) → ltb k n ≡ b → Some r ≡ cond b (Some k) None → (r ≡ k) × (k < n)
    go true q f = (cc, ltb-true k n q)
    go false q f = cc

pub found_none : (n k : ℕ) → None ≡ found n k → n ≤ k
found_none n k e = go (ltb k n) refl e
  where
    go : (b : Bool) → ltb k n ≡ b → None ≡ cond b (Some k) None → n ≤ k
    go true q f = cc
    go false q f = ltb-false k n q

-- some and every, by the numbers of a list that a rule makes
pub some_here : {A : Type 0} (p : A → Bool) (n : ℕ) (f : ℕ → A) (k : ℕ) → k < n → p (f k) ≡ true → some p (tabulate n f) ≡ true
unfolding some tabulate
some_here p zero f k l t = absurd (omega arith)
some_here p (suc n) f zero l t = rw t refl
some_here p (suc n) f (suc k) l t = rw (some_here p n (λ i. f (suc i)) k (omega arith) t) (or-true (p (f 0)))

pub some_where : {A : Type 0} (p : A → Bool) (n : ℕ) (f : ℕ → A) → some p (tabulate n f) ≡ true → (k : ℕ) × (k < n) × (p (f k) ≡ true)
unfolding some tabulate
some_where p zero f e = absurd (true≢false (sym e))
some_where p (suc n) f e = go (p (f 0)) refl e (some_where p n (λ i. f (suc i)))
  where
    go : (b : Bool) → p (f 0) ≡ b → (b || some p (tabulate n (λ i. f (suc i)))) ≡ true
        → (some p (tabulate n (λ i. f (suc i))) ≡ true → (k : ℕ) × (k < n) × (p (f (suc k)) ≡ true)) → (k : ℕ) × (k < suc n) × (p (f k) ≡ true)
    go true q h rec = (0, omega arith, q)
    go false q h rec = let t = rec h in (suc t.0, omega (arith, t.1), t.2)

pub every_at : {A : Type 0} (p : A → Bool) (n : ℕ) (f : ℕ → A) → every p (tabulate n f) ≡ true → (k : ℕ) → k < n → p (f k) ≡ true
unfolding every tabulate
every_at p zero f e k l = absurd (omega arith)
every_at p (suc n) f e k l = go (p (f 0)) refl e k l (every_at p n (λ i. f (suc i)))
  where
    go : (b : Bool) → p (f 0) ≡ b → (b && every p (tabulate n (λ i. f (suc i)))) ≡ true → (k : ℕ) → k < suc n
        → (every p (tabulate n (λ i. f (suc i))) ≡ true → (k : ℕ) → k < n → p (f (suc k)) ≡ true) → p (f k) ≡ true
    go true q h zero m rec = q
    go true q h (suc k) m rec = rec h k (omega arith)
    go false q h k m rec = absurd (true≢false (sym h))

-- a test of each member of a list and its place, counted from i, so that the list is computed once
pub and_both : (x y : Bool) → (x && y) ≡ true → (x ≡ true) × (y ≡ true)
and_both true y e = (refl, e)
and_both false y e = absurd (true≢false (sym e))

abbrev pub holds_from : {A : Type 0} → (ℕ → A → Bool) → ℕ → List A → Bool
holds_from p i [] = true
holds_from p i (x ∷ xs) = p i x && holds_from p (suc i) xs

holds_at : {A : Type 0} (p : ℕ → A → Bool) (d : A) (xs : List A) (i : ℕ) → holds_from p i xs ≡ true → (k : ℕ) → k < length xs → p (i + k) (get_or xs k d) ≡ true
holds_at p d [] i e k l = absurd (omega arith)
holds_at p d (x ∷ xs) i e zero l =
    let here : i ≡ i + zero = omega arith in
    subst (λ (j : ℕ). p j x ≡ true) here (and_both (p i x) (holds_from p (suc i) xs) e).0
holds_at p d (x ∷ xs) i e (suc k) l =
    let there : suc i + k ≡ i + suc k = omega arith in
    subst (λ (j : ℕ). p j (get_or xs k d) ≡ true) there (holds_at p d xs (suc i) (and_both (p i x) (holds_from p (suc i) xs) e).1 k (omega arith))

pub holds_all : {A : Type 0} (p : ℕ → A → Bool) (d : A) (xs : List A) → holds_from p 0 xs ≡ true → (k : ℕ) → k < length xs → p k (get_or xs k d) ≡ true
holds_all p d xs e k l = subst (λ (j : ℕ). p j (get_or xs k d) ≡ true) (zero-add k) (holds_at p d xs 0 e k l)

-- one member more
pub some_snoc : {A : Type 0} (p : A → Bool) (n : ℕ) (f : ℕ → A) → some p (tabulate (n + 1) f) ≡ (some p (tabulate n f) || p (f n))
unfolding some tabulate
some_snoc p n f = ap (λ (m : ℕ). some p (tabulate m f)) (add-one n) ∙ go p n f
  where
    go : {A : Type 0} (p : A → Bool) (n : ℕ) (f : ℕ → A) → some p (tabulate (suc n) f) ≡ (some p (tabulate n f) || p (f n))
    go p zero f = or-false (p (f 0))
    go p (suc n) f = ap (λ (b : Bool). p (f 0) || b) (go p n (λ i. f (suc i))) ∙ sym (or_assoc (p (f 0)) (some p (tabulate n (λ i. f (suc i)))) (p (f (suc n))))

pub every_snoc : {A : Type 0} (p : A → Bool) (xs : List A) (x : A) → every p (xs ++ (x ∷ [])) ≡ (every p xs && p x)
unfolding every
every_snoc p [] x = and-true (p x)
every_snoc p (y ∷ ys) x = ap (λ (b : Bool). p y && b) (every_snoc p ys x) ∙ sym (and_assoc (p y) (every p ys) (p x))

-- two tests that are true together are equal
pub by_truth : (x y : Bool) → (x ≡ true → y ≡ true) → (y ≡ true → x ≡ true) → x ≡ y
by_truth true y f g = sym (f refl)
by_truth false true f g = g refl
by_truth false false f g = refl
