-- The laws of ordered tests: the first that fails answers, and where none is refused all passed.
use Prim.Native.Nat.{ℕ, ◌*◌, ◌%◌, ◌≤◌, ◌<◌}
use mathlib.Core.Path.{◌≡◌, refl, ap}
use mathlib.Core.Bool.{Bool, true, false, not, cond, true≢false, and-false}
use mathlib.Core.List.{List, [], ◌∷◌, ◌++◌}
use native.Mathlib.Omega.{arith}
use borrow.Author.Tests.{eq-eqb, ne_eqb, eqb-true, lt-ltb, le-ltb, le-leb, leb-true}
use lib.ListN.{length}
use lib.Dec.{eqb, ltb}
use Rattle.records.specs.declared.steps.Step.{Step}
use Rattle.records.specs.Clause.{holds}
use Rattle.records.specs.Step.{step_count}
use Rattle.records.specs.Derivation.{clause_count, Sizes}
use Rattle.records.specs.Tests.{Verdict, Test, test, first_failed, refused, table_tests, room_tests, step_tests, root_tests}

-- every test of the list passed
abbrev pub Passed : List Test → Type 0
Passed [] = Unit {0}
Passed (t ∷ ts) = (t.passed ≡ true) × Passed ts

-- each refusal has a number above 0
abbrev pub Numbered : List Test → Type 0
Numbered [] = Unit {0}
Numbered (t ∷ ts) = (0 < t.number) × Numbered ts

-- each refusal has the place p
abbrev pub Placed : ℕ → List Test → Type 0
Placed p [] = Unit {0}
Placed p (t ∷ ts) = (t.place ≡ p) × Placed p ts

pub passed_none : (ts : List Test) → Passed ts → first_failed ts ≡ first_failed []
unfolding first_failed
passed_none [] all = refl
passed_none (t ∷ ts) all = rw all.0 (passed_none ts all.1)

pub none_passed : (ts : List Test) → Numbered ts → (first_failed ts).number ≡ 0 → Passed ts
unfolding first_failed
none_passed [] n e = tt
none_passed (t ∷ ts) n e = go (none_passed ts n.1) t.passed refl e
  where
    go : ((first_failed ts).number ≡ 0 → Passed ts) → (b : Bool) → t.passed ≡ b
        → (cond b (first_failed ts) (record { number = t.number; place = t.place })).number ≡ 0 → (t.passed ≡ true) × Passed ts
    go rec true q f = (q, rec f)
    go rec false q f = absurd (omega (arith, n.0))

pub refused_place : (p : ℕ) (ts : List Test) → Placed p ts → ((first_failed ts).number ≡ 0 → ⊥) → (first_failed ts).place ≡ p
unfolding first_failed
refused_place p [] n f = absurd (f refl)
refused_place p (t ∷ ts) n f = go (refused_place p ts n.1) t.passed refl f
  where
    go : (((first_failed ts).number ≡ 0 → ⊥) → (first_failed ts).place ≡ p) → (b : Bool) → t.passed ≡ b
        → ((cond b (first_failed ts) (record { number = t.number; place = t.place })).number ≡ 0 → ⊥)
        → (cond b (first_failed ts) (record { number = t.number; place = t.place })).place ≡ p
    go rec true q g = rec g
    go rec false q g = n.0

-- the first test decides: it fails, or it passes and the others decide
pub fails : (b : Bool) (n p : ℕ) (ts : List Test) → b ≡ false → first_failed (test b n p ∷ ts) ≡ record { number = n; place = p }
unfolding first_failed
fails b n p ts e = rw e refl

pub passes : (b : Bool) (n p : ℕ) (ts : List Test) → b ≡ true → first_failed (test b n p ∷ ts) ≡ first_failed ts
unfolding first_failed
passes b n p ts e = rw e refl

-- refused or not, by the number
pub refused_not : (v : Verdict) → v.number ≡ 0 → refused v ≡ false
refused_not v e = ap not (eq-eqb v.number 0 e)

pub refused_is : (v : Verdict) → (v.number ≡ 0 → ⊥) → refused v ≡ true
refused_is v n = ap not (ne_eqb v.number 0 n)

pub not_refused : (v : Verdict) → refused v ≡ false → v.number ≡ 0
not_refused v e = go (eqb v.number 0) refl e
  where
    go : (b : Bool) → eqb v.number 0 ≡ b → not b ≡ false → v.number ≡ 0
    go true q f = eqb-true v.number 0 q
    go false q f = absurd (true≢false f)

-- the numbers of each list, and the place of a step's tests
pub tables_numbered : (h most : ℕ) (a b steps : List ℕ) → Numbered (table_tests h most a b steps)
unfolding table_tests
tables_numbered h most a b steps = (omega arith, (omega arith, (omega arith, (omega arith, tt))))

pub room_numbered : (h : ℕ) (steps work : List ℕ) → Numbered (room_tests h steps work)
unfolding room_tests
room_numbered h steps work = (omega arith, tt)

pub step_numbered : (h : ℕ) (clause : ℕ → List ℕ) (own i : ℕ) (s : Step) → Numbered (step_tests h clause own i s)
unfolding step_tests
step_numbered h clause own i s = (omega arith, (omega arith, (omega arith, (omega arith, tt))))

pub step_placed : (h : ℕ) (clause : ℕ → List ℕ) (own i : ℕ) (s : Step) → Placed i (step_tests h clause own i s)
unfolding step_tests
step_placed h clause own i s = (refl, (refl, (refl, (refl, tt))))

pub root_numbered : (root n : ℕ) → Numbered (root_tests root n)
unfolding root_tests
root_numbered root n = (omega arith, tt)

-- no test, and two lists of tests, one after the other
pub no_test : first_failed [] ≡ record { number = 0; place = 0 }
unfolding first_failed
no_test = refl

pub passed_append : (ts us : List Test) → Passed ts → Passed us → Passed (ts ++ us)
passed_append [] us p q = q
passed_append (t ∷ ts) us p q = (p.0, passed_append ts us p.1 q)

pub append_passed : (ts us : List Test) → Passed (ts ++ us) → Passed ts × Passed us
append_passed [] us p = (tt, p)
append_passed (t ∷ ts) us p = let rest = append_passed ts us p.1 in ((p.0, rest.0), rest.1)

pub numbered_append : (ts us : List Test) → Numbered ts → Numbered us → Numbered (ts ++ us)
numbered_append [] us n m = m
numbered_append (t ∷ ts) us n m = (n.0, numbered_append ts us n.1 m)

pub after_passed : (ts us : List Test) → Passed ts → first_failed (ts ++ us) ≡ first_failed us
unfolding first_failed
after_passed [] us p = refl
after_passed (t ∷ ts) us p = rw p.0 (after_passed ts us p.1)

pub after_refused : (ts us : List Test) → ((first_failed ts).number ≡ 0 → ⊥) → first_failed (ts ++ us) ≡ first_failed ts
unfolding first_failed
after_refused [] us n = absurd (n refl)
after_refused (t ∷ ts) us n = go t.passed (after_refused ts us) n
  where
    go : (b : Bool) → (((first_failed ts).number ≡ 0 → ⊥) → first_failed (ts ++ us) ≡ first_failed ts)
        → ((cond b (first_failed ts) (record { number = t.number; place = t.place })).number ≡ 0 → ⊥)
        → cond b (first_failed (ts ++ us)) (record { number = t.number; place = t.place }) ≡ cond b (first_failed ts) (record { number = t.number; place = t.place })
    go true rest m = rest m
    go false rest m = refl

-- the limits pass tests 1 to 5, and only they
pub sizes_pass : (h most : ℕ) (a b steps work : List ℕ) → Sizes h most a b steps work → Passed (table_tests h most a b steps) × Passed (room_tests h steps work)
unfolding table_tests room_tests
sizes_pass h most a b steps work sizes = (
  (eq-eqb (length a % (2 * h)) 0 sizes.a_whole, (eq-eqb (length b % (2 * h)) 0 sizes.b_whole, (eq-eqb (length steps % 8) 0 sizes.steps_whole, (le-leb (clause_count h a b steps) most sizes.few, tt)))),
  (le-leb (2 * h * step_count steps) (length work) sizes.room, tt),
)

pub pass_sizes : (h most : ℕ) (a b steps work : List ℕ) → Passed (table_tests h most a b steps) → Passed (room_tests h steps work) → Sizes h most a b steps work
unfolding table_tests room_tests
pass_sizes h most a b steps work tables room =
    record {
      a_whole = eqb-true (length a % (2 * h)) 0 tables.0;
      b_whole = eqb-true (length b % (2 * h)) 0 tables.1.0;
      steps_whole = eqb-true (length steps % 8) 0 tables.1.1.0;
      few = leb-true (clause_count h a b steps) most tables.1.1.1.0;
      room = leb-true (2 * h * step_count steps) (length work) room.0;
    }

-- which test of a step fails first
module _ (h : ℕ) (clause : ℕ → List ℕ) (own i : ℕ) (s : Step) where
  pub spare_fails : s.spare ≡ false → (first_failed (step_tests h clause own i s)).number ≡ 7
  unfolding step_tests first_failed
  spare_fails e = rw e refl

  module _ (spare : s.spare ≡ true) where
    pub left_late : own ≤ s.left → (first_failed (step_tests h clause own i s)).number ≡ 8
    unfolding step_tests first_failed
    left_late l = rw (spare, le-ltb s.left own l) refl

    pub right_late : own ≤ s.right → (first_failed (step_tests h clause own i s)).number ≡ 8
    unfolding step_tests first_failed
    right_late l = rw (spare, le-ltb s.right own l, and-false (ltb s.left own)) refl

    module _ (left-early : s.left < own) (right-early : s.right < own) where
      pub left_lacks : holds h (clause s.left) true s.pivot ≡ false → (first_failed (step_tests h clause own i s)).number ≡ 9
      unfolding step_tests first_failed
      left_lacks e = rw (spare, lt-ltb s.left own left-early, lt-ltb s.right own right-early, e) refl

      module _ (left-has : holds h (clause s.left) true s.pivot ≡ true) where
        pub right_lacks : holds h (clause s.right) false s.pivot ≡ false → (first_failed (step_tests h clause own i s)).number ≡ 10
        unfolding step_tests first_failed
        right_lacks e = rw (spare, lt-ltb s.left own left-early, lt-ltb s.right own right-early, left-has, e) refl

        pub none_fails : holds h (clause s.right) false s.pivot ≡ true → (first_failed (step_tests h clause own i s)).number ≡ 0
        unfolding step_tests first_failed
        none_fails e = rw (spare, lt-ltb s.left own left-early, lt-ltb s.right own right-early, left-has, e) refl
