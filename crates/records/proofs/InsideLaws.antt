-- The laws of what the private pieces promise.
use Prim.Native.Nat.{ℕ, ◌+◌, ◌*◌, ◌≤◌, ◌<◌}
use mathlib.Core.Path.{◌≡◌, refl, sym}
use mathlib.Core.Bool.{Bool, true, false, cond}
use mathlib.Core.List.{List}
use native.Mathlib.Omega.{arith}
use borrow.Author.Tests.{leb-true}
use lib.ListN.{length}
use Rattle.records.specs.declared.steps.Step.{Step}
use Rattle.records.specs.Clause.{holds}
use Rattle.records.specs.Step.{step_count}
use Rattle.records.specs.Tests.{first_failed, table_tests, room_tests, step_tests}
use Rattle.records.specs.Derivation.{inputs}
use Rattle.records.specs.Inside.{Sized, OrderTested, PivotTaken, pivot_number}
use Rattle.records.proofs.TestLaws.{none_passed, tables_numbered, room_numbered, left_lacks, right_lacks, none_fails}

-- tests 1 to 5 leave the sizes that the pieces ask for
pub sized_by : (h most : ℕ) (a b steps work : List ℕ) → 0 < h → h ≤ 64 → most ≤ 1024 → (first_failed (table_tests h most a b steps)).number ≡ 0
    → (first_failed (room_tests h steps work)).number ≡ 0 → Sized h a b work (step_count steps)
unfolding table_tests room_tests
sized_by h most a b steps work least small few tables room =
    let t = none_passed (table_tests h most a b steps) (tables_numbered h most a b steps) tables in
    let r = none_passed (room_tests h steps work) (room_numbered h steps work) room in
    let count = leb-true (inputs h a b + step_count steps) most t.1.1.1.0 in
    record {
      half_least = least;
      half_most = small;
      few = omega arith;
      room = leb-true (2 * h * step_count steps) (length work) r.0;
    }

-- a step refused by 7 or 8
pub order_refused : (s : Step) (own r : ℕ) → 0 < r
    → ((h : ℕ) (clause : ℕ → List ℕ) (i : ℕ) → (first_failed (step_tests h clause own i s)).number ≡ r) → OrderTested s own r
order_refused s own r l e =
    record {
      bad = λ n h clause i. sym (e h clause i);
      zeros = λ z. absurd (omega arith);
      left_earlier = λ z. absurd (omega arith);
      right_earlier = λ z. absurd (omega arith);
    }

-- a step that passes 7 and 8 has the number that its antecedents give
pub pivot_number_lem : (h : ℕ) (clause : ℕ → List ℕ) (own i : ℕ) (s : Step) → s.spare ≡ true → s.left < own → s.right < own
    → pivot_number h (clause s.left) (clause s.right) s.pivot ≡ (first_failed (step_tests h clause own i s)).number
unfolding pivot_number
pivot_number_lem h clause own i s zeros left_earlier right_earlier =
    go (holds h (clause s.left) true s.pivot) (holds h (clause s.right) false s.pivot) refl refl
  where
    go : (x y : Bool) → holds h (clause s.left) true s.pivot ≡ x → holds h (clause s.right) false s.pivot ≡ y
        → cond x (cond y 0 10) 9 ≡ (first_failed (step_tests h clause own i s)).number
    go false y e f = sym (left_lacks h clause own i s zeros left_earlier right_earlier e)
    go true false e f = sym (right_lacks h clause own i s zeros left_earlier right_earlier e f)
    go true true e f = sym (none_fails h clause own i s zeros left_earlier right_earlier e f)

-- a refusal by 9 or 10 leaves the part
pub pivot_refused : (h : ℕ) (left right : List ℕ) (p : ℕ) (part : List ℕ) (r : ℕ) → 0 < r → pivot_number h left right p ≡ r → PivotTaken h left right p part part r
pivot_refused h left right p part r l e = record { number = sym e; good = λ z. absurd (omega arith); bad = λ n. refl }
