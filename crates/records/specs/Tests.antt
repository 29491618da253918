-- Document 01's table of numbers: each test with its number and its place, in the order in which they are tested.
use Rattle.std.specs.Prelude.{ℕ, ◌+◌, ◌*◌, ◌%◌, ◌≡◌, Bool, true, false, not, ◌&&◌, cond, List, [], ◌∷◌, length, eqb, leb, ltb}
use Rattle.records.specs.declared.steps.Step.{Step}
use Rattle.records.specs.Clause.{holds}
use Rattle.records.specs.Table.{records}
use Rattle.records.specs.Step.{step_count}

-- document 01's number and place: 0 and 0, or the root's clause number, where nothing is refused
pub record Verdict : Type 0 where
  pub number : ℕ
  pub place : ℕ

pub record Test : Type 0 where
  pub passed : Bool
  pub number : ℕ
  pub place : ℕ

abbrev pub test : Bool → ℕ → ℕ → Test
test passed number place = record { passed = passed; number = number; place = place }

-- the first test that fails gives number and place; 0 and 0 where none does
unfoldable pub first_failed : List Test → Verdict
first_failed [] = record { number = 0; place = 0 }
first_failed (t ∷ ts) = cond t.passed (first_failed ts) (record { number = t.number; place = t.place })

abbrev pub refused : Verdict → Bool
refused v = not (eqb v.number 0)

-- 1 to 4: the tables' lengths, and at most `most` clauses, results counted
unfoldable pub table_tests : ℕ → ℕ → List ℕ → List ℕ → List ℕ → List Test
table_tests h most a b steps =
    test (eqb (length a % (2 * h)) 0) 1 0
    ∷ (test (eqb (length b % (2 * h)) 0) 2 0
    ∷ (test (eqb (length steps % 8) 0) 3 0
    ∷ (test (leb (records (2 * h) a + records (2 * h) b + step_count steps) most) 4 0
    ∷ [])))

-- 5: the work table has room for every result
unfoldable pub room_tests : ℕ → List ℕ → List ℕ → List Test
room_tests h steps work = test (leb (2 * h * step_count steps) (length work)) 5 0 ∷ []

-- 7 to 10, of step s, whose number is i and whose own clause number is own, with the clauses by their numbers
unfoldable pub step_tests : ℕ → (ℕ → List ℕ) → ℕ → ℕ → Step → List Test
step_tests h clause own i s =
    test s.spare 7 i
    ∷ (test (ltb s.left own && ltb s.right own) 8 i
    ∷ (test (holds h (clause s.left) true s.pivot) 9 i
    ∷ (test (holds h (clause s.right) false s.pivot) 10 i
    ∷ [])))

-- 11: of n clauses one is empty, the root
unfoldable pub root_tests : ℕ → ℕ → List Test
root_tests root n = test (ltb root n) 11 0 ∷ []

-- r gives number and place of v
pub record Says (v r : Verdict) : Type 0 where
  pub number : r.number ≡ v.number
  pub place : r.place ≡ v.place
