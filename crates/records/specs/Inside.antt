-- What the private pieces ask and promise. No public contract speaks of these.
use Rattle.std.specs.Prelude.{ℕ, ◌+◌, ◌-◌, ◌*◌, ◌/◌, ◌%◌, ◌≤◌, ◌<◌, ◌≡◌, true, false, not, cond, Result, Ok, Err, List, eqb, length, get_or}
use Rattle.std.specs.Int.Bits.{bit_and, bit_or}
use Rattle.records.specs.declared.steps.Step.{Step}
use Rattle.records.specs.declared.refusals.StepFault.{StepFault}
use Rattle.records.specs.Bits.{number_of}
use Rattle.records.specs.Lists.{tabulate}
use Rattle.records.specs.Clause.{holds, resolvent}
use Rattle.records.specs.Tests.{first_failed, step_tests}
use Rattle.records.specs.Refusal.{fault_number}
use Rattle.records.specs.Derivation.{inputs, clause_at, stored}

-- the byte that has every bit but k
unfoldable pub all_but : ℕ → ℕ
all_but k = number_of 8 (λ j. not (eqb j k))

-- "masks remove the pivot's literals and join two clauses, byte by byte, in both halves of a record": the mask of byte i that takes literal x out
unfoldable pub mask_without : ℕ → ℕ → ℕ
mask_without x i = cond (eqb i (x / 8)) (all_but (x % 8)) 255

-- the masks of all literals of a half in one strip of 9h bytes: from byte h * k on, byte h - 1 has every bit but k, and all others have all bits. A
-- window of h bytes that starts up to h - 1 before that byte is the mask of one literal
pub record Masks (h : ℕ) (masks : List ℕ) : Type 0 where
  pub size : length masks ≡ 9 * h
  pub byte : (k x : ℕ) → k < 8 → x < 2 * h - 1 → get_or masks (h * k + x) 0 ≡ cond (eqb x (h - 1)) (all_but k) 255

-- where the mask starts that takes literal x out
unfoldable pub mask_start : ℕ → ℕ → ℕ
mask_start h x = h * (x % 8) + (h - 1 - x / 8)

-- byte i of the positive half: left without the pivot's literal, joined with right; of the negative half, the other way round
unfoldable pub positive_byte : List ℕ → List ℕ → ℕ → ℕ → ℕ
positive_byte left right pivot i = bit_or (bit_and (get_or left i 0) (mask_without pivot i)) (get_or right i 0)

unfoldable pub negative_byte : ℕ → List ℕ → List ℕ → ℕ → ℕ → ℕ
negative_byte h left right pivot i = bit_or (get_or left (h + i) 0) (bit_and (get_or right (h + i) 0) (mask_without pivot i))

-- the literals of two records together, byte by byte
unfoldable pub joined : List ℕ → List ℕ → List ℕ
joined from to = tabulate (length to) (λ i. bit_or (get_or to i 0) (get_or from i 0))

-- the sizes that tests 1 to 5 leave, with n results
pub record Sized (h : ℕ) (a b work : List ℕ) (n : ℕ) : Type 0 where
  pub half_least : 0 < h
  pub half_most : h ≤ 64
  pub few : inputs h a b + n ≤ 1024
  pub room : 2 * h * n ≤ length work

-- the number of a fault, or 0 where there is none
abbrev pub faulted : Result (Unit {0}) StepFault → ℕ
faulted (Ok x) = 0
faulted (Err fault) = fault_number fault

-- r is the number of the test that step s fails, 7 or 8, whatever the clauses are; or 0 where it fails neither
pub record OrderTested (s : Step) (own r : ℕ) : Type 0 where
  pub bad : (r ≡ 0 → ⊥) → (h : ℕ) (clause : ℕ → List ℕ) (i : ℕ) → r ≡ (first_failed (step_tests h clause own i s)).number
  pub zeros : r ≡ 0 → s.spare ≡ true
  pub left_earlier : r ≡ 0 → s.left < own
  pub right_earlier : r ≡ 0 → s.right < own

-- 9, 10 or 0
unfoldable pub pivot_number : ℕ → List ℕ → List ℕ → ℕ → ℕ
pivot_number h left right pivot = cond (holds h left true pivot) (cond (holds h right false pivot) 0 10) 9

-- r is that number, and the part afterwards is the resolvent, or is as it was where r is a refusal
pub record PivotTaken (h : ℕ) (left right : List ℕ) (pivot : ℕ) (part last : List ℕ) (r : ℕ) : Type 0 where
  pub number : r ≡ pivot_number h left right pivot
  pub good : r ≡ 0 → last ≡ resolvent h left right pivot
  pub bad : (r ≡ 0 → ⊥) → last ≡ part

-- r is the number of the first test of step i that fails, or 0, and the work table afterwards has the step's resolvent, or is as it was where the step is refused
pub record StepTaken (h : ℕ) (a b : List ℕ) (s : Step) (i : ℕ) (work last : List ℕ) (r : ℕ) : Type 0 where
  pub number : r ≡ (first_failed (step_tests h (clause_at h a b work) (inputs h a b + i) i s)).number
  pub good : r ≡ 0 → last ≡ stored h a b s i work
  pub bad : (r ≡ 0 → ⊥) → last ≡ work
