-- "Step, 8 bytes. Bytes 0-1 the left antecedent, 2-3 the right antecedent, 4 the pivot variable, 5-7 zero."
-- Only this file knows the bytes: all others have left, right, pivot, and whether the spare bytes are zero.
use Rattle.std.specs.Prelude.{ℕ, ◌+◌, ◌*◌, ◌≡◌, ◌&&◌, List, get_or, eqb}
use Rattle.records.specs.declared.steps.Step.{Step}
use Rattle.records.specs.Table.{record_at, records}

-- "Numbers of two bytes are little endian."
abbrev pub pair_at : List ℕ → ℕ → ℕ
pair_at s at = get_or s at 0 + 256 * get_or s (at + 1) 0

abbrev pub step_of : List ℕ → Step
step_of s =
    record {
      left = pair_at s 0;
      right = pair_at s 2;
      pivot = get_or s 4 0;
      spare = eqb (get_or s 5 0) 0 && eqb (get_or s 6 0) 0 && eqb (get_or s 7 0) 0;
    }

-- step i of a table; past the table's end every byte reads as zero
unfoldable pub step_at : List ℕ → ℕ → Step
step_at steps i = step_of (record_at 8 steps i)

-- how many steps a table has
abbrev pub step_count : List ℕ → ℕ
step_count steps = records 8 steps

-- s is step i of the table, field by field
pub record StepRead (steps : List ℕ) (i : ℕ) (s : Step) : Type 0 where
  pub left : s.left ≡ (step_at steps i).left
  pub right : s.right ≡ (step_at steps i).right
  pub pivot : s.pivot ≡ (step_at steps i).pivot
  pub spare : s.spare ≡ (step_at steps i).spare
