-- The bits of a number, and the number that has given bits.
use Rattle.std.specs.Prelude.{ℕ, zero, suc, ◌+◌, ◌*◌, ◌/◌, ◌%◌, ◌^◌, Bool, true, false, eqb}

-- bit k of n
unfoldable pub bit_of : ℕ → ℕ → Bool
bit_of n k = eqb (n / 2 ^ k % 2) 1

abbrev pub digit : Bool → ℕ
digit true = 1
digit false = 0

-- the number below 2 ^ m whose bit k, for each k below m, is s k
unfoldable pub number_of : ℕ → (ℕ → Bool) → ℕ
number_of zero s = 0
number_of (suc m) s = number_of m (λ k. s (suc k)) * 2 + digit (s 0)
