-- The laws of numbers that are about no record.
use Prim.Native.Nat.{ℕ, zero, suc, ◌+◌, ◌-◌, ◌<◌}
use mathlib.Core.Path.{◌≡◌, subst}
use mathlib.Core.Logic.{by_cases}
use native.Mathlib.Decide.{dec_lt}
use native.Mathlib.Omega.{arith}

-- induction from all smaller numbers
pub strong : (P : ℕ → Type 0) → ((n : ℕ) → ((m : ℕ) → m < n → P m) → P n) → (n : ℕ) → P n
strong P next n = next n (below n)
  where
    below : (n m : ℕ) → m < n → P m
    below zero m l = absurd (omega arith)
    below (suc n) m l = next m (λ k q. below n k (omega arith))

-- the numbers below x, and those from x on
pub in_parts : (P : ℕ → Type 0) (x : ℕ) → ((n : ℕ) → n < x → P n) → ((i : ℕ) → P (x + i)) → (n : ℕ) → P n
in_parts P x below after n = by_cases (dec_lt n x) (below n) (λ l. let e : x + (n - x) ≡ n = omega arith in subst P e (after (n - x)))
