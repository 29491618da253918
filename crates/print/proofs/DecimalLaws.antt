-- The laws of decimal text: its last digit, and that it is what the library writes.
use Prim.Native.Nat.{ℕ, zero, suc, ◌/◌, ◌%◌, ◌^◌, ◌≤◌, ◌<◌}
use mathlib.Core.Path.{◌≡◌, refl, sym, ap, ◌∙◌}
use mathlib.Core.Bool.{Bool, true, false, cond}
use mathlib.Core.List.{List, [], ◌∷◌, ◌++◌}
use native.Mathlib.Omega.{arith}
use borrow.Author.Tests.{lt-ltb, le-ltb, ltb-false}
use lib.Dec.{ltb}
use Rattle.std.specs.Fmt.{decimal as written}
use Rattle.std.proofs.lemmas.Fmt.{decimal_by_steps}
use Rattle.print.specs.Decimal.{digit, digits, decimal}

-- more room for digits than a number has makes no difference
digits_next : (f g n : ℕ) → (10 ≤ n → digits f (n / 10) ≡ digits g (n / 10)) → digits (suc f) n ≡ digits (suc g) n
unfolding digits
digits_next f g n same = go (ltb n 10) refl
  where
    go : (t : Bool) → ltb n 10 ≡ t
        → cond t (digit n ∷ []) (digits f (n / 10) ++ (digit (n % 10) ∷ [])) ≡ cond t (digit n ∷ []) (digits g (n / 10) ++ (digit (n % 10) ∷ []))
    go true e = refl
    go false e = ap (λ (ds : List ℕ). ds ++ (digit (n % 10) ∷ [])) (same (ltb-false n 10 e))

digits_same : (f g n : ℕ) → n < f → n < g → digits f n ≡ digits g n
digits_same zero g n p q = absurd (omega arith)
digits_same (suc f) zero n p q = absurd (omega arith)
digits_same (suc f) (suc g) n p q = digits_next f g n (λ l. digits_same f g (n / 10) (omega arith) (omega arith))

pub decimal_one : (n : ℕ) → n < 10 → decimal n ≡ digit n ∷ []
unfolding decimal digits
decimal_one n l = rw (lt-ltb n 10 l) refl

pub decimal_more : (n : ℕ) → 10 ≤ n → decimal n ≡ decimal (n / 10) ++ (digit (n % 10) ∷ [])
unfolding decimal digits
decimal_more n l = rw (le-ltb n 10 l) (ap (λ (ds : List ℕ). ds ++ (digit (n % 10) ∷ [])) (digits_same n (suc (n / 10)) (n / 10) (omega arith) (omega arith)))

-- the text that the library writes for a number
pub decimal_is : (n : ℕ) → n < 2 ^ 64 → written n ≡ decimal n
decimal_is =
    decimal_by_steps (λ n ds. ds ≡ decimal n) (λ n l. sym (decimal_one n l))
    (λ n ds l e. ap (λ (xs : List ℕ). xs ++ (digit (n % 10) ∷ [])) e ∙ sym (decimal_more n l))
