-- The laws of bits: what the operations on numbers do to them, and that a number is its bits.
use Prim.Native.Nat.{ℕ, zero, suc, ◌+◌, ◌*◌, ◌/◌, ◌%◌, ◌^◌, ◌<◌, min, max}
use mathlib.Core.Path.{◌≡◌, refl, sym, ap, ap₂, ◌∙◌}
use mathlib.Core.Bool.{Bool, true, false, not, ◌&&◌, ◌||◌}
use native.Mathlib.Nat.{zero-div, div-one, pow-suc}
use native.Mathlib.Numerals.{one-add}
use native.Mathlib.Omega.{arith}
use borrow.Author.Tests.{ne_eqb}
use lib.Dec.{eqb}
use lib.Pow.{shr-shr}
use lib.Bits.{bit_and, bit_or, and_step, or_step, and_shr, or_shr, and_mask, or_add_and, and_le_l, and_le_r}
use Rattle.records.specs.Bits.{bit_of, digit, number_of}

-- the lowest bit, and the others
pub bit_zero : (n : ℕ) → bit_of n 0 ≡ eqb (n % 2) 1
unfolding bit_of
bit_zero n = ap (λ (x : ℕ). eqb (x % 2) 1) (div-one n)

pub bit_suc : (n k : ℕ) → bit_of n (suc k) ≡ bit_of (n / 2) k
unfolding bit_of
bit_suc n k = ap (λ (x : ℕ). eqb (x % 2) 1) (ap (λ (e : ℕ). n / 2 ^ e) (sym (one-add k)) ∙ sym (shr-shr n 1 k))

-- the two digits, by cases
by_digit : (P : ℕ → Type 0) → P 0 → P 1 → (u : ℕ) → u < 2 → P u
by_digit P z o zero h = z
by_digit P z o (suc zero) h = o
by_digit P z o (suc (suc u)) h = absurd (omega arith)

eqb_min : (u v : ℕ) → u < 2 → v < 2 → eqb (min u v) 1 ≡ (eqb u 1 && eqb v 1)
eqb_min u v hu hv =
    by_digit (λ (x : ℕ). eqb (min x v) 1 ≡ (eqb x 1 && eqb v 1))
    (by_digit (λ (y : ℕ). eqb (min 0 y) 1 ≡ (eqb 0 1 && eqb y 1)) refl refl v hv)
    (by_digit (λ (y : ℕ). eqb (min 1 y) 1 ≡ (eqb 1 1 && eqb y 1)) refl refl v hv) u hu

eqb_max : (u v : ℕ) → u < 2 → v < 2 → eqb (max u v) 1 ≡ (eqb u 1 || eqb v 1)
eqb_max u v hu hv =
    by_digit (λ (x : ℕ). eqb (max x v) 1 ≡ (eqb x 1 || eqb v 1))
    (by_digit (λ (y : ℕ). eqb (max 0 y) 1 ≡ (eqb 0 1 || eqb y 1)) refl refl v hv)
    (by_digit (λ (y : ℕ). eqb (max 1 y) 1 ≡ (eqb 1 1 || eqb y 1)) refl refl v hv) u hu

and_odd : (a b : ℕ) → bit_and a b % 2 ≡ min (a % 2) (b % 2)
and_odd a b = rw (and_step a b) (omega arith)

or_odd : (a b : ℕ) → bit_or a b % 2 ≡ max (a % 2) (b % 2)
or_odd a b = rw (or_step a b) (omega arith)

pub bit_of_and : (a b k : ℕ) → bit_of (bit_and a b) k ≡ (bit_of a k && bit_of b k)
unfolding bit_of
bit_of_and a b k =
    ap (λ (x : ℕ). eqb (x % 2) 1) (and_shr a b k) ∙ ap (λ (x : ℕ). eqb x 1) (and_odd (a / 2 ^ k) (b / 2 ^ k))
    ∙ eqb_min (a / 2 ^ k % 2) (b / 2 ^ k % 2) (omega arith) (omega arith)

pub bit_of_or : (a b k : ℕ) → bit_of (bit_or a b) k ≡ (bit_of a k || bit_of b k)
unfolding bit_of
bit_of_or a b k =
    ap (λ (x : ℕ). eqb (x % 2) 1) (or_shr a b k) ∙ ap (λ (x : ℕ). eqb x 1) (or_odd (a / 2 ^ k) (b / 2 ^ k))
    ∙ eqb_max (a / 2 ^ k % 2) (b / 2 ^ k % 2) (omega arith) (omega arith)

digit_lt : (b : Bool) → digit b < 2
digit_lt true = omega arith
digit_lt false = omega arith

digit_bit : (b : Bool) → eqb (digit b) 1 ≡ b
digit_bit true = refl
digit_bit false = refl

pub bit_digit : (u : ℕ) → u < 2 → digit (eqb u 1) ≡ u
bit_digit = by_digit (λ (u : ℕ). digit (eqb u 1) ≡ u) refl refl

-- the lowest bit, as a number
pub low_bit : (n : ℕ) → n % 2 ≡ digit (bit_of n 0)
low_bit n = sym (ap digit (bit_zero n) ∙ bit_digit (n % 2) (omega arith))

-- bit k, as a shift gives it
pub bit_shifted : (n k : ℕ) → eqb (n / 2 ^ k % 2) 1 ≡ bit_of n k
unfolding bit_of
bit_shifted n k = refl

-- the number that has given bits
pub number_of_lt : (m : ℕ) (s : ℕ → Bool) → number_of m s < 2 ^ m
unfolding number_of
number_of_lt zero s = omega arith
number_of_lt (suc m) s = rw pow-suc (omega (arith, number_of_lt m (λ k. s (suc k)), digit_lt (s 0)))

odd_of : (r : ℕ) (b : Bool) → (r * 2 + digit b) % 2 ≡ digit b
odd_of r b = omega (arith, digit_lt b)

half_of : (r : ℕ) (b : Bool) → (r * 2 + digit b) / 2 ≡ r
half_of r b = omega (arith, digit_lt b)

pub bit_number_of : (m : ℕ) (s : ℕ → Bool) (k : ℕ) → k < m → bit_of (number_of m s) k ≡ s k
unfolding number_of
bit_number_of zero s k h = absurd (omega arith)
bit_number_of (suc m) s zero h = rw (bit_zero, odd_of) (digit_bit (s 0))
bit_number_of (suc m) s (suc k) h = rw (bit_suc, half_of) (bit_number_of m (λ k. s (suc k)) k (omega arith))

-- a number below 2 ^ m is that of its bits, so its bits tell it
pub number_of_same : (m : ℕ) (s t : ℕ → Bool) → ((k : ℕ) → k < m → s k ≡ t k) → number_of m s ≡ number_of m t
unfolding number_of
number_of_same zero s t h = refl
number_of_same (suc m) s t h =
    ap₂ (λ (x : ℕ) (b : Bool). x * 2 + digit b) (number_of_same m (λ k. s (suc k)) (λ k. t (suc k)) (λ k l. h (suc k) (omega arith))) (h 0 (omega arith))

pub number_of_bits : (m n : ℕ) → n < 2 ^ m → number_of m (bit_of n) ≡ n
unfolding number_of
number_of_bits zero n h = omega arith
number_of_bits (suc m) n h =
    let low : digit (bit_of n 0) ≡ n % 2 = rw bit_zero (bit_digit (n % 2) (omega arith)) in
    let below : n / 2 < 2 ^ m = omega (arith, pow-suc 2 m) in
    let high : number_of m (λ k. bit_of n (suc k)) ≡ n / 2 = number_of_same m (λ k. bit_of n (suc k)) (bit_of (n / 2)) (λ k l. bit_suc n k) ∙ number_of_bits m (n / 2) below in
    omega arith

pub bits_ext : (m a b : ℕ) → a < 2 ^ m → b < 2 ^ m → ((k : ℕ) → k < m → bit_of a k ≡ bit_of b k) → a ≡ b
bits_ext m a b ha hb e = sym (number_of_bits m a ha) ∙ number_of_same m (bit_of a) (bit_of b) e ∙ number_of_bits m b hb

pub zero_bit : (k : ℕ) → bit_of 0 k ≡ false
unfolding bit_of
zero_bit k = rw zero-div refl

-- a mask of one bit tests that bit
nonzero : (u : ℕ) → u < 2 → not (eqb u 0) ≡ eqb u 1
nonzero = by_digit (λ (u : ℕ). not (eqb u 0) ≡ eqb u 1) refl refl

double_zero : (a : ℕ) → eqb (a * 2 + 0) 0 ≡ eqb a 0
double_zero zero = refl
double_zero (suc a) = ne_eqb (suc a * 2 + 0) 0 (omega arith) ∙ sym (ne_eqb (suc a) 0 (omega arith))

pub test_bit : (x k : ℕ) → not (eqb (bit_and x (2 ^ k)) 0) ≡ bit_of x k
test_bit x zero = rw (and_mask x 1, bit_zero x) (nonzero (x % 2) (omega arith))
test_bit x (suc k) =
    let e : 2 ^ suc k / 2 ≡ 2 ^ k = omega (arith, pow-suc 2 k) in
    let o : min (x % 2) (2 ^ suc k % 2) ≡ 0 = omega (arith, pow-suc 2 k) in
    ap (λ (y : ℕ). not (eqb y 0)) (and_step x (2 ^ suc k) ∙ ap₂ (λ (u v : ℕ). bit_and (x / 2) u * 2 + v) e o)
    ∙ ap not (double_zero (bit_and (x / 2) (2 ^ k))) ∙ test_bit (x / 2) k ∙ sym (bit_suc x k)

-- two numbers are zero where they are zero joined
pub or_zero : (x y : ℕ) → eqb (bit_or x y) 0 ≡ (eqb x 0 && eqb y 0)
or_zero zero zero = refl
or_zero zero (suc y) = ne_eqb (bit_or 0 (suc y)) 0 (omega (arith, or_add_and 0 (suc y), and_le_l 0 (suc y))) ∙ sym (ne_eqb (suc y) 0 (omega arith))
or_zero (suc x) y =
    ne_eqb (bit_or (suc x) y) 0 (omega (arith, or_add_and (suc x) y, and_le_r (suc x) y))
    ∙ ap (λ (b : Bool). b && eqb y 0) (sym (ne_eqb (suc x) 0 (omega arith)))
