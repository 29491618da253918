-- The laws of clause records: which literals a record holds that is made of a set of them, and that a record is its literals.
use Prim.Native.Nat.{ℕ, zero, suc, ◌+◌, ◌-◌, ◌*◌, ◌/◌, ◌%◌, ◌^◌, ◌≤◌, ◌<◌}
use mathlib.Core.Path.{◌≡◌, refl, sym, ap, ap₂, subst, ◌∙◌}
use mathlib.Core.Bool.{Bool, true, false, not, ◌&&◌, ◌||◌, true≢false, and-false, and-true, cond}
use mathlib.Core.List.{List, [], ◌∷◌}
use native.Mathlib.Nat.{lt_of_le_of_lt, lt_irrefl, mul-le-mul_left}
use native.Mathlib.Numerals.{add-one}
use native.Mathlib.Decide.{dec_lt}
use native.Mathlib.Omega.{arith}
use borrow.Author.Tests.{eq-eqb, ne_eqb, eqb-true, eqb-false, lt-ltb, le-ltb, ltb-true, ltb-false}
use borrow.Author.Count.{below_more}
use lib.Dec.{eqb, ltb}
use lib.ListN.{length, get_or, set, take, length-set, get_or-eq_default}
use lib.Seq.{take-suc, ext_get_or, get_or-take, get_or-set_same, get_or-set_other}
use lib.Bits.{bit_and, bit_or, and_le_l, or_lt}
use Rattle.records.specs.Bits.{bit_of, number_of}
use Rattle.records.specs.Lists.{every}
use Rattle.records.specs.Clause.{has, literal, holds, bytes_of, without, resolved, resolvent, resolved_into, empty}
use Rattle.records.specs.Inside.{all_but, Masks, mask_start, mask_without, positive_byte, negative_byte, joined}
use Rattle.records.proofs.BitLaws.{bit_of_and, bit_of_or, bit_number_of, number_of_lt, number_of_same, bits_ext, zero_bit, test_bit, or_zero}
use Rattle.records.proofs.ListLaws.{length_tabulate, get_d_tabulate, holds_from, holds_all, every_snoc}

-- every element is a byte
abbrev pub Bytes : List ℕ → Type 0
Bytes r = (i : ℕ) → get_or r i 0 < 256

-- literal 8 * i + k is bit k of byte i
pub has_at : (r : List ℕ) (i k : ℕ) → k < 8 → has r (8 * i + k) ≡ bit_of (get_or r i 0) k
unfolding has
has_at r i k h =
    let d : (8 * i + k) / 8 ≡ i = omega arith in
    let m : (8 * i + k) % 8 ≡ k = omega arith in
    rw (d, m) refl

pub split8 : (l : ℕ) → 8 * (l / 8) + l % 8 ≡ l
split8 l = omega arith

-- a record holds nothing past its end
pub has_past : (r : List ℕ) (l : ℕ) → 8 * length r ≤ l → has r l ≡ false
unfolding has
has_past r l h = rw (get_or-eq_default r 0 {n = l / 8} (omega arith)) (zero_bit (l % 8))

-- a record made of a set: its length, its bytes, its literals
pub length_bytes_of : (n : ℕ) (s : ℕ → Bool) → length (bytes_of n s) ≡ n
unfolding bytes_of
length_bytes_of n s = length_tabulate n (λ i. number_of 8 (λ k. s (8 * i + k)))

pub byte_bytes_of : (n : ℕ) (s : ℕ → Bool) (i : ℕ) → i < n → get_or (bytes_of n s) i 0 ≡ number_of 8 (λ k. s (8 * i + k))
unfolding bytes_of
byte_bytes_of n s i h = get_d_tabulate n (λ i. number_of 8 (λ k. s (8 * i + k))) 0 i h

pub has_bytes_of : (n : ℕ) (s : ℕ → Bool) (l : ℕ) → l < 8 * n → has (bytes_of n s) l ≡ s l
unfolding has
has_bytes_of n s l h =
    ap (λ (x : ℕ). bit_of x (l % 8)) (byte_bytes_of n s (l / 8) (omega arith))
    ∙ bit_number_of 8 (λ k. s (8 * (l / 8) + k)) (l % 8) (omega arith)
    ∙ ap s (split8 l)

-- sets with the same literals have the same record
pub bytes_of_below : (n : ℕ) (s t : ℕ → Bool) → ((l : ℕ) → l < 8 * n → s l ≡ t l) → bytes_of n s ≡ bytes_of n t
bytes_of_below n s t e =
    ext_get_or 0 (bytes_of n s) (bytes_of n t) (length_bytes_of n s ∙ sym (length_bytes_of n t))
    (λ i l.
    let m : i < n = omega (arith, length_bytes_of n s) in
    byte_bytes_of n s i m ∙ number_of_same 8 (λ k. s (8 * i + k)) (λ k. t (8 * i + k)) (λ k q. e (8 * i + k) (omega arith)) ∙ sym (byte_bytes_of n t i m))

-- a list of n bytes whose bits are the set is the set's record
pub bytes_of_is : (n : ℕ) (s : ℕ → Bool) (r : List ℕ) → length r ≡ n
    → ((i : ℕ) → i < n → get_or r i 0 < 256) → ((i k : ℕ) → i < n → k < 8 → bit_of (get_or r i 0) k ≡ s (8 * i + k)) → r ≡ bytes_of n s
bytes_of_is n s r e small h =
    ext_get_or 0 r (bytes_of n s) (e ∙ sym (length_bytes_of n s))
    (λ i l.
    bits_ext 8 (get_or r i 0) (number_of 8 (λ k. s (8 * i + k))) (small i (omega arith)) (number_of_lt 8 (λ k. s (8 * i + k)))
    (λ k m. h i k (omega arith) m ∙ sym (bit_number_of 8 (λ k. s (8 * i + k)) k m))
    ∙ sym (byte_bytes_of n s i (omega arith)))

-- a record is its literals
pub record_ext : (a b : List ℕ) → length a ≡ length b → Bytes a → Bytes b
    → ((l : ℕ) → l < 8 * length a → has a l ≡ has b l) → a ≡ b
record_ext a b e ha hb h =
    ext_get_or 0 a b e
    (λ i l. bits_ext 8 (get_or a i 0) (get_or b i 0) (ha i) (hb i)
    (λ k m. sym (has_at a i k m) ∙ h (8 * i + k) (omega arith) ∙ has_at b i k m))

-- one bit, by the mask of that bit
pub mask_has : (r : List ℕ) (l mask : ℕ) → mask ≡ 2 ^ (l % 8) → not (eqb (bit_and (get_or r (l / 8) 0) mask) 0) ≡ has r l
unfolding has
mask_has r l mask e = ap (λ (m : ℕ). not (eqb (bit_and (get_or r (l / 8) 0) m) 0)) e ∙ test_bit (get_or r (l / 8) 0) (l % 8)

-- two tests that say the same
same_test : (a b c d : ℕ) → (a ≡ b → c ≡ d) → (c ≡ d → a ≡ b) → eqb a b ≡ eqb c d
same_test a b c d f g = go (eqb a b) refl
  where
    go : (t : Bool) → eqb a b ≡ t → eqb a b ≡ eqb c d
    go true e = e ∙ sym (eq-eqb c d (f (eqb-true a b e)))
    go false e = e ∙ sym (ne_eqb c d (λ q. eqb-false a b e (g q)))

-- the mask of byte i, of which literal x is taken out where x's bit is in it
pub bit_mask : (x i k : ℕ) → k < 8 → bit_of (mask_without x i) k ≡ not (eqb (8 * i + k) x)
unfolding mask_without all_but number_of
bit_mask x i k l = go (eqb i (x / 8)) refl
  where
    go : (b : Bool) → eqb i (x / 8) ≡ b → bit_of (cond b (all_but (x % 8)) 255) k ≡ not (eqb (8 * i + k) x)
    go true e =
        let here : i ≡ x / 8 = eqb-true i (x / 8) e in
        bit_number_of 8 (λ j. not (eqb j (x % 8))) k l ∙ ap not (same_test k (x % 8) (8 * i + k) x (λ q. omega arith) (λ q. omega arith))
    go false e = bit_number_of 8 (λ j. true) k l ∙ sym (ap not (ne_eqb (8 * i + k) x (λ q. eqb-false i (x / 8) e (omega arith))))

-- the masks, by their rule
abbrev pub mask_holds : ℕ → ℕ → Bool
mask_holds n byte = eqb byte (cond (eqb (n % 32) 31 && ltb n 256) (all_but (n / 32)) 255)

pub masks_are : (masks : List ℕ) → length masks ≡ 288 → holds_from mask_holds 0 masks ≡ true → Masks 32 masks
masks_are masks size e =
    record {
      size = size;
      byte =
          λ k x l m.
          let tested = holds_all mask_holds 0 masks e (32 * k + x) (omega arith) in
          eqb-true (get_or masks (32 * k + x) 0) _ tested ∙ which k x l m (eqb x 31) refl;
    }
  where
    which : (k x : ℕ) → k < 8 → x < 63 → (b : Bool) → eqb x 31 ≡ b
        → cond (eqb ((32 * k + x) % 32) 31 && ltb (32 * k + x) 256) (all_but ((32 * k + x) / 32)) 255 ≡ cond b (all_but k) 255
    which k x l m true e =
        let here = eqb-true x 31 e in
        let bit : (32 * k + x) / 32 ≡ k = omega (arith, here) in
        rw (eq-eqb ((32 * k + x) % 32) 31 (omega (arith, here)), lt-ltb (32 * k + x) 256 (omega (arith, here)), bit) refl
    which k x l m false e =
        let elsewhere = eqb-false x 31 e in
        rw (ne_eqb ((32 * k + x) % 32) 31 (λ q. elsewhere (omega arith))) refl

-- a mask is in the strip, and each of its bytes is the one that takes the literal out
pub mask_within : (h x i : ℕ) → x < 8 * h → i < h → mask_start h x + i < 9 * h
unfolding mask_start
mask_within h x i l k = omega (arith, mul-le-mul_left {m = x % 8} {n = 7} h (omega arith))

pub mask_byte : (h : ℕ) (masks : List ℕ) (x i : ℕ) → Masks h masks → x < 8 * h → i < h → get_or masks (mask_start h x + i) 0 ≡ mask_without x i
unfolding mask_without mask_start
mask_byte h masks x i m l k =
    let at : h * (x % 8) + (h - 1 - x / 8) + i ≡ h * (x % 8) + (h - 1 - x / 8 + i) = omega arith in
    ap (λ (n : ℕ). get_or masks n 0) at
    ∙ m.byte (x % 8) (h - 1 - x / 8 + i) (omega arith) (omega arith)
    ∙ ap (λ (b : Bool). cond b (all_but (x % 8)) 255) (same_test (h - 1 - x / 8 + i) (h - 1) i (x / 8) (λ e. omega arith) (λ e. omega arith))

-- a record's byte i by that mask
pub masked_lt : (byte mask : ℕ) → byte < 256 → bit_and byte mask < 256
masked_lt byte mask small = lt_of_le_of_lt (and_le_l byte mask) small

pub bit_masked : (r : List ℕ) (x i k : ℕ) → k < 8 → bit_of (bit_and (get_or r i 0) (mask_without x i)) k ≡ without r x (8 * i + k)
bit_masked r x i k l = bit_of_and (get_or r i 0) (mask_without x i) k ∙ ap₂ ◌&&◌ (sym (has_at r i k l)) (bit_mask x i k l)

-- the empty clause: its bytes are zero, so it holds no literal; and a record that holds none is empty
pub empty_is : (r : List ℕ) → ((i : ℕ) → i < length r → get_or r i 0 ≡ 0) → empty r ≡ true
unfolding empty every
empty_is [] h = refl
empty_is (x ∷ r) h = rw (eq-eqb x 0 (h 0 (omega arith))) (empty_is r (λ i l. h (suc i) (omega arith)))

pub empty_not : (r : List ℕ) (i : ℕ) → (get_or r i 0 ≡ 0 → ⊥) → empty r ≡ false
unfolding empty every
empty_not [] i h = absurd (h refl)
empty_not (x ∷ r) zero h = rw (ne_eqb x 0 h) refl
empty_not (x ∷ r) (suc i) h = rw (empty_not r i h) (and-false (eqb x 0))

-- bytes joined are zero where all of them are: one byte more
pub empty_joined : (r : List ℕ) (all i : ℕ) → i < length r → eqb all 0 ≡ empty (take i r) → eqb (bit_or all (get_or r i 0)) 0 ≡ empty (take (i + 1) r)
unfolding empty
empty_joined r all i l e =
    or_zero all (get_or r i 0) ∙ ap (λ (b : Bool). b && eqb (get_or r i 0) 0) e
    ∙ sym (rw (add-one i, take-suc r i 0 l) (every_snoc (λ x. eqb x 0) (take i r) (get_or r i 0)))

pub empty_byte : (r : List ℕ) → empty r ≡ true → (i : ℕ) → get_or r i 0 ≡ 0
empty_byte r e i = go (eqb (get_or r i 0) 0) refl
  where
    go : (t : Bool) → eqb (get_or r i 0) 0 ≡ t → get_or r i 0 ≡ 0
    go true q = eqb-true (get_or r i 0) 0 q
    go false q = absurd (true≢false (sym e ∙ empty_not r i (eqb-false (get_or r i 0) 0 q)))

pub empty_has : (r : List ℕ) → empty r ≡ true → (l : ℕ) → has r l ≡ false
unfolding has
empty_has r e l = rw (empty_byte r e (l / 8)) (zero_bit (l % 8))

pub has_empty : (r : List ℕ) → Bytes r → ((l : ℕ) → l < 8 * length r → has r l ≡ false) → empty r ≡ true
has_empty r b h =
    empty_is r
    (λ i l. bits_ext 8 (get_or r i 0) 0 (b i) (omega arith) (λ k m. sym (has_at r i k m) ∙ h (8 * i + k) (omega arith) ∙ sym (zero_bit k)))

-- a loop that writes f i at place p i, one a turn
pub written_at : (p f : ℕ → ℕ) (out : List ℕ) (i v : ℕ) → ((k : ℕ) → k < i → p k ≡ p i → ⊥) → p i < length out
    → ((k : ℕ) → k < i → get_or out (p k) 0 ≡ f k) → v ≡ f i → (k : ℕ) → k < i + 1 → get_or (set out (p i) v) (p k) 0 ≡ f k
written_at p f out i v apart l all e =
    below_more (λ (k : ℕ). get_or (set out (p i) v) (p k) 0 ≡ f k) i
    (λ k m. get_or-set_other out (p i) (p k) v 0 (apart k m) ∙ all k m) (get_or-set_same out (p i) v 0 l ∙ e)

-- at i itself
pub written : (f : ℕ → ℕ) (out : List ℕ) (i v : ℕ) → i < length out → ((k : ℕ) → k < i → get_or out k 0 ≡ f k) → v ≡ f i
    → (k : ℕ) → k < i + 1 → get_or (set out i v) k 0 ≡ f k
written f out i v = written_at (λ k. k) f out i v (λ k m q. lt_irrefl k (omega arith))

-- behind the first `at`
pub written_behind : (at : ℕ) (f : ℕ → ℕ) (out : List ℕ) (i v : ℕ) → at + i < length out → ((k : ℕ) → k < i → get_or out (at + k) 0 ≡ f k) → v ≡ f i
    → (k : ℕ) → k < i + 1 → get_or (set out (at + i) v) (at + k) 0 ≡ f k
written_behind at f out i v = written_at (λ k. at + k) f out i v (λ k m q. lt_irrefl k (omega arith))

-- one that writes f i at i and g i at h + i
pub written_halves : (f g : ℕ → ℕ) (h : ℕ) (out : List ℕ) (i v w : ℕ) → i < h → h + i < length out
    → ((k : ℕ) → k < i → (get_or out k 0 ≡ f k) × (get_or out (h + k) 0 ≡ g k)) → v ≡ f i → w ≡ g i
    → (k : ℕ) → k < i + 1 → (get_or (set (set out i v) (h + i) w) k 0 ≡ f k) × (get_or (set (set out i v) (h + i) w) (h + k) 0 ≡ g k)
written_halves f g h out i v w l room all e d k m = (
  get_or-set_other (set out i v) (h + i) k w 0 (λ q. lt_irrefl k (omega arith)) ∙ written f out i v (omega arith) (λ j n. (all j n).0) e k m,
  written_behind h g (set out i v) i w (omega (arith, length-set out i v))
      (λ j n. get_or-set_other out i (h + j) v 0 (λ q. lt_irrefl i (omega arith)) ∙ (all j n).1) d k m,
)

-- two records joined byte by byte
pub joined_is : (from to out : List ℕ) → length out ≡ length to → ((k : ℕ) → k < length to → get_or out k 0 ≡ bit_or (get_or to k 0) (get_or from k 0)) → out ≡ joined from to
unfolding joined
joined_is from to out e h =
    ext_get_or 0 out (joined from to) (e ∙ sym (length_tabulate (length to) (λ i. bit_or (get_or to i 0) (get_or from i 0))))
    (λ i l. h i (omega arith) ∙ sym (get_d_tabulate (length to) (λ i. bit_or (get_or to i 0) (get_or from i 0)) 0 i (omega arith)))

pub length_joined : (from to : List ℕ) → length (joined from to) ≡ length to
unfolding joined
length_joined from to = length_tabulate (length to) (λ i. bit_or (get_or to i 0) (get_or from i 0))

pub byte_joined : (from to : List ℕ) (i : ℕ) → i < length to → get_or (joined from to) i 0 ≡ bit_or (get_or to i 0) (get_or from i 0)
unfolding joined
byte_joined from to i l = get_d_tabulate (length to) (λ i. bit_or (get_or to i 0) (get_or from i 0)) 0 i l

-- a record's literals added to a set's record
pub joined_bytes_of : (n : ℕ) (set : ℕ → Bool) (from : List ℕ) → Bytes from → joined from (bytes_of n set) ≡ bytes_of n (λ l. set l || has from l)
joined_bytes_of n set from small =
    bytes_of_is n (λ l. set l || has from l) (joined from (bytes_of n set)) (length_joined from (bytes_of n set) ∙ length_bytes_of n set)
    (λ i l. rw (at i l) (or_lt 8 (number_of 8 (λ k. set (8 * i + k))) (get_or from i 0) (number_of_lt 8 (λ k. set (8 * i + k))) (small i)))
    (λ i k l m. rw (at i l) (bit_of_or (number_of 8 (λ k. set (8 * i + k))) (get_or from i 0) k ∙ ap₂ ◌||◌ (bit_number_of 8 (λ k. set (8 * i + k)) k m) (sym (has_at from i k m))))
  where
    at : (i : ℕ) → i < n → get_or (joined from (bytes_of n set)) i 0 ≡ bit_or (number_of 8 (λ k. set (8 * i + k))) (get_or from i 0)
    at i l =
        byte_joined from (bytes_of n set) i (omega (arith, length_bytes_of n set))
        ∙ ap (λ (x : ℕ). bit_or x (get_or from i 0)) (byte_bytes_of n set i l)

-- a literal that a record holds has a variable below 8h
pub holds_bound : (h : ℕ) (r : List ℕ) (sign : Bool) (v : ℕ) → holds h r sign v ≡ true → v < 8 * h
unfolding holds
holds_bound h r sign v e = go (ltb v (8 * h)) refl e
  where
    go : (b : Bool) → ltb v (8 * h) ≡ b → (b && has r (literal h sign v)) ≡ true → v < 8 * h
    go true q f = ltb-true v (8 * h) q
    go false q f = absurd (true≢false (sym f))

-- below 8h the literal's bit decides
pub holds_has : (h : ℕ) (r : List ℕ) (sign : Bool) (v : ℕ) → v < 8 * h → holds h r sign v ≡ has r (literal h sign v)
unfolding holds
holds_has h r sign v l = rw (lt-ltb v (8 * h) l) refl

-- a literal's bit by the mask of its variable's bit, in the byte that has it
literal_bit : (h : ℕ) (sign : Bool) (v : ℕ) → v % 8 ≡ literal h sign v % 8
literal_bit h true v = refl
literal_bit h false v = omega arith

masked_bit : (h : ℕ) (r : List ℕ) (sign : Bool) (v at mask : ℕ) (b : Bool) → v < 8 * h → mask ≡ 2 ^ (v % 8) → at ≡ literal h sign v / 8
    → eqb (bit_and (get_or r at 0) mask) 0 ≡ b → holds h r sign v ≡ not b
masked_bit h r sign v at mask b l m p e =
    holds_has h r sign v l
    ∙ sym (mask_has r (literal h sign v) mask (m ∙ ap (λ (k : ℕ). 2 ^ k) (literal_bit h sign v)))
    ∙ ap (λ (n : ℕ). not (eqb (bit_and (get_or r n 0) mask) 0)) (sym p)
    ∙ ap not e

pub lacks_masked : (h : ℕ) (r : List ℕ) (sign : Bool) (v at mask : ℕ) → v < 8 * h → mask ≡ 2 ^ (v % 8) → at ≡ literal h sign v / 8
    → bit_and (get_or r at 0) mask ≡ 0 → holds h r sign v ≡ false
lacks_masked h r sign v at mask l m p z = masked_bit h r sign v at mask true l m p (eq-eqb (bit_and (get_or r at 0) mask) 0 z)

pub holds_masked : (h : ℕ) (r : List ℕ) (sign : Bool) (v at mask : ℕ) → v < 8 * h → mask ≡ 2 ^ (v % 8) → at ≡ literal h sign v / 8
    → (bit_and (get_or r at 0) mask ≡ 0 → ⊥) → holds h r sign v ≡ true
holds_masked h r sign v at mask l m p n = masked_bit h r sign v at mask false l m p (ne_eqb (bit_and (get_or r at 0) mask) 0 n)

pub holds_past : (h : ℕ) (r : List ℕ) (sign : Bool) (v : ℕ) → 8 * h ≤ v → holds h r sign v ≡ false
unfolding holds
holds_past h r sign v l = rw (le-ltb v (8 * h) l) refl

pub literal_bound : (h : ℕ) (sign : Bool) (v : ℕ) → v < 8 * h → literal h sign v < 16 * h
literal_bound h true v l = omega arith
literal_bound h false v l = omega arith

-- records with the same literals are the same bytes
pub same_literals : (h : ℕ) (a b : List ℕ) → length a ≡ 2 * h → length b ≡ 2 * h → Bytes a → Bytes b
    → ((sign : Bool) (v : ℕ) → holds h a sign v ≡ holds h b sign v) → a ≡ b
same_literals h a b ea eb ha hb same = record_ext a b (ea ∙ sym eb) ha hb (λ l m. at l (dec_lt l (8 * h)) (omega arith))
  where
    by_sign : (sign : Bool) (v : ℕ) → v < 8 * h → has a (literal h sign v) ≡ has b (literal h sign v)
    by_sign sign v l = sym (holds_has h a sign v l) ∙ same sign v ∙ holds_has h b sign v l

    at : (l : ℕ) → Dec (l < 8 * h) → l < 16 * h → has a l ≡ has b l
    at l (yes q) m = by_sign true l q
    at l (no q) m =
        let e : 8 * h + (l - 8 * h) ≡ l = omega arith in
        subst (λ (x : ℕ). has a x ≡ has b x) e (by_sign false (l - 8 * h) (omega arith))

-- the resolvent: its length, its bits, and which literals it holds
pub length_resolvent : (h : ℕ) (left right : List ℕ) (p : ℕ) → length (resolvent h left right p) ≡ 2 * h
unfolding resolvent
length_resolvent h left right p = length_bytes_of (2 * h) (resolved h left right p)

pub has_resolvent : (h : ℕ) (left right : List ℕ) (p l : ℕ) → l < 16 * h → has (resolvent h left right p) l ≡ resolved h left right p l
unfolding resolvent
has_resolvent h left right p l m = has_bytes_of (2 * h) (resolved h left right p) l (omega arith)

pub bytes_resolvent : (h : ℕ) (left right : List ℕ) (p : ℕ) → Bytes (resolvent h left right p)
unfolding resolvent
bytes_resolvent h left right p i = go (ltb i (2 * h)) refl
  where
    go : (b : Bool) → ltb i (2 * h) ≡ b → get_or (bytes_of (2 * h) (resolved h left right p)) i 0 < 256
    go true q = rw (byte_bytes_of (2 * h) (resolved h left right p) i (ltb-true i (2 * h) q)) (number_of_lt 8 (λ k. resolved h left right p (8 * i + k)))
    go false q = rw (get_or-eq_default (bytes_of (2 * h) (resolved h left right p)) 0 {n = i} (omega (arith, ltb-false i (2 * h) q, length_bytes_of (2 * h) (resolved h left right p)))) (omega arith)

-- the resolvent as the code makes it, byte by byte
module _ (h : ℕ) (left right : List ℕ) (p : ℕ) (small : p < 8 * h) (l-bytes : Bytes left) (r-bytes : Bytes right) where
  -- byte i of the resolvent is x
  abbrev IsByte : ℕ → ℕ → Type 0
  IsByte i x = (x < 256) × ((k : ℕ) → k < 8 → bit_of x k ≡ resolved h left right p (8 * i + k))

  -- a literal that is not the one taken out
  kept_bit : (r : List ℕ) (x i k : ℕ) → k < 8 → (8 * i + k ≡ x → ⊥) → bit_of (get_or r i 0) k ≡ without r x (8 * i + k)
  kept_bit r x i k m other = sym (has_at r i k m) ∙ sym (ap (λ (b : Bool). has r (8 * i + k) && not b) (ne_eqb (8 * i + k) x other) ∙ and-true (has r (8 * i + k)))

  positive_byte_lem : (i : ℕ) → i < h → IsByte i (positive_byte left right p i)
  unfolding positive_byte
  positive_byte_lem i l = (
    or_lt 8 (bit_and (get_or left i 0) (mask_without p i)) (get_or right i 0) (masked_lt (get_or left i 0) (mask_without p i) (l-bytes i)) (r-bytes i),
    λ k m.
        bit_of_or (bit_and (get_or left i 0) (mask_without p i)) (get_or right i 0) k
        ∙ ap₂ ◌||◌ (bit_masked left p i k m) (kept_bit right (8 * h + p) i k m (λ q. lt_irrefl p (omega arith))),
  )

  shifted_mask : (i : ℕ) → mask_without p i ≡ mask_without (8 * h + p) (h + i)
  unfolding mask_without
  shifted_mask i =
      let byte : (8 * h + p) / 8 ≡ h + p / 8 = omega arith in
      let bit : (8 * h + p) % 8 ≡ p % 8 = omega arith in
      rw (byte, bit, same_test (h + i) (h + p / 8) i (p / 8) (λ q. omega arith) (λ q. omega arith)) refl

  negative_byte_lem : (i : ℕ) → IsByte (h + i) (negative_byte h left right p i)
  unfolding negative_byte
  negative_byte_lem i = (
    or_lt 8 (get_or left (h + i) 0) (bit_and (get_or right (h + i) 0) (mask_without p i)) (l-bytes (h + i)) (masked_lt (get_or right (h + i) 0) (mask_without p i) (r-bytes (h + i))),
    λ k m.
        bit_of_or (get_or left (h + i) 0) (bit_and (get_or right (h + i) 0) (mask_without p i)) k
        ∙ ap₂ ◌||◌ (kept_bit left p (h + i) k m (λ q. lt_irrefl p (omega arith)))
        (ap (λ (mask : ℕ). bit_of (bit_and (get_or right (h + i) 0) mask) k) (shifted_mask i) ∙ bit_masked right (8 * h + p) (h + i) k m),
  )

  pub resolvent_is : (part : List ℕ) → length part ≡ 2 * h
      → ((i : ℕ) → i < h → (get_or part i 0 ≡ positive_byte left right p i) × (get_or part (h + i) 0 ≡ negative_byte h left right p i)) → part ≡ resolvent h left right p
  unfolding resolvent
  resolvent_is part size all = bytes_of_is (2 * h) (resolved h left right p) part size (λ i l. (byte i l (dec_lt i h)).0) (λ i k l m. (byte i l (dec_lt i h)).1 k m)
    where
      byte : (i : ℕ) → i < 2 * h → Dec (i < h) → IsByte i (get_or part i 0)
      byte i l (yes q) = rw (all i q).0 (positive_byte_lem i q)
      byte i l (no q) =
          let e : h + (i - h) ≡ i = omega arith in
          subst (λ (j : ℕ). IsByte j (get_or part j 0)) e (rw (all (i - h) (omega arith)).1 (negative_byte_lem (i - h)))

-- the pivot's literal is taken out of its own side alone
literal_test : (h : ℕ) (sign side : Bool) (v p : ℕ) → v < 8 * h → p < 8 * h → eqb (literal h sign v) (literal h side p) ≡ (cond side sign (not sign) && eqb v p)
literal_test h true true v p l m = refl
literal_test h false false v p l m = same_test (8 * h + v) (8 * h + p) v p (λ q. omega arith) (λ q. omega arith)
literal_test h true false v p l m = ne_eqb v (8 * h + p) (λ q. lt_irrefl v (omega arith))
literal_test h false true v p l m = ne_eqb (8 * h + v) p (λ q. lt_irrefl p (omega arith))

pub holds_resolvent : (h : ℕ) (left right : List ℕ) (p : ℕ) (sign : Bool) (v : ℕ) → p < 8 * h
    → holds h (resolvent h left right p) sign v ≡ (holds h left sign v && not (sign && eqb v p) || holds h right sign v && not (not sign && eqb v p))
holds_resolvent h left right p sign v m = go (ltb v (8 * h)) refl
  where
    go : (b : Bool) → ltb v (8 * h) ≡ b
        → holds h (resolvent h left right p) sign v ≡ (holds h left sign v && not (sign && eqb v p) || holds h right sign v && not (not sign && eqb v p))
    go true q =
        let l : v < 8 * h = ltb-true v (8 * h) q in
        rw (
          holds_has h (resolvent h left right p) sign v l,
          holds_has h left sign v l,
          holds_has h right sign v l,
          has_resolvent h left right p (literal h sign v) (literal_bound h sign v l),
          literal_test h sign true v p l m,
          literal_test h sign false v p l m,
        ) refl
    go false q =
        let l : 8 * h ≤ v = ltb-false v (8 * h) q in
        rw (holds_past h (resolvent h left right p) sign v l, holds_past h left sign v l, holds_past h right sign v l) refl

-- a record is read from the first 2h bytes alone
pub has_first : (n : ℕ) (r : List ℕ) (l : ℕ) → l < 8 * n → has (take n r) l ≡ has r l
unfolding has
has_first n r l m = ap (λ (x : ℕ). bit_of x (l % 8)) (get_or-take n r (l / 8) 0 (omega arith))

pub holds_first : (h : ℕ) (r : List ℕ) (sign : Bool) (v : ℕ) → holds h (take (2 * h) r) sign v ≡ holds h r sign v
holds_first h r sign v = go (ltb v (8 * h)) refl
  where
    go : (b : Bool) → ltb v (8 * h) ≡ b → holds h (take (2 * h) r) sign v ≡ holds h r sign v
    go true q =
        let l : v < 8 * h = ltb-true v (8 * h) q in
        holds_has h (take (2 * h) r) sign v l ∙ has_first (2 * h) r (literal h sign v) (omega (arith, literal_bound h sign v l)) ∙ sym (holds_has h r sign v l)
    go false q =
        let l : 8 * h ≤ v = ltb-false v (8 * h) q in
        holds_past h (take (2 * h) r) sign v l ∙ sym (holds_past h r sign v l)

pub resolvent_first : (h : ℕ) (left right : List ℕ) (p : ℕ) → resolvent h (take (2 * h) left) (take (2 * h) right) p ≡ resolvent h left right p
unfolding resolvent
resolvent_first h left right p =
    bytes_of_below (2 * h) (resolved h (take (2 * h) left) (take (2 * h) right) p) (resolved h left right p)
    (λ l m. rw (has_first (2 * h) left l m, has_first (2 * h) right l m) refl)

-- what was written into a part
pub resolved_into_record : (h : ℕ) (left right : List ℕ) (p : ℕ) (part : List ℕ) → length part ≡ 2 * h → resolved_into h left right p part ≡ resolvent h left right p
unfolding resolved_into
resolved_into_record h left right p part e = rw (eq-eqb (length part) (2 * h) e) refl

pub resolved_into_other : (h : ℕ) (left right : List ℕ) (p : ℕ) (part : List ℕ) → (length part ≡ 2 * h → ⊥) → resolved_into h left right p part ≡ part
unfolding resolved_into
resolved_into_other h left right p part n = rw (ne_eqb (length part) (2 * h) n) refl
