-- The laws of tables: a record's bytes, a table with one record written anew, and what occurs in a table.
use Prim.Native.Nat.{ℕ, ◌+◌, ◌-◌, ◌*◌, ◌/◌, ◌≤◌, ◌<◌}
use mathlib.Core.Path.{◌≡◌, refl, sym, ap, ◌∙◌, subst}
use mathlib.Core.Bool.{Bool, true, false, ◌||◌, or-true}
use mathlib.Core.List.{List, [], ◌++◌}
use mathlib.Core.Logic.{◌⊎◌, inl, inr, ⊎_elim}
use native.Mathlib.Nat.{mul-suc, mul_comm, mul-le-mul_left, le-div_iff_mul-le, div-lt_iff_lt-mul}
use native.Mathlib.Numerals.{add-one}
use native.Mathlib.Omega.{arith}
use native.Mathlib.Decide.{dec_lt}
use borrow.Author.Tests.{le-leb, lt-leb}
use lib.ListN.{length, get_or, take, drop, take-append-drop, length-append, length-drop, get_or-append, get_or-eq_default}
use lib.Seq.{get_or-take, get_or-drop, length-take-le, ext_get_or, take_at, drop_at, drop-drop}
use Rattle.records.specs.Lists.{tabulate, some, every}
use Rattle.records.specs.Clause.{has, literal, holds, bytes_of, empty}
use Rattle.records.specs.Inside.{joined}
use Rattle.records.specs.Table.{record_at, records, put, first_empty, clauses_of, occurs, literals_of}
use Rattle.records.proofs.ListLaws.{first_le, some_here, some_where, some_snoc, every_at, by_truth}
use Rattle.records.proofs.ClauseLaws.{Bytes, has_bytes_of, bytes_of_below, joined_bytes_of, holds_has, holds_bound, literal_bound}

-- a product is an unknown to `omega`: the laws speak of w * r + w
pub next_record : (w r : ℕ) → w * (r + 1) ≡ w * r + w
next_record w r = ap (λ (x : ℕ). w * x) (add-one r) ∙ mul-suc w r

-- records below n end within n of them
pub within : (w r n : ℕ) → r < n → w * r + w ≤ w * n
within w r n l = omega (arith, next_record w r, mul-le-mul_left {m = r + 1} {n = n} w (omega arith))

-- record r is whole in n bytes, or not
pub whole : (w n r : ℕ) → 0 < w → r < n / w → w * r + w ≤ n
whole w n r p l =
    let q : (r + 1) * w ≤ n = (le-div_iff_mul-le p).0 (omega arith) in
    omega (arith, next_record w r, mul_comm (r + 1) w)

pub past : (w n r : ℕ) → 0 < w → n / w ≤ r → n < w * r + w
past w n r p l =
    let q : n < (r + 1) * w = (div-lt_iff_lt-mul p).0 (omega arith) in
    omega (arith, next_record w r, mul_comm (r + 1) w)

-- a record's bytes
pub record_at_in : (w : ℕ) (t : List ℕ) (r : ℕ) → w * r + w ≤ length t → record_at w t r ≡ take w (drop (w * r) t)
unfolding record_at
record_at_in w t r h = rw (le-leb (w * (r + 1)) (length t) (omega (arith, next_record w r))) refl

-- as the code lends it, by its start and its end
pub record_at_part : (w : ℕ) (t : List ℕ) (r : ℕ) → w * r + w ≤ length t → take (w * r + w - w * r) (drop (w * r) t) ≡ record_at w t r
record_at_part w t r h =
    let n : w * r + w - w * r ≡ w = omega arith in
    rw n (sym (record_at_in w t r h))

pub record_at_out : (w : ℕ) (t : List ℕ) (r : ℕ) → length t < w * r + w → record_at w t r ≡ []
unfolding record_at
record_at_out w t r h = rw (lt-leb (w * (r + 1)) (length t) (omega (arith, next_record w r))) refl

pub length_record_at : (w : ℕ) (t : List ℕ) (r : ℕ) → w * r + w ≤ length t → length (record_at w t r) ≡ w
length_record_at w t r h = rw (record_at_in w t r h) (length-take-le w (drop (w * r) t) (omega (arith, length-drop (w * r) t)))

-- n records are there where n fit
pub records_room : (w : ℕ) (t : List ℕ) (n : ℕ) → 0 < w → w * n ≤ length t → n ≤ records w t
records_room w t n p l = (le-div_iff_mul-le p).1 (omega (arith, mul_comm n w))

pub byte_record_at : (w : ℕ) (t : List ℕ) (r i : ℕ) → w * r + w ≤ length t → i < w → get_or (record_at w t r) i 0 ≡ get_or t (w * r + i) 0
byte_record_at w t r i h l = rw (record_at_in w t r h, get_or-take w (drop (w * r) t) i 0 l) (get_or-drop (w * r) t i 0)

-- what is shorter than a record is no record
pub short_record : (w : ℕ) (t : List ℕ) (r : ℕ) → length (record_at w t r) < w → record_at w t r ≡ []
short_record w t r h = go (dec_lt (length t) (w * r + w))
  where
    go : Dec (length t < w * r + w) → record_at w t r ≡ []
    go (yes l) = record_at_out w t r l
    go (no l) = absurd (omega (arith, length_record_at w t r (omega arith)))

-- a search ends within its records
pub first_empty_le : (w : ℕ) (t : List ℕ) (n : ℕ) → first_empty w t n ≤ n
unfolding first_empty
first_empty_le w t n = omega (arith, first_le (λ r. empty (record_at w t r)) n)

-- a table of bytes has records of bytes
pub bytes_record_at : (w : ℕ) (t : List ℕ) (r : ℕ) → Bytes t → Bytes (record_at w t r)
bytes_record_at w t r b i = go (dec_lt (length t) (w * r + w)) (dec_lt i w)
  where
    go : Dec (length t < w * r + w) → Dec (i < w) → get_or (record_at w t r) i 0 < 256
    go (yes l) d = rw (record_at_out w t r l) (omega arith)
    go (no l) (yes m) = rw (byte_record_at w t r i (omega arith) m) (b (w * r + i))
    go (no l) (no m) = rw (get_or-eq_default (record_at w t r) 0 {n = i} (omega (arith, length_record_at w t r (omega arith)))) (omega arith)

-- one record written anew: the length stays, the record is the new one, and all others are as they were
pub length_put : (w : ℕ) (t : List ℕ) (i : ℕ) (new : List ℕ) → w * i + w ≤ length t → length new ≡ w → length (put w t i new) ≡ length t
unfolding put
length_put w t i new h e =
    omega (
      arith,
      length-append (take (w * i) t) (new ++ drop w (drop (w * i) t)),
      length-append new (drop w (drop (w * i) t)),
      length-take-le (w * i) t (omega arith),
      length-drop w (drop (w * i) t),
      length-drop (w * i) t,
    )

pub record_at_put_same : (w : ℕ) (t : List ℕ) (i : ℕ) (new : List ℕ) → w * i + w ≤ length t → length new ≡ w → record_at w (put w t i new) i ≡ new
unfolding put
record_at_put_same w t i new h e =
    let front : length (take (w * i) t) ≡ w * i = length-take-le (w * i) t (omega arith) in
    record_at_in w (put w t i new) i (omega (arith, length_put w t i new h e))
    ∙ ap (take w) (drop_at (take (w * i) t) (new ++ drop w (drop (w * i) t)) (w * i) front)
    ∙ take_at new (drop w (drop (w * i) t)) w e

pub byte_put_front : (w : ℕ) (t : List ℕ) (i : ℕ) (new : List ℕ) (k : ℕ) → w * i ≤ length t → k < w * i → get_or (put w t i new) k 0 ≡ get_or t k 0
unfolding put
byte_put_front w t i new k h l =
    get_or-append (take (w * i) t) (new ++ drop w (drop (w * i) t)) 0 k (omega (arith, length-take-le (w * i) t h))
    ∙ get_or-take (w * i) t k 0 l

pub record_at_put_earlier : (w : ℕ) (t : List ℕ) (i : ℕ) (new : List ℕ) (r : ℕ) → w * i + w ≤ length t → length new ≡ w → r < i
    → record_at w (put w t i new) r ≡ record_at w t r
record_at_put_earlier w t i new r h e l =
    let inside : w * r + w ≤ w * i = within w r i l in
    let here : w * r + w ≤ length t = omega arith in
    let there : w * r + w ≤ length (put w t i new) = omega (arith, length_put w t i new h e) in
    ext_get_or 0 (record_at w (put w t i new) r) (record_at w t r) (length_record_at w (put w t i new) r there ∙ sym (length_record_at w t r here))
    (λ k m.
    let small : k < w = omega (arith, length_record_at w (put w t i new) r there) in
    byte_record_at w (put w t i new) r k there small ∙ byte_put_front w t i new (w * r + k) (omega arith) (omega arith) ∙ sym (byte_record_at w t r k here small))

pub drop_put : (w : ℕ) (t : List ℕ) (i : ℕ) (new : List ℕ) (n : ℕ) → w * i + w ≤ length t → length new ≡ w → w * i + w ≤ n → drop n (put w t i new) ≡ drop n t
unfolding put
drop_put w t i new n h e l =
    let front : length (take (w * i) t) ≡ w * i = length-take-le (w * i) t (omega arith) in
    let m : w * i + (w + (n - w * i - w)) ≡ n = omega arith in
    let rest : List ℕ = drop w (drop (w * i) t) in
    subst (λ (x : ℕ). drop x (take (w * i) t ++ (new ++ drop w (drop (w * i) t))) ≡ drop x t) m
    (sym (drop-drop (w + (n - w * i - w)) (w * i) (take (w * i) t ++ (new ++ drop w (drop (w * i) t))))
    ∙ ap (drop (w + (n - w * i - w))) (drop_at (take (w * i) t) (new ++ drop w (drop (w * i) t)) (w * i) front)
    ∙ sym (drop-drop (n - w * i - w) w (new ++ drop w (drop (w * i) t)))
    ∙ ap (drop (n - w * i - w)) (drop_at new (drop w (drop (w * i) t)) w e)
    ∙ drop-drop (n - w * i - w) w (drop (w * i) t) ∙ drop-drop (w + (n - w * i - w)) (w * i) t)

-- the store as the code makes it, by the part from start to start + w
pub put_part : (w : ℕ) (t : List ℕ) (i : ℕ) (new : List ℕ) (start : ℕ) → start ≡ w * i
    → take start t ++ (new ++ drop (start + w - start) (drop start t)) ≡ put w t i new
unfolding put
put_part w t i new start e =
    let n : start + w - start ≡ w = omega arith in
    rw (n, e) refl

-- a record written as it was leaves the table
pub put_same : (w : ℕ) (t : List ℕ) (i : ℕ) → w * i + w ≤ length t → put w t i (record_at w t i) ≡ t
unfolding put
put_same w t i h =
    ap (λ (l : List ℕ). take (w * i) t ++ (l ++ drop w (drop (w * i) t))) (record_at_in w t i h)
    ∙ ap (λ (l : List ℕ). take (w * i) t ++ l) (take-append-drop w (drop (w * i) t)) ∙ take-append-drop (w * i) t

-- the clauses of a table, by their numbers
pub some_clause : (h : ℕ) (t : List ℕ) (p : List ℕ → Bool) (r : ℕ) → r < records (2 * h) t → p (record_at (2 * h) t r) ≡ true → some p (clauses_of h t) ≡ true
unfolding clauses_of
some_clause h t p r l e = some_here p (records (2 * h) t) (record_at (2 * h) t) r l e

pub which_clause : (h : ℕ) (t : List ℕ) (p : List ℕ → Bool) → some p (clauses_of h t) ≡ true → (r : ℕ) × (r < records (2 * h) t) × (p (record_at (2 * h) t r) ≡ true)
unfolding clauses_of
which_clause h t p e = some_where p (records (2 * h) t) (record_at (2 * h) t) e

pub every_clause : (h : ℕ) (t : List ℕ) (p : List ℕ → Bool) → every p (clauses_of h t) ≡ true → (r : ℕ) → r < records (2 * h) t → p (record_at (2 * h) t r) ≡ true
unfolding clauses_of
every_clause h t p e r l = every_at p (records (2 * h) t) (record_at (2 * h) t) e r l

or_split : (x y : Bool) → (x || y) ≡ true → (x ≡ true) ⊎ (y ≡ true)
or_split true y e = inl refl
or_split false y e = inr e

pub occurs_here : (h : ℕ) (t : List ℕ) (r : ℕ) (sign : Bool) (v : ℕ) → r < records (2 * h) t → holds h (record_at (2 * h) t r) sign v ≡ true → occurs h t v ≡ true
unfolding occurs
occurs_here h t r true v l e = some_clause h t (λ c. holds h c true v || holds h c false v) r l (rw e refl)
occurs_here h t r false v l e = some_clause h t (λ c. holds h c true v || holds h c false v) r l (rw e (or-true (holds h (record_at (2 * h) t r) true v)))

pub occurs_where : (h : ℕ) (t : List ℕ) (v : ℕ) → occurs h t v ≡ true → (sign : Bool) × (r : ℕ) × (r < records (2 * h) t) × (holds h (record_at (2 * h) t r) sign v ≡ true)
unfolding occurs
occurs_where h t v e =
    let w = which_clause h t (λ c. holds h c true v || holds h c false v) e in
    go w.0 w.1 (or_split (holds h (record_at (2 * h) t w.0) true v) (holds h (record_at (2 * h) t w.0) false v) w.2)
  where
    go : (r : ℕ) → r < records (2 * h) t → (holds h (record_at (2 * h) t r) true v ≡ true) ⊎ (holds h (record_at (2 * h) t r) false v ≡ true)
        → (sign : Bool) × (r : ℕ) × (r < records (2 * h) t) × (holds h (record_at (2 * h) t r) sign v ≡ true)
    go r l (inl q) = (true, r, l, q)
    go r l (inr q) = (false, r, l, q)

pub occurs_bound : (h : ℕ) (t : List ℕ) (v : ℕ) → occurs h t v ≡ true → v < 8 * h
occurs_bound h t v e =
    let w = occurs_where h t v e in
    holds_bound h (record_at (2 * h) t w.1) w.0 v w.3

-- the literals of the first r records, one record at a time
abbrev pub literals_before : ℕ → List ℕ → ℕ → List ℕ
literals_before h t r = bytes_of (2 * h) (λ l. some (λ c. has c l) (tabulate r (record_at (2 * h) t)))

pub no_literals : (h : ℕ) (t : List ℕ) → bytes_of (2 * h) (λ l. false) ≡ literals_before h t 0
unfolding some tabulate
no_literals h t = refl

pub more_literals : (h : ℕ) (t : List ℕ) (r : ℕ) → Bytes (record_at (2 * h) t r) → joined (record_at (2 * h) t r) (literals_before h t r) ≡ literals_before h t (r + 1)
more_literals h t r small =
    joined_bytes_of (2 * h) (λ l. some (λ c. has c l) (tabulate r (record_at (2 * h) t))) (record_at (2 * h) t r) small
    ∙ bytes_of_below (2 * h) _ _ (λ l m. sym (some_snoc (λ c. has c l) r (record_at (2 * h) t)))

pub all_literals : (h : ℕ) (t : List ℕ) → literals_before h t (records (2 * h) t) ≡ literals_of h t
unfolding literals_of clauses_of
all_literals h t = refl

-- the record of all literals says what occurs
pub has_literals_of : (h : ℕ) (t : List ℕ) (l : ℕ) → l < 16 * h → has (literals_of h t) l ≡ some (λ c. has c l) (clauses_of h t)
unfolding literals_of
has_literals_of h t l m = has_bytes_of (2 * h) (λ l. some (λ c. has c l) (clauses_of h t)) l (omega arith)

pub literals_occur : (h : ℕ) (t : List ℕ) (v : ℕ) → v < 8 * h → (has (literals_of h t) v || has (literals_of h t) (8 * h + v)) ≡ occurs h t v
literals_occur h t v m = by_truth _ _ there back
  where
    at : (sign : Bool) → has (literals_of h t) (literal h sign v) ≡ some (λ c. has c (literal h sign v)) (clauses_of h t)
    at sign = has_literals_of h t (literal h sign v) (literal_bound h sign v m)

    found : (sign : Bool) → has (literals_of h t) (literal h sign v) ≡ true → occurs h t v ≡ true
    found sign e =
        let w = which_clause h t (λ c. has c (literal h sign v)) (sym (at sign) ∙ e) in
        occurs_here h t w.0 sign v w.1 (holds_has h (record_at (2 * h) t w.0) sign v m ∙ w.2)

    there : (has (literals_of h t) v || has (literals_of h t) (8 * h + v)) ≡ true → occurs h t v ≡ true
    there e = ⊎_elim (found true) (found false) (or_split _ _ e)

    put_back : (sign : Bool) → has (literals_of h t) (literal h sign v) ≡ true → (has (literals_of h t) v || has (literals_of h t) (8 * h + v)) ≡ true
    put_back true e = rw e refl
    put_back false e = rw e (or-true (has (literals_of h t) v))

    back : occurs h t v ≡ true → (has (literals_of h t) v || has (literals_of h t) (8 * h + v)) ≡ true
    back e =
        let w = occurs_where h t v e in
        put_back w.0 (at w.0 ∙ some_clause h t (λ c. has c (literal h w.0 v)) w.1 w.2 (sym (holds_has h (record_at (2 * h) t w.1) w.0 v m) ∙ w.3))
