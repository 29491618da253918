-- A clause record: a set of literals over 8h variables, in 2h bytes. Document 01 has h = 32: "Clause, 64 bytes".
use Rattle.std.specs.Prelude.{ℕ, ◌+◌, ◌*◌, ◌/◌, ◌%◌, Bool, true, false, not, ◌&&◌, ◌||◌, cond, List, length, get_or, eqb, ltb}
use Rattle.records.specs.Bits.{bit_of, number_of}
use Rattle.records.specs.Lists.{tabulate, every}

-- "In each half variable v is bit v mod 8 of byte v div 8": bit l of a record is bit l mod 8 of its byte l div 8.
-- Past the record's end every bit is 0.
unfoldable pub has : List ℕ → ℕ → Bool
has r l = bit_of (get_or r (l / 8) 0) (l % 8)

-- "Bytes 0 to 31 are the positive literals, 32 to 63 the negative ones": the bit of variable v's literal, true for the positive one.
abbrev pub literal : ℕ → Bool → ℕ → ℕ
literal h true v = v
literal h false v = 8 * h + v

-- the record holds that literal of variable v, one of 8h
unfoldable pub holds : ℕ → List ℕ → Bool → ℕ → Bool
holds h r sign v = ltb v (8 * h) && has r (literal h sign v)

-- the record of n bytes whose bits are a set of literals
unfoldable pub bytes_of : ℕ → (ℕ → Bool) → List ℕ
bytes_of n set = tabulate n (λ i. number_of 8 (λ k. set (8 * i + k)))

-- the record's literals but x
abbrev pub without : List ℕ → ℕ → ℕ → Bool
without r x l = has r l && not (eqb l x)

-- "The resolvent is (left without the positive literal) together with (right without the negative literal)." The pivot is one of the
-- 8h variables: the tests of a step see to it.
abbrev pub resolved : ℕ → List ℕ → List ℕ → ℕ → ℕ → Bool
resolved h left right pivot l = without left (literal h true pivot) l || without right (literal h false pivot) l

-- its bytes
unfoldable pub resolvent : ℕ → List ℕ → List ℕ → ℕ → List ℕ
resolvent h left right pivot = bytes_of (2 * h) (resolved h left right pivot)

-- a part of a table once the resolvent was written into it: a part that is no record stays as it is
unfoldable pub resolved_into : ℕ → List ℕ → List ℕ → ℕ → List ℕ → List ℕ
resolved_into h left right pivot part = cond (eqb (length part) (2 * h)) (resolvent h left right pivot) part

-- "A record of 64 zero bytes is the empty clause." Of a list of any length: the empty part counts too, so a search keeps to the
-- records that are there.
unfoldable pub empty : List ℕ → Bool
empty r = every (λ x. eqb x 0) r
