-- The laws of a file's size: it has one only where it is read to its end, and then it is all that was read.
use Rattle.std.proofs.Common.{◌≡◌, ℕ, zero, suc, ◌+◌, ◌≤◌, Bool, true, cond, List, pos, length, take, Option, None, Some, IfSome, refl, sym, ap, ◌∙◌, arith, ne_eqb, length-take-le}
use Rattle.std.specs.Counts.{IsPrefixLen}
use Rattle.std.specs.Io.KnownBytes.{Consumes, IsAtEnd}
use Rattle.std.proofs.KnownBytes.{Consumes-whole}
use Rattle.print.specs.File.{read_answer, size_read, IsSize}

-- a length within a buffer is that of a prefix of it
pub prefix_len_of_le : (n : ℕ) (xs : List ℕ) → n ≤ length xs → IsPrefixLen n xs
prefix_len_of_le n xs h = (h, sym (length-take-le n xs h))

-- a size that does not count as longer is that of what was read to its end
pub read_to_end : (size : ℕ) (behind : Option ℕ) (n : ℕ) → n ≡ size_read (n + 1) (pos 0) size (read_answer behind) → (behind ≡ Some 0) × (n ≡ size)
unfolding size_read
read_to_end size None n e = let same : n ≡ n + 1 = e in absurd (omega arith)
read_to_end size (Some zero) n e = (refl, e)
read_to_end size (Some (suc more)) n e =
    let same : n ≡ n + 1 = e ∙ ap (λ (t : Bool). cond t size (n + 1)) (ne_eqb (suc more) 0 (λ e. omega (arith, e))) in absurd (omega arith)

pub size_within : (to : List ℕ) (size : ℕ) (behind r : Option ℕ) → IsSize true size behind r → IsPrefixLen size to → IfSome r (λ n. IsPrefixLen n to)
size_within to size behind None sizes within = tt
size_within to size behind (Some n) sizes within = rw (read_to_end size behind n (sizes (n + 1))).1 within

pub whole_read : (old new : Option (List ℕ)) (to : List ℕ) (size : ℕ) (behind r : Option ℕ) → IsSize true size behind r → Consumes old new (take size to) → (behind ≡ Some 0 → IsAtEnd new)
    → IfSome r (λ n. IfSome old (λ xs. take n to ≡ xs))
whole_read old new to size behind None sizes bytes ended = tt
whole_read old new to size behind (Some n) sizes bytes ended =
    let read = read_to_end size behind n (sizes (n + 1)) in
    Consumes-whole old new (take size to) (λ xs. take n to ≡ xs) bytes (ended read.0) (ap (λ (k : ℕ). take k to) read.1)
