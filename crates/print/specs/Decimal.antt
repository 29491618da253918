-- "Fields are decimal": a number's digits as ASCII bytes, the most significant first.
use Rattle.std.specs.Prelude.{ℕ, zero, suc, ◌+◌, ◌/◌, ◌%◌, cond, List, [], ◌∷◌, ◌++◌, ltb}

-- the ASCII byte of a digit
abbrev pub digit : ℕ → ℕ
digit d = 48 + d

-- a number of at most so many digits, without leading zeros
unfoldable pub digits : ℕ → ℕ → List ℕ
digits zero n = []
digits (suc most) n = cond (ltb n 10) (digit n ∷ []) (digits most (n / 10) ++ (digit (n % 10) ∷ []))

-- a number has no more digits than one more than itself
unfoldable pub decimal : ℕ → List ℕ
decimal n = digits (suc n) n
