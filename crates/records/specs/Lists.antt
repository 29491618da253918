-- Lists made of a rule, and searches: the words "first", "some" and "every" of document 01.
use Rattle.std.specs.Prelude.{ℕ, zero, suc, Bool, true, false, ◌&&◌, ◌||◌, cond, Option, Some, None, List, [], ◌∷◌, ltb}

-- f 0, f 1, .., f (n - 1)
unfoldable pub tabulate : {A : Type 0} → ℕ → (ℕ → A) → List A
tabulate zero f = []
tabulate (suc n) f = f 0 ∷ tabulate n (λ i. f (suc i))

-- the first number below n of which p is true, or n where there is none
unfoldable pub first : (ℕ → Bool) → ℕ → ℕ
first p zero = 0
first p (suc n) = cond (p 0) 0 (suc (first (λ i. p (suc i)) n))

-- what a search among n answers: the number that it found, where there is one
abbrev pub found : ℕ → ℕ → Option ℕ
found n k = cond (ltb k n) (Some k) None

-- p is true of some member
unfoldable pub some : {A : Type 0} → (A → Bool) → List A → Bool
some p [] = false
some p (x ∷ xs) = p x || some p xs

-- p is true of every member
unfoldable pub every : {A : Type 0} → (A → Bool) → List A → Bool
every p [] = true
every p (x ∷ xs) = p x && every p xs
