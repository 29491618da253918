-- What clauses say of an assignment, which gives each variable a truth value.
use Rattle.std.specs.Prelude.{ℕ, ◌*◌, Bool, List}
use Rattle.records.specs.Lists.{tabulate, some, every}
use Rattle.records.specs.Clause.{holds}
use Rattle.records.specs.Table.{clauses_of}

-- a clause is satisfied where it holds, of some variable, the literal that the assignment makes true
unfoldable pub satisfies : ℕ → (ℕ → Bool) → List ℕ → Bool
satisfies h assignment c = some (λ v. holds h c (assignment v) v) (tabulate (8 * h) (λ v. v))

-- every clause of the table is satisfied
unfoldable pub satisfies_all : ℕ → (ℕ → Bool) → List ℕ → Bool
satisfies_all h assignment table = every (satisfies h assignment) (clauses_of h table)
