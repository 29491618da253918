-- The rule of a pivot, by the symmetric system of source document 002.
use Rattle.std.specs.Prelude.{ℕ, Bool, true, false, List}
use Rattle.records.specs.Table.{occurs}
use Rattle.circuits.specs.declared.rules.Rule.{Rule}
use Rattle.circuits.specs.declared.kinds.Kind.TheVariants.{And, Or}
use Rattle.circuits.specs.declared.rules.Rule.TheVariants.{One, Both}

-- "pivot A-only: one gate, OR(L, R). B-only: one gate, AND(L, R). .. Pivot common: three gates": by whether it occurs in A, and in B
abbrev pub symmetric : Bool → Bool → Rule
symmetric true true = Both
symmetric true false = One Or
symmetric false in_b = One And

-- "A variable is A-only, B-only or common by where it occurs in the whole of tables A and B, in clauses no step uses too."
unfoldable pub symmetric_rule : ℕ → List ℕ → List ℕ → ℕ → Rule
symmetric_rule h a b v = symmetric (occurs h a v) (occurs h b v)
