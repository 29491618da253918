-- The laws of text that is appended: a field, a line, and the lines of the gates.
use Prim.Native.Nat.{ℕ, ◌+◌, ◌*◌, ◌≤◌}
use mathlib.Core.Path.{◌≡◌, refl, sym, ap, ◌∙◌}
use mathlib.Core.List.{List, [], ◌∷◌, ◌++◌, append_assoc, append-nil}
use native.Mathlib.Numerals.{add-one}
use lib.ListN.{length, get_or}
use Rattle.records.specs.Step.{pair_at}
use Rattle.circuits.specs.Gate.{gate_at}
use Rattle.circuits.proofs.EvaluateInsideLaws.{gate_read}
use Rattle.print.specs.Decimal.{decimal}
use Rattle.print.specs.Line.{space, line_end, ended, line, kind_word, gate_line, gate_lines}

-- a text behind a text
pub appended : (x y out : List ℕ) {out₁ out₂ : List ℕ} → out₁ ≡ out ++ x → out₂ ≡ out₁ ++ y → out₂ ≡ out ++ (x ++ y)
appended x y out p q = q ∙ ap (λ (xs : List ℕ). xs ++ y) p ∙ append_assoc out x y

-- a field, and the byte that ends it
pub field_appended : (y : List ℕ) (end : ℕ) (out : List ℕ) {x out₁ out₂ : List ℕ} → x ≡ y → out₁ ≡ out ++ x → out₂ ≡ out₁ ++ (end ∷ []) → out₂ ≡ out ++ ended y end
unfolding ended
field_appended y end out e p q = appended y (end ∷ []) out (p ∙ ap (λ (xs : List ℕ). out ++ xs) e) q

-- four fields, each with the byte behind it, are a line
pub line_appended : (x y z w out : List ℕ) {out₁ out₂ out₃ out₄ : List ℕ} → out₁ ≡ out ++ ended x space → out₂ ≡ out₁ ++ ended y space → out₃ ≡ out₂ ++ ended z space
    → out₄ ≡ out₃ ++ ended w line_end → out₄ ≡ out ++ line x y z w
unfolding line
line_appended x y z w out p q s t =
    simp append_assoc at
    (appended (ended x space ++ ended y space ++ ended z space) (ended w line_end) out
    (appended (ended x space ++ ended y space) (ended z space) out (appended (ended x space) (ended y space) out p q) s) t)

-- the line of the gate whose numbers stand in the table
pub gate_line_lem : (t : List ℕ) (k left right : ℕ) → 8 * k + 8 ≤ length t → left ≡ pair_at t (8 * k + 2) → right ≡ pair_at t (8 * k + 4)
    → line (decimal (514 + k)) (kind_word (get_or t (8 * k) 0)) (decimal left) (decimal right) ≡ gate_line k (gate_at t k)
unfolding gate_line
gate_line_lem t k left right l p q = let read = gate_read t k l left right p q in rw (read.kind, read.left, read.right) refl

-- no gate's line, and the next one's
pub no_lines : (table out : List ℕ) → out ≡ out ++ gate_lines table 0
unfolding gate_lines
no_lines table out = sym (append-nil out)

pub next_line : (table out : List ℕ) (k : ℕ) {out₁ out₂ : List ℕ} → out₁ ≡ out ++ gate_lines table k → out₂ ≡ out₁ ++ gate_line k (gate_at table k) → out₂ ≡ out ++ gate_lines table (k + 1)
unfolding gate_lines
next_line table out k p q = rw (add-one k) (appended (gate_lines table k) (gate_line k (gate_at table k)) out p q)
