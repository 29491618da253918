-- The circuit of the symmetric build, by any way of adding a gate that keeps its promise and behind any gates, is an interpolant at each empty clause.
use Rattle.std.proofs.Common.{◌≡◌, ℕ, ◌+◌, ◌*◌, ◌<◌, Bool, true, false, List, [], ◌++◌, length, ap, ◌∙◌, subst, arith}
use Rattle.records.specs.declared.steps.Step.{Step}
use Rattle.records.specs.Clause.{empty}
use Rattle.records.specs.Table.{records}
use Rattle.records.specs.Meaning.{satisfies_all}
use Rattle.records.specs.Derivation.{inputs, clause_at, Derivation}
use Rattle.records.proofs.ClauseLaws.{holds_bound}
use Rattle.circuits.specs.Gate.{Gate}
use Rattle.circuits.specs.Rule.{symmetric_rule}
use Rattle.circuits.specs.Build.{Adding, input_references, symmetric_start, symmetric_build}
use Rattle.circuits.specs.Value.{value}
use Rattle.circuits.proofs.ValueLaws.{value_false, value_true}
use Rattle.circuits.proofs.BuildLaws.{length_inputs, input_a, input_b, inputs_in_place}
use Rattle.circuits.proofs.CircuitLaws.{Faithful, clause_value, start_value, step_value}
use Rattle.circuits.proofs.SoundLaws.{SymmetricValues, rule_operation, true_by_a, false_by_b}

-- what A says is true of it, and what B says is not
pub record Interpolates (h : ℕ) (a b : List ℕ) (interpolant : (ℕ → Bool) → Bool) : Type 0 where
  pub by_a : (σ : ℕ → Bool) → satisfies_all h σ a ≡ true → interpolant σ ≡ true
  pub by_b : (σ : ℕ → Bool) → satisfies_all h σ b ≡ true → interpolant σ ≡ false

-- every pivot of a derivation is a variable
pub pivots_small : (h : ℕ) (a b last : List ℕ) (step : ℕ → Step) (s : ℕ) → Derivation h a b last step s → (i : ℕ) → i < s → (step i).pivot < 8 * h
pivots_small h a b last step s given i l = holds_bound h (clause_at h a b last (step i).left) true (step i).pivot (given.by_rule i l).left_holds

module _ (h : ℕ) (add : Adding) (faithful : Faithful (8 * h) add) (front : List Gate) (a b last : List ℕ) (step : ℕ → Step) (s : ℕ) (given : Derivation h a b last step s) where
  -- the values at the clauses' references are those of the symmetric system
  pub symmetric_values : (σ : ℕ → Bool) → SymmetricValues h a b step s σ (clause_value (8 * h) σ front (symmetric_build h add a b (length front) step s))
  symmetric_values σ =
      record {
        in_a = λ k l. at_start k (omega arith) ∙ ap (value (8 * h) σ (front ++ [])) (input_a (records (2 * h) a) (records (2 * h) b) k l) ∙ value_false (8 * h) σ _;
        in_b = λ k l. at_start (records (2 * h) a + k) (omega arith) ∙ ap (value (8 * h) σ (front ++ [])) (input_b (records (2 * h) a) (records (2 * h) b) k l) ∙ value_true (8 * h) σ _;
        of_steps = λ i l.
            let rule = given.by_rule i l in
            subst
            (λ (n : ℕ).
            clause_value (8 * h) σ front (symmetric_build h add a b (length front) step s) (n + i)
            ≡ rule_operation (symmetric_rule h a b) σ (step i).pivot (clause_value (8 * h) σ front (symmetric_build h add a b (length front) step s) (step i).left)
            (clause_value (8 * h) σ front (symmetric_build h add a b (length front) step s) (step i).right))
            inputs_are
            (step_value (8 * h) add faithful (symmetric_rule h a b) front (symmetric_start h a b) step s (inputs_in_place (8 * h) (length front) (records (2 * h) a) (records (2 * h) b))
            (pivots_small h a b last step s given) σ i l (omega (arith, inputs_are, rule.left_earlier)) (omega (arith, inputs_are, rule.right_earlier)));
      }
    where
      inputs_are : length (input_references (records (2 * h) a) (records (2 * h) b)) ≡ inputs h a b
      inputs_are = length_inputs (records (2 * h) a) (records (2 * h) b)

      at_start : (k : ℕ) → k < inputs h a b
          → clause_value (8 * h) σ front (symmetric_build h add a b (length front) step s) k ≡ clause_value (8 * h) σ front (symmetric_start h a b) k
      at_start k l =
          start_value (8 * h) add faithful (symmetric_rule h a b) front (symmetric_start h a b) step s (inputs_in_place (8 * h) (length front) (records (2 * h) a) (records (2 * h) b))
          (pivots_small h a b last step s given) σ k (omega (arith, inputs_are))

  pub symmetric_interpolates : (k : ℕ) → k < inputs h a b + s → empty (clause_at h a b last k) ≡ true
      → Interpolates h a b (λ (σ : ℕ → Bool). clause_value (8 * h) σ front (symmetric_build h add a b (length front) step s) k)
  symmetric_interpolates k l e =
      record {
        by_a = λ σ all. true_by_a h a b last step s given σ _ (symmetric_values σ) all k l e;
        by_b = λ σ all. false_by_b h a b last step s given σ _ (symmetric_values σ) all k l e;
      }
