-- Demand 3 is met: the circuit that an accepted check leaves stands between A and B, and what should be accepted is.
use Prim.Native.Nat.{ℕ, ◌+◌, ◌*◌, ◌≤◌, ◌<◌}
use mathlib.Core.Path.{◌≡◌, sym, ap, ◌∙◌}
use mathlib.Core.Bool.{true}
use mathlib.Core.List.{List}
use mathlib.Core.Logic.{◌⊎◌, ⊎_elim}
use native.Mathlib.Omega.{arith}
use lib.ListN.{length}
use Rattle.records.specs.Bits.{digit}
use Rattle.records.specs.Clause.{has, empty}
use Rattle.records.specs.Step.{step_at, step_count}
use Rattle.records.specs.Derivation.{inputs, ByRule, last_work}
use Rattle.records.proofs.ListLaws.{length_tabulate, get_d_tabulate}
use Rattle.circuits.specs.Gate.{Gate, gate_at, gates_of}
use Rattle.circuits.specs.Value.{value}
use Rattle.circuits.specs.declared.evaluation.Evaluated.{Evaluated}
use Rattle.circuits.specs.Evaluate.{evaluated}
use Rattle.circuits.proofs.VariableLaws.{InBoth, within_at}
use Rattle.circuits.proofs.CheckLaws.{PlainAccepted, plain_acceptance, circuit_left, plain_interpolates, plain_common, circuit_evaluated, plain_accepts}
use Rattle.demands.specs.Tables.{Tables, pass, limits, plain_check}
use Rattle.demands.specs.Resolvents.{clause, clauses, Resolvents}
use Rattle.demands.specs.Interpolant.{answer_at, Names, Between, Demand3}
use Rattle.demands.proofs.ResolventLaws.{good_rule, same_clauses, work_resolvents, all_run}
use Rattle.demands.proofs.RefusalLaws.{limits_sizes}

module _ (h most limit : ℕ) (enough : 3 * most ≤ limit) (t : Tables) (given : PlainAccepted h most t.a t.b t.steps t.work t.gates) where
  -- the evaluation never refuses the circuit: it answers its value
  answer_is : (assignment : List ℕ) → length assignment ≡ h
      → answer_at (evaluated h limit) (plain_check h most t) assignment
      ≡ record { number = 0; place = 0; value = digit (value (8 * h) (has assignment) (circuit_left h most t.a t.b t.steps t.work t.gates) (plain_check h most t).root) }
  answer_is assignment size = circuit_evaluated h most t.a t.b t.steps t.work t.gates given limit enough assignment size

  -- gate k of the table is gate k of the circuit
  gate_common : (k v : ℕ) → k < (plain_check h most t).count → v < 8 * h
      → Names (gate_at (plain_check h most t).gates k).left v ⊎ Names (gate_at (plain_check h most t).gates k).right v → InBoth h t.a t.b v
  unfolding gates_of
  gate_common k v l small names =
      let o = plain_check h most t in
      let none : Gate = record { kind = 0; left = 0; right = 0 } in
      let all = (plain_common h most t.a t.b t.steps t.work t.gates given).0 in
      let here = within_at (8 * h) (InBoth h t.a t.b) (gates_of o.gates o.count) none k all (omega (arith, length_tabulate o.count (gate_at o.gates))) in
      let inputs_are = rw (get_d_tabulate o.count (gate_at o.gates) none k l) at here in
      ⊎_elim (λ left. inputs_are.0 v small left) (λ right. inputs_are.1 v small right) names

  between : Between h t (evaluated h limit) (plain_check h most t)
  between =
      let interpolates = plain_interpolates h most t.a t.b t.steps t.work t.gates given in
      record {
        never_refused = λ assignment size. ap (λ (e : Evaluated). e.number) (answer_is assignment size);
        true_by_a = λ assignment size all. ap (λ (e : Evaluated). e.value) (answer_is assignment size) ∙ ap digit (interpolates.by_a (has assignment) all);
        false_by_b = λ assignment size all. ap (λ (e : Evaluated). e.value) (answer_is assignment size) ∙ ap digit (interpolates.by_b (has assignment) all);
        common = gate_common;
      }

-- tables within the limits, whose steps have their results in some work table, with an empty clause among them
accepted : (h most : ℕ) (t : Tables) (results : List ℕ) (k : ℕ) → pass (limits h most t) ≡ true → Resolvents h t (step_count t.steps) results
    → k < clauses h t → empty (clause h t results k) ≡ true → (plain_check h most t).number ≡ 0
accepted h most t results k within given l e =
    let limit = limits_sizes h most t within in
    let s = step_count t.steps in
    let last = last_work h t.a t.b t.steps t.work in
    let run = work_resolvents h t limit.0.room s (omega arith) (omega (arith, all_run h t limit.0.room results given)) in
    let rules : (j : ℕ) → j < s → ByRule h (clause h t results) (inputs h t.a t.b + j) (step_at t.steps j) = λ j m. good_rule h t results j (given.good j m) in
    let same = same_clauses h t s results last rules given.resolvents run.resolvents in
    plain_accepts h most t.a t.b t.steps t.work t.gates limit.0 limit.1 (λ i m. good_rule h t last i (run.good i m)) k l (sym (ap empty (same k l)) ∙ e)

pub demand_3 : (h most limit : ℕ) → 3 * most ≤ limit → Demand3 h most (plain_check h most) (evaluated h limit)
demand_3 h most limit enough =
    record {
      between = λ t e. between h most limit enough t (plain_acceptance h most t.a t.b t.steps t.work t.gates e);
      accepts = accepted h most;
    }
