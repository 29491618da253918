-- The laws of a run's clauses: what the step layer leaves are the resolvents of the steps found good, and the rule gives no others.
use Prim.Native.Nat.{ℕ, ◌+◌, ◌*◌, ◌≤◌, ◌<◌}
use mathlib.Core.Path.{◌≡◌, refl, sym, ap, ◌∙◌}
use mathlib.Core.Bool.{true, true≢false}
use mathlib.Core.List.{List}
use mathlib.Core.Logic.{⊎_elim}
use native.Mathlib.Omega.{arith}
use lib.ListN.{length, drop}
use Rattle.records.specs.Table.{record_at}
use Rattle.records.specs.Step.{step_at, step_count}
use Rattle.records.specs.Tests.{Verdict, first_failed, refused}
use Rattle.records.specs.Derivation.{inputs, result_of, work_after, verdict_at, stop_at, ByRule, Derivation}
use Rattle.records.proofs.NumberLaws.{strong, in_parts}
use Rattle.records.proofs.TestLaws.{step_numbered, refused_not}
use Rattle.records.proofs.DerivationLaws.{clause_result}
use Rattle.records.proofs.WorkLaws.{clause_input, length_work_after, rest_kept}
use Rattle.records.proofs.AcceptanceLaws.{by_rule, rule_by_lem, rule_over, stop_cases, derivation}
use Rattle.demands.specs.Tables.{Tables, pass}
use Rattle.demands.specs.Resolvents.{clause, tests_of, Resolvents}
use Rattle.demands.proofs.PassLaws.{pass_none, none_pass}

module _ (h : ℕ) (t : Tables) where
  -- a step's tests pass where it is by the rule, and only there
  pub good_rule : (results : List ℕ) (i : ℕ) → pass (tests_of h t results i) ≡ true → ByRule h (clause h t results) (inputs h t.a t.b + i) (step_at t.steps i)
  good_rule results i e =
      by_rule h (clause h t results) (inputs h t.a t.b + i) i (step_at t.steps i)
      (refused_not (first_failed (tests_of h t results i)) (ap (λ (v : Verdict). v.number) (pass_none (tests_of h t results i) e)))

  pub rule_good : (results : List ℕ) (i : ℕ) → ByRule h (clause h t results) (inputs h t.a t.b + i) (step_at t.steps i) → pass (tests_of h t results i) ≡ true
  unfolding first_failed
  rule_good results i rule =
      none_pass (tests_of h t results i) (step_numbered h (clause h t results) (inputs h t.a t.b + i) i (step_at t.steps i))
      (ap (λ (v : Verdict). v.number) (rule_by_lem h (clause h t results) (inputs h t.a t.b + i) i (step_at t.steps i) rule))

  -- the rule gives one run: two work tables in which the results of the first i steps stand have the same clauses
  pub same_clauses : (i : ℕ) (x y : List ℕ)
      → ((j : ℕ) → j < i → ByRule h (clause h t x) (inputs h t.a t.b + j) (step_at t.steps j))
      → ((j : ℕ) → j < i → record_at (2 * h) x j ≡ result_of h t.a t.b x (step_at t.steps j))
      → ((j : ℕ) → j < i → record_at (2 * h) y j ≡ result_of h t.a t.b y (step_at t.steps j))
      → (k : ℕ) → k < inputs h t.a t.b + i → clause h t x k ≡ clause h t y k
  same_clauses i x y rules of-x of-y = strong Same next
    where
      Same : ℕ → Type 0
      Same k = k < inputs h t.a t.b + i → clause h t x k ≡ clause h t y k

      result : (j : ℕ) → ((m : ℕ) → m < inputs h t.a t.b + j → Same m) → Same (inputs h t.a t.b + j)
      result j earlier l =
          let rule = rules j (omega arith) in
          let s = step_at t.steps j in
          let left : clause h t x s.left ≡ clause h t y s.left = earlier s.left rule.left_earlier (omega (arith, rule.left_earlier)) in
          let right : clause h t x s.right ≡ clause h t y s.right = earlier s.right rule.right_earlier (omega (arith, rule.right_earlier)) in
          clause_result h t.a t.b x j ∙ of-x j (omega arith) ∙ rw (left, right) (sym (of-y j (omega arith)) ∙ sym (clause_result h t.a t.b y j))

      next : (k : ℕ) → ((m : ℕ) → m < k → Same m) → Same k
      next =
          in_parts (λ (k : ℕ). ((m : ℕ) → m < k → Same m) → Same k) (inputs h t.a t.b) (λ k l earlier m. clause_input h t.a t.b x y k l) result

  -- what a derivation leaves in the work table, where no other byte changed
  pub derivation_resolvents : (i : ℕ) (results : List ℕ) → Derivation h t.a t.b results (step_at t.steps) i → drop (2 * h * i) results ≡ drop (2 * h * i) t.work
      → length results ≡ length t.work → Resolvents h t i results
  derivation_resolvents i results given rest size =
      record {
        good = λ j l. rule_good results j (given.by_rule j l);
        resolvents = λ j l. sym (clause_result h t.a t.b results j) ∙ given.result j l;
        rest = rest;
        size = size;
      }

  module _ (room : 2 * h * step_count t.steps ≤ length t.work) where
    -- after the first i steps, up to the first that fails
    pub work_resolvents : (i : ℕ) → i ≤ step_count t.steps → i ≤ stop_at h t.a t.b (step_at t.steps) t.work (step_count t.steps)
        → Resolvents h t i (work_after h t.a t.b (step_at t.steps) t.work i)
    work_resolvents i few l =
        derivation_resolvents i (work_after h t.a t.b (step_at t.steps) t.work i)
        (derivation h t.a t.b (step_at t.steps) t.work (step_count t.steps) room i l)
        (rest_kept h t.a t.b (step_at t.steps) t.work (step_count t.steps) room i (2 * h * i) few (omega arith))
        (length_work_after h t.a t.b (step_at t.steps) t.work (step_count t.steps) room i few)

    -- steps whose results stand in some work table all run
    pub all_run : (results : List ℕ) → Resolvents h t (step_count t.steps) results
        → stop_at h t.a t.b (step_at t.steps) t.work (step_count t.steps) ≡ step_count t.steps
    unfolding verdict_at first_failed
    all_run results given = ⊎_elim (λ all. all) (λ stop. absurd (stopped stop.0 stop.1 stop.2 stop.3)) (stop_cases h t.a t.b (step_at t.steps) t.work (step_count t.steps))
      where
        stopped : (i : ℕ) → i < step_count t.steps → i ≡ stop_at h t.a t.b (step_at t.steps) t.work (step_count t.steps)
            → refused (verdict_at h t.a t.b (step_at t.steps) t.work i) ≡ true → ⊥
        stopped i l e bad =
            let work = work_after h t.a t.b (step_at t.steps) t.work i in
            let before = work_resolvents i (omega arith) (omega arith) in
            let rules : (j : ℕ) → j < i → ByRule h (clause h t results) (inputs h t.a t.b + j) (step_at t.steps j) =
            λ j m. good_rule results j (given.good j (omega arith)) in
            let same = same_clauses i results work rules (λ j m. given.resolvents j (omega arith)) before.resolvents in
            let rule = rule_over h (clause h t results) (clause h t work) (inputs h t.a t.b + i) (step_at t.steps i) same (good_rule results i (given.good i l)) in
            true≢false (sym bad ∙ rw (rule_by_lem h (clause h t work) (inputs h t.a t.b + i) i (step_at t.steps i) rule) refl)
