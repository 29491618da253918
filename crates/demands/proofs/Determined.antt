-- The demands leave nothing open: a check that meets demands 1 and 2 is the plain check, and an evaluation that meets demand 2 is ours.
use Prim.Native.Nat.{ℕ, zero, suc, ◌+◌, ◌*◌, ◌≤◌, ◌<◌}
use mathlib.Core.Path.{◌≡◌, refl, sym, ap, ap₂, ◌∙◌}
use mathlib.Core.Bool.{Bool, true, false, true≢false}
use mathlib.Core.List.{List, ◌++◌}
use mathlib.Core.Logic.{◌⊎◌, inl, inr, ⊎_elim, by_cases}
use native.Mathlib.Decide.{ℕ_discrete, dec_lt}
use native.Mathlib.Nat.{mul-suc}
use native.Mathlib.Omega.{arith}
use lib.ListN.{length, get_or, take, drop, take-append-drop}
use lib.Seq.{take-add}
use Rattle.records.specs.Clause.{empty}
use Rattle.records.specs.Table.{record_at}
use Rattle.records.specs.Step.{step_at, step_count}
use Rattle.records.specs.Tests.{first_failed}
use Rattle.records.specs.Derivation.{inputs}
use Rattle.records.proofs.TableLaws.{within, record_at_in}
use Rattle.records.proofs.DerivationLaws.{clause_result}
use Rattle.records.proofs.AcceptanceLaws.{rule_over}
use Rattle.circuits.specs.Check.{Checked}
use Rattle.circuits.specs.Evaluate.{evaluation_tests, evaluated}
use Rattle.demands.specs.Tables.{Tables, Check, Evaluation, pass, limits, plain_check}
use Rattle.demands.specs.Resolvents.{clause, tests_of, Resolvents}
use Rattle.demands.specs.Refusal.{ByLimits, ByStep, ByRoot, Refusal, Demand1}
use Rattle.demands.specs.Acceptance.{Root, build, Acceptance, Demand2}
use Rattle.demands.proofs.ResolventLaws.{good_rule, rule_good, same_clauses}
use Rattle.demands.proofs.RefusalLaws.{limits_sizes, demand_1}
use Rattle.demands.proofs.AcceptanceLaws.{reads, demand_2}

-- lists with the same first n members and the same others
same_parts : (n : ℕ) (x y : List ℕ) → take n x ≡ take n y → drop n x ≡ drop n y → x ≡ y
same_parts n x y p q = sym (take-append-drop n x) ∙ ap₂ ◌++◌ p q ∙ take-append-drop n y

-- tables with the same first i records
same_records : (w i : ℕ) (x y : List ℕ) → w * i ≤ length x → w * i ≤ length y → ((j : ℕ) → j < i → record_at w x j ≡ record_at w y j) → take (w * i) x ≡ take (w * i) y
same_records w zero x y l m same = let e : w * zero ≡ 0 = omega arith in rw e refl
same_records w (suc i) x y l m same =
    let e : w * suc i ≡ w * i + w = mul-suc w i in
    rw e
    (take-add (w * i) w x
    ∙ ap₂ ◌++◌ (same_records w i x y (omega arith) (omega arith) (λ j q. same j (omega arith))) (sym (record_at_in w x i (omega arith)) ∙ same i (omega arith) ∙ record_at_in w y i (omega arith))
    ∙ sym (take-add (w * i) w y))

module _ (h : ℕ) (t : Tables) where
  -- the clauses up to step i, where the results of the first i steps stand in x and those of the first j in y
  clauses_agree : (i j : ℕ) (x y : List ℕ) → i ≤ j → Resolvents h t i x → Resolvents h t j y → (k : ℕ) → k < inputs h t.a t.b + i → clause h t x k ≡ clause h t y k
  clauses_agree i j x y l p q =
      same_clauses h t i x y (λ m n. good_rule h t x m (p.good m n)) p.resolvents (λ m n. q.resolvents m (omega arith))

  -- a step found good over the one is found good over the other
  good_over : (i j : ℕ) (x y : List ℕ) → i < j → Resolvents h t i x → Resolvents h t j y → pass (tests_of h t x i) ≡ true
  good_over i j x y l p q =
      rule_good h t x i
      (rule_over h (clause h t y) (clause h t x) (inputs h t.a t.b + i) (step_at t.steps i) (λ k m. sym (clauses_agree i j x y (omega arith) p q k m))
      (good_rule h t y i (q.good i l)))

  -- one work table
  results_agree : (i : ℕ) (x y : List ℕ) → 2 * h * i ≤ length t.work → Resolvents h t i x → Resolvents h t i y → x ≡ y
  results_agree i x y room p q =
      same_parts (2 * h * i) x y
      (same_records (2 * h) i x y (omega (arith, p.size)) (omega (arith, q.size))
      (λ j l.
      sym (clause_result h t.a t.b x j) ∙ clauses_agree i i x y (omega arith) p q (inputs h t.a t.b + j) (omega arith)
      ∙ clause_result h t.a t.b y j))
      (p.rest ∙ sym q.rest)

-- what an outcome is, by demands 1 and 2
abbrev Meets : ℕ → ℕ → Tables → Checked → Type 0
Meets h most t o = ((o.number ≡ 0) × Acceptance h most t o) ⊎ Refusal h most t o

-- how far the steps run, within the limits: to the first that fails, or to the end
record Runs (h most : ℕ) (t : Tables) (o : Checked) (i : ℕ) : Type 0 where
  inside : pass (limits h most t) ≡ true
  results : Resolvents h t i o.work
  few : i ≤ step_count t.steps
  ends : (i ≡ step_count t.steps) ⊎ (pass (tests_of h t o.work i) ≡ false)

module _ (h most : ℕ) (t : Tables) where
  not_further : (o o' : Checked) (i j : ℕ) → Runs h most t o i → Runs h most t o' j → i < j → ⊥
  not_further o o' i j p q l =
      ⊎_elim (λ e. absurd (omega (arith, q.few))) (λ failed. true≢false (sym (good_over h t i j o.work o'.work l p.results q.results) ∙ failed)) p.ends

  as_far : (o o' : Checked) (i j : ℕ) → Runs h most t o i → Runs h most t o' j → i ≡ j
  as_far o o' i j p q =
      by_cases (dec_lt i j) (λ l. absurd (not_further o o' i j p q l)) (λ l. by_cases (dec_lt j i) (λ m. absurd (not_further o' o j i q p m)) (λ m. omega arith))

  work_agrees : (o o' : Checked) (i : ℕ) → Runs h most t o i → Runs h most t o' i → o.work ≡ o'.work
  work_agrees o o' i p q = results_agree h t i o.work o'.work room p.results q.results
    where
      room : 2 * h * i ≤ length t.work
      room =
          by_cases (dec_lt i (step_count t.steps)) (λ l. omega (arith, within (2 * h) i (step_count t.steps) l, (limits_sizes h most t p.inside).0.room))
          (λ l. let e : i ≡ step_count t.steps = omega (arith, p.few) in rw e (limits_sizes h most t p.inside).0.room)

  -- each answer but 1 to 6 says how far the steps ran
  step_runs : (o : Checked) → ByStep h most t o → Runs h most t o o.place
  step_runs o p = record { inside = p.within; results = p.work; few = omega (arith, p.step); ends = inr p.failed }

  root_runs : (o : Checked) → ByRoot h most t o → Runs h most t o (step_count t.steps)
  root_runs o p = record { inside = p.within; results = p.work; few = omega arith; ends = inl refl }

  accepted_runs : (o : Checked) → Acceptance h most t o → Runs h most t o (step_count t.steps)
  accepted_runs o p = record { inside = p.within; results = p.work; few = omega arith; ends = inl refl }

  -- a step that fails is before the end
  step_before : (o o' : Checked) → ByStep h most t o → Runs h most t o' (step_count t.steps) → ⊥
  step_before o o' p q = absurd (omega (arith, as_far o o' o.place (step_count t.steps) (step_runs o p) q, p.step))

  -- with a root the answer is not 11
  root_or_none : (o o' : Checked) → ByRoot h most t o → Acceptance h most t o' → ⊥
  root_or_none o o' p q =
      let work = work_agrees o o' (step_count t.steps) (root_runs o p) (accepted_runs o' q) in
      true≢false (sym q.root.is_empty ∙ ap (λ (w : List ℕ). empty (clause h t w o'.place)) (sym work) ∙ p.none o'.place q.root.there)

  -- one root
  root_before : (o o' : Checked) → o.work ≡ o'.work → Root h t o → Root h t o' → o.place < o'.place → ⊥
  root_before o o' work p q l = true≢false (sym p.is_empty ∙ ap (λ (w : List ℕ). empty (clause h t w o.place)) work ∙ q.is_first o.place l)

  root_agrees : (o o' : Checked) → o.work ≡ o'.work → Root h t o → Root h t o' → o.place ≡ o'.place
  root_agrees o o' work p q =
      by_cases (dec_lt o.place o'.place) (λ l. absurd (root_before o o' work p q l))
      (λ l. by_cases (dec_lt o'.place o.place) (λ m. absurd (root_before o' o (sym work) q p m)) (λ m. omega arith))

-- outcomes with the same fields
same_outcome : (o o' : Checked) → o.number ≡ o'.number → o.place ≡ o'.place → o.root ≡ o'.root → o.count ≡ o'.count → o.work ≡ o'.work → o.gates ≡ o'.gates → o ≡ o'
same_outcome o o' number place root count work gates = λ j. record { number = number j; place = place j; root = root j; count = count j; work = work j; gates = gates j }

module _ (h most : ℕ) (t : Tables) where
  two_accepted : (o o' : Checked) → o.number ≡ 0 → o'.number ≡ 0 → Acceptance h most t o → Acceptance h most t o' → o ≡ o'
  two_accepted o o' e e' p q =
      let work = work_agrees h most t o o' (step_count t.steps) (accepted_runs h most t o p) (accepted_runs h most t o' q) in
      let place = root_agrees h most t o o' work p.root q.root in
      let x = p.interpolants in
      let y = q.interpolants in
      let count : o.count ≡ o'.count = x.count ∙ sym y.count in
      same_outcome o o' (e ∙ sym e') place (x.root ∙ ap (λ (k : ℕ). get_or (build h t).references k 0) place ∙ sym y.root) count work
      (same_parts (8 * o.count) o.gates o'.gates (x.gates ∙ sym y.gates ∙ ap (λ (n : ℕ). take (8 * n) o'.gates) (sym count))
      (x.rest ∙ ap (λ (n : ℕ). drop (8 * n) t.gates) count ∙ sym y.rest ∙ ap (λ (n : ℕ). drop (8 * n) o'.gates) (sym count)))

  -- refusals for one reason
  refused_alike : (o o' : Checked) → Refusal h most t o → Refusal h most t o' → o.number ≡ o'.number → o.place ≡ o'.place → o.work ≡ o'.work → o ≡ o'
  refused_alike o o' p q number place work = same_outcome o o' number place (p.root ∙ sym q.root) (p.count ∙ sym q.count) work (p.gates ∙ sym q.gates)

  two_refused : (o o' : Checked) → Refusal h most t o → Refusal h most t o' → o ≡ o'
  two_refused o o' p q = by_reason p.reason q.reason
    where
      by_reason : ByLimits h most t o ⊎ ByStep h most t o ⊎ ByRoot h most t o → ByLimits h most t o' ⊎ ByStep h most t o' ⊎ ByRoot h most t o' → o ≡ o'
      by_reason (inl x) (inl y) = refused_alike o o' p q (x.number ∙ sym y.number) (x.place ∙ sym y.place) (x.work ∙ sym y.work)
      by_reason (inl x) (inr (inl y)) = absurd (true≢false (sym y.within ∙ x.failed))
      by_reason (inl x) (inr (inr y)) = absurd (true≢false (sym y.within ∙ x.failed))
      by_reason (inr (inl x)) (inl y) = absurd (true≢false (sym x.within ∙ y.failed))
      by_reason (inr (inr x)) (inl y) = absurd (true≢false (sym x.within ∙ y.failed))
      by_reason (inr (inl x)) (inr (inl y)) =
          let place = as_far h most t o o' o.place o'.place (step_runs h most t o x) (step_runs h most t o' y) in
          let work = work_agrees h most t o o' o.place (step_runs h most t o x) (rw place (step_runs h most t o' y)) in
          refused_alike o o' p q (x.number ∙ ap₂ (λ (w : List ℕ) (k : ℕ). (first_failed (tests_of h t w k)).number) work place ∙ sym y.number) place work
      by_reason (inr (inr x)) (inr (inr y)) =
          refused_alike o o' p q (x.number ∙ sym y.number) (x.place ∙ sym y.place) (work_agrees h most t o o' (step_count t.steps) (root_runs h most t o x) (root_runs h most t o' y))
      by_reason (inr (inl x)) (inr (inr y)) = absurd (step_before h most t o o' x (root_runs h most t o' y))
      by_reason (inr (inr x)) (inr (inl y)) = absurd (step_before h most t o' o y (root_runs h most t o x))

  -- none is both
  accepted_not_refused : (o o' : Checked) → Acceptance h most t o → Refusal h most t o' → ⊥
  accepted_not_refused o o' p q = by_reason q.reason
    where
      by_reason : ByLimits h most t o' ⊎ ByStep h most t o' ⊎ ByRoot h most t o' → ⊥
      by_reason (inl y) = true≢false (sym p.within ∙ y.failed)
      by_reason (inr (inl y)) = step_before h most t o' o y (accepted_runs h most t o p)
      by_reason (inr (inr y)) = root_or_none h most t o' o y p

  -- the demands give one outcome
  outcome_unique : (o o' : Checked) → Meets h most t o → Meets h most t o' → o ≡ o'
  outcome_unique o o' (inl p) (inl q) = two_accepted o o' p.0 q.0 p.1 q.1
  outcome_unique o o' (inr p) (inr q) = two_refused o o' p q
  outcome_unique o o' (inl p) (inr q) = absurd (accepted_not_refused o o' p.1 q)
  outcome_unique o o' (inr p) (inl q) = absurd (accepted_not_refused o' o q.1 p)

-- an outcome of a check that meets demands 1 and 2
meets : (h most limit : ℕ) (check : Check) (evaluate : Evaluation) → Demand1 h most check → Demand2 h most limit check evaluate → (t : Tables) → Meets h most t (check t)
meets h most limit check evaluate demand_1 demand_2 t =
    by_cases (ℕ_discrete (check t).number 0) (λ e. inl (e, demand_2.accepted t e)) (λ n. inr (demand_1 t n))

-- a check that meets demands 1 and 2 is the plain check
pub check_determined : (h most limit : ℕ) (check : Check) (evaluate : Evaluation) → Demand1 h most check → Demand2 h most limit check evaluate → (t : Tables) → check t ≡ plain_check h most t
check_determined h most limit check evaluate d₁ d₂ t =
    outcome_unique h most t (check t) (plain_check h most t) (meets h most limit check evaluate d₁ d₂ t)
    (meets h most limit (plain_check h most) (evaluated h limit) (demand_1 h most) (demand_2 h most limit) t)

-- and an evaluation that meets demand 2 is ours
pub evaluation_determined : (h most limit : ℕ) (check : Check) (evaluate : Evaluation) → Demand2 h most limit check evaluate
    → (assignment table : List ℕ) (root : ℕ) → evaluate assignment table root ≡ evaluated h limit assignment table root
evaluation_determined h most limit check evaluate given assignment table root = go (pass (evaluation_tests h limit assignment table root)) refl
  where
    go : (b : Bool) → pass (evaluation_tests h limit assignment table root) ≡ b → evaluate assignment table root ≡ evaluated h limit assignment table root
    go false e = given.reads.refused assignment table root e ∙ sym ((reads h limit).refused assignment table root e)
    go true e = given.reads.read assignment table root e ∙ sym ((reads h limit).read assignment table root e)
