-- No wrong check of document 01 meets the demand that shuts it out.
use Prim.Native.Nat.{ℕ, ◌*◌, ◌<◌}
use mathlib.Core.Path.{◌≡◌, refl, sym, ap, ap₂, ◌∙◌}
use mathlib.Core.Bool.{true, false, true≢false, false≢true}
use mathlib.Core.Logic.{◌⊎◌, inl, inr}
use mathlib.Core.List.{[], ◌∷◌, ◌++◌}
use native.Mathlib.Decide.{ℕ_discrete}
use native.Mathlib.Omega.{arith}
use lib.ListN.{length, get_or, take, drop, replicate}
use Rattle.records.specs.Bits.{bit_of, number_of}
use Rattle.records.specs.Lists.{tabulate, some, every}
use Rattle.records.specs.Clause.{has, holds, bytes_of, resolvent, empty}
use Rattle.records.specs.Table.{record_at, clauses_of, occurs}
use Rattle.records.specs.Step.{step_at, step_count}
use Rattle.records.specs.Tests.{table_tests, room_tests, step_tests}
use Rattle.records.specs.Derivation.{clause_at, result_of}
use Rattle.records.specs.Meaning.{satisfies, satisfies_all}
use Rattle.records.proofs.ListLaws.{get_d_tabulate}
use Rattle.circuits.specs.Gate.{and_gate, or_gate, gates_bytes, gate_at, spare_at, gates_of}
use Rattle.circuits.specs.Rule.{symmetric_rule}
use Rattle.circuits.specs.Build.{emit, built, input_references, plain_build}
use Rattle.circuits.specs.Check.{gate_room_tests, plain_tests}
use Rattle.circuits.specs.Evaluate.{length_tests, form_tests, gates_tests, reference_tests, evaluation_tests}
use Rattle.demands.specs.Tables.{Tables, Check, Evaluation, pass, limits, circuit}
use Rattle.demands.specs.Resolvents.{clause, clauses, tests_of, Resolvents}
use Rattle.demands.specs.Formula.{truth, reference_formula, formulas}
use Rattle.demands.specs.Refusal.{ByLimits, ByStep, ByRoot, Demand1}
use Rattle.demands.specs.Acceptance.{gates_of_steps, build, Acceptance, Reads, Demand2}
use Rattle.demands.specs.Interpolant.{Demand3}
use Rattle.demands.specs.Cases.{byte_with, clause_of, step_bytes, tables_of, Case, acceptance_of, P1, P5, P6, P7, P8, P9}
use Rattle.demands.specs.Wrong.{RefusesEverything, FixedCircuit, WritesNothing, CopiesRows, InventsCount, BothSigns, ByOrigin, CrossedPair, LastRoot, SkipsAfterRoot}

-- two rules that make the same list agree below its length
same_below : {A : Type 0} (n : ℕ) (f g : ℕ → A) (d : A) → tabulate n f ≡ tabulate n g → (i : ℕ) → i < n → f i ≡ g i
same_below n f g d e i l = sym (get_d_tabulate n f d i l) ∙ ap (λ xs. get_or xs i d) e ∙ get_d_tabulate n g d i l

-- the root is not the last clause: A a zero record and {x0}, no B, no steps
early_root : Case
early_root = acceptance_of (tables_of (clause_of [] [] ++ clause_of (0 ∷ []) []) [] []) 0 0 [] [] (λ assignment. false)

-- a bad step behind the root: P3's clause with step (0, 0, 0), which fails test 9
bad_behind_root : Tables
bad_behind_root = tables_of (clause_of [] []) [] (step_bytes 0 0 0)

-- what the demands speak of at an accepted case, with its expected outcome, as far as it computes: the limits, the steps and their results, the root, the gates and their count
record Computes (c : Case) : Type 0 where
  within : pass (limits 32 1024 c.tables) ≡ true
  good : tabulate (step_count c.tables.steps) (λ i. pass (tests_of 32 c.tables c.expected.work i)) ≡ tabulate (step_count c.tables.steps) (λ i. true)
  results : tabulate (step_count c.tables.steps) (record_at 64 c.expected.work)
      ≡ tabulate (step_count c.tables.steps) (λ i. result_of 32 c.tables.a c.tables.b c.expected.work (step_at c.tables.steps i))
  rest : drop (64 * step_count c.tables.steps) c.expected.work ≡ drop (64 * step_count c.tables.steps) c.tables.work
  size : length c.expected.work ≡ length c.tables.work
  place : c.expected.place < clauses 32 c.tables
  root : empty (clause 32 c.tables c.expected.work c.expected.place) ≡ true
  gates : gates_bytes (build 32 c.tables).gates ≡ circuit c.expected
  count : gates_of_steps 32 c.tables (step_count c.tables.steps) ≡ c.expected.count

record AllCompute : Type 0 where
  at_P1 : Computes P1
  at_P5 : Computes P5
  at_P6 : Computes P6
  at_P7 : Computes P7
  at_P8 : Computes P8
  at_early_root : Computes early_root

all_compute : AllCompute
unfolding P1 P5 P6 P7 P8 early_root bit_of number_of tabulate some every has holds bytes_of resolvent empty record_at clauses_of occurs step_at table_tests room_tests step_tests clause_at gates_bytes symmetric_rule emit built input_references plain_build gate_room_tests plain_tests pass gates_of_steps
all_compute =
    record {
      at_P1 = record { within = refl; good = refl; results = refl; rest = refl; size = refl; place = omega arith; root = refl; gates = refl; count = refl };
      at_P5 = record { within = refl; good = refl; results = refl; rest = refl; size = refl; place = omega arith; root = refl; gates = refl; count = refl };
      at_P6 = record { within = refl; good = refl; results = refl; rest = refl; size = refl; place = omega arith; root = refl; gates = refl; count = refl };
      at_P7 = record { within = refl; good = refl; results = refl; rest = refl; size = refl; place = omega arith; root = refl; gates = refl; count = refl };
      at_P8 = record { within = refl; good = refl; results = refl; rest = refl; size = refl; place = omega arith; root = refl; gates = refl; count = refl };
      at_early_root = record { within = refl; good = refl; results = refl; rest = refl; size = refl; place = omega arith; root = refl; gates = refl; count = refl };
    }

open all_compute use {at_P1, at_P5, at_P6, at_P7, at_P8, at_early_root}

module _ (check : Check) (evaluate : Evaluation) (demand_3 : Demand3 32 1024 check evaluate) where
  -- demand 3's last sentence at a case
  accepted_at : {c : Case} → Computes c → (check c.tables).number ≡ 0
  accepted_at {c} x =
      demand_3.accepts c.tables c.expected.work c.expected.place x.within
      (record {
        good = same_below (step_count c.tables.steps) (λ i. pass (tests_of 32 c.tables c.expected.work i)) (λ i. true) true x.good;
        resolvents =
            same_below (step_count c.tables.steps) (record_at 64 c.expected.work) (λ i. result_of 32 c.tables.a c.tables.b c.expected.work (step_at c.tables.steps i)) []
            x.results;
        rest = x.rest;
        size = x.size;
      }) x.place x.root

  pub refuses_everything_shut_out : RefusesEverything check → ⊥
  refuses_everything_shut_out wrong = wrong P1.tables (accepted_at at_P1)

  -- the crossed pair at P5
  crossed_at_P5 : CrossedPair check → (circuit (check P5.tables) ≡ gates_bytes (or_gate 2 1 ∷ or_gate 3 0 ∷ and_gate 514 515 ∷ [])) × ((check P5.tables).root ≡ 516)
  unfolding P5 step_at record_at occurs some clauses_of tabulate holds has bit_of empty every clause_at
  crossed_at_P5 wrong = wrong P5.tables (accepted_at at_P5) refl refl refl (same_below 2 (λ k. empty (clause 32 P5.tables [] k)) (λ k. false) false refl)

  -- "the circuit of P5 becomes not x0, false where A holds": x0 is true here, and all other variables are false
  pub crossed_pair_no_interpolant : Reads 32 3072 evaluate → CrossedPair check → ⊥
  unfolding P5 gates_bytes satisfies_all satisfies some every tabulate clauses_of record_at holds has bit_of pass evaluation_tests length_tests gates_tests form_tests reference_tests gate_at spare_at gates_of truth formulas reference_formula
  crossed_pair_no_interpolant reads wrong =
      let assignment = byte_with (0 ∷ []) ∷ replicate 31 0 in
      let crossed = crossed_at_P5 wrong in
      let one-is-zero =
      sym ((demand_3.between P5.tables (accepted_at at_P5)).true_by_a assignment refl refl)
      ∙ ap₂ (λ table root. (evaluate assignment table root).value) crossed.0 crossed.1
      ∙ ap (λ answer. answer.value) (reads.read assignment (gates_bytes (or_gate 2 1 ∷ or_gate 3 0 ∷ and_gate 514 515 ∷ [])) 516 refl) in
      omega arith

  module _ (demand_2 : Demand2 32 1024 3072 check evaluate) where
    acceptance_at : {c : Case} → Computes c → Acceptance 32 1024 c.tables (check c.tables)
    acceptance_at {c} x = demand_2.accepted c.tables (accepted_at x)

    -- demand 2's gates and their count at a case
    circuit_at : {c : Case} → Computes c → circuit (check c.tables) ≡ circuit c.expected
    circuit_at x = (acceptance_at x).interpolants.gates ∙ x.gates

    count_at : {c : Case} → Computes c → (check c.tables).count ≡ c.expected.count
    count_at x = (acceptance_at x).interpolants.count ∙ x.count

    pub fixed_circuit_shut_out : FixedCircuit check → ⊥
    unfolding P6 P7 gates_bytes
    fixed_circuit_shut_out wrong =
        let same : circuit P6.expected ≡ circuit P7.expected =
        sym (circuit_at at_P6) ∙ wrong.same_circuit P6.tables P7.tables (accepted_at at_P6) (accepted_at at_P7)
        ∙ circuit_at at_P7 in
        omega (arith, ap (λ bytes. get_or bytes 0 0) same)

    pub writes_nothing_shut_out : WritesNothing check → ⊥
    unfolding P6 gates_bytes
    writes_nothing_shut_out wrong =
        let kept : take 8 P6.tables.gates ≡ circuit P6.expected = rw (count_at at_P6, wrong P6.tables) at (circuit_at at_P6) in
        omega (arith, ap (λ bytes. get_or bytes 0 0) kept)

    pub copies_rows_shut_out : CopiesRows check → ⊥
    unfolding P1 bit_of number_of tabulate has bytes_of resolvent record_at step_at clause_at
    copies_rows_shut_out wrong =
        let rows = (acceptance_at at_P1).work.resolvents in
        let same = sym (rows 1 (omega arith)) ∙ wrong P1.tables (accepted_at at_P1) 1 (omega arith) ∙ rows 0 (omega arith) in
        omega (arith, ap (λ bytes. get_or bytes 0 0) same)

    pub invents_count_shut_out : InventsCount check → ⊥
    unfolding P5 P6
    invents_count_shut_out wrong =
        omega (
          arith,
          wrong.counts P5.tables (accepted_at at_P5),
          count_at at_P5,
          wrong.counts P6.tables (accepted_at at_P6),
          count_at at_P6,
        )

    pub by_origin_shut_out : ByOrigin check → ⊥
    unfolding P8 gates_bytes step_at record_at
    by_origin_shut_out wrong =
        let same = sym (wrong P8.tables (accepted_at at_P8) refl (omega arith) (omega arith)) ∙ circuit_at at_P8 in
        omega (arith, ap length same)

    pub crossed_pair_shut_out : CrossedPair check → ⊥
    unfolding P5 gates_bytes
    crossed_pair_shut_out wrong =
        let same = sym (crossed_at_P5 wrong).0 ∙ circuit_at at_P5 in
        omega (arith, ap (λ bytes. get_or bytes 4 0) same)

    pub last_root_shut_out : LastRoot check → ⊥
    unfolding early_root empty every clause_at record_at
    last_root_shut_out wrong =
        let root = (acceptance_at at_early_root).root in
        let last : (check early_root.tables).place ≡ 1 = omega (arith, wrong early_root.tables (accepted_at at_early_root)) in
        false≢true (rw last at root.is_empty)

module _ (check : Check) (evaluate : Evaluation) (demand_2 : Demand2 32 1024 3072 check evaluate) where
  pub skips_after_root_shut_out : SkipsAfterRoot check → ⊥
  unfolding bad_behind_root pass every table_tests room_tests gate_room_tests plain_tests step_tests empty clause_at record_at step_at holds has bit_of
  skips_after_root_shut_out wrong =
      let t = bad_behind_root in
      let accepted =
      wrong t t.work 0 0 refl (omega arith) (record { good = λ j l. absurd (omega arith); resolvents = λ j l. absurd (omega arith); rest = refl; size = refl }) (omega arith) refl in
      false≢true ((demand_2.accepted t accepted).work.good 0 (omega arith))

  -- the result at P9 is {x0, not x0}, and not the empty clause
  not_emptied : BothSigns check → Resolvents 32 P9.tables (step_count P9.tables.steps) (check P9.tables).work
      → ((check P9.tables).number ≡ 0) ⊎ ((check P9.tables).number ≡ 11) → ⊥
  unfolding P9 bit_of number_of tabulate has bytes_of resolvent record_at step_at clause_at
  not_emptied wrong work no-step-refused =
      let same = sym (work.resolvents 0 (omega arith)) ∙ wrong P9.tables no-step-refused 0 (omega arith) in
      omega (arith, ap (λ bytes. get_or bytes 0 0) same)

  -- and P9 fails none of tests 1 to 10
  refused_by : BothSigns check
      → ByLimits 32 1024 P9.tables (check P9.tables) ⊎ ByStep 32 1024 P9.tables (check P9.tables) ⊎ ByRoot 32 1024 P9.tables (check P9.tables) → ⊥
  unfolding P9 pass every table_tests room_tests gate_room_tests plain_tests step_tests clause_at record_at step_at holds has bit_of
  refused_by wrong (inl by_limits) = true≢false by_limits.failed
  refused_by wrong (inr (inl by_step)) =
      let start : (check P9.tables).place ≡ 0 = omega (arith, by_step.step) in
      true≢false (rw start at by_step.failed)
  refused_by wrong (inr (inr by_root)) = not_emptied wrong by_root.work (inr by_root.number)

  pub both_signs_shut_out : Demand1 32 1024 check → BothSigns check → ⊥
  both_signs_shut_out demand_1 wrong = go (ℕ_discrete (check P9.tables).number 0)
    where
      go : Dec ((check P9.tables).number ≡ 0) → ⊥
      go (yes e) = not_emptied wrong (demand_2.accepted P9.tables e).work (inl e)
      go (no n) = refused_by wrong (demand_1 P9.tables n).reason
