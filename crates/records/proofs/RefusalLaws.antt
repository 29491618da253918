-- What a refusal says of a derivation, and what it leaves in the work table.
use Prim.Native.Nat.{ℕ, ◌+◌, ◌≤◌, ◌<◌}
use mathlib.Core.Path.{◌≡◌, refl, sym, ap, ◌∙◌}
use mathlib.Core.Bool.{Bool, true, false, cond, true≢false, not-eq-not}
use mathlib.Core.List.{List}
use mathlib.Core.Logic.{◌⊎◌, inl, inr, ⊎_elim, by_cases}
use native.Mathlib.Decide.{dec_lt}
use native.Mathlib.Omega.{arith}
use lib.Dec.{eqb}
use Rattle.records.specs.Clause.{empty}
use Rattle.records.specs.Step.{step_at, step_count}
use Rattle.records.specs.Tests.{Verdict, first_failed, refused, table_tests, room_tests, step_tests}
use Rattle.records.specs.Derivation.{inputs, clause_at, work_after, verdict_at, stop_at, root_of, Outcome, judged, and_then, ran, rooted, derived, Derives, clause_count, last_work, Sizes}
use Rattle.records.proofs.ListLaws.{first_holds}
use Rattle.records.proofs.TestLaws.{Passed, passed_none, sizes_pass, refused_not, refused_place, step_placed}
use Rattle.records.proofs.DerivationLaws.{refusal_stands, next_decides, verdict_stopped, verdict_ended, root_missing}
use Rattle.records.proofs.AcceptanceLaws.{stop_cases, root_suffices, from_steps, from_room}

-- the root's stage leaves the work table, and so does a refusal before it
stage_work : (o : Outcome) (next : List ℕ → Outcome) → ((work : List ℕ) → (next work).work ≡ work) → (and_then o next).work ≡ o.work
unfolding and_then
stage_work o next same = go (eqb o.number 0)
  where
    go : (t : Bool) → (cond t (next o.work) o).work ≡ o.work
    go true = same o.work
    go false = refl

rooted_work : (h : ℕ) (a b : List ℕ) (s : ℕ) (work : List ℕ) → (rooted h a b s work).work ≡ work
unfolding rooted
rooted_work h a b s work = stage_work _ _ (λ w. refl)

module _ (h most : ℕ) (a b steps work : List ℕ) where
  -- 1 to 4, and then 5, change nothing
  pub tables_refuse : ((first_failed (table_tests h most a b steps)).number ≡ 0 → ⊥) → derived h most a b steps work ≡ judged (first_failed (table_tests h most a b steps)) work
  unfolding derived
  tables_refuse n = refusal_stands (judged (first_failed (table_tests h most a b steps)) work) (from_room h a b steps) n

  pub room_refuses : (first_failed (table_tests h most a b steps)).number ≡ 0 → ((first_failed (room_tests h steps work)).number ≡ 0 → ⊥)
      → derived h most a b steps work ≡ judged (first_failed (room_tests h steps work)) work
  unfolding derived
  room_refuses z n =
      next_decides (judged (first_failed (table_tests h most a b steps)) work) (from_room h a b steps) z
      ∙ refusal_stands (judged (first_failed (room_tests h steps work)) work) (from_steps h a b steps) n

  module _ (sizes : Sizes h most a b steps work) where
    -- within the limits the steps and the root decide
    pub steps_decide : derived h most a b steps work ≡ from_steps h a b steps work
    unfolding derived first_failed
    steps_decide =
        next_decides (judged (first_failed (table_tests h most a b steps)) work) (from_room h a b steps) tables
        ∙ next_decides (judged (first_failed (room_tests h steps work)) work) (from_steps h a b steps) room
      where
        passed : Passed (table_tests h most a b steps) × Passed (room_tests h steps work)
        passed = sizes_pass h most a b steps work sizes

        tables : (first_failed (table_tests h most a b steps)).number ≡ 0
        tables = ap (λ (v : Verdict). v.number) (passed_none (table_tests h most a b steps) passed.0)

        room : (first_failed (room_tests h steps work)).number ≡ 0
        room = ap (λ (v : Verdict). v.number) (passed_none (room_tests h steps work) passed.1)

    -- "7 to 10 at step i leave work records 0 to i-1 as resolvents. 11 leaves all s of them", and so does acceptance
    pub work_left : (derived h most a b steps work).work ≡ work_after h a b (step_at steps) work (stop_at h a b (step_at steps) work (step_count steps))
    unfolding ran
    work_left =
        ap (λ (o : Outcome). o.work) steps_decide
        ∙ stage_work (ran h a b (step_at steps) (step_count steps) work) (rooted h a b (step_count steps)) (rooted_work h a b (step_count steps))

    -- a refusal names the first step that fails a test, with that test's number; or it is 11, all steps have run, and no clause is empty
    pub refused_why : ((derived h most a b steps work).number ≡ 0 → ⊥)
        → ((i : ℕ) × (i < step_count steps) × (i ≡ stop_at h a b (step_at steps) work (step_count steps)) × ((derived h most a b steps work).place ≡ i)
        × ((derived h most a b steps work).number ≡ (verdict_at h a b (step_at steps) work i).number))
        ⊎ ((stop_at h a b (step_at steps) work (step_count steps) ≡ step_count steps) × ((derived h most a b steps work).number ≡ 11) × ((derived h most a b steps work).place ≡ 0)
        × ((k : ℕ) → k < clause_count h a b steps → empty (clause_at h a b (last_work h a b steps work) k) ≡ false))
    unfolding ran verdict_at root_of first_failed
    refused_why n = ⊎_elim (λ all. inr (ended all)) (λ t. inl (stopped t.0 t.1 t.2 t.3)) (stop_cases h a b (step_at steps) work (step_count steps))
      where
        stopped : (i : ℕ) → i < step_count steps → i ≡ stop_at h a b (step_at steps) work (step_count steps) → refused (verdict_at h a b (step_at steps) work i) ≡ true
            → (i : ℕ) × (i < step_count steps) × (i ≡ stop_at h a b (step_at steps) work (step_count steps)) × ((derived h most a b steps work).place ≡ i)
            × ((derived h most a b steps work).number ≡ (verdict_at h a b (step_at steps) work i).number)
        stopped i l e bad =
            let verdict = verdict_stopped h a b (step_at steps) work (step_count steps) i l e in
            let some : (verdict_at h a b (step_at steps) work i).number ≡ 0 → ⊥ = λ z. true≢false (sym bad ∙ refused_not (verdict_at h a b (step_at steps) work i) z) in
            let stays = refusal_stands (ran h a b (step_at steps) (step_count steps) work) (rooted h a b (step_count steps)) (λ z. some (ap (λ (v : Verdict). v.number) (sym verdict) ∙ z)) in
            let here = steps_decide ∙ stays in (
              i,
              l,
              e,
              ap (λ (o : Outcome). o.place) here ∙ ap (λ (v : Verdict). v.place) verdict
                  ∙ refused_place i (step_tests h (clause_at h a b (work_after h a b (step_at steps) work i)) (inputs h a b + i) i (step_at steps i))
                  (step_placed h (clause_at h a b (work_after h a b (step_at steps) work i)) (inputs h a b + i) i (step_at steps i)) some,
              ap (λ (o : Outcome). o.number) here ∙ ap (λ (v : Verdict). v.number) verdict,
            )

        ended : stop_at h a b (step_at steps) work (step_count steps) ≡ step_count steps
            → (stop_at h a b (step_at steps) work (step_count steps) ≡ step_count steps) × ((derived h most a b steps work).number ≡ 11) × ((derived h most a b steps work).place ≡ 0)
            × ((k : ℕ) → k < clause_count h a b steps → empty (clause_at h a b (last_work h a b steps work) k) ≡ false)
        ended all = (all, ap (λ (o : Outcome). o.number) reached ∙ sym missing.number, ap (λ (o : Outcome). o.place) reached ∙ sym missing.place, none)
          where
            none : (k : ℕ) → k < clause_count h a b steps → empty (clause_at h a b (last_work h a b steps work) k) ≡ false
            none k l = not-eq-not.0 (λ e. n (root_suffices h most a b steps work sizes all k l e))

            far : clause_count h a b steps ≤ root_of h a b (last_work h a b steps work) (clause_count h a b steps)
            far =
                by_cases (dec_lt (root_of h a b (last_work h a b steps work) (clause_count h a b steps)) (clause_count h a b steps))
                (λ l. absurd (true≢false (sym (first_holds (λ k. empty (clause_at h a b (last_work h a b steps work) k)) (clause_count h a b steps) l) ∙ none _ l))) (λ l. omega arith)

            zero_steps : (ran h a b (step_at steps) (step_count steps) work).number ≡ 0
            zero_steps = ap (λ (v : Verdict). v.number) (verdict_ended h a b (step_at steps) work (step_count steps) (sym all))

            reached : derived h most a b steps work ≡ rooted h a b (step_count steps) (last_work h a b steps work)
            reached =
                steps_decide ∙ next_decides (ran h a b (step_at steps) (step_count steps) work) (rooted h a b (step_count steps)) zero_steps
                ∙ ap (λ (i : ℕ). rooted h a b (step_count steps) (work_after h a b (step_at steps) work i)) all

            missing : Derives (rooted h a b (step_count steps) (last_work h a b steps work)) (last_work h a b steps work) (record { number = 11; place = 0 })
            missing = root_missing h a b (step_count steps) (last_work h a b steps work) (root_of h a b (last_work h a b steps work) (clause_count h a b steps)) refl far
