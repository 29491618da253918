-- Demand 1 is met: every refusal of the plain check has its number, its place, and the tables that document 01 says.
use Prim.Native.Nat.{ℕ, ◌*◌, ◌≤◌, ◌<◌}
use mathlib.Core.Path.{◌≡◌, refl, sym, ap, ◌∙◌}
use mathlib.Core.Bool.{Bool, true, false}
use mathlib.Core.List.{◌++◌}
use mathlib.Core.Logic.{inl, inr, ⊎_elim}
use native.Mathlib.Omega.{arith}
use borrow.Author.Tests.{leb-true, le-leb}
use lib.ListN.{length}
use Rattle.records.specs.Clause.{empty}
use Rattle.records.specs.Step.{step_at, step_count}
use Rattle.records.specs.Tests.{first_failed, table_tests, room_tests}
use Rattle.records.specs.Derivation.{work_after, verdict_at, stop_at, Outcome, derived, last_work, Sizes}
use Rattle.records.proofs.TestLaws.{append_passed, passed_append, sizes_pass, pass_sizes}
use Rattle.records.proofs.RefusalLaws.{work_left, refused_why}
use Rattle.circuits.specs.Check.{Checked, gate_room_tests, plain_tests, refusal, plain_accepted}
use Rattle.circuits.proofs.CheckLaws.{plain_numbered, tests_refuse, derivation_refuses, derivation_accepts}
use Rattle.demands.specs.Tables.{Tables, pass, limits, plain_check}
use Rattle.demands.specs.Resolvents.{clause, clauses, tests_of}
use Rattle.demands.specs.Refusal.{ByStep, ByRoot, Refusal, Demand1}
use Rattle.demands.proofs.PassLaws.{pass_passed, passed_pass, refused_fails, fails_refused}
use Rattle.demands.proofs.ResolventLaws.{work_resolvents}

-- the limits that tests 1 to 6 set
pub limits_sizes : (h most : ℕ) (t : Tables) → pass (limits h most t) ≡ true → Sizes h most t.a t.b t.steps t.work × (24 * step_count t.steps ≤ length t.gates)
unfolding plain_tests gate_room_tests
limits_sizes h most t e =
    let tables = append_passed (table_tests h most t.a t.b t.steps) (room_tests h t.steps t.work ++ gate_room_tests t.steps t.gates) (pass_passed (limits h most t) e) in
    let rooms = append_passed (room_tests h t.steps t.work) (gate_room_tests t.steps t.gates) tables.1 in
    (pass_sizes h most t.a t.b t.steps t.work tables.0 rooms.0, leb-true (24 * step_count t.steps) (length t.gates) rooms.1.0)

pub sizes_limits : (h most : ℕ) (t : Tables) → Sizes h most t.a t.b t.steps t.work → 24 * step_count t.steps ≤ length t.gates → pass (limits h most t) ≡ true
unfolding plain_tests gate_room_tests
sizes_limits h most t sizes room =
    let pass-them = sizes_pass h most t.a t.b t.steps t.work sizes in
    passed_pass (limits h most t)
    (passed_append (table_tests h most t.a t.b t.steps) (room_tests h t.steps t.work ++ gate_room_tests t.steps t.gates) pass-them.0
    (passed_append (room_tests h t.steps t.work) (gate_room_tests t.steps t.gates) pass-them.1
    (le-leb (24 * step_count t.steps) (length t.gates) room, tt)))

module _ (h most : ℕ) (t : Tables) where
  -- 1 to 6
  by_limits : pass (limits h most t) ≡ false → Refusal h most t (plain_check h most t)
  by_limits failed =
      let v = first_failed (limits h most t) in
      rw (tests_refuse h most t.a t.b t.steps t.work t.gates v refl (fails_refused (limits h most t) (plain_numbered h most t.a t.b t.steps t.work t.gates) failed))
      (record {
        root = refl;
        count = refl;
        gates = refl;
        reason = inl (record { failed = failed; number = refl; place = refl; work = refl });
      })

  module _ (within : pass (limits h most t) ≡ true) where
    abbrev out : Outcome
    out = derived h most t.a t.b t.steps t.work

    -- 7 to 10
    by_step : (i : ℕ) → i < step_count t.steps → i ≡ stop_at h t.a t.b (step_at t.steps) t.work (step_count t.steps) → out.place ≡ i
        → out.number ≡ (verdict_at h t.a t.b (step_at t.steps) t.work i).number → (out.number ≡ 0 → ⊥) → ByStep h most t (refusal out t.gates)
    unfolding verdict_at
    by_step i l stop place number n =
        let sizes = (limits_sizes h most t within).0 in
        let work : out.work ≡ work_after h t.a t.b (step_at t.steps) t.work i =
        work_left h most t.a t.b t.steps t.work sizes ∙ ap (work_after h t.a t.b (step_at t.steps) t.work) (sym stop) in
        record {
          within = within;
          step = rw place l;
          failed = rw (place, work) (refused_fails (tests_of h t (work_after h t.a t.b (step_at t.steps) t.work i) i) (λ z. n (number ∙ z)));
          number = rw (place, work) number;
          work = rw (place, work) (work_resolvents h t sizes.room i (omega arith) (omega (arith, stop)));
        }

    -- 11
    by_root : stop_at h t.a t.b (step_at t.steps) t.work (step_count t.steps) ≡ step_count t.steps → out.number ≡ 11 → out.place ≡ 0
        → ((k : ℕ) → k < clauses h t → empty (clause h t (last_work h t.a t.b t.steps t.work) k) ≡ false) → ByRoot h most t (refusal out t.gates)
    by_root all number place none =
        let sizes = (limits_sizes h most t within).0 in
        let work : out.work ≡ last_work h t.a t.b t.steps t.work =
        work_left h most t.a t.b t.steps t.work sizes ∙ ap (work_after h t.a t.b (step_at t.steps) t.work) all in
        record {
          within = within;
          number = number;
          place = place;
          none = rw work none;
          work = rw work (work_resolvents h t sizes.room (step_count t.steps) (omega arith) (omega (arith, all)));
        }

    -- no other
    by_derivation : ((plain_check h most t).number ≡ 0 → ⊥) → Refusal h most t (plain_check h most t)
    unfolding plain_accepted plain_tests gate_room_tests
    by_derivation n =
        let limit = limits_sizes h most t within in
        let passed = sizes_pass h most t.a t.b t.steps t.work limit.0 in
        let refused : out.number ≡ 0 → ⊥ = λ e. n (ap (λ (o : Checked). o.number) (derivation_accepts h most t.a t.b t.steps t.work t.gates passed.0 passed.1 limit.1 e)) in
        rw (derivation_refuses h most t.a t.b t.steps t.work t.gates passed.0 passed.1 limit.1 refused)
        (record {
          root = refl;
          count = refl;
          gates = refl;
          reason =
              ⊎_elim (λ why. inr (inl (by_step why.0 why.1 why.2 why.3 why.4 refused))) (λ why. inr (inr (by_root why.0 why.1 why.2 why.3)))
              (refused_why h most t.a t.b t.steps t.work limit.0 refused);
        })

pub demand_1 : (h most : ℕ) → Demand1 h most (plain_check h most)
demand_1 h most t n = go (pass (limits h most t)) refl
  where
    go : (b : Bool) → pass (limits h most t) ≡ b → Refusal h most t (plain_check h most t)
    go false failed = by_limits h most t failed
    go true within = by_derivation h most t within n
