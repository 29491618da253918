-- The program's own tables suffice: with files within their limits the check never answers 4, 5 or 6.
use Prim.Native.Nat.{ℕ, ◌+◌, ◌*◌, ◌/◌, ◌≤◌, ◌<◌}
use mathlib.Core.Path.{◌≡◌, refl, sym, ◌∙◌}
use mathlib.Core.Bool.{Bool, true, false, cond, true≢false}
use mathlib.Core.List.{List, [], ◌∷◌, ◌++◌}
use native.Mathlib.Omega.{arith}
use borrow.Author.Tests.{le-leb}
use lib.Dec.{eqb, ltb}
use lib.ListN.{length, length-replicate}
use Rattle.records.specs.declared.steps.Step.{Step}
use Rattle.records.specs.Step.{step_at, step_count}
use Rattle.records.specs.Tests.{Verdict, Test, first_failed, table_tests, room_tests, step_tests, root_tests}
use Rattle.records.specs.Derivation.{Outcome, and_then, verdict_at, stop_at, steps_verdict, ran, rooted, derived}
use Rattle.circuits.specs.Check.{Checked, gate_room_tests, plain_tests, refusal, plain_accepted, unless_refused, plain_checked}
use Rattle.print.specs.Report.{own_work, own_gates, files_checked, NoLimitMet, OwnTablesSuffice}

-- each test of the list passes or has another number
abbrev Others : List Test → Type 0
Others [] = Unit {0}
Others (t ∷ ts) = (t.passed ≡ false → NoLimitMet t.number) × Others ts

-- a number before or behind those three
before : (n : ℕ) → n < 4 → NoLimitMet n
before n l = (λ e. omega arith, λ e. omega arith, λ e. omega arith)

behind : (n : ℕ) → 6 < n → NoLimitMet n
behind n l = (λ e. omega arith, λ e. omega arith, λ e. omega arith)

passes : {n : ℕ} (t : Bool) → t ≡ true → t ≡ false → NoLimitMet n
passes t p q = absurd (true≢false (sym p ∙ q))

-- either of two, by a test
either : {A : Type 0} (number : A → ℕ) (t : Bool) (x y : A) → NoLimitMet (number x) → NoLimitMet (number y) → NoLimitMet (number (cond t x y))
either number true x y p q = p
either number false x y p q = q

first_other : (ts : List Test) → Others ts → NoLimitMet (first_failed ts).number
unfolding first_failed
first_other [] all = before 0 (omega arith)
first_other (t ∷ ts) all = go t.passed refl (first_other ts all.1)
  where
    go : (b : Bool) → t.passed ≡ b → NoLimitMet (first_failed ts).number → NoLimitMet (cond b (first_failed ts) (record { number = t.number; place = t.place })).number
    go true e rest = rest
    go false e rest = all.0 e

others_append : (ts us : List Test) → Others ts → Others us → Others (ts ++ us)
others_append [] us p q = q
others_append (t ∷ ts) us p q = (p.0, others_append ts us p.1 q)

-- an outcome, and what decides where it is no refusal
then : (o : Outcome) (next : List ℕ → Outcome) → NoLimitMet o.number → NoLimitMet (next o.work).number → NoLimitMet (and_then o next).number
unfolding and_then
then o next p q = either (λ (x : Outcome). x.number) (eqb o.number 0) (next o.work) o q p

unless : (o : Outcome) (gates : List ℕ) (next : Checked) → NoLimitMet o.number → NoLimitMet next.number → NoLimitMet (unless_refused o gates next).number
unless o gates next p q = either (λ (x : Checked). x.number) (eqb o.number 0) next (refusal o gates) q p

-- 7 to 10, and 11
steps_other : (h : ℕ) (a b : List ℕ) (step : ℕ → Step) (work : List ℕ) (s : ℕ) → NoLimitMet (steps_verdict h a b step work s).number
unfolding steps_verdict verdict_at step_tests
steps_other h a b step work s =
    either (λ (v : Verdict). v.number) (ltb (stop_at h a b step work s) s) (verdict_at h a b step work (stop_at h a b step work s)) (first_failed [])
    (first_other _ (λ e. behind 7 (omega arith), (λ e. behind 8 (omega arith), (λ e. behind 9 (omega arith), (λ e. behind 10 (omega arith), tt))))) (first_other [] tt)

root_other : (h : ℕ) (a b : List ℕ) (s : ℕ) (work : List ℕ) → NoLimitMet (rooted h a b s work).number
unfolding rooted root_tests
root_other h a b s work = then _ _ (first_other _ (λ e. behind 11 (omega arith), tt)) (before 0 (omega arith))

module _ (a b steps : List ℕ) (in_a : length a / 64 ≤ 256) (in_b : length b / 64 ≤ 256) (in-steps : length steps / 8 ≤ 256) where
  -- 1 to 3, and 4 passes: 256 clauses, 256 clauses and 256 steps
  tables_other : Others (table_tests 32 1024 a b steps)
  unfolding table_tests
  tables_other = (
    λ e. before 1 (omega arith),
    (λ e. before 2 (omega arith), (λ e. before 3 (omega arith), (passes _ (le-leb (length a / 64 + length b / 64 + length steps / 8) 1024 (omega arith)), tt))),
  )

  -- 5 passes: 64 bytes for each of 256 steps
  room_other : Others (room_tests 32 steps own_work)
  unfolding room_tests own_work
  room_other = (passes _ (le-leb (64 * (length steps / 8)) (length own_work) (omega (arith, length-replicate {A = ℕ} 16384 0))), tt)

  -- 6 passes: 24 bytes for each
  gate_room_other : Others (gate_room_tests steps own_gates)
  unfolding gate_room_tests own_gates
  gate_room_other = (passes _ (le-leb (24 * (length steps / 8)) (length own_gates) (omega (arith, length-replicate {A = ℕ} 6144 0))), tt)

  derived_other : NoLimitMet (derived 32 1024 a b steps own_work).number
  unfolding derived ran
  derived_other =
      then _ _ (first_other (table_tests 32 1024 a b steps) tables_other)
      (then _ _ (first_other (room_tests 32 steps own_work) room_other)
      (then _ _ (steps_other 32 a b (step_at steps) own_work (step_count steps)) (root_other 32 a b (step_count steps) _)))

  own_suffice : NoLimitMet (files_checked a b steps).number
  unfolding files_checked plain_checked plain_tests plain_accepted
  own_suffice =
      unless _ own_gates _
      (first_other (plain_tests 32 1024 a b steps own_work own_gates)
      (others_append (table_tests 32 1024 a b steps) (room_tests 32 steps own_work ++ gate_room_tests steps own_gates) tables_other
      (others_append (room_tests 32 steps own_work) (gate_room_tests steps own_gates) room_other gate_room_other)))
      (unless (derived 32 1024 a b steps own_work) own_gates (plain_accepted 32 a b steps own_gates (derived 32 1024 a b steps own_work)) derived_other (before 0 (omega arith)))

pub own_tables_suffice : OwnTablesSuffice
own_tables_suffice a b steps in_a in_b in-steps = own_suffice a b steps (omega arith) (omega arith) (omega arith)
