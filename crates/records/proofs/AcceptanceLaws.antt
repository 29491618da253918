-- What acceptance says of a derivation, and when it comes.
use Prim.Native.Nat.{ℕ, ◌+◌, ◌*◌, ◌%◌, ◌≤◌, ◌<◌}
use mathlib.Core.Path.{◌≡◌, refl, sym, ◌∙◌}
use mathlib.Core.Bool.{Bool, true, false, ◌&&◌, ◌||◌, cond, false≢true, true≢false}
use mathlib.Core.List.{List, []}
use mathlib.Core.Logic.{◌⊎◌, inl, inr, ⊎_elim, ⊎_map, by_cases}
use native.Mathlib.Decide.{dec_lt}
use native.Mathlib.Omega.{arith}
use borrow.Author.Tests.{eq-eqb, eqb-true, eqb-false, le-leb, lt-ltb, ltb-true}
use lib.Dec.{eqb, ltb}
use lib.ListN.{length}
use Rattle.records.specs.declared.steps.Step.{Step}
use Rattle.records.specs.Lists.{some}
use Rattle.records.specs.Clause.{holds, empty}
use Rattle.records.specs.Table.{records, clauses_of, occurs}
use Rattle.records.specs.Step.{step_at, step_count}
use Rattle.records.specs.Tests.{first_failed, refused, table_tests, room_tests, step_tests, root_tests}
use Rattle.records.specs.Derivation.{inputs, clause_at, work_after, verdict_at, stop_at, steps_verdict, root_of, Outcome, judged, and_then, ran, rooted, derived, ByRule, Derivation, clause_count, last_work, Sizes}
use Rattle.records.proofs.NumberLaws.{strong, in_parts}
use Rattle.records.proofs.ListLaws.{first_le, first_holds, first_before, first_found, and_both}
use Rattle.records.proofs.ClauseLaws.{holds_bound, holds_resolvent}
use Rattle.records.proofs.TableLaws.{some_clause, which_clause, occurs_here}
use Rattle.records.proofs.TestLaws.{passed_none, none_passed, pass_sizes, refused_not, not_refused, tables_numbered, room_numbered, step_numbered, root_numbered}
use Rattle.records.proofs.DerivationLaws.{clause_a, clause_b, ends_at, verdict_stopped, verdict_ended}
use Rattle.records.proofs.WorkLaws.{clause_kept, result_is}
use Rattle.records.proofs.MeaningLaws.{empty_holds}

-- a step is by the rule where none of its tests fails, and only there
module _ (h : ℕ) (clause : ℕ → List ℕ) (own i : ℕ) (s : Step) where
  pub by_rule : refused (first_failed (step_tests h clause own i s)) ≡ false → ByRule h clause own s
  unfolding step_tests
  by_rule e =
      let passed = none_passed (step_tests h clause own i s) (step_numbered h clause own i s) (not_refused (first_failed (step_tests h clause own i s)) e) in
      let earlier = and_both (ltb s.left own) (ltb s.right own) passed.1.0 in
      record {
        spare = passed.0;
        left_earlier = ltb-true s.left own earlier.0;
        right_earlier = ltb-true s.right own earlier.1;
        left_holds = passed.1.1.0;
        right_holds = passed.1.1.1.0;
      }

  pub rule_by_lem : ByRule h clause own s → first_failed (step_tests h clause own i s) ≡ first_failed []
  unfolding step_tests
  rule_by_lem r =
      passed_none (step_tests h clause own i s)
      (r.spare, (rw (lt-ltb s.left own r.left_earlier, lt-ltb s.right own r.right_earlier) refl, (r.left_holds, (r.right_holds, tt))))

-- only the clauses before its own count for a step
pub rule_over : (h : ℕ) (clause other : ℕ → List ℕ) (own : ℕ) (s : Step) → ((n : ℕ) → n < own → clause n ≡ other n) → ByRule h clause own s → ByRule h other own s
rule_over h clause other own s same r =
    record {
      spare = r.spare;
      left_earlier = r.left_earlier;
      right_earlier = r.right_earlier;
      left_holds = rw (same s.left r.left_earlier) at r.left_holds;
      right_holds = rw (same s.right r.right_earlier) at r.right_holds;
    }

-- s steps
module _ (h : ℕ) (a b : List ℕ) (step : ℕ → Step) (work : List ℕ) (s : ℕ) where
  -- they all run, or one is refused
  pub stop_cases : (stop_at h a b step work s ≡ s) ⊎ ((i : ℕ) × (i < s) × (i ≡ stop_at h a b step work s) × (refused (verdict_at h a b step work i) ≡ true))
  unfolding stop_at
  stop_cases =
      by_cases (dec_lt (stop_at h a b step work s) s)
      (λ l. inr (stop_at h a b step work s, l, refl, first_holds (λ i. refused (verdict_at h a b step work i)) s l))
      (λ l. inl (omega (arith, first_le (λ i. refused (verdict_at h a b step work i)) s)))

  -- without a refusal they all run
  pub none_refused : (steps_verdict h a b step work s).number ≡ 0 → stop_at h a b step work s ≡ s
  none_refused e =
      ⊎_elim (λ q. q)
      (λ t.
      let none : (verdict_at h a b step work t.0).number ≡ 0 = rw (verdict_stopped h a b step work s t.0 t.1 t.2) at e in
      absurd (true≢false (sym t.3 ∙ refused_not (verdict_at h a b step work t.0) none)))
      stop_cases

  -- up to the stop every step is by the rule over the clauses before it
  pub good_steps : (i : ℕ) → i < stop_at h a b step work s → ByRule h (clause_at h a b (work_after h a b step work i)) (inputs h a b + i) (step i)
  unfolding stop_at verdict_at
  good_steps i l =
      by_rule h (clause_at h a b (work_after h a b step work i)) (inputs h a b + i) i (step i)
      (first_before (λ i. refused (verdict_at h a b step work i)) s i l)

  stop_le : stop_at h a b step work s ≤ s
  unfolding stop_at
  stop_le = first_le (λ i. refused (verdict_at h a b step work i)) s

  module _ (room : 2 * h * s ≤ length work) where
    -- and what they leave in the work table is a derivation, also where a later step is refused
    pub derivation : (m : ℕ) → m ≤ stop_at h a b step work s → Derivation h a b (work_after h a b step work m) step m
    derivation m l =
        record {
          by_rule = λ i q.
              rule_over h (clause_at h a b (work_after h a b step work i)) (clause_at h a b (work_after h a b step work m)) (inputs h a b + i) (step i)
              (λ n k. sym (clause_kept h a b step work s room n i m k (omega arith) (omega (arith, stop_le)))) (good_steps i (omega arith));
          result = λ i q.
              let rule = good_steps i (omega arith) in
              result_is h a b step work s room i m q (omega (arith, stop_le)) rule.left_earlier rule.right_earlier;
        }

    -- steps that are by the rule over the clauses at the end all run
    pub good_steps_run : ((i : ℕ) → i < s → ByRule h (clause_at h a b (work_after h a b step work s)) (inputs h a b + i) (step i)) → stop_at h a b step work s ≡ s
    unfolding verdict_at first_failed
    good_steps_run rules = sym (ends_at h a b step work s good)
      where
        good : (i : ℕ) → i < s → refused (verdict_at h a b step work i) ≡ false
        good i l =
            let rule =
            rule_over h (clause_at h a b (work_after h a b step work s)) (clause_at h a b (work_after h a b step work i)) (inputs h a b + i) (step i)
            (λ n m. clause_kept h a b step work s room n i s m (omega arith) (omega arith)) (rules i l) in
            rw (rule_by_lem h (clause_at h a b (work_after h a b step work i)) (inputs h a b + i) i (step i) rule) refl

-- what all tests ask for
record Complete (h most : ℕ) (a b steps work : List ℕ) : Type 0 where
  sizes : Sizes h most a b steps work
  ended : stop_at h a b (step_at steps) work (step_count steps) ≡ step_count steps
  found : root_of h a b (last_work h a b steps work) (clause_count h a b steps) < clause_count h a b steps

-- what an accepted derivation is: its sizes, then its steps, their results and the root, over the clauses as it leaves them
pub record Accepted (h most : ℕ) (a b steps work : List ℕ) : Type 0 where
  pub sizes : Sizes h most a b steps work
  pub work_is : (derived h most a b steps work).work ≡ last_work h a b steps work
  pub derivation_is : Derivation h a b (derived h most a b steps work).work (step_at steps) (step_count steps)
  pub root_in : (derived h most a b steps work).place < clause_count h a b steps
  pub root_empty : empty (clause_at h a b (derived h most a b steps work).work (derived h most a b steps work).place) ≡ true
  pub root_first : (k : ℕ) → k < (derived h most a b steps work).place → empty (clause_at h a b (derived h most a b steps work).work k) ≡ false

-- two rounds of tests without a refusal
sequence : (o : Outcome) (next : List ℕ → Outcome) → (and_then o next).number ≡ 0 → (o.number ≡ 0) × ((next o.work).number ≡ 0)
unfolding and_then
sequence o next e = go (eqb o.number 0) refl e
  where
    go : (t : Bool) → eqb o.number 0 ≡ t → (cond t (next o.work) o).number ≡ 0 → (o.number ≡ 0) × ((next o.work).number ≡ 0)
    go true q f = (eqb-true o.number 0 q, f)
    go false q f = absurd (eqb-false o.number 0 q f)

root_below : (h : ℕ) (a b : List ℕ) (s : ℕ) (work : List ℕ) → (rooted h a b s work).number ≡ 0 → root_of h a b work (inputs h a b + s) < inputs h a b + s
unfolding rooted root_tests
root_below h a b s work e =
    let root = root_of h a b work (inputs h a b + s) in
    let passed = (sequence (judged (first_failed (root_tests root (inputs h a b + s))) work) (judged (record { number = 0; place = root })) e).0 in
    ltb-true root (inputs h a b + s) (none_passed (root_tests root (inputs h a b + s)) (root_numbered root (inputs h a b + s)) passed).0

-- a derivation from its steps on, and from the test of its room on
abbrev pub from_steps : ℕ → List ℕ → List ℕ → List ℕ → List ℕ → Outcome
from_steps h a b steps work = and_then (ran h a b (step_at steps) (step_count steps) work) (rooted h a b (step_count steps))

abbrev pub from_room : ℕ → List ℕ → List ℕ → List ℕ → List ℕ → Outcome
from_room h a b steps work = and_then (judged (first_failed (room_tests h steps work)) work) (from_steps h a b steps)

module _ (h most : ℕ) (a b steps work : List ℕ) where
  -- the answer 0 comes where all tests pass, and only there
  zero_needs : (derived h most a b steps work).number ≡ 0 → Complete h most a b steps work
  unfolding derived ran
  zero_needs e =
      let first = sequence (judged (first_failed (table_tests h most a b steps)) work) (from_room h a b steps) e in
      let second = sequence (judged (first_failed (room_tests h steps work)) work) (from_steps h a b steps) first.1 in
      let third = sequence (ran h a b (step_at steps) (step_count steps) work) (rooted h a b (step_count steps)) second.1 in
      let tables = none_passed (table_tests h most a b steps) (tables_numbered h most a b steps) first.0 in
      let enough = none_passed (room_tests h steps work) (room_numbered h steps work) second.0 in
      let all : stop_at h a b (step_at steps) work (step_count steps) ≡ step_count steps = none_refused h a b (step_at steps) work (step_count steps) third.0 in
      record {
        sizes = pass_sizes h most a b steps work tables enough;
        ended = all;
        found = root_below h a b (step_count steps) (last_work h a b steps work) (rw all at third.1);
      }

  zero_by : Complete h most a b steps work
      → derived h most a b steps work ≡ record { number = 0; place = root_of h a b (last_work h a b steps work) (clause_count h a b steps); work = last_work h a b steps work }
  unfolding derived and_then ran rooted first_failed table_tests room_tests root_tests
  zero_by c =
      rw (
        eq-eqb (length a % (2 * h)) 0 c.sizes.a_whole,
        eq-eqb (length b % (2 * h)) 0 c.sizes.b_whole,
        eq-eqb (length steps % 8) 0 c.sizes.steps_whole,
        le-leb (clause_count h a b steps) most c.sizes.few,
        le-leb (2 * h * step_count steps) (length work) c.sizes.room,
        verdict_ended h a b (step_at steps) work (step_count steps) (sym c.ended),
        c.ended,
        lt-ltb _ _ c.found,
      ) refl

  -- what the answer 0 says
  pub acceptance : (derived h most a b steps work).number ≡ 0 → Accepted h most a b steps work
  unfolding root_of
  acceptance e =
      let c = zero_needs e in
      let end = zero_by c in
      let none : ℕ → Bool = λ k. empty (clause_at h a b (last_work h a b steps work) k) in
      record {
        sizes = c.sizes;
        work_is = rw end refl;
        derivation_is = rw end (derivation h a b (step_at steps) work (step_count steps) c.sizes.room (step_count steps) (omega (arith, c.ended)));
        root_in = rw end c.found;
        root_empty = rw end (first_holds none (clause_count h a b steps) c.found);
        root_first = rw end (first_before none (clause_count h a b steps));
      }

  -- where all steps run, any empty clause gives the answer 0
  pub root_suffices : Sizes h most a b steps work → stop_at h a b (step_at steps) work (step_count steps) ≡ step_count steps
      → (k : ℕ) → k < clause_count h a b steps → empty (clause_at h a b (last_work h a b steps work) k) ≡ true → (derived h most a b steps work).number ≡ 0
  unfolding root_of
  root_suffices sizes all k l e =
      let some = first_found (λ k. empty (clause_at h a b (last_work h a b steps work) k)) (clause_count h a b steps) k l e in
      rw (zero_by (record { sizes = sizes; ended = all; found = some })) refl

  -- when the answer 0 comes: good sizes, steps by the rule, and an empty clause
  pub accepts : Sizes h most a b steps work
      → ((i : ℕ) → i < step_count steps → ByRule h (clause_at h a b (last_work h a b steps work)) (inputs h a b + i) (step_at steps i))
      → (k : ℕ) → k < clause_count h a b steps → empty (clause_at h a b (last_work h a b steps work) k) ≡ true → (derived h most a b steps work).number ≡ 0
  accepts sizes rules = root_suffices sizes (good_steps_run h a b (step_at steps) work (step_count steps) sizes.room rules)

-- a clause of the table holds that literal
abbrev pub HeldIn : ℕ → List ℕ → Bool → ℕ → Type 0
HeldIn h table sign v = some (λ c. holds h c sign v) (clauses_of h table) ≡ true

held_occurs : (h : ℕ) (table : List ℕ) (sign : Bool) (v : ℕ) → HeldIn h table sign v → occurs h table v ≡ true
held_occurs h table sign v held =
    let w = which_clause h table (λ c. holds h c sign v) held in
    occurs_here h table w.0 sign v w.1 w.2

-- what is in a resolvent is in a side
from_side : (x y z w : Bool) → (x && y || z && w) ≡ true → (x ≡ true) ⊎ (z ≡ true)
from_side true y z w e = inl refl
from_side false y true w e = inr refl
from_side false y false w e = absurd (false≢true e)

-- the root of an accepted derivation holds no literal
pub root_without_literal : (h most : ℕ) (a b steps work : List ℕ) → Accepted h most a b steps work
    → (sign : Bool) (v : ℕ) → holds h (clause_at h a b (derived h most a b steps work).work (derived h most a b steps work).place) sign v ≡ false
root_without_literal h most a b steps work accepted sign v =
    empty_holds h (clause_at h a b (derived h most a b steps work).work (derived h most a b steps work).place) sign v accepted.root_empty

module _ (h : ℕ) (a b last : List ℕ) (step : ℕ → Step) (s : ℕ) (given : Derivation h a b last step s) where
  -- every literal of a derived clause comes from a clause of A or of B
  pub literal_origin : (sign : Bool) (v n : ℕ) → n < inputs h a b + s → holds h (clause_at h a b last n) sign v ≡ true → HeldIn h a sign v ⊎ HeldIn h b sign v
  literal_origin sign v = strong Known next
    where
      From : ℕ → Type 0
      From n = holds h (clause_at h a b last n) sign v ≡ true → HeldIn h a sign v ⊎ HeldIn h b sign v

      input : (n : ℕ) → n < inputs h a b → From n
      input =
          in_parts (λ (n : ℕ). n < inputs h a b → From n) (records (2 * h) a)
          (λ r l m e. inl (some_clause h a (λ c. holds h c sign v) r l (rw (clause_a h a b last r l) at e)))
          (λ r m e. let l : r < records (2 * h) b = omega arith in inr (some_clause h b (λ c. holds h c sign v) r l (rw (clause_b h a b last r l) at e)))

      Known : ℕ → Type 0
      Known n = n < inputs h a b + s → From n

      result : (i : ℕ) → ((m : ℕ) → m < inputs h a b + i → Known m) → Known (inputs h a b + i)
      result i earlier l e =
          let rule = given.by_rule i (omega arith) in
          let small = holds_bound h (clause_at h a b last (step i).left) true (step i).pivot rule.left_holds in
          ⊎_elim (earlier (step i).left rule.left_earlier (omega arith)) (earlier (step i).right rule.right_earlier (omega arith))
          (from_side _ _ _ _
          (sym (holds_resolvent h (clause_at h a b last (step i).left) (clause_at h a b last (step i).right) (step i).pivot sign v small)
          ∙ (rw (given.result i (omega arith)) at e)))

      next : (n : ℕ) → ((m : ℕ) → m < n → Known m) → Known n
      next = in_parts (λ (n : ℕ). ((m : ℕ) → m < n → Known m) → Known n) (inputs h a b) (λ n q earlier l. input n q) result

  -- so its variable occurs in A or in B
  pub literal_occurs : (sign : Bool) (v n : ℕ) → n < inputs h a b + s → holds h (clause_at h a b last n) sign v ≡ true → (occurs h a v ≡ true) ⊎ (occurs h b v ≡ true)
  literal_occurs sign v n l e = ⊎_map (held_occurs h a sign v) (held_occurs h b sign v) (literal_origin sign v n l e)
