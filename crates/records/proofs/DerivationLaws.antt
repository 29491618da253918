-- The laws of a run: clauses by their numbers, one step more, and how the steps and the root end.
use Prim.Native.Nat.{ℕ, ◌+◌, ◌-◌, ◌*◌, ◌≤◌, ◌<◌}
use mathlib.Core.Path.{◌≡◌, refl, sym, ap, ◌∙◌, subst}
use mathlib.Core.Bool.{Bool, true, false}
use mathlib.Core.List.{List, []}
use native.Mathlib.Numerals.{add-one}
use native.Mathlib.Omega.{arith}
use native.Mathlib.Decide.{dec_lt}
use borrow.Author.Tests.{lt-ltb, le-ltb, eq-eqb, ne_eqb}
use lib.ListN.{length}
use Rattle.records.specs.declared.steps.Step.{Step}
use Rattle.std.specs.Prelude.{Option, Some, None, Result, Ok, Err}
use Rattle.std.specs.Option.{ok_or}
use Rattle.records.specs.declared.refusals.Refusal.{Refusal}
use Rattle.records.specs.declared.refusals.Refusal.TheVariants.{NoEmptyClause}
use Rattle.records.specs.Refusal.{refusal_number, refusal_place, verdict_by, verdict_of}
use Rattle.records.specs.Lists.{first, found}
use Rattle.records.specs.Clause.{empty}
use Rattle.records.specs.Table.{record_at, records, first_empty}
use Rattle.records.specs.Tests.{Verdict, first_failed, refused, step_tests, root_tests, Says}
use Rattle.records.specs.Derivation.{inputs, clause_at, stored, work_after, verdict_at, stop_at, steps_verdict, root_of, Outcome, judged, and_then, ran, rooted, Derives}
use Rattle.records.proofs.ListLaws.{first_is, first_same, first_in, first_past, found_at, found_not, found_some, found_none}
use Rattle.records.proofs.NumberLaws.{in_parts}
use Rattle.records.proofs.NamedLaws.{numbered}
use Rattle.records.proofs.TableLaws.{whole, length_record_at}
use Rattle.records.proofs.TestLaws.{refused_is, refused_not, refused_place, step_placed}

-- a clause by its number: of A, of B, or a result
module _ (h : ℕ) (a b work : List ℕ) where
  pub clause_a : (n : ℕ) → n < records (2 * h) a → clause_at h a b work n ≡ record_at (2 * h) a n
  unfolding clause_at
  clause_a n l = rw (lt-ltb n (records (2 * h) a) l) refl

  pub clause_b : (n : ℕ) → n < records (2 * h) b → clause_at h a b work (records (2 * h) a + n) ≡ record_at (2 * h) b n
  unfolding clause_at
  clause_b n l =
      let e : records (2 * h) a + n - records (2 * h) a ≡ n = omega arith in
      rw (le-ltb (records (2 * h) a + n) (records (2 * h) a) (omega arith), lt-ltb (records (2 * h) a + n) (inputs h a b) (omega arith), e) refl

  pub clause_result : (i : ℕ) → clause_at h a b work (inputs h a b + i) ≡ record_at (2 * h) work i
  unfolding clause_at
  clause_result i =
      let e : inputs h a b + i - inputs h a b ≡ i = omega arith in
      rw (le-ltb (inputs h a b + i) (records (2 * h) a) (omega arith), le-ltb (inputs h a b + i) (inputs h a b) (omega arith), e) refl

-- a clause that is there has a record's bytes
pub clause_size : (h : ℕ) (a b work : List ℕ) (n : ℕ) → 0 < h → n < inputs h a b + records (2 * h) work → length (clause_at h a b work n) ≡ 2 * h
clause_size h a b work n p l =
    in_parts (λ (n : ℕ). n < inputs h a b + records (2 * h) work → length (clause_at h a b work n) ≡ 2 * h) (inputs h a b)
    (λ n q l. input n q (dec_lt n (records (2 * h) a)))
    (λ i l. rw (clause_result h a b work i) (length_record_at (2 * h) work i (whole (2 * h) (length work) i (omega arith) (omega arith))))
    n l
  where
    input : (n : ℕ) → n < inputs h a b → Dec (n < records (2 * h) a) → length (clause_at h a b work n) ≡ 2 * h
    input n q (yes r) = rw (clause_a h a b work n r) (length_record_at (2 * h) a n (whole (2 * h) (length a) n (omega arith) r))
    input n q (no r) =
        let e : records (2 * h) a + (n - records (2 * h) a) ≡ n = omega arith in
        let l : n - records (2 * h) a < records (2 * h) b = omega arith in
        subst (λ (k : ℕ). length (clause_at h a b work k) ≡ 2 * h) e (rw (clause_b h a b work (n - records (2 * h) a) l) (length_record_at (2 * h) b (n - records (2 * h) a) (whole (2 * h) (length b) (n - records (2 * h) a) (omega arith) l)))

-- the root, by where it stands
module _ (h : ℕ) (a b work : List ℕ) (n : ℕ) where
  abbrev without_literal : ℕ → Bool
  without_literal k = empty (clause_at h a b work k)

  of_a : first without_literal (records (2 * h) a) ≡ first_empty (2 * h) a (records (2 * h) a)
  unfolding first_empty
  of_a = first_same without_literal _ (records (2 * h) a) (λ k l. ap empty (clause_a h a b work k l))

  of_b : first (λ i. without_literal (records (2 * h) a + i)) (records (2 * h) b) ≡ first_empty (2 * h) b (records (2 * h) b)
  unfolding first_empty
  of_b = first_same (λ i. without_literal (records (2 * h) a + i)) _ (records (2 * h) b) (λ k l. ap empty (clause_b h a b work k l))

  of_results : first (λ i. without_literal (inputs h a b + i)) n ≡ first_empty (2 * h) work n
  unfolding first_empty
  of_results = first_same (λ i. without_literal (inputs h a b + i)) _ n (λ k l. ap empty (clause_result h a b work k))

  pub root_in_a : (r : ℕ) → r ≡ first_empty (2 * h) a (records (2 * h) a) → r < records (2 * h) a → r ≡ root_of h a b work (inputs h a b + n)
  unfolding root_of
  root_in_a r e l =
      first_in without_literal (inputs h a b) n r (first_in without_literal (records (2 * h) a) (records (2 * h) b) r (e ∙ sym of_a) l) (omega arith)

  module _ (none-in-a : records (2 * h) a ≤ first_empty (2 * h) a (records (2 * h) a)) where
    first_inputs : (r : ℕ) → r ≡ first_empty (2 * h) b (records (2 * h) b) → records (2 * h) a + r ≡ first without_literal (inputs h a b)
    first_inputs r e = first_past without_literal (records (2 * h) a) (records (2 * h) b) r (omega (arith, of_a)) (e ∙ sym of_b)

    pub root_in_b : (r : ℕ) → r ≡ first_empty (2 * h) b (records (2 * h) b) → r < records (2 * h) b → records (2 * h) a + r ≡ root_of h a b work (inputs h a b + n)
    unfolding root_of
    root_in_b r e l = first_in without_literal (inputs h a b) n (records (2 * h) a + r) (first_inputs r e) (omega arith)

    pub root_in_results : records (2 * h) b ≤ first_empty (2 * h) b (records (2 * h) b) → (r : ℕ) → r ≡ first_empty (2 * h) work n
        → inputs h a b + r ≡ root_of h a b work (inputs h a b + n)
    unfolding root_of
    root_in_results none-in-b r e =
        first_past without_literal (inputs h a b) n r (omega (arith, first_inputs (first_empty (2 * h) b (records (2 * h) b)) refl)) (e ∙ sym of_results)

-- the same of what the searches of A, of B and of the results answer
module _ (h : ℕ) (a b work : List ℕ) (n : ℕ) where
  abbrev in_clauses : Option ℕ → Type 0
  in_clauses o = o ≡ found (inputs h a b + n) (root_of h a b work (inputs h a b + n))

  in_table : (r : ℕ) → r ≡ root_of h a b work (inputs h a b + n) → r < inputs h a b + n → in_clauses (Some r)
  in_table r e l = found_at (inputs h a b + n) _ r e l

  pub found_in_a : (r : ℕ) → Some r ≡ found (records (2 * h) a) (first_empty (2 * h) a (records (2 * h) a)) → in_clauses (Some r)
  found_in_a r e =
      let here = found_some (records (2 * h) a) _ r e in
      in_table r (root_in_a h a b work n r here.0 (omega (arith, here.0, here.1))) (omega (arith, here.0, here.1))

  module _ (not_in_a : None ≡ found (records (2 * h) a) (first_empty (2 * h) a (records (2 * h) a))) where
    past_a : records (2 * h) a ≤ first_empty (2 * h) a (records (2 * h) a)
    past_a = found_none (records (2 * h) a) _ not_in_a

    pub found_in_b : (r : ℕ) → Some r ≡ found (records (2 * h) b) (first_empty (2 * h) b (records (2 * h) b)) → in_clauses (Some (records (2 * h) a + r))
    found_in_b r e =
        let here = found_some (records (2 * h) b) _ r e in
        in_table (records (2 * h) a + r) (root_in_b h a b work n past_a r here.0 (omega (arith, here.0, here.1))) (omega (arith, here.0, here.1))

    module _ (not_in_b : None ≡ found (records (2 * h) b) (first_empty (2 * h) b (records (2 * h) b))) where
      past_b : records (2 * h) b ≤ first_empty (2 * h) b (records (2 * h) b)
      past_b = found_none (records (2 * h) b) _ not_in_b

      pub found_in_results : (r : ℕ) → Some r ≡ found n (first_empty (2 * h) work n) → in_clauses (Some (inputs h a b + r))
      found_in_results r e =
          let here = found_some n _ r e in
          in_table (inputs h a b + r) (root_in_results h a b work n past_a past_b r here.0) (omega (arith, here.0, here.1))

      pub found_in_none : None ≡ found n (first_empty (2 * h) work n) → in_clauses None
      found_in_none e =
          let root = first_empty (2 * h) work n in
          rw (← root_in_results h a b work n past_a past_b root refl) (found_not (inputs h a b + n) (inputs h a b + root) (omega (arith, found_none n root e)))

-- the steps, one after the other
module _ (h : ℕ) (a b : List ℕ) (step : ℕ → Step) (work : List ℕ) where
  pub after_one : (i : ℕ) → stored h a b (step i) i (work_after h a b step work i) ≡ work_after h a b step work (i + 1)
  unfolding work_after
  after_one i = rw (add-one i) refl

  -- the steps end at the first refusal, or at s
  pub stops_at : (s i : ℕ) → i < s → ((j : ℕ) → j < i → refused (verdict_at h a b step work j) ≡ false) → refused (verdict_at h a b step work i) ≡ true → i ≡ stop_at h a b step work s
  unfolding stop_at
  stops_at s i l good bad = first_is (λ j. refused (verdict_at h a b step work j)) s i (omega arith) good (λ m. bad)

  pub ends_at : (s : ℕ) → ((j : ℕ) → j < s → refused (verdict_at h a b step work j) ≡ false) → s ≡ stop_at h a b step work s
  unfolding stop_at
  ends_at s good = first_is (λ j. refused (verdict_at h a b step work j)) s s (omega arith) good (λ m. absurd (omega arith))

  pub verdict_stopped : (s i : ℕ) → i < s → i ≡ stop_at h a b step work s → steps_verdict h a b step work s ≡ verdict_at h a b step work i
  unfolding steps_verdict
  verdict_stopped s i l e = rw (← e, lt-ltb i s l) refl

  pub verdict_ended : (s : ℕ) → s ≡ stop_at h a b step work s → steps_verdict h a b step work s ≡ first_failed []
  unfolding steps_verdict
  verdict_ended s e = rw (← e, le-ltb s s (omega arith)) refl

-- a refusal stands, and without one the next tests decide
pub refusal_stands : (o : Outcome) (next : List ℕ → Outcome) → (o.number ≡ 0 → ⊥) → and_then o next ≡ o
unfolding and_then
refusal_stands o next n = rw (ne_eqb o.number 0 n) refl

pub next_decides : (o : Outcome) (next : List ℕ → Outcome) → o.number ≡ 0 → and_then o next ≡ next o.work
unfolding and_then
next_decides o next e = rw (eq-eqb o.number 0 e) refl

-- a run of the steps, by its turns: the table w is that after i good steps, and n is the number that the tests of step i give
module _ (h : ℕ) (a b : List ℕ) (step : ℕ → Step) (work w : List ℕ) (i n : ℕ) (same : w ≡ work_after h a b step work i)
    (number : n ≡ (first_failed (step_tests h (clause_at h a b w) (inputs h a b + i) i (step i))).number) where
  at_turn : n ≡ (verdict_at h a b step work i).number
  unfolding verdict_at
  at_turn = rw (← same) number

  pub good_turn : n ≡ 0 → refused (verdict_at h a b step work i) ≡ false
  good_turn z = refused_not (verdict_at h a b step work i) (sym at_turn ∙ z)

  pub bad_run : (s : ℕ) → i < s → ((j : ℕ) → j < i → refused (verdict_at h a b step work j) ≡ false) → (n ≡ 0 → ⊥)
      → Derives (ran h a b step s work) w (record { number = n; place = i })
  unfolding ran verdict_at
  bad_run s l good bad =
      let is_bad : (verdict_at h a b step work i).number ≡ 0 → ⊥ = λ z. bad (at_turn ∙ z) in
      let stop = stops_at h a b step work s i l good (refused_is (verdict_at h a b step work i) is_bad) in
      let verdict = verdict_stopped h a b step work s i l stop in
      record {
        number = at_turn ∙ sym (ap (λ (v : Verdict). v.number) verdict);
        place = sym (ap (λ (v : Verdict). v.place) verdict
            ∙ refused_place i (step_tests h (clause_at h a b (work_after h a b step work i)) (inputs h a b + i) i (step i)) (step_placed h (clause_at h a b (work_after h a b step work i)) (inputs h a b + i) i (step i)) is_bad);
        work = same ∙ ap (work_after h a b step work) stop;
      }

pub good_run : (h : ℕ) (a b : List ℕ) (step : ℕ → Step) (work w : List ℕ) (s : ℕ) → w ≡ work_after h a b step work s
    → ((j : ℕ) → j < s → refused (verdict_at h a b step work j) ≡ false) → Derives (ran h a b step s work) w (record { number = 0; place = 0 })
unfolding ran first_failed
good_run h a b step work w s same good =
    let stop = ends_at h a b step work s good in
    let verdict = verdict_ended h a b step work s stop in
    record {
      number = sym (ap (λ (v : Verdict). v.number) verdict);
      place = sym (ap (λ (v : Verdict). v.place) verdict);
      work = same ∙ ap (work_after h a b step work) stop;
    }

-- an answer by its stages: a refusal stands, and without one the next stage answers
module _ (o : Outcome) (last : List ℕ) (r : Verdict) (here : Derives o last r) (next : List ℕ → Outcome) where
  pub derives_refused : (r.number ≡ 0 → ⊥) → Derives (and_then o next) last r
  derives_refused n = rw (refusal_stands o next (λ z. n (here.number ∙ z))) here

  pub derives_next : r.number ≡ 0 → (end : List ℕ) (s : Verdict) → Derives (next last) end s → Derives (and_then o next) end s
  derives_next z end s then = rw (next_decides o next (sym here.number ∙ z), ← here.work) then

pub judged_says : (v r : Verdict) (work : List ℕ) → Says v r → Derives (judged v work) work r
judged_says v r work says = record { number = says.number; place = says.place; work = refl }

-- the same of a stage that answers by a result, whose refusal is handed on
module _ {A : Type 0} (place : A → ℕ) (o : Outcome) (last : List ℕ) (r : Result A Refusal) (here : Derives o last (verdict_by place r)) (next : List ℕ → Outcome) where
  pub stage_refused : (e : Refusal) → r ≡ Err e → Derives (and_then o next) last (record { number = refusal_number e; place = refusal_place e })
  stage_refused e is = derives_refused o last (verdict_by place (Err e)) (subst (λ r. Derives o last (verdict_by place r)) is here) next (numbered e)

  pub stage_passed : (x : A) → r ≡ Ok x → (end : List ℕ) (s : Verdict) → Derives (next last) end s → Derives (and_then o next) end s
  stage_passed x is = derives_next o last (verdict_by place r) here next (ap (λ r. (verdict_by place r).number) is)

-- the root's stage: a root, or 11
module _ (h : ℕ) (a b : List ℕ) (s : ℕ) (work : List ℕ) (root : ℕ) (is : root ≡ root_of h a b work (inputs h a b + s)) where
  pub root_found : root < inputs h a b + s → Derives (rooted h a b s work) work (record { number = 0; place = root })
  unfolding rooted and_then root_tests first_failed
  root_found l = rw (← is, lt-ltb root (inputs h a b + s) l) (record { number = refl; place = refl; work = refl })

  pub root_missing : inputs h a b + s ≤ root → Derives (rooted h a b s work) work (record { number = 11; place = 0 })
  unfolding rooted and_then root_tests first_failed
  root_missing l = rw (← is, le-ltb root (inputs h a b + s) l) (record { number = refl; place = refl; work = refl })

  -- as the search for it answers
  pub root_answered : Derives (rooted h a b s work) work (verdict_of (ok_or (found (inputs h a b + s) root) NoEmptyClause))
  root_answered = go (dec_lt root (inputs h a b + s))
    where
      go : Dec (root < inputs h a b + s) → Derives (rooted h a b s work) work (verdict_of (ok_or (found (inputs h a b + s) root) NoEmptyClause))
      go (yes l) = rw (lt-ltb root (inputs h a b + s) l) (root_found l)
      go (no n) = let l : inputs h a b + s ≤ root = omega arith in rw (le-ltb root (inputs h a b + s) l) (root_missing l)
