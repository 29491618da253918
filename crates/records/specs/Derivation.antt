-- The derivation over tables A and B, the steps and the work table: where it stops, with which number, and what it leaves in the work table.
use Rattle.std.specs.Prelude.{ℕ, zero, suc, ◌+◌, ◌-◌, ◌*◌, ◌%◌, ◌≤◌, ◌<◌, ◌≡◌, true, false, cond, List, [], length, eqb, ltb}
use Rattle.records.specs.declared.steps.Step.{Step}
use Rattle.records.specs.Lists.{first}
use Rattle.records.specs.Clause.{holds, resolvent, empty}
use Rattle.records.specs.Table.{record_at, records, put}
use Rattle.records.specs.Step.{step_at, step_count}
use Rattle.records.specs.Tests.{Verdict, first_failed, refused, table_tests, room_tests, step_tests, root_tests}

-- how many input clauses there are
abbrev pub inputs : ℕ → List ℕ → List ℕ → ℕ
inputs h a b = records (2 * h) a + records (2 * h) b

-- "Clauses are numbered: A from 0, B from a, and the result of step i is a + b + i. Results are stored in the work table."
unfoldable pub clause_at : ℕ → List ℕ → List ℕ → List ℕ → ℕ → List ℕ
clause_at h a b work n =
    cond (ltb n (records (2 * h) a)) (record_at (2 * h) a n)
    (cond (ltb n (inputs h a b)) (record_at (2 * h) b (n - records (2 * h) a)) (record_at (2 * h) work (n - inputs h a b)))

-- the result of a step, by the clauses of a work table
abbrev pub result_of : ℕ → List ℕ → List ℕ → List ℕ → Step → List ℕ
result_of h a b work s = resolvent h (clause_at h a b work s.left) (clause_at h a b work s.right) s.pivot

-- "each resolvent goes straight into its own record of the work table, record i for step i": the work table once step i, which is s, is done
unfoldable pub stored : ℕ → List ℕ → List ℕ → Step → ℕ → List ℕ → List ℕ
stored h a b s i work = put (2 * h) work i (result_of h a b work s)

-- the work table after the first i steps, all good where i is at most `stop_at`
unfoldable pub work_after : ℕ → List ℕ → List ℕ → (ℕ → Step) → List ℕ → ℕ → List ℕ
work_after h a b step work zero = work
work_after h a b step work (suc i) = stored h a b (step i) i (work_after h a b step work i)

-- the tests of step i, decided on the results of the steps before it
unfoldable pub verdict_at : ℕ → List ℕ → List ℕ → (ℕ → Step) → List ℕ → ℕ → Verdict
verdict_at h a b step work i =
    first_failed (step_tests h (clause_at h a b (work_after h a b step work i)) (inputs h a b + i) i (step i))

-- "steps in order from 0, and the first failing step is named": that step, or s where all s are good
unfoldable pub stop_at : ℕ → List ℕ → List ℕ → (ℕ → Step) → List ℕ → ℕ → ℕ
stop_at h a b step work s = first (λ i. refused (verdict_at h a b step work i)) s

-- its refusal, or none
unfoldable pub steps_verdict : ℕ → List ℕ → List ℕ → (ℕ → Step) → List ℕ → ℕ → Verdict
steps_verdict h a b step work s =
    cond (ltb (stop_at h a b step work s) s) (verdict_at h a b step work (stop_at h a b step work s)) (first_failed [])

-- "The root is the first clause in number order that has no literal, an input clause included": that one of n clauses, or n
unfoldable pub root_of : ℕ → List ℕ → List ℕ → List ℕ → ℕ → ℕ
root_of h a b work n = first (λ k. empty (clause_at h a b work k)) n

-- what a derivation answers so far, and what it leaves in the work table
pub record Outcome : Type 0 where
  pub number : ℕ
  pub place : ℕ
  pub work : List ℕ

abbrev pub judged : Verdict → List ℕ → Outcome
judged v work = record { number = v.number; place = v.place; work = work }

-- a refusal stands; without one the next tests decide, over the work table as it is then
unfoldable pub and_then : Outcome → (List ℕ → Outcome) → Outcome
and_then o next = cond (eqb o.number 0) (next o.work) o

-- 7 to 10: "7 to 10 at step i leave work records 0 to i-1 as resolvents"
unfoldable pub ran : ℕ → List ℕ → List ℕ → (ℕ → Step) → ℕ → List ℕ → Outcome
ran h a b step s work = judged (steps_verdict h a b step work s) (work_after h a b step work (stop_at h a b step work s))

-- 11, or "0, the root's clause number"
unfoldable pub rooted : ℕ → List ℕ → List ℕ → ℕ → List ℕ → Outcome
rooted h a b s work =
    let root = root_of h a b work (inputs h a b + s) in
    and_then (judged (first_failed (root_tests root (inputs h a b + s))) work) (judged (record { number = 0; place = root }))

-- "1 to 6 change nothing" (6 is the gate layer's), then the steps, then the root
unfoldable pub derived : ℕ → ℕ → List ℕ → List ℕ → List ℕ → List ℕ → Outcome
derived h most a b steps work =
    and_then (judged (first_failed (table_tests h most a b steps)) work)
    (λ work. and_then (judged (first_failed (room_tests h steps work)) work)
    (λ work. and_then (ran h a b (step_at steps) (step_count steps) work)
    (λ work. rooted h a b (step_count steps) work)))

-- r and the work table afterwards are those of the outcome
pub record Derives (o : Outcome) (last : List ℕ) (r : Verdict) : Type 0 where
  pub number : r.number ≡ o.number
  pub place : r.place ≡ o.place
  pub work : last ≡ o.work

-- "Left must hold the pivot's positive literal, right the negative one. .. Each step uses clauses with numbers below its own":
-- step s, whose own clause number is own, is well formed and by the rule over the clauses by their numbers
pub record ByRule (h : ℕ) (clause : ℕ → List ℕ) (own : ℕ) (s : Step) : Type 0 where
  pub spare : s.spare ≡ true
  pub left_earlier : s.left < own
  pub right_earlier : s.right < own
  pub left_holds : holds h (clause s.left) true s.pivot ≡ true
  pub right_holds : holds h (clause s.right) false s.pivot ≡ true

-- over the work table last the first s results are derived: each step is by the rule, and its clause is its result
pub record Derivation (h : ℕ) (a b last : List ℕ) (step : ℕ → Step) (s : ℕ) : Type 0 where
  pub by_rule : (i : ℕ) → i < s → ByRule h (clause_at h a b last) (inputs h a b + i) (step i)
  pub result : (i : ℕ) → i < s → clause_at h a b last (inputs h a b + i) ≡ result_of h a b last (step i)

-- how many clauses there are, results counted, and the work table after all steps
abbrev pub clause_count : ℕ → List ℕ → List ℕ → List ℕ → ℕ
clause_count h a b steps = inputs h a b + step_count steps

abbrev pub last_work : ℕ → List ℕ → List ℕ → List ℕ → List ℕ → List ℕ
last_work h a b steps work = work_after h a b (step_at steps) work (step_count steps)

-- the limits that tests 1 to 5 set
pub record Sizes (h most : ℕ) (a b steps work : List ℕ) : Type 0 where
  pub a_whole : length a % (2 * h) ≡ 0
  pub b_whole : length b % (2 * h) ≡ 0
  pub steps_whole : length steps % 8 ≡ 0
  pub few : clause_count h a b steps ≤ most
  pub room : 2 * h * step_count steps ≤ length work
