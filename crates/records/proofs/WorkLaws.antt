-- The laws of the work table after i steps: each result stays as it was written, and the bytes past the results are untouched.
use Prim.Native.Nat.{ℕ, zero, suc, ◌+◌, ◌*◌, ◌≤◌, ◌<◌}
use mathlib.Core.Path.{◌≡◌, refl, sym, ap, ◌∙◌}
use mathlib.Core.List.{List}
use mathlib.Core.Logic.{by_cases}
use native.Mathlib.Nat.{mul-suc}
use native.Mathlib.Decide.{dec_lt}
use native.Mathlib.Omega.{arith}
use borrow.Author.Tests.{lt-ltb}
use lib.ListN.{length, drop}
use Rattle.records.specs.declared.steps.Step.{Step}
use Rattle.records.specs.Table.{record_at}
use Rattle.records.specs.Derivation.{inputs, clause_at, result_of, stored, work_after}
use Rattle.records.proofs.NumberLaws.{in_parts}
use Rattle.records.proofs.ClauseLaws.{length_resolvent}
use Rattle.records.proofs.TableLaws.{within, length_put, record_at_put_same, record_at_put_earlier, drop_put}
use Rattle.records.proofs.DerivationLaws.{clause_result}

-- an input clause is the same over every work table
pub clause_input : (h : ℕ) (a b work other : List ℕ) (n : ℕ) → n < inputs h a b → clause_at h a b work n ≡ clause_at h a b other n
unfolding clause_at
clause_input h a b work other n l = rw (lt-ltb n (inputs h a b) l) refl

length_result : (h : ℕ) (a b work : List ℕ) (s : Step) → length (result_of h a b work s) ≡ 2 * h
length_result h a b work s = length_resolvent h (clause_at h a b work s.left) (clause_at h a b work s.right) s.pivot

-- s steps, and a work table with room for their results
module _ (h : ℕ) (a b : List ℕ) (step : ℕ → Step) (work : List ℕ) (s : ℕ) (room : 2 * h * s ≤ length work) where
  pub length_work_after : (i : ℕ) → i ≤ s → length (work_after h a b step work i) ≡ length work
  unfolding work_after stored
  length_work_after zero l = refl
  length_work_after (suc i) l =
      let same : length (work_after h a b step work i) ≡ length work = length_work_after i (omega arith) in
      length_put (2 * h) (work_after h a b step work i) i _ (omega (arith, within (2 * h) i s (omega arith))) (length_result h a b (work_after h a b step work i) (step i))
      ∙ same

  -- step i's record is whole
  fits : (i : ℕ) → i < s → 2 * h * i + 2 * h ≤ length (work_after h a b step work i)
  fits i l = omega (arith, within (2 * h) i s l, length_work_after i (omega arith))

  record_kept : (r j i : ℕ) → r < j → j ≤ i → i ≤ s → record_at (2 * h) (work_after h a b step work i) r ≡ record_at (2 * h) (work_after h a b step work j) r
  unfolding work_after stored
  record_kept r j zero l m n = absurd (omega arith)
  record_kept r j (suc i) l m n =
      by_cases (dec_lt i j) (λ q. let e : suc i ≡ j = omega arith in ap (λ (k : ℕ). record_at (2 * h) (work_after h a b step work k) r) e)
      (λ q.
      record_at_put_earlier (2 * h) (work_after h a b step work i) i _ r (fits i n) (length_result h a b (work_after h a b step work i) (step i)) (omega arith)
      ∙ record_kept r j i l (omega arith) (omega arith))

  -- record j is what step j wrote
  pub result_kept : (j i : ℕ) → j < i → i ≤ s → record_at (2 * h) (work_after h a b step work i) j ≡ result_of h a b (work_after h a b step work j) (step j)
  unfolding work_after stored
  result_kept j i l m =
      record_kept j (suc j) i (omega arith) (omega arith) m
      ∙ record_at_put_same (2 * h) (work_after h a b step work j) j _ (fits j (omega arith)) (length_result h a b (work_after h a b step work j) (step j))

  -- a clause stays as it is once it is there
  pub clause_kept : (n j i : ℕ) → n < inputs h a b + j → j ≤ i → i ≤ s → clause_at h a b (work_after h a b step work i) n ≡ clause_at h a b (work_after h a b step work j) n
  clause_kept n j i l m o =
      in_parts (λ (n : ℕ). n < inputs h a b + j → clause_at h a b (work_after h a b step work i) n ≡ clause_at h a b (work_after h a b step work j) n) (inputs h a b)
      (λ n q l. clause_input h a b (work_after h a b step work i) (work_after h a b step work j) n q)
      (λ r l.
      clause_result h a b (work_after h a b step work i) r ∙ record_kept r j i (omega arith) m o
      ∙ sym (clause_result h a b (work_after h a b step work j) r))
      n l

  -- after step i, its clause is the resolvent of its antecedents, all of them as they are by then
  pub result_is : (i m : ℕ) → i < m → m ≤ s → (step i).left < inputs h a b + i → (step i).right < inputs h a b + i
      → clause_at h a b (work_after h a b step work m) (inputs h a b + i) ≡ result_of h a b (work_after h a b step work m) (step i)
  result_is i m l n left right =
      rw (clause_kept (step i).left i m left (omega arith) n, clause_kept (step i).right i m right (omega arith) n)
      (clause_result h a b (work_after h a b step work m) i ∙ result_kept i m l n)

  -- the bytes past the results
  pub rest_kept : (i n : ℕ) → i ≤ s → 2 * h * i ≤ n → drop n (work_after h a b step work i) ≡ drop n work
  unfolding work_after stored
  rest_kept zero n l m = refl
  rest_kept (suc i) n l m =
      drop_put (2 * h) (work_after h a b step work i) i _ n (fits i l) (length_result h a b (work_after h a b step work i) (step i)) (omega (arith, mul-suc (2 * h) i))
      ∙ rest_kept i n (omega arith) (omega (arith, mul-suc (2 * h) i))
