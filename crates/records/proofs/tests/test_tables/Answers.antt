-- `records::tests::test_tables` meets its contract: each refusal is the first test that fails. Assumes nothing.
use Prim.Native.Nat.{ℕ, ◌+◌, ◌/◌, ◌%◌}
use mathlib.Core.Path.{◌≡◌, refl}
use mathlib.Core.List.{List, [], ◌∷◌}
use native.Mathlib.Omega.{arith}
use borrow.Author.Tests.{lt-leb, le-leb, eq-eqb, ne_eqb}
use lib.Dec.{leb}
use lib.ListN.{length}
use Rattle.records.specs.Tests.{test, first_failed, table_tests}
use Rattle.records.proofs.tests.test_tables.Goals as goal

-- how many clauses there are, results counted
abbrev count : List ℕ → List ℕ → List ℕ → ℕ
count a b steps = length a / 64 + length b / 64 + length steps / 8

-- where the lengths are whole the number of clauses decides
past-lengths : (a b steps : List ℕ) → length a % 64 ≡ 0 → length b % 64 ≡ 0 → length steps % 8 ≡ 0
    → first_failed (table_tests 32 1024 a b steps) ≡ first_failed (test (leb (count a b steps) 1024) 4 0 ∷ [])
unfolding table_tests first_failed
past-lengths a b steps ea eb es = rw (eq-eqb (length a % 64) 0 ea, eq-eqb (length b % 64) 0 eb, eq-eqb (length steps % 8) 0 es) refl

pub returns-then-a-ne0 : goal.returns-then-a-ne0
unfolding table_tests first_failed
returns-then-a-ne0 c =
    let args = c.args in
    rw (ne_eqb (length args.a.now % 64) 0 (λ e. c.if-a-ne0.true (omega arith))) (record { number = refl; place = refl })

pub returns-then-b-ne0 : goal.returns-then-b-ne0
unfolding table_tests first_failed
returns-then-b-ne0 c =
    let args = c.args in
    rw (
      eq-eqb (length args.a.now % 64) 0 (omega arith),
      ne_eqb (length args.b.now % 64) 0 (λ e. c.if-b-ne0.true (omega arith)),
    ) (record { number = refl; place = refl })

pub returns-then-steps-ne0 : goal.returns-then-steps-ne0
unfolding table_tests first_failed
returns-then-steps-ne0 c =
    let args = c.args in
    rw (
      eq-eqb (length args.a.now % 64) 0 (omega arith),
      eq-eqb (length args.b.now % 64) 0 (omega arith),
      ne_eqb (length args.steps.now % 8) 0 (λ e. c.if-steps-ne0.true (omega arith)),
    ) (record { number = refl; place = refl })

pub returns-then-a-b-gt1024 : goal.returns-then-a-b-gt1024
unfolding first_failed
returns-then-a-b-gt1024 c =
    let args = c.args in
    rw (
      past-lengths args.a.now args.b.now args.steps.now (omega arith) (omega arith) (omega arith),
      lt-leb (count args.a.now args.b.now args.steps.now) 1024 (omega arith),
    ) (record { number = refl; place = refl })

pub returns : goal.returns
unfolding first_failed
returns c =
    let args = c.args in
    rw (
      past-lengths args.a.now args.b.now args.steps.now (omega arith) (omega arith) (omega arith),
      le-leb (count args.a.now args.b.now args.steps.now) 1024 (omega arith),
    ) (record { number = refl; place = refl })
