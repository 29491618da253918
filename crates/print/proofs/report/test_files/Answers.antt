-- `print::report::test_files` meets its contract: each refusal is the first test that fails. Assumes nothing.
use mathlib.Core.Path.{refl}
use native.Mathlib.Omega.{arith}
use borrow.Author.Tests.{lt-leb, le-leb}
use lib.ListN.{length}
use Rattle.records.specs.Tests.{first_failed}
use Rattle.print.specs.Report.{file_tests}
use Rattle.print.proofs.report.test_files.Goals as goal

pub returns-then-a-gt-TABLE_LIMIT : goal.returns-then-a-gt-TABLE_LIMIT
unfolding file_tests first_failed
returns-then-a-gt-TABLE_LIMIT c =
    let args = c.args in
    rw (lt-leb (length args.a.now) 16384 (omega arith)) (record { number = refl; place = refl })

pub returns-then-b-gt-TABLE_LIMIT : goal.returns-then-b-gt-TABLE_LIMIT
unfolding file_tests first_failed
returns-then-b-gt-TABLE_LIMIT c =
    let args = c.args in
    rw (le-leb (length args.a.now) 16384 (omega arith), lt-leb (length args.b.now) 16384 (omega arith)) (record { number = refl; place = refl })

pub returns-then-steps-gt-STEPS_LIMIT : goal.returns-then-steps-gt-STEPS_LIMIT
unfolding file_tests first_failed
returns-then-steps-gt-STEPS_LIMIT c =
    let args = c.args in
    rw (
      le-leb (length args.a.now) 16384 (omega arith),
      le-leb (length args.b.now) 16384 (omega arith),
      lt-leb (length args.steps.now) 2048 (omega arith),
    ) (record { number = refl; place = refl })

pub returns : goal.returns
unfolding file_tests first_failed
returns c =
    let args = c.args in
    rw (
      le-leb (length args.a.now) 16384 (omega arith),
      le-leb (length args.b.now) 16384 (omega arith),
      le-leb (length args.steps.now) 2048 (omega arith),
    ) (record { number = refl; place = refl })
