-- `print::report::report` meets its contract. Assumes nothing.
use mathlib.Core.Path.{refl, sym}
use Rattle.print.proofs.ReportLaws.{files_within, file_refused, files_reported}
use Rattle.print.proofs.report.report.Goals as goal

pub write_checked-requires-clause-within : goal.write_checked-requires-clause-within
write_checked-requires-clause-within c = (files_within c.args.a.now c.args.b.now c.args.steps.now (sym c.in-Ok.ensures.number)).2

pub returns-in-Ok : goal.returns-in-Ok
returns-in-Ok c =
    let args = c.args in
    rw (← files_reported args.a.now args.b.now args.steps.now _ c.in-Ok.ensures refl) (rw c.new-text.ensures at c.write_checked.ensures)

pub returns-in-Err : goal.returns-in-Err
returns-in-Err c =
    let args = c.args in
    rw (← file_refused args.a.now args.b.now args.steps.now _ c.in-Err.ensures (λ e. cc)) (rw (c.place.ensures, c.new-text.ensures) at c.write_answer.ensures.bytes)
