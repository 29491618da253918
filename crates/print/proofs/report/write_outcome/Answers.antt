-- `print::report::write_outcome` meets its contract. Assumes nothing.
use Rattle.print.proofs.ReportLaws.{refused_text, accepted_text}
use Rattle.print.proofs.report.write_outcome.Goals as goal

pub returns-then-answer-eq0 : goal.returns-then-answer-eq0
returns-then-answer-eq0 c =
    let answer = c.args.answer in
    accepted_text answer.number answer.place answer.root answer.count c.args.gates.now c.args.text.now.bytes c.if-answer-eq0.true c.write_answer.ensures.bytes c.write_gates.ensures

pub returns-else-answer-eq0 : goal.returns-else-answer-eq0
returns-else-answer-eq0 c =
    let answer = c.args.answer in
    refused_text answer.number answer.place answer.root answer.count c.args.gates.now c.args.text.now.bytes c.if-answer-eq0.false c.write_answer.ensures.bytes
