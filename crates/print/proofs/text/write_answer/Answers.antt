-- `print::text::write_answer` meets its contract: four fields are a line. Assumes nothing.
use Rattle.print.specs.Decimal.{decimal}
use Rattle.print.specs.Line.{answer_line}
use Rattle.print.proofs.TextLaws.{line_appended}
use Rattle.print.proofs.text.write_answer.Goals as goal

pub returns-clause-bytes : goal.returns-clause-bytes
unfolding answer_line
returns-clause-bytes c =
    line_appended (decimal c.args.number) (decimal c.args.place) (decimal c.args.root) (decimal c.args.count) c.args.text.now.bytes c.write_field.ensures.bytes c.write_field-2.ensures.bytes
    c.write_field-3.ensures.bytes c.write_field-4.ensures.bytes
