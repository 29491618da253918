-- `print::text::write_fields` meets its contract: four fields are a line. Assumes nothing.
use Rattle.print.specs.Decimal.{decimal}
use Rattle.print.specs.Line.{kind_word}
use Rattle.print.proofs.TextLaws.{line_appended}
use Rattle.print.proofs.text.write_fields.Goals as goal

pub returns-clause-bytes : goal.returns-clause-bytes
returns-clause-bytes c =
    line_appended (decimal c.args.reference) (kind_word c.args.kind) (decimal c.args.left) (decimal c.args.right) c.args.text.now.bytes c.write_field.ensures.bytes c.write_kind.ensures.bytes
    c.write_field-2.ensures.bytes c.write_field-3.ensures.bytes
