-- `print::text::write_field` meets its contract. Assumes nothing.
use mathlib.Core.Path.{refl}
use Rattle.print.specs.Decimal.{decimal}
use Rattle.print.proofs.TextLaws.{field_appended}
use Rattle.print.proofs.text.write_field.Goals as goal

pub returns-clause-bytes : goal.returns-clause-bytes
returns-clause-bytes c = field_appended (decimal c.args.n) c.args.end c.args.text.now.bytes refl c.write_number.ensures.bytes (c.push.ensures.ascii c.requires.ascii)
