-- `print::text::write_kind` meets its contract. Assumes nothing.
use native.Mathlib.Omega.{arith}
use Rattle.print.specs.Line.{space, kind_word}
use Rattle.print.proofs.TextLaws.{field_appended}
use Rattle.print.proofs.text.write_kind.Goals as goal

pub returns-clause-bytes : goal.returns-clause-bytes
returns-clause-bytes c = field_appended (kind_word c.args.kind) space c.args.text.now.bytes c.kind_word.ensures.word c.push_str.ensures.bytes (c.push.ensures.ascii (omega arith))
