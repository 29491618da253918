-- `print::text::write_gate` meets its contract. Assumes nothing.
use Prim.Native.Nat.{◌+◌, ◌*◌}
use mathlib.Core.Path.{◌≡◌}
use borrow.Author.Rules.{rules}
use Rattle.records.specs.Step.{pair_at}
use Rattle.print.proofs.TextLaws.{gate_line_lem}
use Rattle.print.proofs.text.write_gate.Goals as goal

pub returns-clause-bytes : goal.returns-clause-bytes
returns-clause-bytes c =
    let table = c.args.table.now in
    let start = 8 * c.args.k in
    let left : c.from.result ≡ pair_at table (start + 2) = search rules in
    let right : c.from-2.result ≡ pair_at table (start + 4) = search rules in
    rw (← gate_line_lem table c.args.k _ _ c.requires.within left right) c.write_fields.ensures.bytes
