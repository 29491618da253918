-- `print::text::write_gates` meets its contract: after k turns the lines of the first k gates are written. Assumes nothing.
use native.Mathlib.Omega.{arith}
use Rattle.print.proofs.TextLaws.{no_lines, next_line}
use Rattle.print.proofs.text.write_gates.Goals as goal

pub loop-k-init : goal.loop-k-init
loop-k-init c = record { bytes = no_lines c.args.table.now c.args.text.now.bytes; short = omega arith }

pub loop-k-preserved : goal.loop-k-preserved
loop-k-preserved c =
    record {
      bytes = next_line c.args.table.now c.args.text.now.bytes c.loop-k.k c.loop-k.invariant.bytes c.write_gate.ensures.bytes;
      short = omega (arith, c.loop-k.invariant.short, c.write_gate.ensures.short);
    }
