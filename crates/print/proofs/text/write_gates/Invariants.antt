-- `print::text::write_gates` meets its contract: after k turns the lines of the first k gates are written, each of at most 84 bytes. Assumes nothing.
use Prim.Native.Nat.{◌+◌, ◌*◌, ◌≤◌}
use mathlib.Core.Path.{◌≡◌}
use mathlib.Core.List.{◌++◌}
use Rattle.arrayvec.specs.ArrayString.{array_string_len}
use Rattle.print.specs.Line.{gate_lines}
use Rattle.print.proofs.text.write_gates.Given as goal

abbrev pub invariant-loop-k : goal.invariant-loop-k
invariant-loop-k l =
    record {
      bytes : l.text.bytes ≡ l.initial.text.bytes ++ gate_lines l.table l.k;
      short : array_string_len l.text ≤ array_string_len l.initial.text + 84 * l.k;
    }
