-- `circuits::evaluation::fill_row` meets its contract: the values passed are those of the row. Assumes nothing.
use Rattle.std.proofs.Common.{◌≡◌, ℕ, ◌+◌, ◌<◌, get_or}
use Rattle.circuits.specs.EvaluateInside.{row_value}
use Rattle.circuits.proofs.evaluation.fill_row.Given as goal

abbrev pub invariant-loop-i : goal.invariant-loop-i
invariant-loop-i l = record {
  filled : (k : ℕ) → k < l.i → get_or l.values (l.at + k) 0 ≡ row_value l.n k;
  before : (r : ℕ) → r < l.at → get_or l.values r 0 ≡ get_or l.initial.values r 0;
}
