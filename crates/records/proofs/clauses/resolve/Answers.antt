-- `records::clauses::resolve` meets its contract. Assumes nothing.
use mathlib.Core.Path.{◌∙◌, sym}
use native.Mathlib.Omega.{arith}
use Rattle.records.proofs.ClauseLaws.{resolved_into_record, resolved_into_other}
use Rattle.records.proofs.clauses.resolve.Goals as goal

pub resolve_halves-requires-clause-sized : goal.resolve_halves-requires-clause-sized
resolve_halves-requires-clause-sized c = (omega arith, omega arith, omega arith)

pub returns-then-part-eq64 : goal.returns-then-part-eq64
returns-then-part-eq64 c = c.resolve_halves.ensures ∙ rw c.from.ensures (sym (resolved_into_record 32 _ _ _ _ c.if-part-eq64.true))

pub returns-else-part-eq64 : goal.returns-else-part-eq64
returns-else-part-eq64 c = sym (resolved_into_other 32 _ _ _ _ c.if-part-eq64.false)
