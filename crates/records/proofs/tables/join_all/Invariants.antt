-- `records::tables::join_all` meets its contract: after r records all their literals are there. Assumes nothing.
use mathlib.Core.Path.{◌≡◌}
use Rattle.records.proofs.TableLaws.{literals_before}
use Rattle.records.proofs.tables.join_all.Given as goal

abbrev pub invariant-loop-r : goal.invariant-loop-r
invariant-loop-r l = l.all ≡ literals_before l.half l.table l.r
