-- `records::tables::record_of` meets its contract: a record that is there is a part of the table, and past its end there is none. Assumes nothing.
use mathlib.Core.Path.{sym}
use Rattle.records.proofs.TableLaws.{record_at_out, past}
use Rattle.records.proofs.tables.record_of.Goals as goal

pub returns-else-r-table : goal.returns-else-r-table
returns-else-r-table c = sym (record_at_out _ _ _ (past _ _ _ c.requires c.if-r-table.false))

pub returns-then-r-table : goal.returns-then-r-table
returns-then-r-table c = c.part_of.ensures
