-- `records::tables::first_empty` meets its contract. Assumes nothing.
use Rattle.records.proofs.tables.first_empty.Goals as goal

pub returns : goal.returns
returns c = c.first_empty_of.ensures
