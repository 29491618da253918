-- `records::tables::literals_of` meets its contract. Assumes nothing.
use mathlib.Core.Path.{refl}
use native.Mathlib.Omega.{arith}
use Rattle.records.specs.Bits.{number_of}
use Rattle.records.specs.Lists.{tabulate}
use Rattle.records.specs.Clause.{bytes_of}
use Rattle.records.proofs.tables.literals_of.Goals as goal

pub join_all-requires : goal.join_all-requires
unfolding bytes_of tabulate number_of
join_all-requires c = (omega arith, omega arith, refl)
