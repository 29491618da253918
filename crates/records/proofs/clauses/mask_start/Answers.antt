-- `records::clauses::mask_start` meets its contract. Assumes nothing.
use mathlib.Core.Path.{refl}
use Rattle.records.specs.Inside.{mask_start}
use Rattle.records.proofs.clauses.mask_start.Goals as goal

pub returns : goal.returns
unfolding mask_start
returns c = refl
