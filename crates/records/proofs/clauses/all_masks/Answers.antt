-- `records::clauses::all_masks` meets its contract: the rule of the masks, tested at each byte. Assumes nothing.
use mathlib.Core.Path.{refl}
use Rattle.records.specs.Bits.{number_of}
use Rattle.records.specs.Inside.{all_but}
use Rattle.records.proofs.ClauseLaws.{masks_are}
use Rattle.records.proofs.clauses.all_masks.Goals as goal

pub returns : goal.returns
unfolding all_but number_of
returns c = masks_are _ refl refl
