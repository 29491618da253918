-- `circuits::rules::occurs_in` meets its contract: one sign or the other. Assumes nothing.
use Rattle.std.proofs.Common.{◌||◌, ap₂}
use Rattle.circuits.specs.Inside.{mentions}
use Rattle.circuits.proofs.rules.occurs_in.Goals as goal

pub returns : goal.returns
unfolding mentions
returns c = ap₂ ◌||◌ c.has_literal-positive.ensures c.has_literal-negative.ensures
