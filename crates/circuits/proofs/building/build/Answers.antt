-- `circuits::building::build` meets its contract: all steps from the inputs' references, by the literals of A and of B, are document 01's build. Assumes nothing.
use Rattle.circuits.proofs.InsideLaws.{plain_by_literals, builds_by}
use Rattle.circuits.proofs.building.build.Goals as goal

pub returns : goal.returns
returns c =
    let pre = c.requires in
    builds_by _ _ _ _ _ _ _ _ c.build_steps-count.ensures (rw c.new-literals.ensures (plain_by_literals 32 _ _ _ _ pre.0.pivots c.start-references.ensures.1)) pre.1 _
    c.from-reference.ensures
