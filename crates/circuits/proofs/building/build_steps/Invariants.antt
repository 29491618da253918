-- `circuits::building::build_steps` meets its contract: the builder, the gate table and the references are those of the build after as many steps. Assumes nothing.
use Rattle.std.proofs.Common.{◌-◌, ◌≤◌, [], take}
use Rattle.records.specs.Step.{step_at}
use Rattle.circuits.specs.Build.{plain}
use Rattle.circuits.specs.Inside.{rule_by}
use Rattle.circuits.proofs.InsideLaws.{At}
use Rattle.circuits.proofs.building.build_steps.Given as goal

abbrev pub invariant-loop-builder : goal.invariant-loop-builder
invariant-loop-builder l =
    (l.builder.step ≤ l.n)
    × At (plain 256) (rule_by 32 l.literals) 0 (record { references = take l.inputs l.initial.references; gates = [] }) (step_at l.steps) l.inputs l.initial.gates l.builder l.gates l.references

abbrev pub decreases-loop-builder : goal.decreases-loop-builder
decreases-loop-builder l = l.n - l.builder.step
