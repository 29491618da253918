-- `records::derivation::Derivation::run_steps` meets its contract: the work table is that after i good steps. Assumes nothing.
use Prim.Native.Nat.{ℕ, ◌<◌}
use mathlib.Core.Path.{◌≡◌}
use mathlib.Core.Bool.{false}
use Rattle.records.specs.Step.{step_at}
use Rattle.records.specs.Tests.{refused}
use Rattle.records.specs.Derivation.{work_after, verdict_at}
use Rattle.records.proofs.derivation.Derivation.run_steps.Given as goal

abbrev pub invariant-loop-i : goal.invariant-loop-i
invariant-loop-i g l =
    (l.work ≡ work_after g.row.HALF l.self.a.now l.self.b.now (step_at l.steps) l.initial.work l.i)
    × ((k : ℕ) → k < l.i → refused (verdict_at g.row.HALF l.self.a.now l.self.b.now (step_at l.steps) l.initial.work k) ≡ false)
