-- `records::derivation::Derivation::run_steps` meets its contract: the work table is that after i good steps. Assumes nothing.
use mathlib.Core.Path.{◌≡◌, refl, sym, ap, ap₂, ◌∙◌}
use native.Mathlib.Omega.{arith}
use borrow.Author.Count.{below_more}
use Rattle.records.specs.Step.{step_at, step_count}
use Rattle.records.specs.Derivation.{stored, work_after}
use Rattle.records.specs.Inside.{faulted}
use Rattle.records.specs.Refusal.{fault_number}
use Rattle.records.proofs.NamedLaws.{fault_numbered}
use Rattle.records.proofs.StepLaws.{read_is}
use Rattle.records.proofs.DerivationLaws.{after_one, good_turn, bad_run, good_run}
use Rattle.records.proofs.derivation.Derivation.run_steps.Goals as goal

pub loop-i-init : goal.loop-i-init
unfolding work_after
loop-i-init g c = (refl, λ k l. absurd (omega arith))

pub returns-in-Err : goal.returns-in-Err
returns-in-Err g c =
    let d = c.args.self.now in
    let loop = c.loop-i in
    let take-step = c.take_step.ensures in
    let bad : faulted c.take_step.result ≡ fault_number c.in-Err.fault = ap faulted c.in-Err.is in
    let some-fault : faulted c.take_step.result ≡ 0 → ⊥ = λ z. fault_numbered c.in-Err.fault (sym bad ∙ z) in
    rw (take-step.bad some-fault, ← bad)
    (bad_run g.row.HALF d.a.now d.b.now (step_at c.args.steps.now) c.args.work.now loop.work loop.i _ loop.invariant.0
    (rw (← read_is c.args.steps.now loop.i c.read_step-step.result c.read_step-step.ensures) take-step.number) _ (omega arith) loop.invariant.1 some-fault)

pub loop-i-preserved : goal.loop-i-preserved
loop-i-preserved g c =
    let d = c.args.self.now in
    let loop = c.loop-i in
    let take-step = c.take_step.ensures in
    let good : faulted c.take_step.result ≡ 0 = ap faulted c.in_default.is in
    let read = read_is c.args.steps.now loop.i c.read_step-step.result c.read_step-step.ensures in (
      take-step.good good ∙ ap₂ (λ s w. stored g.row.HALF d.a.now d.b.now s loop.i w) read loop.invariant.0 ∙ after_one g.row.HALF d.a.now d.b.now (step_at c.args.steps.now) c.args.work.now loop.i,
      below_more _ _ loop.invariant.1 (good_turn g.row.HALF d.a.now d.b.now (step_at c.args.steps.now) c.args.work.now loop.work loop.i _ loop.invariant.0 (rw (← read) take-step.number) good),
    )

pub returns : goal.returns
returns g c =
    let d = c.args.self.now in
    let loop = c.loop-i in
    let all : loop.i ≡ step_count c.args.steps.now = omega arith in
    good_run g.row.HALF d.a.now d.b.now (step_at c.args.steps.now) c.args.work.now loop.work _ (loop.invariant.0 ∙ ap (work_after g.row.HALF d.a.now d.b.now (step_at c.args.steps.now) c.args.work.now) all)
    (λ j l. loop.invariant.1 j (omega arith))
