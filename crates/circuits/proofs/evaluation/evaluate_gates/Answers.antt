-- `circuits::evaluation::evaluate_gates` meets its contract: the values so far are those behind the first k gates. Assumes nothing.
use Rattle.std.proofs.Common.{◌+◌, ◌*◌, ◌<◌, ◌≤◌, length, sym, ap, arith}
use Rattle.std.proofs.lemmas.Result.{err_from_is_err_and}
use Rattle.circuits.specs.Reference.{gate_reference}
use Rattle.circuits.proofs.EvaluateInsideLaws.{gates_none, gates_next, known_none, known_small, tail_refused, record_tested, turn_stops, turn_keeps, all_turned}
use Rattle.circuits.proofs.evaluation.evaluate_gates.Goals as goal

pub loop-k-init : goal.loop-k-init
loop-k-init c = record { passed = gates_none _ _; known = known_none _ _ _ _ c.fill_literals.ensures }

pub returns-then-gate-ne0 : goal.returns-then-gate-ne0
returns-then-gate-ne0 c =
    let args = c.args in
    let loop = c.loop-k in
    let inside : 8 * loop.k + 8 ≤ length args.table.now = omega arith in
    turn_stops (omega arith) loop.invariant.passed (sym (tail_refused inside c.read_gate-gate.ensures (gate_reference (8 * args.half) loop.k) c.if-gate-ne0.true))

pub returns-in_err-kind : goal.returns-in_err-kind
returns-in_err-kind c =
    let loop = c.loop-k in
    let inside : 8 * loop.k + 8 ≤ length c.args.table.now = omega arith in
    let p = err_from_is_err_and c.from_residual.result c.from_residual.ensures.1 in
    rw (p.1, p.2)
    (turn_stops (omega arith) loop.invariant.passed (record_tested inside c.read_gate-gate.ensures c.if-gate-ne0.false (rw c.in_err-kind.was at c.test_gate.ensures)))

pub bounds-values-gate : goal.bounds-values-gate
bounds-values-gate c = omega (arith, c.test_gate.ensures.formed _ c.in_ok-kind.was)

pub bounds-values-gate-in-loop-k : goal.bounds-values-gate-in-loop-k
bounds-values-gate-in-loop-k c = omega (arith, c.test_gate.ensures.formed _ c.in_ok-kind.was)

pub gate_value-requires : goal.gate_value-requires
gate_value-requires c =
    let loop = c.loop-k in
    let formed = c.test_gate.ensures.formed _ c.in_ok-kind.was in
    (known_small loop.invariant.known _ formed.1, known_small loop.invariant.known _ formed.2)

pub loop-k-preserved : goal.loop-k-preserved
loop-k-preserved c =
    let loop = c.loop-k in
    let read = c.read_gate-gate.ensures in
    let tested = rw c.in_ok-kind.was at c.test_gate.ensures in
    let inside : 8 * loop.k + 8 ≤ length c.args.table.now = omega arith in
    let room : gate_reference (8 * c.args.half) loop.k < length loop.values = omega (arith, loop.auto.values, c.requires.references) in
    record {
      passed = gates_next _ _ loop.k loop.invariant.passed (sym (ap (λ v. v.number) (record_tested inside read c.if-gate-ne0.false tested)));
      known = turn_keeps inside read loop.invariant.known tested c.gate_value.ensures room;
    }

pub returns : goal.returns
returns c = let loop = c.loop-k in all_turned _ _ _ _ loop.k (omega arith) loop.invariant.passed loop.invariant.known
