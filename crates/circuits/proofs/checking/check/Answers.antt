-- `circuits::checking::check` meets its contract, a law for each answer. Assumes nothing.
use Rattle.std.proofs.Common.{◌≡◌, ℕ, List, Result, Ok, refl, subst, ap, arith}
use Rattle.std.proofs.lemmas.Result.{err_from_is_err_and}
use Rattle.records.specs.declared.refusals.Refusal.{Refusal}
use Rattle.records.specs.Tests.{Verdict, Says}
use Rattle.records.specs.Derivation.{Outcome, Derives}
use Rattle.records.specs.Refusal.{verdict_by, tested, verdict_of}
use Rattle.records.proofs.NamedLaws.{numbered}
use Rattle.circuits.proofs.InsideLaws.{tables_refused, room_refused, gate_room_refused, derivation_refused, build_answers, buildable}
use Rattle.circuits.proofs.checking.check.Goals as goal

-- what is accepted has number 0
accepted : {A : Type 0} (place : A → ℕ) (r : Result A Refusal) (x : A) → r ≡ Ok x → (verdict_by place r).number ≡ 0
accepted {A = A} place r x e = ap (λ (r : Result A Refusal). (verdict_by place r).number) e

-- what was said of a result that is known
says_known : (v : Verdict) (r s : Result (Unit {0}) Refusal) → r ≡ s → Says v (tested r) → Says v (tested s)
says_known v r s e says = subst (λ r. Says v (tested r)) e says

derives_known : (o : Outcome) (last : List ℕ) (r s : Result ℕ Refusal) → r ≡ s → Derives o last (verdict_of r) → Derives o last (verdict_of s)
derives_known o last r s e derives = subst (λ r. Derives o last (verdict_of r)) e derives

pub returns-in_err-test_tables : goal.returns-in_err-test_tables
returns-in_err-test_tables c =
    let p = err_from_is_err_and c.from_residual.result c.from_residual.ensures.1 in
    rw (p.1, p.2)
    (tables_refused 32 1024 c.args.a.now c.args.b.now c.args.steps.now c.args.work.now c.args.gates.now _
    (says_known _ _ _ c.in_err-test_tables.was c.test_tables.ensures) (numbered _))

pub returns-in_err-test_room : goal.returns-in_err-test_room
returns-in_err-test_room c =
    let p = err_from_is_err_and c.from_residual-in_err-test_room.result c.from_residual-in_err-test_room.ensures.1 in
    rw (p.1, p.2)
    (room_refused 32 1024 c.args.a.now c.args.b.now c.args.steps.now c.args.work.now c.args.gates.now (tested c.test_tables.result) c.test_tables.ensures (accepted _ _ _ c.in_ok-test_tables.was) _
    (says_known _ _ _ c.in_err-test_room.was c.test_room.ensures) (numbered _))

pub returns-then-gates-steps : goal.returns-then-gates-steps
returns-then-gates-steps c =
    gate_room_refused 32 1024 c.args.a.now c.args.b.now c.args.steps.now c.args.work.now c.args.gates.now
    (tested c.test_tables.result) c.test_tables.ensures (accepted _ _ _ c.in_ok-test_tables.was) (tested c.test_room.result) c.test_room.ensures (accepted _ _ _ c.in_ok-test_room.was)
    (omega (arith, c.if-gates-steps.true))

pub returns-in_err-clause : goal.returns-in_err-clause
returns-in_err-clause c =
    let p = err_from_is_err_and c.from_residual-in_err-clause.result c.from_residual-in_err-clause.ensures.1 in
    rw (p.1, p.2)
    (derivation_refused 32 1024 c.args.a.now c.args.b.now c.args.steps.now c.args.work.now c.args.gates.now
    (tested c.test_tables.result) c.test_tables.ensures (accepted _ _ _ c.in_ok-test_tables.was) (tested c.test_room.result) c.test_room.ensures (accepted _ _ _ c.in_ok-test_room.was)
    (omega (arith, c.if-gates-steps.false)) _ _ (derives_known _ _ _ _ c.in_err-clause.was c.derive-derived.ensures) (numbered _))

-- the derivation answered the root's clause number
pub build-built-requires : goal.build-built-requires
build-built-requires c =
    buildable 32 1024 c.args.a.now c.args.b.now c.args.steps.now c.args.work.now c.args.gates.now _ _
    (derives_known _ _ _ _ c.in_ok-clause.was c.derive-derived.ensures) refl (omega arith) (omega (arith, c.if-gates-steps.false))

pub returns : goal.returns
returns c =
    build_answers 32 1024 c.args.a.now c.args.b.now c.args.steps.now c.args.work.now c.args.gates.now
    (tested c.test_tables.result) c.test_tables.ensures (accepted _ _ _ c.in_ok-test_tables.was) (tested c.test_room.result) c.test_room.ensures (accepted _ _ _ c.in_ok-test_room.was)
    (omega (arith, c.if-gates-steps.false)) _ _ (derives_known _ _ _ _ c.in_ok-clause.was c.derive-derived.ensures) refl c.build-built.result _ c.build-built.ensures
