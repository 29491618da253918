-- `records::derivation::derive` meets its contract: tests 1 to 4, test 5, and then the derivation. Assumes nothing.
use mathlib.Core.Path.{sym, ap, ◌∙◌}
use native.Mathlib.Omega.{arith}
use Rattle.std.proofs.lemmas.Result.{err_from_is_err_and}
use Rattle.records.specs.Refusal.{tested}
use Rattle.records.specs.Derivation.{derived}
use Rattle.records.proofs.DerivationLaws.{judged_says, stage_refused, stage_passed}
use Rattle.records.proofs.InsideLaws.{sized_by}
use Rattle.records.proofs.derivation.derive.Goals as goal

pub returns-in_err-test_tables : goal.returns-in_err-test_tables
unfolding derived
returns-in_err-test_tables c =
    let p = err_from_is_err_and c.from_residual.result c.from_residual.ensures.1 in
    rw (p.1, p.2) (stage_refused _ _ _ c.test_tables.result (judged_says _ _ _ c.test_tables.ensures) _ _ c.in_err-test_tables.was)

pub returns-in_err-test_room : goal.returns-in_err-test_room
unfolding derived
returns-in_err-test_room c =
    let p = err_from_is_err_and c.from_residual-in_err-test_room.result c.from_residual-in_err-test_room.ensures.1 in
    rw (p.1, p.2)
    (stage_passed _ _ _ c.test_tables.result (judged_says _ _ _ c.test_tables.ensures) _ _ c.in_ok-test_tables.was _ _
    (stage_refused _ _ _ c.test_room.result (judged_says _ _ _ c.test_room.ensures) _ _ c.in_err-test_room.was))

pub derive-requires : goal.derive-requires
derive-requires c =
    let passed = sym c.test_tables.ensures.number ∙ ap (λ r. (tested r).number) c.in_ok-test_tables.was in
    let room = sym c.test_room.ensures.number ∙ ap (λ r. (tested r).number) c.in_ok-test_room.was in
    (omega arith, sized_by 32 1024 _ _ _ _ (omega arith) (omega arith) (omega arith) passed room)

pub returns : goal.returns
unfolding derived
returns c =
    stage_passed _ _ _ c.test_tables.result (judged_says _ _ _ c.test_tables.ensures) _ _ c.in_ok-test_tables.was _ _
    (stage_passed _ _ _ c.test_room.result (judged_says _ _ _ c.test_room.ensures) _ _ c.in_ok-test_room.was _ _ c.derive.ensures)
