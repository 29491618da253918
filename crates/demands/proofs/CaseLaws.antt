-- P1 to P12 hold of the check and the evaluation that the contracts cite: each outcome computes, and so does each value.
use mathlib.Core.Path.{◌≡◌, refl, ap}
use mathlib.Core.Bool.{Bool, true, false, not, ◌&&◌, ◌||◌}
use mathlib.Core.List.{[]}
use native.Mathlib.Omega.{arith}
use Rattle.records.specs.Bits.{bit_of, number_of}
use Rattle.records.specs.Lists.{tabulate, first, some, every}
use Rattle.records.specs.Clause.{has, holds, bytes_of, resolvent, empty}
use Rattle.records.specs.Table.{record_at, put, clauses_of, occurs}
use Rattle.records.specs.Step.{step_at}
use Rattle.records.specs.Tests.{first_failed, table_tests, room_tests, step_tests, root_tests}
use Rattle.records.specs.Derivation.{clause_at, stored, work_after, verdict_at, stop_at, steps_verdict, root_of, and_then, ran, rooted, derived}
use Rattle.circuits.specs.Gate.{gates_bytes, gate_at, spare_at, gates_of, over}
use Rattle.circuits.specs.Rule.{symmetric_rule}
use Rattle.circuits.specs.Build.{emit, built, input_references, plain_build}
use Rattle.circuits.specs.Value.{reference_value, gate_value, values}
use Rattle.circuits.specs.Check.{gate_room_tests, plain_tests, plain_accepted, plain_checked}
use Rattle.circuits.specs.Evaluate.{length_tests, form_tests, gates_tests, reference_tests, evaluation_tests, evaluated, answered}
use Rattle.demands.specs.Tables.{plain_check}
use Rattle.demands.specs.Cases.{P1, P2, P3, P4, P5, P6, P7, P8, P9, P10, P11, P12, P12_spare, cases, AllHold, none, ◌by◌also◌}

-- the value of a common pivot's gates, where the left reference is false and the right one true: that of the pivot; where both are false: false
pivot_value : (x : Bool) → ((x || false) && (not x || true)) ≡ x
pivot_value true = refl
pivot_value false = refl

never_both : (x : Bool) → ((x || false) && (not x || false)) ≡ false
never_both true = refl
never_both false = refl

pub cases_hold : AllHold (plain_check 32 1024) (evaluated 32 3072) cases
unfolding P1 P2 P3 P4 P5 P6 P7 P8 P9 P10 P11 P12 P12_spare bit_of number_of tabulate first some every holds bytes_of resolvent empty record_at put clauses_of occurs step_at first_failed table_tests room_tests step_tests root_tests clause_at stored work_after verdict_at stop_at steps_verdict root_of and_then ran rooted derived gates_bytes over symmetric_rule emit built input_references plain_build gate_room_tests plain_tests plain_accepted plain_checked length_tests form_tests gates_tests reference_tests evaluation_tests evaluated gate_at spare_at gates_of reference_value gate_value values has
cases_hold =
    P1 by record { outcome = refl; value = λ e assignment size. rw size (ap (answered (first_failed [])) (pivot_value (has assignment 1))) } also
    P2 by record { outcome = refl; value = λ e. absurd (omega arith) } also
    P3 by record { outcome = refl; value = λ e assignment size. rw size refl } also
    P4 by record { outcome = refl; value = λ e assignment size. rw size refl } also
    P5 by record { outcome = refl; value = λ e assignment size. rw size (ap (answered (first_failed [])) (pivot_value (has assignment 0))) } also
    P6 by record { outcome = refl; value = λ e assignment size. rw size refl } also
    P7 by record { outcome = refl; value = λ e assignment size. rw size refl } also
    P8 by record { outcome = refl; value = λ e assignment size. rw size (ap (answered (first_failed [])) (never_both (has assignment 0))) } also
    P9 by record { outcome = refl; value = λ e. absurd (omega arith) } also
    P10 by record { outcome = refl; value = λ e. absurd (omega arith) } also
    P11 by record { outcome = refl; value = λ e. absurd (omega arith) } also
    P12 by record { outcome = refl; value = λ e. absurd (omega arith) } also
    P12_spare by record { outcome = refl; value = λ e. absurd (omega arith) } also
    none
