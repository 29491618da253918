-- The laws of acceptance: an accepted check leaves the symmetric partial interpolants, and an evaluation refuses a malformed table and reads the truth value of any other.
use Prim.Native.Nat.{ℕ, ◌*◌}
use mathlib.Core.Path.{◌≡◌, refl, sym, ap, ◌∙◌, subst}
use mathlib.Core.Bool.{Bool, false}
use mathlib.Core.List.{List, ◌++◌}
use native.Mathlib.Omega.{arith}
use lib.ListN.{get_or}
use Rattle.records.specs.Bits.{digit}
use Rattle.records.specs.Clause.{has}
use Rattle.records.specs.Table.{records}
use Rattle.records.specs.Step.{step_at, step_count}
use Rattle.records.specs.Tests.{first_failed}
use Rattle.records.specs.Derivation.{derived}
use Rattle.records.proofs.TestLaws.{Numbered, passed_none, no_test, numbered_append, refused_is}
use Rattle.records.proofs.WorkLaws.{length_work_after, rest_kept}
use Rattle.circuits.specs.Gate.{Gate, gates_bytes, gates_of}
use Rattle.circuits.specs.Build.{plain_build}
use Rattle.circuits.specs.Check.{plain_accepted}
use Rattle.circuits.specs.Evaluate.{length_tests, gates_tests, reference_tests, evaluation_tests, evaluated}
use Rattle.circuits.proofs.GateLaws.{bytes_written}
use Rattle.circuits.proofs.CheckLaws.{PlainAccepted, plain_acceptance, circuit_left_is, count_is, gates_rest}
use Rattle.circuits.proofs.EvaluateInsideLaws.{gates_numbered, lengths_numbered}
use Rattle.demands.specs.Tables.{Tables, pass, circuit, plain_check}
use Rattle.demands.specs.Formula.{Definition20, unfolded}
use Rattle.demands.specs.Resolvents.{Resolvents}
use Rattle.demands.specs.Acceptance.{build, formula_at, Interpolants, Acceptance, Reads, Demand2}
use Rattle.demands.proofs.PassLaws.{pass_passed, fails_refused}
use Rattle.demands.proofs.ResolventLaws.{derivation_resolvents}
use Rattle.demands.proofs.RefusalLaws.{sizes_limits}
use Rattle.demands.proofs.FormulaLaws.{truth_unfolded, plain_definition_20, gates_of_steps_lem}

-- an accepted check
module _ (h most : ℕ) (t : Tables) (given : PlainAccepted h most t.a t.b t.steps t.work t.gates) where
  -- the circuit's bytes are those of the build's gates
  circuit_bytes : circuit (plain_check h most t) ≡ gates_bytes (build h t).gates
  unfolding plain_accepted
  circuit_bytes = rw given.outcome (bytes_written t.gates (build h t).gates)

  -- the root reference is that of the clause at the place
  root_reference : (plain_check h most t).root ≡ get_or (build h t).references (plain_check h most t).place 0
  unfolding plain_accepted
  root_reference = rw given.outcome refl

  -- and the circuit unfolded at each clause's reference is the clause's partial interpolant
  clause_interpolants : Definition20 h t.a t.b (step_at t.steps) (step_count t.steps) (formula_at h t (plain_check h most t))
  unfolding plain_build
  clause_interpolants =
      subst
      (λ (gs : List Gate).
      Definition20 h t.a t.b (step_at t.steps) (step_count t.steps) (λ (k : ℕ). unfolded (8 * h) gs (get_or (build h t).references k 0)))
      (sym (circuit_left_is h most t.a t.b t.steps t.work t.gates given))
      (plain_definition_20 h t.a t.b (derived h most t.a t.b t.steps t.work).work (step_at t.steps) (step_count t.steps) given.accepted.derivation_is)

  -- so what it leaves is what the demand calls the interpolants
  pub interpolants : Interpolants h t (plain_check h most t)
  interpolants =
      record {
        gates = circuit_bytes;
        rest = gates_rest h most t.a t.b t.steps t.work t.gates given;
        count = count_is h most t.a t.b t.steps t.work t.gates given ∙ gates_of_steps_lem h t;
        root = root_reference;
        partial = clause_interpolants;
      }

  -- the resolvents stand in the work table, and no other byte of it changed
  results : Resolvents h t (step_count t.steps) (derived h most t.a t.b t.steps t.work).work
  results =
      let met = given.accepted in
      let s = step_count t.steps in
      derivation_resolvents h t s (derived h most t.a t.b t.steps t.work).work met.derivation_is
      (rw met.work_is (rest_kept h t.a t.b (step_at t.steps) t.work s met.sizes.room s (2 * h * s) (omega arith) (omega arith)))
      (rw met.work_is (length_work_after h t.a t.b (step_at t.steps) t.work s met.sizes.room s (omega arith)))

  -- with the limits and the root this is acceptance
  acceptance : Acceptance h most t (plain_check h most t)
  unfolding plain_accepted
  acceptance =
      let met = given.accepted in
      record {
        within = sizes_limits h most t met.sizes given.room;
        work = rw given.outcome results;
        root = rw given.outcome (record { there = met.root_in; is_empty = met.root_empty; is_first = met.root_first });
        interpolants = interpolants;
      }

-- each test of an evaluation has a number
evaluation_numbered : (h most : ℕ) (assignment table : List ℕ) (root : ℕ) → Numbered (evaluation_tests h most assignment table root)
unfolding evaluation_tests reference_tests
evaluation_numbered h most assignment table root =
    numbered_append (length_tests h most assignment table) (gates_tests (8 * h) table (records 8 table) ++ reference_tests (8 * h) root (records 8 table)) (lengths_numbered h most assignment table)
    (numbered_append (gates_tests (8 * h) table (records 8 table)) (reference_tests (8 * h) root (records 8 table)) (gates_numbered (8 * h) table (records 8 table)) (omega arith, tt))

-- an evaluation refuses by its first test that fails, and reads the truth value of the formula else
pub reads : (h most : ℕ) → Reads h most (evaluated h most)
unfolding evaluated
reads h most =
    record {
      refused = λ assignment table root e. rw (refused_is (first_failed (evaluation_tests h most assignment table root)) (some assignment table root e)) refl;
      malformed = some;
      read = λ assignment table root e.
          let tests = evaluation_tests h most assignment table root in
          rw (passed_none tests (pass_passed tests e), no_test)
          (ap (λ (x : Bool). record { number = 0; place = 0; value = digit x }) (sym (truth_unfolded (8 * h) (has assignment) (gates_of table (records 8 table)) root)));
    }
  where
    some : (assignment table : List ℕ) (root : ℕ) → pass (evaluation_tests h most assignment table root) ≡ false → (first_failed (evaluation_tests h most assignment table root)).number ≡ 0 → ⊥
    some assignment table root e = fails_refused (evaluation_tests h most assignment table root) (evaluation_numbered h most assignment table root) e

pub demand_2 : (h most limit : ℕ) → Demand2 h most limit (plain_check h most) (evaluated h limit)
demand_2 h most limit =
    record {
      accepted = λ t e. acceptance h most t (plain_acceptance h most t.a t.b t.steps t.work t.gates e);
      reads = reads h limit;
    }
