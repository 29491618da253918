-- The laws of evaluating: gate by gate, and that the bytes of formed gates are accepted with their circuit's value.
use Rattle.std.proofs.Common.{◌≡◌, ℕ, zero, suc, ◌+◌, ◌*◌, ◌/◌, ◌%◌, ◌<◌, ◌≤◌, Bool, List, [], ◌∷◌, ◌++◌, length, get_or, sym, refl, ap, ◌∙◌, append_assoc, append-nil, arith, lt-ltb, eq-eqb, le-leb}
use Rattle.records.specs.Bits.{digit}
use Rattle.records.specs.Clause.{has}
use Rattle.records.specs.Table.{records}
use Rattle.records.specs.Tests.{Test, first_failed}
use Rattle.records.proofs.TestLaws.{Passed, passed_none}
use Rattle.circuits.specs.Reference.{gate_reference}
use Rattle.circuits.specs.Gate.{Gate, gates_bytes, gate_at, gates_of}
use Rattle.circuits.specs.Value.{gate_value, values, value}
use Rattle.circuits.specs.Evaluate.{length_tests, form_tests, gate_tests, gates_tests, reference_tests, evaluation_tests, evaluated}
use Rattle.records.proofs.TestLaws.{no_test, passed_append, after_passed, after_refused}
use Rattle.records.proofs.ListLaws.{tabulate_snoc}
use Rattle.circuits.proofs.GateLaws.{length_gates_bytes, gate_at_gates_bytes, spare_at_gates_bytes, gates_of_gates_bytes}
use Rattle.circuits.proofs.ValueLaws.{values_append}
use Rattle.circuits.proofs.BuildLaws.{Formed, AllFormed, formed_at}

-- the values of one gate more
pub values_next : (N : ℕ) (σ : ℕ → Bool) (t : List ℕ) (k : ℕ)
    → values N σ [] (gates_of t (suc k)) ≡ values N σ [] (gates_of t k) ++ (gate_value N σ (values N σ [] (gates_of t k)) (gate_at t k) ∷ [])
unfolding gates_of values
values_next N σ t k = ap (values N σ []) (tabulate_snoc k (gate_at t)) ∙ values_append N σ [] (gates_of t k) (gate_at t k ∷ [])

-- the tests of gate k stand behind those of the gates before it
pub tests_split : (N : ℕ) (t : List ℕ) (k more : ℕ) → (later : List Test) × (gates_tests N t (suc (k + more)) ≡ gates_tests N t k ++ (gate_tests N t k ++ later))
unfolding gates_tests
tests_split N t k zero =
    let e : k + zero ≡ k = omega arith in
    ([], ap (λ (j : ℕ). gates_tests N t j ++ gate_tests N t j) e ∙ ap (λ (ts : List Test). gates_tests N t k ++ ts) (sym (append-nil (gate_tests N t k))))
tests_split N t k (suc more) =
    let e : k + suc more ≡ suc (k + more) = omega arith in
    let before = tests_split N t k more in
    let new = gate_tests N t (suc (k + more)) in (
      before.0 ++ new,
      ap (λ (j : ℕ). gates_tests N t j ++ gate_tests N t j) e ∙ ap (λ (ts : List Test). ts ++ new) before.1
          ∙ append_assoc (gates_tests N t k) (gate_tests N t k ++ before.0) new
          ∙ ap (λ (ts : List Test). gates_tests N t k ++ ts) (append_assoc (gate_tests N t k) before.0 new),
    )

module _ (h most : ℕ) (assignment t : List ℕ) (root : ℕ) where
  -- a refusal of lengths
  pub lengths_refuse : ((first_failed (length_tests h most assignment t)).number ≡ 0 → ⊥)
      → first_failed (evaluation_tests h most assignment t root) ≡ first_failed (length_tests h most assignment t)
  unfolding evaluation_tests
  lengths_refuse n = after_refused (length_tests h most assignment t) (gates_tests (8 * h) t (records 8 t) ++ reference_tests (8 * h) root (records 8 t)) n

  -- and where no length is refused, what lies behind
  pub lengths_pass : Passed (length_tests h most assignment t)
      → first_failed (evaluation_tests h most assignment t root) ≡ first_failed (gates_tests (8 * h) t (records 8 t) ++ reference_tests (8 * h) root (records 8 t))
  unfolding evaluation_tests
  lengths_pass = after_passed (length_tests h most assignment t) (gates_tests (8 * h) t (records 8 t) ++ reference_tests (8 * h) root (records 8 t))

-- of the root, where all gates pass
pub root_decides : (N : ℕ) (t : List ℕ) (root : ℕ) → Passed (gates_tests N t (records 8 t))
    → first_failed (gates_tests N t (records 8 t) ++ reference_tests N root (records 8 t)) ≡ first_failed (reference_tests N root (records 8 t))
root_decides N t root = after_passed (gates_tests N t (records 8 t)) (reference_tests N root (records 8 t))

-- formed gates pass their tests
pub form_passed : (N k : ℕ) (g : Gate) → Formed N k g → Passed (form_tests (gate_reference N k) k g)
unfolding form_tests
form_passed N k g formed = (formed.0, (rw (lt-ltb g.left (gate_reference N k) formed.1, lt-ltb g.right (gate_reference N k) formed.2) refl, tt))

pub gates_passed : (N : ℕ) (gs : List Gate) (rest : List ℕ) → AllFormed N 0 gs → (k : ℕ) → k ≤ length gs → Passed (gates_tests N (gates_bytes gs ++ rest) k)
unfolding gates_tests
gates_passed N gs rest formed zero l = tt
gates_passed N gs rest formed (suc k) l =
    let d : Gate = record { kind = 0; left = 0; right = 0 } in
    let e : 0 + k ≡ k = omega arith in
    let here : Formed N k (get_or gs k d) = rw e at (formed_at N 0 gs d k formed (omega arith)) in
    passed_append (gates_tests N (gates_bytes gs ++ rest) k) (gate_tests N (gates_bytes gs ++ rest) k) (gates_passed N gs rest formed k (omega arith))
    (spare_at_gates_bytes gs rest k (omega arith), rw (gate_at_gates_bytes gs rest d k (omega arith)) (form_passed N k (get_or gs k d) here))

-- the bytes of formed gates are accepted at each reference that is there, with the circuit's value
pub evaluation_accepts : (h most : ℕ) (assignment : List ℕ) (gs : List Gate) (root : ℕ) → length assignment ≡ h → length gs ≤ most → AllFormed (8 * h) 0 gs
    → root < gate_reference (8 * h) (length gs)
    → evaluated h most assignment (gates_bytes gs) root ≡ record { number = 0; place = 0; value = digit (value (8 * h) (has assignment) gs root) }
unfolding evaluated evaluation_tests length_tests reference_tests
evaluation_accepts h most assignment gs root size few formed there =
    let t = gates_bytes gs in
    let bytes = length_gates_bytes gs in
    let count : length t / 8 ≡ length gs = omega arith in
    let rest : t ++ [] ≡ t = append-nil t in
    let whole : length t % 8 ≡ 0 = omega arith in
    let gates : Passed (gates_tests (8 * h) t (length gs)) = rw rest at (gates_passed (8 * h) gs [] formed (length gs) (omega arith)) in
    let circuit : gates_of t (length gs) ≡ gs = rw rest at (gates_of_gates_bytes gs []) in
    let lengths : Passed (length_tests h most assignment t) =
    (eq-eqb (length assignment) h size, (rw (eq-eqb (length t % 8) 0 whole, le-leb (length t) (8 * most) (omega arith)) refl, tt)) in
    rw (
      count,
      circuit,
      passed_none (length_tests h most assignment t ++ (gates_tests (8 * h) t (length gs) ++ reference_tests (8 * h) root (length gs)))
          (passed_append (length_tests h most assignment t) (gates_tests (8 * h) t (length gs) ++ reference_tests (8 * h) root (length gs)) lengths
          (passed_append (gates_tests (8 * h) t (length gs)) (reference_tests (8 * h) root (length gs)) gates (lt-ltb root (gate_reference (8 * h) (length gs)) there, tt))),
      no_test,
    ) refl
