-- The laws for the proofs of the evaluator's functions: each refusal's number and place, and the values that are kept.
use Rattle.std.proofs.Common.{◌≡◌, ℕ, zero, suc, ◌+◌, ◌-◌, ◌*◌, ◌/◌, ◌%◌, ◌^◌, ◌<◌, ◌≤◌, Bool, true, false, cond, not, ◌&&◌, ◌||◌, Result, Ok, Err, eqb, ltb, leb, List, [], ◌∷◌, ◌++◌, length, get_or, set, sym, refl, ap, ◌∙◌, subst, ap₂, arith, length-set, get_or-set_other, get_or-set_same, shr-shr, le-ltb, lt-ltb, eq-eqb, ne_eqb, eqb-true, le-leb, leb-true}
use mathlib.Core.Bool.{and-false, and_assoc}
use native.Mathlib.Decide.{dec_lt}
use borrow.Author.Tests.{eqb-false, lt-leb}
use lib.Pow.{field, mod-mod-pow}
use lib.Seq.{get_or-append_seam}
use Rattle.records.specs.Bits.{bit_of, digit}
use Rattle.records.specs.Clause.{has}
use Rattle.records.specs.Table.{record_at, records}
use Rattle.records.specs.Step.{pair_at}
use Rattle.records.specs.Tests.{Verdict, test, first_failed}
use Rattle.records.proofs.ListLaws.{length_tabulate, tabulate_none, by_truth, and_both, holds_from, holds_all}
use Rattle.records.proofs.TestLaws.{Passed, Numbered, passed_none, none_passed, fails, passes, refused_is, no_test}
use Rattle.records.proofs.TestLaws.{passed_append, numbered_append, after_passed, after_refused}
use Rattle.records.proofs.BitLaws.{low_bit, bit_shifted}
use Rattle.records.proofs.ClauseLaws.{has_at}
use Rattle.records.proofs.TableLaws.{byte_record_at}
use Rattle.circuits.specs.declared.evaluation.GateRecord.{GateRecord}
use Rattle.circuits.specs.declared.evaluation.TheConstants.{ROWS}
use Rattle.circuits.specs.declared.kinds.Kind.{Kind}
use Rattle.circuits.specs.declared.kinds.Kind.TheVariants.{And, Or}
use Rattle.circuits.specs.declared.refusals.GateFault.{GateFault}
use Rattle.circuits.specs.declared.refusals.GateFault.TheVariants.{Form, InputNotEarlier}
use Rattle.circuits.specs.declared.refusals.Malformed.{Malformed}
use Rattle.circuits.specs.declared.refusals.Malformed.TheVariants.{LengthOfAssignment, LengthOfGates, AtGate as AtGate, RootNotThere}
use Rattle.circuits.specs.Reference.{gate_reference}
use Rattle.circuits.specs.Malformed.{malformed_number, malformed_place, evaluated_of}
use Rattle.circuits.specs.Gate.{Gate, kind_byte, gate_at, spare_at, gates_of}
use Rattle.circuits.specs.Value.{reference_value, kind_value, gate_value, values, value}
use Rattle.circuits.specs.Evaluate.{Evaluates, answered, length_tests, form_tests, record_tests, gate_tests, gates_tests, reference_tests, kept_at, kept_value, gate_evaluated, evaluation_tests, evaluated}
use Rattle.circuits.specs.EvaluateInside.{refusal_verdict, kind_of, GateTested, Joined, GateRead, row_value, RowFilled, Filled, Known, Ran, evaluated_within}
use Rattle.circuits.proofs.ValueLaws.{value_positive, value_negative, value_gate, value_earlier, circuit_length}
use Rattle.circuits.proofs.EvaluateLaws.{values_next, tests_split, lengths_refuse, lengths_pass, root_decides}

-- no refusal has the number 0
malformed_some : (m : Malformed) → malformed_number m ≡ 0 → ⊥
malformed_some LengthOfAssignment e = omega arith
malformed_some LengthOfGates e = omega arith
malformed_some (AtGate Form k) e = omega arith
malformed_some (AtGate InputNotEarlier k) e = omega arith
malformed_some RootNotThere e = omega arith

-- answers: of a refusal, and of a value
pub answers_refused : (m : Malformed) (x : Bool) (v : Verdict) → refusal_verdict {A = Bool} (Err m) ≡ v → Evaluates (answered v x) (evaluated_of (Err m))
answers_refused m x v e =
    rw (← e)
    (record { number = refl; place = refl; value = sym (ap (λ (b : Bool). cond b 0 (digit x)) (refused_is (record { number = malformed_number m; place = malformed_place m }) (malformed_some m))) })

pub answers_value : (x : Bool) (v : Verdict) → refusal_verdict (Ok x) ≡ v → Evaluates (answered v x) (evaluated_of (Ok x))
answers_value x v e = rw (← e) (record { number = refl; place = refl; value = refl })

-- 22 and 23 of a gate on plain numbers
pub form_numbered : (own k : ℕ) (g : Gate) → Numbered (form_tests own k g)
unfolding form_tests
form_numbered own k g = (omega arith, (omega arith, tt))

form_kind : (own k : ℕ) (g : Gate) → (g.kind ≡ 1 → ⊥) → (g.kind ≡ 2 → ⊥) → first_failed (form_tests own k g) ≡ record { number = 22; place = k }
unfolding form_tests first_failed
form_kind own k g one two = rw (ne_eqb g.kind 1 one, ne_eqb g.kind 2 two) refl

-- the kind of a number, and what is wrong with any other
pub kind_is : {kind : ℕ} {of : Kind} → Ok of ≡ kind_of kind → kind ≡ kind_byte of
unfolding kind_of
kind_is {kind} {of} e = go (eqb kind 1) (eqb kind 2) refl refl e
  where
    go : (b d : Bool) → eqb kind 1 ≡ b → eqb kind 2 ≡ d → Ok of ≡ cond b (Ok And) (cond d (Ok Or) (Err Form)) → kind ≡ kind_byte of
    go true d p q f = let same : of ≡ And = cc in eqb-true kind 1 p ∙ ap kind_byte (sym same)
    go false true p q f = let same : of ≡ Or = cc in eqb-true kind 2 q ∙ ap kind_byte (sym same)
    go false false p q f = cc

kind_formed : {kind : ℕ} (of : Kind) → kind ≡ kind_byte of → (eqb kind 1 || eqb kind 2) ≡ true
kind_formed And e = rw e refl
kind_formed Or e = rw e refl

kind_small : (of : Kind) → kind_byte of ≤ 2
kind_small And = omega arith
kind_small Or = omega arith

kind_other : (kind : ℕ) {fault : GateFault} → Err fault ≡ kind_of kind → (fault ≡ Form) × ((eqb kind 1 || eqb kind 2) ≡ false)
unfolding kind_of
kind_other kind {fault} e = go (eqb kind 1) (eqb kind 2) e
  where
    go : (b d : Bool) → Err fault ≡ cond b (Ok And) (cond d (Ok Or) (Err Form)) → (fault ≡ Form) × ((b || d) ≡ false)
    go true d f = absurd (cc)
    go false true f = absurd (cc)
    go false false f = (cc, refl)

pub kind_none : (kind : ℕ) → (kind ≡ 1 → ⊥) → (kind ≡ 2 → ⊥) → Err Form ≡ kind_of kind
unfolding kind_of
kind_none kind one two = rw (ne_eqb kind 1 one, ne_eqb kind 2 two) refl

module _ {kind left right own k : ℕ} where
  pub kind_refused : {fault : GateFault} → Err fault ≡ kind_of kind → GateTested kind left right own k (Err (AtGate fault k))
  unfolding form_tests first_failed
  kind_refused e = let other = kind_other kind e in record { verdict = rw (other.0, other.1) refl; formed = λ of q. absurd (cc) }

  module _ {of : Kind} (e : Ok of ≡ kind_of kind) where
    pub left_refused : own ≤ left → GateTested kind left right own k (Err (AtGate InputNotEarlier k))
    unfolding form_tests first_failed
    left_refused late = record { verdict = rw (kind_formed of (kind_is e), le-ltb left own late) refl; formed = λ of q. absurd (cc) }

    pub right_refused : own ≤ right → GateTested kind left right own k (Err (AtGate InputNotEarlier k))
    unfolding form_tests first_failed
    right_refused late = record { verdict = rw (kind_formed of (kind_is e), le-ltb right own late, and-false (ltb left own)) refl; formed = λ of q. absurd (cc) }

    pub gate_tested : left < own → right < own → GateTested kind left right own k (Ok of)
    unfolding form_tests first_failed
    gate_tested l r =
        record {
          verdict = rw (kind_formed of (kind_is e), lt-ltb left own l, lt-ltb right own r) refl;
          formed = λ same q. let equal : of ≡ same = cc in (kind_is e ∙ ap kind_byte equal, l, r);
        }

-- a value that is kept, read as a truth value
pub kept_true : {n : ℕ} {x b : Bool} → n ≡ digit b → x ≡ eqb n 1 → x ≡ b
kept_true {b = true} e f = f ∙ rw e refl
kept_true {b = false} e f = f ∙ rw e refl

-- one gate on plain numbers
module _ (bytes : List ℕ) (k : ℕ) {kind left right : ℕ} where
  pub gate_refused : {m : Malformed} → GateTested kind left right (length bytes) k (Err m)
      → Evaluates (gate_evaluated bytes k (record { kind = kind; left = left; right = right })) (evaluated_of (Err m))
  unfolding gate_evaluated
  gate_refused {m} tested =
      let g : Gate = record { kind = kind; left = left; right = right } in
      answers_refused m (kept_value bytes g) (first_failed (form_tests (length bytes) k g)) tested.verdict

  pub gate_valued : {of : Kind} {r : ℕ} {x : Bool} → GateTested kind left right (length bytes) k (Ok of) → Joined of (get_or bytes left 0 % 2) (get_or bytes right 0 % 2) r → x ≡ eqb r 1
      → Evaluates (gate_evaluated bytes k (record { kind = kind; left = left; right = right })) (evaluated_of (Ok x))
  unfolding gate_evaluated kept_at
  gate_valued {of} {r} {x} tested joined e =
      let g : Gate = record { kind = kind; left = left; right = right } in
      let valued = joined.value (bit_of (get_or bytes left 0) 0) (bit_of (get_or bytes right 0) 0) (low_bit (get_or bytes left 0)) (low_bit (get_or bytes right 0)) in
      let same : x ≡ kept_value bytes g = kept_true valued e ∙ ap (λ (n : ℕ). kind_value n (kept_at bytes left) (kept_at bytes right)) (sym (tested.formed of refl).0) in
      rw same (answers_value (kept_value bytes g) (first_failed (form_tests (length bytes) k g)) tested.verdict)

-- gate k of a table
pub gate_numbered : (own : ℕ) (t : List ℕ) (k : ℕ) → Numbered (record_tests own t k)
gate_numbered own t k = (omega arith, form_numbered own k (gate_at t k))

-- all gates of a table
pub gates_stop : (N : ℕ) (t : List ℕ) (k more n : ℕ) → suc (k + more) ≡ n → Passed (gates_tests N t k) → ((first_failed (gate_tests N t k)).number ≡ 0 → ⊥)
    → first_failed (gates_tests N t n) ≡ first_failed (gate_tests N t k)
gates_stop N t k more n e before bad =
    let split = tests_split N t k more in
    ap first_failed (ap (gates_tests N t) (sym e) ∙ split.1)
    ∙ after_passed (gates_tests N t k) (gate_tests N t k ++ split.0) before
    ∙ after_refused (gate_tests N t k) split.0 bad

pub gates_none : (N : ℕ) (t : List ℕ) → Passed (gates_tests N t 0)
unfolding gates_tests
gates_none N t = tt

pub gates_next : (N : ℕ) (t : List ℕ) (k : ℕ) → Passed (gates_tests N t k) → (first_failed (gate_tests N t k)).number ≡ 0 → Passed (gates_tests N t (k + 1))
unfolding gates_tests
gates_next N t k before e =
    let next : k + 1 ≡ suc k = omega arith in
    rw next (passed_append (gates_tests N t k) (gate_tests N t k) before (none_passed (gate_tests N t k) (gate_numbered (gate_reference N k) t k) e))

pub gates_numbered : (N : ℕ) (t : List ℕ) (k : ℕ) → Numbered (gates_tests N t k)
unfolding gates_tests
gates_numbered N t zero = tt
gates_numbered N t (suc k) = numbered_append (gates_tests N t k) (gate_tests N t k) (gates_numbered N t k) (gate_numbered (gate_reference N k) t k)

-- the values of the literals
filled_none : (N : ℕ) (assignment bytes : List ℕ) → get_or bytes 0 0 ≡ 0 → get_or bytes 1 0 ≡ 1 → Filled N assignment 0 bytes
unfolding reference_value
filled_none N assignment bytes bottom top = record { byte = go }
  where
    go : (r : ℕ) → r < 2 + 2 * 0 → get_or bytes r 0 ≡ digit (reference_value N (has assignment) [] r)
    go zero l = bottom
    go (suc zero) l = top
    go (suc (suc r)) l = absurd (omega arith)

pub filled_start : (N : ℕ) (assignment bytes : List ℕ) → 2 ≤ length bytes → Filled N assignment 0 (set (set bytes 0 0) 1 1)
filled_start N assignment bytes room =
    filled_none N assignment (set (set bytes 0 0) 1 1) (get_or-set_other (set bytes 0 0) 1 0 1 0 (omega arith) ∙ get_or-set_same bytes 0 0 0 (omega arith))
    (get_or-set_same (set bytes 0 0) 1 1 0 (omega (arith, length-set bytes 0 0)))

-- the rows of constants keep to the rule of a row: sixteen of eight
abbrev pub row_holds : ℕ → List ℕ → Bool
row_holds n row = eqb (length row) 8 && holds_from (λ i x. eqb x (row_value n i)) 0 row

rows_hold : holds_from row_holds 0 ROWS ≡ true
unfolding row_value
rows_hold = refl

module _ (n : ℕ) (small : n < 16) where
  row_both : (eqb (length (get_or ROWS n [])) 8 ≡ true) × (holds_from (λ i x. eqb x (row_value n i)) 0 (get_or ROWS n []) ≡ true)
  row_both = and_both (eqb (length (get_or ROWS n [])) 8) (holds_from (λ i x. eqb x (row_value n i)) 0 (get_or ROWS n [])) (holds_all row_holds [] ROWS rows_hold n small)

  row_size : length (get_or ROWS n []) ≡ 8
  row_size = eqb-true (length (get_or ROWS n [])) 8 row_both.0

  pub row_at : (i : ℕ) → i < 8 → get_or (get_or ROWS n []) i 0 ≡ row_value n i
  row_at i l = eqb-true (get_or (get_or ROWS n []) i 0) (row_value n i) (holds_all (λ i x. eqb x (row_value n i)) 0 (get_or ROWS n []) row_both.1 i (omega (arith, row_size)))

-- the values of four variables more, by the row that has their bits
filled_row : (N : ℕ) (assignment bytes last : List ℕ) (v n : ℕ) → v + 4 ≤ N → ((k : ℕ) → k < 4 → eqb (n / 2 ^ k % 2) 1 ≡ has assignment (v + k))
    → RowFilled n (2 + 2 * v) bytes last → Filled N assignment v bytes → Filled N assignment (v + 4) last
unfolding row_value
filled_row N assignment bytes last v n small bits row filled = record { byte = λ r l. go r l (dec_lt r (2 + 2 * v)) }
  where
    entry : (k odd : ℕ) → k < 4 → odd < 2
        → get_or last (2 + 2 * v + (2 * k + odd)) 0 ≡ digit (cond (eqb odd 0) (eqb (n / 2 ^ k % 2) 1) (not (eqb (n / 2 ^ k % 2) 1)))
    entry k odd l o =
        let place : (2 * k + odd) / 2 ≡ k = omega arith in
        let parity : (2 * k + odd) % 2 ≡ odd = omega arith in
        row.filled (2 * k + odd) (omega arith) ∙ rw (place, parity) refl

    literals : (k odd : ℕ) → k < 4 → odd < 2 → get_or last (2 + 2 * v + (2 * k + odd)) 0 ≡ digit (reference_value N (has assignment) [] (2 + 2 * v + (2 * k + odd)))
    literals k zero l o =
        let at : 2 + 2 * (v + k) ≡ 2 + 2 * v + (2 * k + zero) = omega arith in
        entry k zero l o ∙ ap digit (bits k l ∙ sym (value_positive N (has assignment) [] (v + k) (omega arith)) ∙ ap (reference_value N (has assignment) []) at)
    literals k (suc zero) l o =
        let at : 3 + 2 * (v + k) ≡ 2 + 2 * v + (2 * k + suc zero) = omega arith in
        entry k (suc zero) l o
        ∙ ap digit (ap not (bits k l) ∙ sym (value_negative N (has assignment) [] (v + k) (omega arith)) ∙ ap (reference_value N (has assignment) []) at)
    literals k (suc (suc odd)) l o = absurd (omega arith)

    go : (r : ℕ) → r < 2 + 2 * (v + 4) → Dec (r < 2 + 2 * v) → get_or last r 0 ≡ digit (reference_value N (has assignment) [] r)
    go r l (yes q) = row.before r q ∙ filled.byte r q
    go r l (no q) =
        let at : 2 + 2 * v + (2 * ((r - (2 + 2 * v)) / 2) + (r - (2 + 2 * v)) % 2) ≡ r = omega arith in
        subst (λ (x : ℕ). get_or last x 0 ≡ digit (reference_value N (has assignment) [] x)) at
        (literals ((r - (2 + 2 * v)) / 2) ((r - (2 + 2 * v)) % 2) (omega arith) (omega arith))

-- bit k of a number's lowest m bits, and of the others
low_bits : (n m k : ℕ) → k < m → n % 2 ^ m / 2 ^ k % 2 ≡ n / 2 ^ k % 2
low_bits n m k l =
    let all : m ≡ m - k - 1 + 1 + k = omega arith in
    ap (λ (e : ℕ). n % 2 ^ e / 2 ^ k % 2) all ∙ ap (λ (x : ℕ). x % 2) (field n (m - k - 1 + 1) k) ∙ mod-mod-pow (n / 2 ^ k) (m - k - 1) 1

high_bits : (n m k : ℕ) → n / 2 ^ m / 2 ^ k % 2 ≡ n / 2 ^ (m + k) % 2
high_bits n m k = ap (λ (x : ℕ). x % 2) (shr-shr n m k)

byte_bit : (assignment : List ℕ) (j k : ℕ) → k < 8 → eqb (get_or assignment j 0 / 2 ^ k % 2) 1 ≡ has assignment (8 * j + k)
byte_bit assignment j k l = bit_shifted (get_or assignment j 0) k ∙ sym (has_at assignment j k l)

-- the values of the variables so far are the same among more
filled_among : (N M v : ℕ) (assignment bytes : List ℕ) → v ≤ N → v ≤ M → Filled N assignment v bytes → Filled M assignment v bytes
unfolding reference_value
filled_among N M v assignment bytes n m filled =
    record {
      byte =
          λ r l.
          let same : reference_value N (has assignment) [] r ≡ reference_value M (has assignment) [] r = rw (lt-ltb r (2 + 2 * N) (omega arith), lt-ltb r (2 + 2 * M) (omega arith)) refl in
          filled.byte r l ∙ ap digit same;
    }

-- the values of a byte's variables, by a row for each half of it
pub filled_byte : (assignment bytes between last : List ℕ) (j b : ℕ) → b ≡ get_or assignment j 0
    → RowFilled (b % 16) (2 + 16 * j) bytes between → RowFilled (b / 16) (2 + 16 * j + 8) between last
    → Filled (8 * j) assignment (8 * j) bytes → Filled (8 * (j + 1)) assignment (8 * (j + 1)) last
filled_byte assignment bytes between last j b is low high before =
    let N = 8 * (j + 1) in
    let filled = filled_among (8 * j) N (8 * j) assignment bytes (omega arith) (omega arith) before in
    let first_at : 2 + 16 * j ≡ 2 + 2 * (8 * j) = omega arith in
    let second_at : 2 + 16 * j + 8 ≡ 2 + 2 * (8 * j + 4) = omega arith in
    let all : 8 * j + 4 + 4 ≡ 8 * (j + 1) = omega arith in
    let bits : (k : ℕ) → k < 8 → eqb (b / 2 ^ k % 2) 1 ≡ has assignment (8 * j + k) = λ k l. ap (λ (x : ℕ). eqb (x / 2 ^ k % 2) 1) is ∙ byte_bit assignment j k l in
    let first =
    filled_row N assignment bytes between (8 * j) (b % 16) (omega arith)
    (λ k l. ap (λ (x : ℕ). eqb x 1) (low_bits b 4 k l) ∙ bits k (omega arith))
    (subst (λ (x : ℕ). RowFilled (b % 16) x bytes between) first_at low) filled in
    subst (λ (v : ℕ). Filled N assignment v last) all
    (filled_row N assignment between last (8 * j + 4) (b / 16) (omega arith)
    (λ k l.
    let at : 8 * j + (4 + k) ≡ 8 * j + 4 + k = omega arith in
    ap (λ (x : ℕ). eqb x 1) (high_bits b 4 k) ∙ bits (4 + k) (omega arith) ∙ ap (has assignment) at)
    (subst (λ (x : ℕ). RowFilled (b / 16) x between last) second_at high) first)

-- the values that are kept
pub known_none : (N : ℕ) (assignment t bytes : List ℕ) → Filled N assignment N bytes → Known N (has assignment) (values N (has assignment) [] (gates_of t 0)) 0 bytes
unfolding gates_of values
known_none N assignment t bytes filled = rw (tabulate_none (gate_at t)) (record { byte = λ r l. filled.byte r (omega arith) })

pub known_small : {N : ℕ} {σ : ℕ → Bool} {vs : List Bool} {k : ℕ} {bytes : List ℕ} → Known N σ vs k bytes → (r : ℕ) → r < gate_reference N k → get_or bytes r 0 ≤ 1
known_small {N} {σ} {vs} known r l = rw (known.byte r l) (go (reference_value N σ vs r))
  where
    go : (b : Bool) → digit b ≤ 1
    go true = omega arith
    go false = omega arith

length_gates_of : (t : List ℕ) (k : ℕ) → length (gates_of t k) ≡ k
unfolding gates_of
length_gates_of t k = length_tabulate k (gate_at t)

pub known_next : (N : ℕ) (σ : ℕ → Bool) (t bytes : List ℕ) (k b : ℕ) → gate_reference N k < length bytes → Known N σ (values N σ [] (gates_of t k)) k bytes
    → b ≡ digit (gate_value N σ (values N σ [] (gates_of t k)) (gate_at t k)) → Known N σ (values N σ [] (gates_of t (k + 1))) (k + 1) (set bytes (gate_reference N k) b)
known_next N σ t bytes k b room known e = record { byte = λ r l. go r l (eqb r (gate_reference N k)) refl }
  where
    vs : List Bool
    vs = values N σ [] (gates_of t k)

    size : length vs ≡ k
    size = circuit_length N σ (gates_of t k) ∙ length_gates_of t k

    new : Bool
    new = gate_value N σ vs (gate_at t k)

    next : values N σ [] (gates_of t (k + 1)) ≡ vs ++ (new ∷ [])
    next = let one : k + 1 ≡ suc k = omega arith in rw one (values_next N σ t k)

    last : get_or (vs ++ (new ∷ [])) k false ≡ new
    last = subst (λ (n : ℕ). get_or (vs ++ (new ∷ [])) n false ≡ new) size (get_or-append_seam vs new [] false)

    go : (r : ℕ) → r < gate_reference N (k + 1) → (p : Bool) → eqb r (gate_reference N k) ≡ p
        → get_or (set bytes (gate_reference N k) b) r 0 ≡ digit (reference_value N σ (values N σ [] (gates_of t (k + 1))) r)
    go r l true f =
        let at : r ≡ gate_reference N k = eqb-true r (gate_reference N k) f in
        rw (next, at) (get_or-set_same bytes (gate_reference N k) b 0 room ∙ e ∙ ap digit (sym (value_gate N σ (vs ++ (new ∷ [])) k ∙ last)))
    go r l false f =
        let other = eqb-false r (gate_reference N k) f in
        rw next
        (get_or-set_other bytes (gate_reference N k) r b 0 (omega arith) ∙ known.byte r (omega arith)
        ∙ ap digit (sym (value_earlier N σ vs (new ∷ []) r (omega (arith, size)))))

-- 20 and 21
module _ (h most : ℕ) (assignment t : List ℕ) where
  pub length_assignment : (length assignment ≡ h → ⊥) → first_failed (length_tests h most assignment t) ≡ record { number = 20; place = 0 }
  unfolding length_tests
  length_assignment other =
      fails (eqb (length assignment) h) 20 0 (test (eqb (length t % 8) 0 && leb (length t) (8 * most)) 21 0 ∷ []) (ne_eqb (length assignment) h other)

  pub length_table : length assignment ≡ h → (eqb (length t % 8) 0 && leb (length t) (8 * most)) ≡ false → first_failed (length_tests h most assignment t) ≡ record { number = 21; place = 0 }
  unfolding length_tests
  length_table size e =
      passes (eqb (length assignment) h) 20 0 (test (eqb (length t % 8) 0 && leb (length t) (8 * most)) 21 0 ∷ []) (eq-eqb (length assignment) h size)
      ∙ fails (eqb (length t % 8) 0 && leb (length t) (8 * most)) 21 0 [] e

  pub length_odd : length assignment ≡ h → (length t % 8 ≡ 0 → ⊥) → first_failed (length_tests h most assignment t) ≡ record { number = 21; place = 0 }
  length_odd size odd = length_table size (ap (λ (b : Bool). b && leb (length t) (8 * most)) (ne_eqb (length t % 8) 0 odd))

  pub length_many : length assignment ≡ h → length t % 8 ≡ 0 → most < length t / 8 → first_failed (length_tests h most assignment t) ≡ record { number = 21; place = 0 }
  length_many size whole many = length_table size (ap₂ ◌&&◌ (eq-eqb (length t % 8) 0 whole) (lt-leb (length t) (8 * most) (omega arith)))

  pub length_good : length assignment ≡ h → length t % 8 ≡ 0 → length t / 8 ≤ most → first_failed (length_tests h most assignment t) ≡ record { number = 0; place = 0 }
  unfolding length_tests
  length_good size whole few =
      passed_none (length_tests h most assignment t)
      (eq-eqb (length assignment) h size, (ap₂ ◌&&◌ (eq-eqb (length t % 8) 0 whole) (le-leb (length t) (8 * most) (omega arith)), tt))
      ∙ no_test

  pub lengths_numbered : Numbered (length_tests h most assignment t)
  unfolding length_tests
  lengths_numbered = (omega arith, (omega arith, tt))

  -- where no length is refused
  module _ (e : record { number = 0; place = 0 } ≡ first_failed (length_tests h most assignment t)) where
    pub lengths_passed : Passed (length_tests h most assignment t)
    lengths_passed = none_passed (length_tests h most assignment t) lengths_numbered (sym (ap (λ (v : Verdict). v.number) e))

    pub lengths_size : length assignment ≡ h
    unfolding length_tests
    lengths_size = eqb-true (length assignment) h lengths_passed.0

    pub lengths_few : length t ≤ 8 * most
    unfolding length_tests
    lengths_few = leb-true (length t) (8 * most) (and_both (eqb (length t % 8) 0) (leb (length t) (8 * most)) lengths_passed.1.0).1

    pub evaluated_within_lem : (root : ℕ) → evaluated h most assignment t root ≡ evaluated_within h assignment t root
    unfolding evaluated evaluated_within
    evaluated_within_lem root =
        ap (λ (v : Verdict). answered v (value (8 * h) (has assignment) (gates_of t (records 8 t)) root))
        (lengths_pass h most assignment t root lengths_passed)

  -- and where one is
  pub evaluated_lengths : (root : ℕ) (m : Malformed) → refusal_verdict {A = Bool} (Err m) ≡ first_failed (length_tests h most assignment t) → Evaluates (evaluated h most assignment t root) (evaluated_of (Err m))
  unfolding evaluated
  evaluated_lengths root m e =
      let some = λ (z : (first_failed (length_tests h most assignment t)).number ≡ 0). malformed_some m (ap (λ (v : Verdict). v.number) e ∙ z) in
      answers_refused m (value (8 * h) (has assignment) (gates_of t (records 8 t)) root) (first_failed (evaluation_tests h most assignment t root))
      (e ∙ sym (lengths_refuse h most assignment t root some))

-- behind the lengths: the gates, and the root
module _ (h : ℕ) (assignment t : List ℕ) (root : ℕ) (bytes : List ℕ) where
  pub within_gates : {m : Malformed} → Ran (8 * h) assignment t bytes (Err m) → Evaluates (evaluated_within h assignment t root) (evaluated_of (Err m))
  unfolding evaluated_within
  within_gates {m} ran =
      let gates = gates_tests (8 * h) t (records 8 t) in
      let last = reference_tests (8 * h) root (records 8 t) in
      let some = λ (z : (first_failed gates).number ≡ 0). malformed_some m (ap (λ (v : Verdict). v.number) ran.verdict ∙ z) in
      answers_refused m (value (8 * h) (has assignment) (gates_of t (records 8 t)) root) (first_failed (gates ++ last)) (ran.verdict ∙ sym (after_refused gates last some))

  -- where no gate is refused the root decides
  module _ {x : Unit {0}} (ran : Ran (8 * h) assignment t bytes (Ok x)) where
    within_last : first_failed (gates_tests (8 * h) t (records 8 t) ++ reference_tests (8 * h) root (records 8 t)) ≡ first_failed (reference_tests (8 * h) root (records 8 t))
    within_last =
        root_decides (8 * h) t root
        (none_passed (gates_tests (8 * h) t (records 8 t)) (gates_numbered (8 * h) t (records 8 t)) (sym (ap (λ (v : Verdict). v.number) ran.verdict)))

    pub within_root : gate_reference (8 * h) (records 8 t) ≤ root → Evaluates (evaluated_within h assignment t root) (evaluated_of (Err RootNotThere))
    unfolding evaluated_within reference_tests
    within_root late =
        answers_refused RootNotThere (value (8 * h) (has assignment) (gates_of t (records 8 t)) root) _
        (sym (within_last ∙ fails (ltb root (gate_reference (8 * h) (records 8 t))) 24 0 [] (le-ltb root (gate_reference (8 * h) (records 8 t)) late)))

    pub within_value : {y : Bool} → root < gate_reference (8 * h) (records 8 t) → y ≡ eqb (get_or bytes root 0) 1 → Evaluates (evaluated_within h assignment t root) (evaluated_of (Ok y))
    unfolding evaluated_within reference_tests
    within_value there e =
        let z = value (8 * h) (has assignment) (gates_of t (records 8 t)) root in
        rw (kept_true ((ran.kept refl).byte root there) e)
        (answers_value z _
        (sym (within_last ∙ passes (ltb root (gate_reference (8 * h) (records 8 t))) 24 0 [] (lt-ltb root (gate_reference (8 * h) (records 8 t)) there) ∙ no_test)))

-- a number of two bytes is zero where both bytes are
pair_zero : (x y : ℕ) → eqb (x + 256 * y) 0 ≡ (eqb x 0 && eqb y 0)
pair_zero x y =
    by_truth (eqb (x + 256 * y) 0) (eqb x 0 && eqb y 0)
    (λ e. let none = eqb-true (x + 256 * y) 0 e in ap₂ ◌&&◌ (eq-eqb x 0 (omega arith)) (eq-eqb y 0 (omega arith)))
    (λ e. let both = and_both (eqb x 0) (eqb y 0) e in eq-eqb (x + 256 * y) 0 (omega (arith, eqb-true x 0 both.0, eqb-true y 0 both.1)))

-- g is gate k of a table, field by field
pub record GateIs (t : List ℕ) (k : ℕ) (g : Gate) : Type 0 where
  pub kind : g.kind ≡ (gate_at t k).kind
  pub left : g.left ≡ (gate_at t k).left
  pub right : g.right ≡ (gate_at t k).right

-- a gate's bytes, read from the table
module _ (t : List ℕ) (k : ℕ) (inside : 8 * k + 8 ≤ length t) where
  gate_byte : (i : ℕ) → i < 8 → get_or t (8 * k + i) 0 ≡ get_or (record_at 8 t k) i 0
  gate_byte i l = sym (byte_record_at 8 t k i inside l)

  gate_pair : (i : ℕ) → i + 1 < 8 → pair_at t (8 * k + i) ≡ pair_at (record_at 8 t k) i
  gate_pair i l =
      let e : 8 * k + i + 1 ≡ 8 * k + (i + 1) = omega arith in
      rw e (ap₂ (λ (x y : ℕ). x + 256 * y) (gate_byte i (omega arith)) (gate_byte (i + 1) l))

  pub gate_read : (left right : ℕ) → left ≡ pair_at t (8 * k + 2) → right ≡ pair_at t (8 * k + 4) → GateIs t k (record { kind = get_or t (8 * k) 0; left = left; right = right })
  unfolding gate_at
  gate_read left right l r =
      let e : 8 * k ≡ 8 * k + 0 = omega arith in
      record { kind = ap (λ (i : ℕ). get_or t i 0) e ∙ gate_byte 0 (omega arith); left = l ∙ gate_pair 2 (omega arith); right = r ∙ gate_pair 4 (omega arith) }

  -- "byte 1, 6 or 7 not zero": byte 1, and the two last bytes as one number
  gate_spare : spare_at t k ≡ (eqb (get_or t (8 * k + 1) 0) 0 && eqb (pair_at t (8 * k + 6)) 0)
  unfolding spare_at
  gate_spare =
      let bytes = record_at 8 t k in
      and_assoc (eqb (get_or bytes 1 0) 0) (eqb (get_or bytes 6 0) 0) (eqb (get_or bytes 7 0) 0)
      ∙ sym (ap₂ ◌&&◌ (ap (λ (x : ℕ). eqb x 0) (gate_byte 1 (omega arith)))
      (ap (λ (x : ℕ). eqb x 0) (gate_pair 6 (omega arith)) ∙ pair_zero (get_or bytes 6 0) (get_or bytes 7 0)))

-- the record whose numbers were read: its tests
module _ {t : List ℕ} {k : ℕ} {g : GateRecord} (inside : 8 * k + 8 ≤ length t) (read : GateRead t k g) where
  gate_is : (kind : ℕ) → kind ≡ get_or t (8 * k) 0 → record { kind = kind; left = g.left; right = g.right } ≡ gate_at t k
  gate_is kind e =
      let same = gate_read t k inside g.left g.right read.left read.right in
      λ i. record { kind = (e ∙ same.kind) i; left = same.left i; right = same.right i }

  pub tail_refused : (own : ℕ) → (g.tail ≡ 0 → ⊥) → first_failed (record_tests own t k) ≡ record { number = 22; place = k }
  tail_refused own set =
      let byte = eqb (get_or t (8 * k + 1) 0) 0 in
      let tail = ne_eqb (pair_at t (8 * k + 6)) 0 (λ z. set (read.tail ∙ z)) in
      fails (spare_at t k) 22 k (form_tests own k (gate_at t k)) (gate_spare t k inside ∙ ap (λ (b : Bool). byte && b) tail ∙ and-false byte)

  module _ {own : ℕ} {r : Result Kind Malformed} (clear : g.tail ≡ 0) (tested : GateTested g.kind g.left g.right own k r) where
    -- where byte 1 is set the kind is 256 or more, and so that of no gate
    pub record_tested : refusal_verdict r ≡ first_failed (record_tests own t k)
    record_tested = go (eqb (get_or t (8 * k + 1) 0) 0) refl
      where
        tail : eqb (pair_at t (8 * k + 6)) 0 ≡ true
        tail = eq-eqb (pair_at t (8 * k + 6)) 0 (sym read.tail ∙ clear)

        go : (b : Bool) → eqb (get_or t (8 * k + 1) 0) 0 ≡ b → refusal_verdict r ≡ first_failed (record_tests own t k)
        go true e =
            let byte = eqb-true (get_or t (8 * k + 1) 0) 0 e in
            tested.verdict
            ∙ ap (λ (f : Gate). first_failed (form_tests own k f)) (gate_is g.kind (omega (arith, read.kind)))
            ∙ sym (passes (spare_at t k) 22 k (form_tests own k (gate_at t k)) (gate_spare t k inside ∙ ap₂ ◌&&◌ e tail))
        go false e =
            let byte = eqb-false (get_or t (8 * k + 1) 0) 0 e in
            let f : Gate = record { kind = g.kind; left = g.left; right = g.right } in
            tested.verdict ∙ form_kind own k f (λ one. byte (omega (arith, read.kind, one))) (λ two. byte (omega (arith, read.kind, two)))
            ∙ sym (fails (spare_at t k) 22 k (form_tests own k (gate_at t k)) (gate_spare t k inside ∙ ap (λ (b : Bool). b && eqb (pair_at t (8 * k + 6)) 0) e))

  -- and the value that is kept for it
  pub turn_keeps : {N : ℕ} {σ : ℕ → Bool} {bytes : List ℕ} {of : Kind} {b : ℕ} → Known N σ (values N σ [] (gates_of t k)) k bytes
      → GateTested g.kind g.left g.right (gate_reference N k) k (Ok of) → Joined of (get_or bytes g.left 0) (get_or bytes g.right 0) b → gate_reference N k < length bytes
      → Known N σ (values N σ [] (gates_of t (k + 1))) (k + 1) (set bytes (gate_reference N k) b)
  unfolding gate_value
  turn_keeps {N} {σ} {bytes} {of} {b} known tested joined room =
      let vs = values N σ [] (gates_of t k) in
      let formed = tested.formed of refl in
      let number : kind_byte of ≡ get_or t (8 * k) 0 = omega (arith, formed.0, read.kind, kind_small of) in
      known_next N σ t bytes k b room known
      (joined.value (reference_value N σ vs g.left) (reference_value N σ vs g.right) (known.byte g.left formed.1) (known.byte g.right formed.2)
      ∙ ap (λ (f : Gate). digit (gate_value N σ vs f)) (gate_is (kind_byte of) number))

-- a turn of the loop over the gates stops at the first that is refused
pub turn_stops : {N : ℕ} {assignment t bytes : List ℕ} {k : ℕ} {m : Malformed} → k < records 8 t → Passed (gates_tests N t k)
    → refusal_verdict {A = Kind} (Err m) ≡ first_failed (gate_tests N t k) → Ran N assignment t bytes (Err m)
turn_stops {N} {assignment} {t} {bytes} {k} {m} l before e =
    let more : suc (k + (length t / 8 - suc k)) ≡ length t / 8 = omega arith in
    let some = λ (z : (first_failed (gate_tests N t k)).number ≡ 0). malformed_some m (ap (λ (v : Verdict). v.number) e ∙ z) in
    record { verdict = e ∙ sym (gates_stop N t k (length t / 8 - suc k) (length t / 8) more before some); kept = λ z. absurd (cc) }

pub all_turned : (N : ℕ) (assignment t bytes : List ℕ) (k : ℕ) → k ≡ records 8 t → Passed (gates_tests N t k)
    → Known N (has assignment) (values N (has assignment) [] (gates_of t k)) k bytes → Ran N assignment t bytes (Ok tt)
all_turned N assignment t bytes k e passed known =
    let none = passed_none (gates_tests N t k) passed ∙ no_test in
    record {
      verdict = sym (ap (λ (n : ℕ). first_failed (gates_tests N t n)) (sym e) ∙ none);
      kept = λ z. subst (λ (n : ℕ). Known N (has assignment) (values N (has assignment) [] (gates_of t n)) n bytes) e known;
    }
