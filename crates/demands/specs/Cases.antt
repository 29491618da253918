-- P1 to P12 of document 01, "Small refutations and their edges", as one table: "P1 to P12 form a single table under a single proved statement".
use Rattle.std.specs.Prelude.{ℕ, ◌+◌, ◌-◌, ◌*◌, ◌^◌, ◌≡◌, Bool, true, false, List, [], ◌∷◌, ◌++◌, length, replicate}
use Rattle.records.specs.Bits.{digit}
use Rattle.records.specs.Clause.{has}
use Rattle.records.specs.Step.{step_count}
use Rattle.circuits.specs.Gate.{Gate, and_gate, or_gate, gates_bytes}
use Rattle.circuits.specs.Check.{Checked}
use Rattle.demands.specs.Tables.{Tables, Check, Evaluation, circuit}

-- the byte whose bits are those of the variables listed, each below 8 and listed once
abbrev pub byte_with : List ℕ → ℕ
byte_with [] = 0
byte_with (v ∷ vs) = 2 ^ v + byte_with vs

-- a clause record: the variables of its positive literals, and those of its negative ones. All of them are below 8, so that byte 0 and byte 32 hold them.
abbrev pub clause_of : List ℕ → List ℕ → List ℕ
clause_of positives negatives = byte_with positives ∷ replicate 31 0 ++ (byte_with negatives ∷ replicate 31 0)

-- a step's record: left, right and pivot, each below 256, and byte 5
abbrev pub step_with : ℕ → ℕ → ℕ → ℕ → List ℕ
step_with left right pivot fifth = left ∷ 0 ∷ right ∷ 0 ∷ pivot ∷ fifth ∷ 0 ∷ 0 ∷ []

-- "(left, right, pivot)"
abbrev pub step_bytes : ℕ → ℕ → ℕ → List ℕ
step_bytes left right pivot = step_with left right pivot 0

-- a lent table of n bytes: the bytes that are written, and behind them those that it had, all 170
abbrev pub written : ℕ → List ℕ → List ℕ
written n bytes = bytes ++ replicate (n - length bytes) 170

-- "Enough room": 64s bytes of work table and 24s of gate table, with some more that fill no record
abbrev pub work_room : List ℕ → ℕ
work_room steps = 64 * step_count steps + 11

abbrev pub gate_room : List ℕ → ℕ
gate_room steps = 24 * step_count steps + 5

abbrev pub tables_of : List ℕ → List ℕ → List ℕ → Tables
tables_of a b steps = record { a = a; b = b; steps = steps; work = written (work_room steps) []; gates = written (gate_room steps) [] }

-- the tables before, the outcome, and on acceptance the circuit's value as a function of the assignment: document 01 says it of P1, P5 and P8, and of the others it follows
pub record Case : Type 0 where
  pub tables : Tables
  pub expected : Checked
  pub meaning : (ℕ → Bool) → Bool

-- "Acceptance: 0, the root's clause number, its reference, the count", with the results that the work table has then, and the gates
abbrev pub acceptance_of : Tables → ℕ → ℕ → List ℕ → List Gate → ((ℕ → Bool) → Bool) → Case
acceptance_of t place root results gates meaning =
    record {
      tables = t;
      expected = record { number = 0; place = place; root = root; count = length gates; work = written (length t.work) results; gates = written (length t.gates) (gates_bytes gates) };
      meaning = meaning;
    }

-- a refusal, with the results that it leaves
abbrev pub refusal_of : Tables → ℕ → ℕ → List ℕ → Case
refusal_of t number place results =
    record {
      tables = t;
      expected = record { number = number; place = place; root = 0; count = 0; work = written (length t.work) results; gates = t.gates };
      meaning = λ assignment. false;
    }

-- "A: {x0}, {not x0, x1}. B: {not x1, x2}, {not x2}.", with a first step and the two behind it
abbrev pub chained : List ℕ → Tables
chained start =
    tables_of (clause_of (0 ∷ []) [] ++ clause_of (1 ∷ []) (0 ∷ [])) (clause_of (2 ∷ []) (1 ∷ []) ++ clause_of [] (2 ∷ []))
    (start ++ step_bytes 2 3 2 ++ step_bytes 4 5 1)

-- "Steps (left, right, pivot): (0, 1, 0), (2, 3, 2), (4, 5, 1). Results {x1}, {not x1}, empty. The circuit's value is that of x1."
unfoldable pub P1 : Case
P1 =
    acceptance_of (chained (step_bytes 0 1 0)) 6 518
    (clause_of (1 ∷ []) [] ++ clause_of [] (1 ∷ []) ++ clause_of [] [])
    (or_gate 0 0 ∷ and_gate 1 1 ∷ or_gate 4 514 ∷ or_gate 5 515 ∷ and_gate 516 517 ∷ [])
    (λ assignment. assignment 1)

-- "All tables empty: 11."
unfoldable pub P2 : Case
P2 = refusal_of (tables_of [] [] []) 11 0 []

-- "A one zero record, no B, no steps: 0, 0, 0, 0."
unfoldable pub P3 : Case
P3 = acceptance_of (tables_of (clause_of [] []) [] []) 0 0 [] [] (λ assignment. false)

-- "The same record in B only: 0, 0, 1, 0."
unfoldable pub P4 : Case
P4 = acceptance_of (tables_of [] (clause_of [] []) []) 0 1 [] [] (λ assignment. true)

-- "A {x0}, B {not x0}, step (0, 1, 0): place 2, root 516, 3 gates; value of x0."
unfoldable pub P5 : Case
P5 =
    acceptance_of (tables_of (clause_of (0 ∷ []) []) (clause_of [] (0 ∷ [])) (step_bytes 0 1 0)) 2 516
    (clause_of [] [])
    (or_gate 2 0 ∷ or_gate 3 1 ∷ and_gate 514 515 ∷ [])
    (λ assignment. assignment 0)

-- "A {x0}, {not x0}, no B, step (0, 1, 0): OR(0, 0), root 514."
unfoldable pub P6 : Case
P6 =
    acceptance_of (tables_of (clause_of (0 ∷ []) [] ++ clause_of [] (0 ∷ [])) [] (step_bytes 0 1 0)) 2 514
    (clause_of [] [])
    (or_gate 0 0 ∷ [])
    (λ assignment. false)

-- "The same clauses in B, no A: AND(1, 1), root 514."
unfoldable pub P7 : Case
P7 =
    acceptance_of (tables_of [] (clause_of (0 ∷ []) [] ++ clause_of [] (0 ∷ [])) (step_bytes 0 1 0)) 2 514
    (clause_of [] [])
    (and_gate 1 1 ∷ [])
    (λ assignment. true)

-- "A {x0}, {not x0}; B {x0}; step (0, 1, 0): x0 is common, so three gates, root 516, false everywhere."
unfoldable pub P8 : Case
P8 =
    acceptance_of (tables_of (clause_of (0 ∷ []) [] ++ clause_of [] (0 ∷ [])) (clause_of (0 ∷ []) []) (step_bytes 0 1 0)) 3 516
    (clause_of [] [])
    (or_gate 2 0 ∷ or_gate 3 0 ∷ and_gate 514 515 ∷ [])
    (λ assignment. false)

-- "A {x0, not x0}, step (0, 0, 0): result {x0, not x0}; 11."
unfoldable pub P9 : Case
P9 = refusal_of (tables_of (clause_of (0 ∷ []) (0 ∷ [])) [] (step_bytes 0 0 0)) 11 0 (clause_of (0 ∷ []) (0 ∷ []))

-- "P1 with first step (1, 0, 0): 9 at 0."
unfoldable pub P10 : Case
P10 = refusal_of (chained (step_bytes 1 0 0)) 9 0 []

-- "With (0, 2, 0): 10 at 0."
unfoldable pub P11 : Case
P11 = refusal_of (chained (step_bytes 0 2 0)) 10 0 []

-- "With (4, 1, 0): 8 at 0"
unfoldable pub P12 : Case
P12 = refusal_of (chained (step_bytes 4 1 0)) 8 0 []

-- "with byte 5 set too: 7 at 0"
unfoldable pub P12_spare : Case
P12_spare = refusal_of (chained (step_with 4 1 0 1)) 7 0 []

abbrev pub cases : List Case
cases = P1 ∷ P2 ∷ P3 ∷ P4 ∷ P5 ∷ P6 ∷ P7 ∷ P8 ∷ P9 ∷ P10 ∷ P11 ∷ P12 ∷ P12_spare ∷ []

-- a check and an evaluation answer a case: the whole outcome is the expected one, and on acceptance the circuit, "as many as the count returned, read at that
-- root", has the expected value under every assignment of 32 bytes
pub record Holds (check : Check) (evaluate : Evaluation) (c : Case) : Type 0 where
  pub outcome : check c.tables ≡ c.expected
  pub value : c.expected.number ≡ 0 → (assignment : List ℕ) → length assignment ≡ 32
      → evaluate assignment (circuit c.expected) c.expected.root ≡ record { number = 0; place = 0; value = digit (c.meaning (has assignment)) }

-- of every case of a list
infixr 5 ◌by◌also◌
pub data AllHold (check : Check) (evaluate : Evaluation) : List Case → Type 0 where
  none : AllHold check evaluate []
  ◌by◌also◌ : (c : Case) {cs : List Case} → Holds check evaluate c → AllHold check evaluate cs → AllHold check evaluate (c ∷ cs)
