-- What the private pieces of the evaluation ask and promise. No public contract speaks of these.
use Rattle.std.specs.Prelude.{◌≡◌, ℕ, ◌+◌, ◌*◌, ◌/◌, ◌%◌, ◌^◌, ◌<◌, ◌≤◌, Bool, cond, not, Result, Ok, Err, IsOk, List, [], ◌++◌, length, ◌==◌, nat_eq, slice_index}
use Rattle.std.specs.Result.{ForOk}
use Rattle.records.specs.Bits.{digit}
use Rattle.records.specs.Clause.{has}
use Rattle.records.specs.Table.{records}
use Rattle.records.specs.Step.{pair_at}
use Rattle.records.specs.Tests.{Verdict, first_failed}
use Rattle.circuits.specs.declared.evaluation.GateRecord.{GateRecord}
use Rattle.circuits.specs.declared.evaluation.Evaluated.{Evaluated}
use Rattle.circuits.specs.declared.kinds.Kind.{Kind}
use Rattle.circuits.specs.declared.kinds.Kind.TheVariants.{And, Or}
use Rattle.circuits.specs.declared.refusals.GateFault.{GateFault}
use Rattle.circuits.specs.declared.refusals.GateFault.TheVariants.{Form}
use Rattle.circuits.specs.declared.refusals.Malformed.{Malformed}
use Rattle.circuits.specs.Malformed.{malformed_number, malformed_place}
use Rattle.circuits.specs.Reference.{gate_reference}
use Rattle.circuits.specs.Gate.{kind_byte, gates_of}
use Rattle.circuits.specs.Value.{reference_value, kind_value, values, value}
use Rattle.circuits.specs.Evaluate.{answered, form_tests, gates_tests, reference_tests}

-- number and place of a refusal, or 0 and 0
abbrev pub refusal_verdict : {A : Type 0} → Result A Malformed → Verdict
refusal_verdict (Ok x) = record { number = 0; place = 0 }
refusal_verdict (Err m) = record { number = malformed_number m; place = malformed_place m }

-- "Byte 0 is 1 for AND, 2 for OR", and else 22
unfoldable pub kind_of : ℕ → Result Kind GateFault
kind_of number = cond (number == 1) (Ok And) (cond (number == 2) (Ok Or) (Err Form))

-- r is 22, 23 or the kind of gate k on plain numbers; where it is the kind the gate is formed
pub record GateTested (kind left right own k : ℕ) (r : Result Kind Malformed) : Type 0 where
  pub verdict : refusal_verdict r ≡ first_failed (form_tests own k (record { kind = kind; left = left; right = right }))
  pub formed : ForOk r (λ of. (kind ≡ kind_byte of) × (left < own) × (right < own))

-- r is the value of a gate of a kind whose inputs have the values first and second
pub record Joined (kind : Kind) (first second r : ℕ) : Type 0 where
  pub value : (left right : Bool) → first ≡ digit left → second ≡ digit right → r ≡ digit (kind_value (kind_byte kind) left right)

-- "Numbers of two bytes are little endian": the bytes of gate k, two by two
pub record GateRead (table : List ℕ) (k : ℕ) (g : GateRecord) : Type 0 where
  pub kind : g.kind ≡ pair_at table (8 * k)
  pub left : g.left ≡ pair_at table (8 * k + 2)
  pub right : g.right ≡ pair_at table (8 * k + 4)
  pub tail : g.tail ≡ pair_at table (8 * k + 6)

-- "2 + 2v is xv, 3 + 2v is not xv", of four variables whose values are the bits of n: value i of row n
unfoldable pub row_value : ℕ → ℕ → ℕ
row_value n i =
    let bit = nat_eq (n / 2 ^ (i / 2) % 2) 1 in
    digit (cond (i % 2 == 0) bit (not bit))

-- the eight values from `at` on are those of row n, and those before are as they were
pub record RowFilled (n at : ℕ) (values last : List ℕ) : Type 0 where
  pub filled : (i : ℕ) → i < 8 → slice_index last (at + i) ≡ row_value n i
  pub before : (r : ℕ) → r < at → slice_index last r ≡ slice_index values r

-- the bytes are the values of the constants and of both literals of the first v variables
pub record Filled (N : ℕ) (assignment : List ℕ) (v : ℕ) (bytes : List ℕ) : Type 0 where
  pub byte : (r : ℕ) → r < 2 + 2 * v → slice_index bytes r ≡ digit (reference_value N (has assignment) [] r)

-- the bytes are the values of all references behind k gates, whose values are vs
pub record Known (N : ℕ) (σ : ℕ → Bool) (vs : List Bool) (k : ℕ) (bytes : List ℕ) : Type 0 where
  pub byte : (r : ℕ) → r < gate_reference N k → slice_index bytes r ≡ digit (reference_value N σ vs r)

-- h bytes of the assignment, at most 64, and a value to keep for each reference
pub record Room (h : ℕ) (assignment table bytes : List ℕ) : Type 0 where
  pub half : h ≤ 64
  pub assigned : h ≤ length assignment
  pub references : 2 + 16 * h + length table / 8 ≤ length bytes

-- r is the first refusal of all gates of a table; where there is none the bytes are the values of all references
pub record Ran (N : ℕ) (assignment table bytes : List ℕ) (r : Result (Unit {0}) Malformed) : Type 0 where
  pub verdict : refusal_verdict r ≡ first_failed (gates_tests N table (records 8 table))
  pub kept : IsOk r → Known N (has assignment) (values N (has assignment) [] (gates_of table (records 8 table))) (records 8 table) bytes

-- "Accepted: 0, 0, and the root's value, 0 or 1", or the refusal: what evaluating gives where the lengths are good
unfoldable pub evaluated_within : ℕ → List ℕ → List ℕ → ℕ → Evaluated
evaluated_within h assignment table root =
    answered (first_failed (gates_tests (8 * h) table (records 8 table) ++ reference_tests (8 * h) root (records 8 table)))
    (value (8 * h) (has assignment) (gates_of table (records 8 table)) root)
