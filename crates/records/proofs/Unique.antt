-- Uniqueness: two outcomes that meet the promise of a public function are equal. Each theorem speaks of exactly what the contract says.
use Prim.Native.Nat.{ℕ}
use mathlib.Core.Path.{◌≡◌, refl, sym, ap, ◌∙◌}
use mathlib.Core.Bool.{Bool}
use mathlib.Core.List.{List}
use Rattle.std.specs.Prelude.{Option, Result}
use Rattle.records.specs.declared.steps.Step.{Step}
use Rattle.records.specs.declared.refusals.Refusal.{Refusal}
use Rattle.records.specs.Lists.{found}
use Rattle.records.specs.Clause.{has, resolved_into}
use Rattle.records.specs.Table.{record_at, records, first_empty, literals_of}
use Rattle.records.specs.Step.{StepRead}
use Rattle.records.specs.Tests.{Verdict, first_failed, table_tests, room_tests, Says}
use Rattle.records.specs.Refusal.{refusal_number, refusal_place, verdict_by, tested, verdict_of}
use Rattle.records.specs.Derivation.{Outcome, derived, Derives}
use Rattle.records.proofs.NamedLaws.{answer_same}

-- what equals the same is equal
same : {A : Type 0} {x y z : A} → x ≡ z → y ≡ z → x ≡ y
same p q = p ∙ sym q

pub has_literal_unique : (clause : List ℕ) (literal : ℕ) (r r' : Bool) → r ≡ has clause literal → r' ≡ has clause literal → r ≡ r'
has_literal_unique clause literal r r' = same

pub resolve_unique : (left right part : List ℕ) (pivot : ℕ) (last last' : List ℕ)
    → last ≡ resolved_into 32 left right pivot part → last' ≡ resolved_into 32 left right pivot part → last ≡ last'
resolve_unique left right part pivot last last' = same

pub record_unique : (table : List ℕ) (r : ℕ) (s s' : List ℕ) → s ≡ record_at 64 table r → s' ≡ record_at 64 table r → s ≡ s'
record_unique table r s s' = same

pub first_empty_unique : (table : List ℕ) (r r' : Option ℕ)
    → r ≡ found (records 64 table) (first_empty 64 table (records 64 table)) → r' ≡ found (records 64 table) (first_empty 64 table (records 64 table)) → r ≡ r'
first_empty_unique table r r' = same

pub literals_of_unique : (table r r' : List ℕ) → r ≡ literals_of 32 table → r' ≡ literals_of 32 table → r ≡ r'
literals_of_unique table r r' = same

pub read_step_unique : (steps : List ℕ) (i : ℕ) (s s' : Step) → StepRead steps i s → StepRead steps i s' → s ≡ s'
read_step_unique steps i s s' p q =
    λ j.
    record {
      left = same p.left q.left j;
      right = same p.right q.right j;
      pivot = same p.pivot q.pivot j;
      spare = same p.spare q.spare j;
    }

pub number_unique : (refusal : Refusal) (r r' : ℕ) → r ≡ refusal_number refusal → r' ≡ refusal_number refusal → r ≡ r'
number_unique refusal r r' = same

pub place_unique : (refusal : Refusal) (r r' : ℕ) → r ≡ refusal_place refusal → r' ≡ refusal_place refusal → r ≡ r'
place_unique refusal r r' = same

-- two verdicts, and what is left in the work table
verdict_same : {v v' : Verdict} → v.number ≡ v'.number → v.place ≡ v'.place → v ≡ v'
verdict_same p q = λ j. record { number = p j; place = q j }

pub says_unique : (v r r' : Verdict) → Says v r → Says v r' → r ≡ r'
says_unique v r r' p q = verdict_same (same p.number q.number) (same p.place q.place)

pub derives_unique : (o : Outcome) (last last' : List ℕ) (r r' : Verdict) → Derives o last r → Derives o last' r' → (r ≡ r') × (last ≡ last')
derives_unique o last last' r r' p q = (verdict_same (same p.number q.number) (same p.place q.place), same p.work q.work)

-- an answer is told by its verdict
answer_unique : {A : Type 0} (place : A → ℕ) → ((x y : A) → place x ≡ place y → x ≡ y) → (r r' : Result A Refusal) → verdict_by place r ≡ verdict_by place r' → r ≡ r'
answer_unique place one r r' e = answer_same place one r r' (ap (λ (v : Verdict). v.number) e) (ap (λ (v : Verdict). v.place) e)

tested_unique : (v : Verdict) (r r' : Result (Unit {0}) Refusal) → Says v (tested r) → Says v (tested r') → r ≡ r'
tested_unique v r r' p q = answer_unique (λ _. 0) (λ x y e. refl) r r' (says_unique v _ _ p q)

pub test_tables_unique : (a b steps : List ℕ) (r r' : Result (Unit {0}) Refusal)
    → Says (first_failed (table_tests 32 1024 a b steps)) (tested r) → Says (first_failed (table_tests 32 1024 a b steps)) (tested r') → r ≡ r'
test_tables_unique a b steps = tested_unique (first_failed (table_tests 32 1024 a b steps))

pub test_room_unique : (steps work : List ℕ) (r r' : Result (Unit {0}) Refusal)
    → Says (first_failed (room_tests 32 steps work)) (tested r) → Says (first_failed (room_tests 32 steps work)) (tested r') → r ≡ r'
test_room_unique steps work = tested_unique (first_failed (room_tests 32 steps work))

-- the answer, and the whole work table afterwards
pub derive_unique : (a b steps work last last' : List ℕ) (r r' : Result ℕ Refusal)
    → Derives (derived 32 1024 a b steps work) last (verdict_of r) → Derives (derived 32 1024 a b steps work) last' (verdict_of r') → (r ≡ r') × (last ≡ last')
derive_unique a b steps work last last' r r' p q =
    let both = derives_unique (derived 32 1024 a b steps work) last last' (verdict_of r) (verdict_of r') p q in
    (answer_unique (λ root. root) (λ x y e. e) r r' both.0, both.1)
