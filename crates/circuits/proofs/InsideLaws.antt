-- The laws of the private pieces: additions in a row, the references of the inputs, one turn of the loop over the steps, and the check's answers.
use Rattle.std.proofs.Common.{Bool, true, false, ◌&&◌, true≢false, ◌≡◌, ℕ, zero, suc, ◌+◌, ◌*◌, ◌<◌, ◌≤◌, List, [], ◌∷◌, ◌++◌, length, get_or, take, replicate, sym, refl, ap, ◌∙◌, ap₂, append_assoc, add-one, arith, length-append, length-set, get_or-take, take-suc-set}
use Rattle.std.proofs.lemmas.Slice.{take-put_mid}
use Rattle.std.proofs.lemmas.List.{take-replicate}
use borrow.Rule.Slice.PartMut.{put_mid}
use lib.ListN.{length-replicate}
use Rattle.records.specs.declared.steps.Step.{Step}
use Rattle.records.specs.Table.{records, literals_of}
use Rattle.records.specs.Step.{step_at, step_count}
use Rattle.records.specs.Tests.{Verdict, first_failed, table_tests, room_tests, Says}
use Rattle.records.specs.Derivation.{inputs, Outcome, judged, derived, Derives}
use Rattle.records.proofs.TableLaws.{literals_occur}
use Rattle.records.proofs.TestLaws.{Passed, none_passed, tables_numbered, room_numbered}
use Rattle.records.proofs.AcceptanceLaws.{acceptance}
use Rattle.circuits.specs.declared.building.Builder.{Builder}
use Rattle.circuits.specs.declared.building.Made.{Made}
use Rattle.circuits.specs.declared.building.Built.{Built}
use Rattle.circuits.specs.declared.checking.Answer.{Answer}
use Rattle.circuits.specs.Reference.{positive, negative}
use Rattle.circuits.specs.Gate.{Gate, and_gate, or_gate, with_gates}
use Rattle.circuits.specs.declared.rules.Rule.{Rule}
use Rattle.circuits.specs.declared.kinds.Kind.TheVariants.{And, Or}
use Rattle.circuits.specs.declared.rules.Rule.TheVariants.{One, Both}
use Rattle.circuits.specs.Rule.{symmetric, symmetric_rule}
use Rattle.circuits.specs.Build.{Added, Adding, plain, emit, emit_step, Build, advanced, built, input_references, plain_build}
use Rattle.circuits.specs.Check.{Checked, refusal, plain_accepted, plain_checked, Checks}
use Rattle.circuits.specs.Inside.{mentions, rule_by, Adds, Turns, Buildable, StepsBuilt, Builds}
use Rattle.circuits.proofs.GateLaws.{with_gates_more, length_with_gates, with_gates_none}
use Rattle.circuits.proofs.BuildLaws.{Orderly, built_next, gates_few}
use Rattle.circuits.proofs.InterpolantLaws.{pivots_small}
use Rattle.circuits.proofs.CheckLaws.{tables_refuse, room_refuses, gate_room_refuses, derivation_refuses, derivation_accepts}

-- gates behind gates
pub next_gates : (t t₁ t₂ : List ℕ) (n m : ℕ) (gs hs : List Gate) → t₁ ≡ with_gates t n gs → m ≡ n + length gs → t₂ ≡ with_gates t₁ m hs → 8 * m ≤ length t → t₂ ≡ with_gates t n (gs ++ hs)
next_gates t t₁ t₂ n m gs hs p e q l = q ∙ rw (p, e) (with_gates_more t n gs hs (omega arith))

-- two additions in a row
pub adds_twice : {b : Builder} {t t₁ t₂ : List ℕ} {x y : Added} {u v : Made} → Adds b t x u t₁ → Adds u.builder t₁ y v t₂ → 8 * u.builder.next ≤ length t
    → Adds b t (record { gates = x.gates ++ y.gates; reference = y.reference }) v t₂
adds_twice {b} {t} {t₁} {t₂} {x} {y} {u} {v} p q l =
    record {
      next = simp length-append (omega (arith, p.next, q.next));
      step = q.step ∙ p.step;
      reference = q.reference;
      table = next_gates t t₁ t₂ b.next u.builder.next x.gates y.gates p.table p.next q.table l;
    }

-- three in a row are a step at a common pivot
pub adds_both : (add : Adding) (b : Builder) (t t₁ t₂ t₃ : List ℕ) (u v w : Made) (p l r : ℕ)
    → Adds b t (add b.next (or_gate (positive p) l)) u t₁
    → Adds u.builder t₁ (add u.builder.next (or_gate (negative p) r)) v t₂
    → Adds v.builder t₂ (add v.builder.next (and_gate u.reference v.reference)) w t₃
    → 8 * u.builder.next ≤ length t → 8 * v.builder.next ≤ length t
    → Adds b t (emit add Both b.next p l r) w t₃
unfolding emit
adds_both add b t t₁ t₂ t₃ u v w p l r first second third k m =
    rw (← first.next, ← second.next, ← first.reference, ← second.reference, ← append_assoc) (adds_twice (adds_twice first second k) third m)

-- the references of A, and behind them b filled in for B
pub inputs_filled : (a b m k : ℕ) (ones : List ℕ) → a ≤ m → ones ≡ replicate b 1 → take (a + b) (put_mid a k (replicate {A = ℕ} m 0) ones) ≡ input_references a b
unfolding input_references
inputs_filled a b m k ones l e =
    take-put_mid a k (replicate {A = ℕ} m 0) ones (a + b) (omega (arith, ap length e, length-replicate {A = ℕ} b 1)) (omega (arith, length-replicate {A = ℕ} m 0))
    ∙ ap₂ ◌++◌ (take-replicate a m 0 l) e

-- the rule by the literals of A and of B is the symmetric one
pub rule_by_literals : (h : ℕ) (a b : List ℕ) (v : ℕ) → v < 8 * h → rule_by h (record { of_a = literals_of h a; of_b = literals_of h b }) v ≡ symmetric_rule h a b v
unfolding rule_by mentions symmetric_rule
rule_by_literals h a b v l = ap₂ symmetric (literals_occur h a v l) (literals_occur h b v l)

-- a build asks its rule of the steps' pivots only
pub built_same : (add : Adding) (rule other : ℕ → Rule) (n : ℕ) (start : Build) (step : ℕ → Step) (s : ℕ) → ((i : ℕ) → i < s → rule (step i).pivot ≡ other (step i).pivot)
    → built add rule n start step s ≡ built add other n start step s
unfolding built
built_same add rule other n start step zero same = refl
built_same add rule other n start step (suc s) same =
    rw (built_same add rule other n start step s (λ i l. same i (omega arith)), same s (omega arith)) refl

-- the loop over the steps, behind k inputs and g gates, from the gate table t₀
module _ (add : Adding) (rule : ℕ → Rule) (g : ℕ) (x : Build) (step : ℕ → Step) where
  pub record At (k : ℕ) (t₀ : List ℕ) (b : Builder) (t rs : List ℕ) : Type 0 where
    pub next : b.next ≡ g + length (built add rule g x step b.step).gates
    pub table : t ≡ with_gates t₀ g (built add rule g x step b.step).gates
    pub references : take (k + b.step) rs ≡ (built add rule g x step b.step).references
    pub long : length rs ≡ 1024

module _ {add : Adding} {rule : ℕ → Rule} {g : ℕ} {x : Build} {step : ℕ → Step} where
  -- one turn more
  pub again : {k : ℕ} {t₀ t t' rs rs' : List ℕ} {b b' : Builder} → At add rule g x step k t₀ b t rs
      → Turns b t rs (k + b.step)
      (emit_step add (rule (step b.step).pivot) b.next (step b.step) rs) b' t' rs'
      → (step b.step).left < k + b.step → (step b.step).right < k + b.step → k + b.step < 1024 → 8 * b.next ≤ length t₀ → At add rule g x step k t₀ b' t' rs'
  again {k} {t₀} {t} {t'} {rs} {rs'} {b} {b'} p q left right own l =
      let i : ℕ = b.step in
      let y : Build = built add rule g x step i in
      let s : Step = step i in
      let more : Added = emit_step add (rule s.pivot) b.next s rs in
      let el : get_or rs s.left 0 ≡ get_or y.references s.left 0 = sym (get_or-take (k + i) rs s.left 0 left) ∙ ap (λ (xs : List ℕ). get_or xs s.left 0) p.references in
      let er : get_or rs s.right 0 ≡ get_or y.references s.right 0 = sym (get_or-take (k + i) rs s.right 0 right) ∙ ap (λ (xs : List ℕ). get_or xs s.right 0) p.references in
      let e : built add rule g x step b'.step ≡ advanced y more =
      ap (built add rule g x step) (q.step ∙ add-one i) ∙ built_next add rule g x step i ∙ rw (← el, ← er, ← p.next) refl in
      record {
        next = rw e (simp length-append (omega (arith, p.next, q.next)));
        table = rw e (next_gates t₀ t t' g b.next y.gates more.gates p.table p.next q.table l);
        references =
            let n : k + b'.step ≡ suc (k + i) = omega (arith, q.step) in
            rw (e, n, q.references) (take-suc-set rs (k + i) more.reference (omega (arith, p.long)) ∙ ap (λ (xs : List ℕ). xs ++ (more.reference ∷ [])) p.references);
        long = ap length q.references ∙ simp length-set p.long;
      }

  -- how many gates there are, and that the table is as long as it was
  pub room : (N : ℕ) → Orderly N add → {k : ℕ} {t₀ t rs : List ℕ} {b : Builder} → At add rule g x step k t₀ b t rs → 8 * g + 8 * length x.gates + 24 * b.step ≤ length t₀
      → (b.next ≤ g + length x.gates + 3 * b.step) × (length t ≡ length t₀)
  room N orderly {k} {t₀} {t} {rs} {b} p l =
      let f = gates_few add rule g x step N orderly b.step in
      (omega (arith, p.next, f), ap length p.table ∙ length_with_gates t₀ g (built add rule g x step b.step).gates (omega (arith, f)))

-- before the first step
pub at_start : {add : Adding} {rule : ℕ → Rule} {step : ℕ → Step} (k : ℕ) (t rs : List ℕ) → length rs ≡ 1024
    → At add rule 0 (record { references = take k rs; gates = [] }) step k t (record { next = 0; step = 0 }) t rs
unfolding built
at_start k t rs long =
    let e : k + 0 ≡ k = omega arith in
    record { next = refl; table = sym (with_gates_none t 0); references = ap (λ (n : ℕ). take n rs) e; long = long }

-- after the last one
pub at_end : {add : Adding} {rule : ℕ → Rule} {x : Build} {step : ℕ → Step} {k s : ℕ} {t₀ t rs : List ℕ} {b : Builder}
    → At add rule 0 x step k t₀ b t rs → b.step ≡ s → StepsBuilt (built add rule 0 x step s) (k + s) t₀ b.next t rs
at_end p e =
    rw (← e) (record { count = omega (arith, p.next); references = p.references; table = p.table })

-- the build by the literals of A and of B is document 01's
pub plain_by_literals : (h : ℕ) (a b steps rs : List ℕ) → ((i : ℕ) → i < step_count steps → (step_at steps i).pivot < 8 * h) → rs ≡ input_references (records (2 * h) a) (records (2 * h) b)
    → built (plain (8 * h)) (rule_by h (record { of_a = literals_of h a; of_b = literals_of h b })) 0 (record { references = rs; gates = [] }) (step_at steps) (step_count steps) ≡ plain_build h a b steps
unfolding plain_build
plain_by_literals h a b steps rs small e =
    rw e
    (built_same (plain (8 * h)) (rule_by h (record { of_a = literals_of h a; of_b = literals_of h b })) (symmetric_rule h a b) 0 _ (step_at steps) (step_count steps)
    (λ i l. rule_by_literals h a b (step_at steps i).pivot (small i l)))

-- with the reference of the root
pub builds_by : (x y : Build) (k root : ℕ) (t : List ℕ) (count : ℕ) (t' rs' : List ℕ) → StepsBuilt x k t count t' rs' → x ≡ y → root < k
    → (reference : ℕ) → reference ≡ get_or rs' root 0 → Builds y root t (record { reference = reference; count = count }) t'
builds_by x y k root t count t' rs' p e l reference r =
    rw (← e)
    (record {
      reference = r ∙ sym (get_or-take k rs' root 0 l) ∙ ap (λ (xs : List ℕ). get_or xs root 0) p.references;
      count = p.count;
      table = p.table;
    })

-- a refusal's answer
abbrev pub refused_with : Verdict → Answer
refused_with v = record { number = v.number; place = v.place; root = 0; count = 0 }

pub answers_refused : (c : Checked) (o : Outcome) (w g : List ℕ) (v : Verdict) → c ≡ refusal o g → v.number ≡ o.number → v.place ≡ o.place → w ≡ o.work → Checks c (refused_with v) w g
answers_refused c o w g v e n p work =
    rw e
    (record {
      number = n;
      place = p;
      root = refl;
      count = refl;
      work = work;
      gates = refl;
    })

-- the check's answers, stage by stage
module _ (h most : ℕ) (a b steps work gates : List ℕ) where
  pub tables_refused : (v : Verdict) → Says (first_failed (table_tests h most a b steps)) v → (v.number ≡ 0 → ⊥) → Checks (plain_checked h most a b steps work gates) (refused_with v) work gates
  tables_refused v says n =
      answers_refused (plain_checked h most a b steps work gates) (judged (first_failed (table_tests h most a b steps)) work) work gates v
      (tables_refuse h most a b steps work gates (λ e. n (says.number ∙ e))) says.number says.place refl

  module _ (t : Verdict) (tables-say : Says (first_failed (table_tests h most a b steps)) t) (tables-zero : t.number ≡ 0) where
    tables_pass : Passed (table_tests h most a b steps)
    tables_pass = none_passed (table_tests h most a b steps) (tables_numbered h most a b steps) (sym tables-say.number ∙ tables-zero)

    pub room_refused : (v : Verdict) → Says (first_failed (room_tests h steps work)) v → (v.number ≡ 0 → ⊥) → Checks (plain_checked h most a b steps work gates) (refused_with v) work gates
    room_refused v says n =
        answers_refused (plain_checked h most a b steps work gates) (judged (first_failed (room_tests h steps work)) work) work gates v
        (room_refuses h most a b steps work gates tables_pass (λ e. n (says.number ∙ e))) says.number says.place refl

    module _ (u : Verdict) (room_says : Says (first_failed (room_tests h steps work)) u) (room-zero : u.number ≡ 0) where
      room_pass : Passed (room_tests h steps work)
      room_pass = none_passed (room_tests h steps work) (room_numbered h steps work) (sym room_says.number ∙ room-zero)

      pub gate_room_refused : length gates < 24 * step_count steps → Checks (plain_checked h most a b steps work gates) (record { number = 6; place = 0; root = 0; count = 0 }) work gates
      gate_room_refused l =
          answers_refused (plain_checked h most a b steps work gates) (judged (record { number = 6; place = 0 }) work) work gates (record { number = 6; place = 0 })
          (gate_room_refuses h most a b steps work gates tables_pass room_pass l) refl refl refl

      module _ (gate-room : 24 * step_count steps ≤ length gates) (last : List ℕ) (v : Verdict) (derives : Derives (derived h most a b steps work) last v) where
        pub derivation_refused : (v.number ≡ 0 → ⊥) → Checks (plain_checked h most a b steps work gates) (refused_with v) last gates
        derivation_refused n =
            answers_refused (plain_checked h most a b steps work gates) (derived h most a b steps work) last gates v
            (derivation_refuses h most a b steps work gates tables_pass room_pass gate-room (λ e. n (derives.number ∙ e))) derives.number derives.place derives.work

        pub build_answers : v.number ≡ 0 → (built-is : Built) (g : List ℕ) → Builds (plain_build h a b steps) v.place gates built-is g
            → Checks (plain_checked h most a b steps work gates) (record { number = 0; place = v.place; root = built-is.reference; count = built-is.count }) last g
        unfolding plain_accepted
        build_answers e built-is g builds =
            rw (derivation_accepts h most a b steps work gates tables_pass room_pass gate-room (sym derives.number ∙ e))
            (record {
              number = refl;
              place = derives.place;
              root = builds.reference ∙ ap (λ (k : ℕ). get_or (plain_build h a b steps).references k 0) derives.place;
              count = builds.count;
              work = derives.work;
              gates = builds.table;
            })

  -- what the build asks for
  pub buildable : (last : List ℕ) (v : Verdict) → Derives (derived h most a b steps work) last v → v.number ≡ 0 → most ≤ 1024 → 24 * step_count steps ≤ length gates
      → Buildable h (inputs h a b) steps gates × (v.place < inputs h a b + step_count steps)
  buildable last v derives e few gate-room =
      let accepted = acceptance h most a b steps work (sym derives.number ∙ e) in (
        record {
          few = omega (arith, accepted.sizes.few);
          room = gate-room;
          pivots = pivots_small h a b (derived h most a b steps work).work (step_at steps) (step_count steps) accepted.derivation_is;
          lefts = λ i l. (accepted.derivation_is.by_rule i l).left_earlier;
          rights = λ i l. (accepted.derivation_is.by_rule i l).right_earlier;
        },
        omega (arith, accepted.root_in, derives.place),
      )

-- the symmetric rule, case by case
pub rule_both : (a b : Bool) → a && b ≡ true → symmetric a b ≡ Both
rule_both true true e = refl
rule_both true false e = absurd (true≢false (sym e))
rule_both false b e = absurd (true≢false (sym e))

pub rule_join : (a b : Bool) → a && b ≡ false → a ≡ true → symmetric a b ≡ One Or
rule_join true true e f = absurd (true≢false e)
rule_join true false e f = refl
rule_join false b e f = absurd (true≢false (sym f))

pub rule_meet : (a b : Bool) → a ≡ false → symmetric a b ≡ One And
rule_meet true b e = absurd (true≢false e)
rule_meet false b e = refl
