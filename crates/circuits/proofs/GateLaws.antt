-- The laws of gates and their bytes: what was written reads back, whatever follows, and what one writes after another.
use Rattle.std.proofs.Common.{◌≡◌, ℕ, zero, suc, ◌+◌, ◌*◌, ◌/◌, ◌%◌, ◌<◌, ◌≤◌, true, List, [], ◌∷◌, ◌++◌, length, get_or, take, drop, set, sym, refl, ap, ◌∙◌, ap₂, append_assoc, add-zero, add_assoc, arith, length-append, length-drop, take-append-drop, length-take, length-take-le, drop-drop, take_at, drop_at, le-ltb, lt-ltb}
use Rattle.std.specs.Int.{w32, to_le_bytes}
use native.Mathlib.Numerals.{towards_suc}
use lib.Seq.{sets-eq}
use Rattle.records.specs.Table.{record_at, records}
use Rattle.records.proofs.TableLaws.{record_at_in}
use Rattle.circuits.specs.Gate.{Gate, gate_bytes, gates_bytes, gate_of, gate_at, spare_of, spare_at, gates_of, over, with_gates, gate_written}
use Rattle.records.proofs.ListLaws.{tabulate_members}

-- one gate
pub gate_back : (g : Gate) → gate_of (gate_bytes g) ≡ g
gate_back g =
    let l : g.left % 256 + 256 * (g.left / 256) ≡ g.left = omega arith in
    let r : g.right % 256 + 256 * (g.right / 256) ≡ g.right = omega arith in
    ap₂ (λ (x y : ℕ). record { kind = g.kind; left = x; right = y }) l r

-- the bytes of several gates
pub length_gates_bytes : (gs : List Gate) → length (gates_bytes gs) ≡ 8 * length gs
unfolding gates_bytes
length_gates_bytes [] = refl
length_gates_bytes (g ∷ gs) = omega (arith, length-append (gate_bytes g) (gates_bytes gs), length_gates_bytes gs)

pub gates_bytes_append : (gs hs : List Gate) → gates_bytes (gs ++ hs) ≡ gates_bytes gs ++ gates_bytes hs
unfolding gates_bytes
gates_bytes_append [] hs = refl
gates_bytes_append (g ∷ gs) hs = rw (gates_bytes_append gs hs) (sym (append_assoc (gate_bytes g) (gates_bytes gs) (gates_bytes hs)))

-- the record of gate k, whatever follows the gates
pub record_gates_bytes : (gs : List Gate) (rest : List ℕ) (d : Gate) (k : ℕ) → k < length gs → record_at 8 (gates_bytes gs ++ rest) k ≡ gate_bytes (get_or gs k d)
unfolding gates_bytes
record_gates_bytes gs rest d k l =
    record_at_in 8 (gates_bytes gs ++ rest) k (omega (arith, length-append (gates_bytes gs) rest, length_gates_bytes gs)) ∙ go gs k l
  where
    go : (gs : List Gate) (k : ℕ) → k < length gs → take 8 (drop (8 * k) (gates_bytes gs ++ rest)) ≡ gate_bytes (get_or gs k d)
    go [] k l = absurd (omega arith)
    go (g ∷ gs) zero l = refl
    go (g ∷ gs) (suc k) l =
        let e : 8 * suc k ≡ 8 + 8 * k = omega arith in
        rw (e, ← drop-drop (8 * k) 8 (gate_bytes g ++ gates_bytes gs ++ rest)) (go gs k (omega arith))

pub gate_at_gates_bytes : (gs : List Gate) (rest : List ℕ) (d : Gate) (k : ℕ) → k < length gs → gate_at (gates_bytes gs ++ rest) k ≡ get_or gs k d
unfolding gate_at
gate_at_gates_bytes gs rest d k l = ap gate_of (record_gates_bytes gs rest d k l) ∙ gate_back (get_or gs k d)

pub spare_at_gates_bytes : (gs : List Gate) (rest : List ℕ) (k : ℕ) → k < length gs → spare_at (gates_bytes gs ++ rest) k ≡ true
unfolding spare_at
spare_at_gates_bytes gs rest k l = ap spare_of (record_gates_bytes gs rest (record { kind = 0; left = 0; right = 0 }) k l)

pub gates_of_gates_bytes : (gs : List Gate) (rest : List ℕ) → gates_of (gates_bytes gs ++ rest) (length gs) ≡ gs
unfolding gates_of
gates_of_gates_bytes gs rest =
    tabulate_members gs (gate_at (gates_bytes gs ++ rest)) (record { kind = 0; left = 0; right = 0 }) (λ k l. gate_at_gates_bytes gs rest (record { kind = 0; left = 0; right = 0 }) k l)

-- a table that is written over
pub length_over : (t : List ℕ) (start : ℕ) (bytes : List ℕ) → start + length bytes ≤ length t → length (over t start bytes) ≡ length t
unfolding over
length_over t start bytes p = simp (length-append, length-drop, length-take) (omega arith)

pub over_nothing : (t : List ℕ) (start : ℕ) → over t start [] ≡ t
unfolding over
over_nothing t start = rw (add-zero start) (take-append-drop start t)

pub over_start : (t bytes : List ℕ) → over t 0 bytes ≡ bytes ++ drop (0 + length bytes) t
unfolding over
over_start t bytes = refl

-- bytes written after what was written
pub over_over : (t : List ℕ) (start : ℕ) (xs ys : List ℕ) → start + length xs ≤ length t → over (over t start xs) (start + length xs) ys ≡ over t start (xs ++ ys)
unfolding over
over_over t start xs ys p =
    let e : length (take start t ++ xs) ≡ start + length xs = length-append (take start t) xs ∙ ap (λ (k : ℕ). k + length xs) (length-take-le start t (omega arith)) in
    rw (
      ← append_assoc (take start t) xs (drop (start + length xs) t),
      ← drop-drop (length ys) (start + length xs) (take start t ++ xs ++ drop (start + length xs) t),
      take_at (take start t ++ xs) (drop (start + length xs) t) (start + length xs) e,
      drop_at (take start t ++ xs) (drop (start + length xs) t) (start + length xs) e,
      drop-drop,
      length-append,
      add_assoc,
    )
    (simp append_assoc)

-- four stores in a row
pub stores : (t : List ℕ) (start a b c d : ℕ) → start + 4 ≤ length t
    → set (set (set (set t start a) (start + 1) b) (start + 2) c) (start + 3) d ≡ over t start (a ∷ (b ∷ (c ∷ (d ∷ []))))
unfolding over
stores t start a b c d p = simp towards_suc (simp (towards_suc, append_assoc) at (sets-eq (a ∷ b ∷ c ∷ d ∷ []) t start p))

-- gates written behind n gates
pub length_with_gates : (t : List ℕ) (n : ℕ) (gs : List Gate) → 8 * (n + length gs) ≤ length t → length (with_gates t n gs) ≡ length t
length_with_gates t n gs p = length_over t (8 * n) (gates_bytes gs) (omega (arith, length_gates_bytes gs))

pub with_gates_more : (t : List ℕ) (n : ℕ) (gs hs : List Gate) → 8 * (n + length gs) ≤ length t → with_gates (with_gates t n gs) (n + length gs) hs ≡ with_gates t n (gs ++ hs)
with_gates_more t n gs hs p =
    let e : 8 * (n + length gs) ≡ 8 * n + length (gates_bytes gs) = omega (arith, length_gates_bytes gs) in
    rw (e, over_over t (8 * n) (gates_bytes gs) (gates_bytes hs) (rw (← e) p), gates_bytes_append gs hs) refl

pub with_gates_none : (t : List ℕ) (n : ℕ) → with_gates t n [] ≡ t
unfolding gates_bytes
with_gates_none t n = over_nothing t (8 * n)

-- gates written from the start of a table are its first gates
pub gates_of_written : (t : List ℕ) (gs : List Gate) → gates_of (with_gates t 0 gs) (length gs) ≡ gs
gates_of_written t gs =
    ap (λ (bytes : List ℕ). gates_of bytes (length gs)) (over_start t (gates_bytes gs))
    ∙ gates_of_gates_bytes gs (drop (0 + length (gates_bytes gs)) t)

pub bytes_written : (t : List ℕ) (gs : List Gate) → take (8 * length gs) (with_gates t 0 gs) ≡ gates_bytes gs
bytes_written t gs =
    ap (take (8 * length gs)) (over_start t (gates_bytes gs)) ∙ take_at (gates_bytes gs) (drop (0 + length (gates_bytes gs)) t) (8 * length gs) (length_gates_bytes gs)

-- and nothing behind them changes
pub rest_unchanged : (t : List ℕ) (gs : List Gate) → drop (8 * length gs) (with_gates t 0 gs) ≡ drop (8 * length gs) t
rest_unchanged t gs =
    ap (drop (8 * length gs)) (over_start t (gates_bytes gs))
    ∙ drop_at (gates_bytes gs) (drop (0 + length (gates_bytes gs)) t) (8 * length gs) (length_gates_bytes gs)
    ∙ (let e : 0 + length (gates_bytes gs) ≡ 8 * length gs = omega (arith, length_gates_bytes gs) in ap (λ (n : ℕ). drop n t) e)

-- a gate's bytes as two numbers of four
gate_fours : (k l r : ℕ) → k < 256 → l < 65536 → r < 65536 → to_le_bytes w32 (k + 65536 * l) ++ to_le_bytes w32 r ≡ gate_bytes (record { kind = k; left = l; right = r })
gate_fours k l r a b c =
    let kind : (k + 65536 * l) % 256 ≡ k = omega arith in
    let spare : (k + 65536 * l) / 256 % 256 ≡ 0 = omega arith in
    let low : (k + 65536 * l) / 65536 % 256 ≡ l % 256 = omega arith in
    let high : (k + 65536 * l) / 16777216 % 256 ≡ l / 256 = omega arith in
    let right : r / 256 % 256 ≡ r / 256 = omega arith in
    let none : r / 65536 % 256 ≡ 0 = omega arith in
    let last : r / 16777216 % 256 ≡ 0 = omega arith in
    rw (kind, spare, low, high, right, none, last) refl

pub written_fours : (t : List ℕ) (n k l r : ℕ) → k < 256 → l < 65536 → r < 65536 → 8 * n + 8 ≤ length t
    → over (over t (8 * n) (to_le_bytes w32 (k + 65536 * l))) (8 * n + 4) (to_le_bytes w32 r) ≡ with_gates t n (record { kind = k; left = l; right = r } ∷ [])
unfolding gates_bytes
written_fours t n k l r a b c p =
    over_over t (8 * n) (to_le_bytes w32 (k + 65536 * l)) (to_le_bytes w32 r) (omega arith) ∙ ap (over t (8 * n)) (gate_fours k l r a b c)

-- one gate written into a table: where there is room it is there, and else nothing changes
pub written_in : (t : List ℕ) (k : ℕ) (g : Gate) → 8 * k + 8 ≤ length t → gate_written t k g ≡ with_gates t k (g ∷ [])
unfolding gate_written
written_in t k g l = rw (lt-ltb k (records 8 t) (omega arith)) refl

pub written_out : (t : List ℕ) (k : ℕ) (g : Gate) → length t < 8 * k + 8 → gate_written t k g ≡ t
unfolding gate_written
written_out t k g l = rw (le-ltb k (records 8 t) (omega arith)) refl
