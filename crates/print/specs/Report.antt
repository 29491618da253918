-- The program's text, by the bytes of the three files. A file that can't be read counts as one that is longer: document 01 gives both the same line.
use Rattle.std.specs.Prelude.{ℕ, ◌≤◌, ◌≡◌, cond, List, [], ◌∷◌, length, replicate, eqb, leb, Result, Ok, Err, ⊤}
use Rattle.records.specs.Tests.{Verdict, Test, test, first_failed}
use Rattle.circuits.specs.Check.{Checked, plain_checked}
use Rattle.print.specs.declared.report.File.{File}
use Rattle.print.specs.declared.report.File.TheVariants.{A, B, Steps}
use Rattle.print.specs.Line.{answer_line, printed}

-- "at most 16,384, 16,384 and 2,048 bytes .. The first one, in that order, that can't be read or is longer gives the one line `30 f 0 0`, f = 1, 2 or 3."
unfoldable pub file_tests : List ℕ → List ℕ → List ℕ → List Test
file_tests a b steps =
    test (leb (length a) 16384) 30 1
    ∷ (test (leb (length b) 16384) 30 2
    ∷ (test (leb (length steps) 2048) 30 3
    ∷ []))

-- the f of a refused file's line
abbrev pub file_place : File → ℕ
file_place A = 1
file_place B = 2
file_place Steps = 3

-- number and place of the file that is refused; 0 and 0 where none is
abbrev pub file_verdict : Result ⊤ File → Verdict
file_verdict (Ok _) = record { number = 0; place = 0 }
file_verdict (Err file) = record { number = 30; place = file_place file }

-- "its own work and gate tables"
unfoldable pub own_work : List ℕ
own_work = replicate 16384 0

unfoldable pub own_gates : List ℕ
own_gates = replicate 6144 0

-- the check over the three files
unfoldable pub files_checked : List ℕ → List ℕ → List ℕ → Checked
files_checked a b steps = plain_checked 32 1024 a b steps own_work own_gates

-- "its own work and gate tables always suffice for these": neither 4, nor 5, nor 6 is the check's number
abbrev pub NoLimitMet : ℕ → Type 0
NoLimitMet number = (number ≡ 4 → ⊥) × (number ≡ 5 → ⊥) × (number ≡ 6 → ⊥)

abbrev pub OwnTablesSuffice : Type 0
OwnTablesSuffice = (a b steps : List ℕ) → length a ≤ 16384 → length b ≤ 16384 → length steps ≤ 2048 → NoLimitMet (files_checked a b steps).number

-- a file's refusal, or else the outcome of the check
unfoldable pub answered : Verdict → Checked → List ℕ
answered v o = cond (eqb v.number 0) (printed o) (answer_line v.number v.place 0 0)

-- all that the program writes
unfoldable pub report_text : List ℕ → List ℕ → List ℕ → List ℕ
report_text a b steps = answered (first_failed (file_tests a b steps)) (files_checked a b steps)
