-- Uniqueness: two outcomes that meet the promise of a function are equal. Each theorem speaks of exactly what the contract says, or of the definition under it.
use Prim.Native.Nat.{ℕ, ◌+◌}
use native.Mathlib.Omega.{arith}
use mathlib.Core.Path.{◌≡◌, refl, sym, ap, ◌∙◌}
use mathlib.Core.List.{List}
use lib.IntN.{ℤ}
use Rattle.records.specs.Tests.{Verdict, first_failed, Says}
use Rattle.print.specs.File.{size_read, IsSize}
use Rattle.std.specs.Prelude.{⊤, Bool, Result, Ok, Err, Option, None, Some}
use Rattle.print.specs.declared.report.File.{File}
use Rattle.print.specs.declared.report.File.TheVariants.{A, B, Steps}
use Rattle.print.specs.Report.{file_place, file_verdict, file_tests, report_text}

-- what equals the same is equal
same : {A : Type 0} {x y z : A} → x ≡ z → y ≡ z → x ≡ y
same p q = p ∙ sym q

-- number and place say which file is refused
same_place : (f g : File) → file_place f ≡ file_place g → f ≡ g
same_place A A e = refl
same_place A B e = absurd (omega (arith, e))
same_place A Steps e = absurd (omega (arith, e))
same_place B A e = absurd (omega (arith, e))
same_place B B e = refl
same_place B Steps e = absurd (omega (arith, e))
same_place Steps A e = absurd (omega (arith, e))
same_place Steps B e = absurd (omega (arith, e))
same_place Steps Steps e = refl

same_file : (r r' : Result ⊤ File) → (file_verdict r).number ≡ (file_verdict r').number → (file_verdict r).place ≡ (file_verdict r').place → r ≡ r'
same_file (Ok x) (Ok y) n p = refl
same_file (Ok x) (Err g) n p = absurd (omega (arith, n))
same_file (Err f) (Ok y) n p = absurd (omega (arith, n))
same_file (Err f) (Err g) n p = ap Err (same_place f g p)

-- the whole text
pub report_unique : (a b steps r r' : List ℕ) → r ≡ report_text a b steps → r' ≡ report_text a b steps → r ≡ r'
report_unique a b steps r r' = same

pub test_files_unique : (a b steps : List ℕ) (r r' : Verdict) → Says (first_failed (file_tests a b steps)) r → Says (first_failed (file_tests a b steps)) r' → r ≡ r'
test_files_unique a b steps r r' p q = λ j. record { number = same p.number q.number j; place = same p.place q.place j }

pub refused_file_unique : (a b steps : List ℕ) (r r' : Result ⊤ File) → Says (first_failed (file_tests a b steps)) (file_verdict r) → Says (first_failed (file_tests a b steps)) (file_verdict r')
    → r ≡ r'
refused_file_unique a b steps r r' p q = same_file r r' (same p.number q.number) (same p.place q.place)

pub size_unique : (opened : Bool) (size : ℕ) (behind r r' : Option ℕ) → IsSize opened size behind r → IsSize opened size behind r' → r ≡ r'
size_unique opened size behind None None p q = refl
size_unique opened size behind None (Some n) p q = let e : n + 1 ≡ n = same (p (n + 1)) (q (n + 1)) in absurd (omega arith)
size_unique opened size behind (Some n) None p q = let e : n ≡ n + 1 = same (p (n + 1)) (q (n + 1)) in absurd (omega arith)
size_unique opened size behind (Some m) (Some n) p q = ap Some (same (p 0) (q 0))

pub file_size_unique : (longer size : ℕ) (file behind : ℤ) (r r' : ℕ) → r ≡ size_read longer file size behind → r' ≡ size_read longer file size behind → r ≡ r'
file_size_unique longer size file behind r r' = same
