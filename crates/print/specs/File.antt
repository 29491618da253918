-- A file's size, by the answers of the system: "can't be read or is longer".
use Rattle.std.specs.Prelude.{ℕ, Bool, true, false, cond, ℤ, pos, negsuc, eqb, ◌≡◌, Option, None, Some}
use Rattle.std.specs.Option.{unwrap_or}

-- the bytes read are all of the file where its open succeeds, 0 or more, and the read behind them answers 0, the end; else it counts as longer
unfoldable pub size_read : ℕ → ℤ → ℕ → ℤ → ℕ
size_read longer (negsuc e) size behind = longer
size_read longer (pos file) size (negsuc e) = longer
size_read longer (pos file) size (pos more) = cond (eqb more 0) size longer

-- what a read gives, so many bytes or a failure, as an answer of the system
abbrev pub read_answer : Option ℕ → ℤ
read_answer None = negsuc 0
read_answer (Some n) = pos n

-- what an open gives, a file or none, as an answer of the system
abbrev pub open_answer : Bool → ℤ
open_answer true = pos 0
open_answer false = negsuc 0

-- r is a file's size by its open, the bytes that were read and the read behind them, or none: where there is none it counts as longer, whatever stands for that
abbrev pub IsSize : Bool → ℕ → Option ℕ → Option ℕ → Type 0
IsSize opened size behind r = (longer : ℕ) → unwrap_or r longer ≡ size_read longer (open_answer opened) size (read_answer behind)
