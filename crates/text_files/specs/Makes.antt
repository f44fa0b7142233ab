-- What making a sheet file of a text does.
--   most_file             the most bytes of a sheet file: 20 before the bodies, 16 for each of 64 operators, 2 for each of 2,016 edges, and 2 of the counts
--   Makes t old new len   the file of the sheet that the text t says, len bytes long, stands at the front of the buffer
--   Refuses t old new b   b is the first bad line of t, and the buffer stays as it is
use Rattle.std.specs.Prelude.{◌≡◌, ℕ, List, Ok, Err}
use Rattle.sheet.specs.Nets.{Net}
use Rattle.sheet_text.specs.declared.causes.BadLine.{BadLine}
use Rattle.sheet_text.specs.Reading.{sheet_of, told_cause}
use Rattle.sheet_writer.specs.Writes.{Writes}

abbrev pub most_file : ℕ
most_file = 5078

abbrev pub Makes : List ℕ → List ℕ → List ℕ → ℕ → Type 0
Makes t old new len = (n : Net) × (sheet_of t ≡ Ok n) × Writes n old new len

abbrev pub Refuses : List ℕ → List ℕ → List ℕ → BadLine → Type 0
Refuses t old new b = (sheet_of t ≡ Err (b.line, told_cause b.cause)) × (new ≡ old)
