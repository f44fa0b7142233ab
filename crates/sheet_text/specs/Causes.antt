-- The text of what is wrong with a line, as bytes.
--   slip_text s       what is wrong with a line by itself, in words
--   refused_text ts   a refusal, by what is told of it: its number and its values
--   cause_text c      what is wrong with a line by itself, or the refusal of its item
--   bad_line_text b   the number of the line, and its cause
use Rattle.std.specs.Prelude.{ℕ, List, ◌++◌, codes, decimal}
use Rattle.refusals.specs.Told.{told, spelled}
use Rattle.sheet_text.specs.declared.causes.Slip.{Slip}
use Rattle.sheet_text.specs.declared.causes.Slip.TheVariants.{UnknownItem, TooFewNumbers, TooManyNumbers, NotANumber, NumberTooLarge}
use Rattle.sheet_text.specs.declared.causes.Cause.{Cause}
use Rattle.sheet_text.specs.declared.causes.Cause.TheVariants as causes
use Rattle.sheet_text.specs.declared.causes.BadLine.{BadLine}

abbrev pub slip_text : Slip → List ℕ
slip_text UnknownItem = codes "unknown item"
slip_text TooFewNumbers = codes "too few numbers"
slip_text TooManyNumbers = codes "too many numbers"
slip_text NotANumber = codes "not a number"
slip_text NumberTooLarge = codes "number too large"

abbrev pub refused_text : List ℕ → List ℕ
refused_text ts = codes "refused " ++ spelled ts

abbrev pub cause_text : Cause → List ℕ
cause_text (causes.Slip s) = slip_text s
cause_text (causes.Refused r) = refused_text (told r)

abbrev pub bad_line_text : BadLine → List ℕ
bad_line_text b = codes "line " ++ (decimal b.line ++ (codes ": " ++ cause_text b.cause))
