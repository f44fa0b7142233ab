-- The sheet that a text says, or its first bad line.
--   item_refusal n i, with_item n i   what is told of the call that the item i makes of the sheet n, and where it leads if it is granted
--   Fault               why a line is bad, a refusal by what is told of it
--   told_cause c        the same of a cause
--   unless_told ts n    the sheet n where nothing is told, else the refusal that ts tells
--   after_item n r      the sheet n with the item that a line says, or its slip
--   after_line n line   the sheet n with what the line says, or why the line is bad
--   and_then i r f      f of the sheet that r gives, or why line i is bad
--   after_lines i n ls  the sheet n with what the lines say, counted from i, or the first bad one with its number
--   lines t             the lines of a text: what stands between line feeds
--   sheet_of t          the sheet that the text t says, or its first bad line
--   told_reading r      the same of what reading a text answers
use Rattle.std.specs.Prelude.{ℕ, ◌+◌, ◌==◌, List, [], ◌∷◌, Option, Some, None, Result, Ok, Err}
use Rattle.std.specs.List.{slice_split}
use Rattle.refusals.specs.Told.{told}
use Rattle.sheet.specs.Changes.{add_refusal, added, join_refusal, joined, count_refusal, counted}
use Rattle.sheet.specs.Nets.{Net, empty}
use Rattle.sheet.specs.declared.sheets.Sheet.{Sheet}
use Rattle.sheet.specs.Views.{net}
use Rattle.sheet_text.specs.declared.causes.Slip.{Slip}
use Rattle.sheet_text.specs.declared.causes.Cause.{Cause}
use Rattle.sheet_text.specs.declared.causes.Cause.TheVariants as causes
use Rattle.sheet_text.specs.declared.causes.BadLine.{BadLine}
use Rattle.sheet_text.specs.declared.items.Item.{Item}
use Rattle.sheet_text.specs.declared.items.Item.TheVariants.{Operator, Edge, Counts}
use Rattle.sheet_text.specs.Fields.{said, fields}
use Rattle.sheet_text.specs.Items.{item_of}

abbrev pub item_refusal : Net → Item → List ℕ
item_refusal n (Operator o) = add_refusal n o
item_refusal n (Edge u v) = join_refusal n u v
item_refusal n (Counts k l) = count_refusal k l

abbrev pub with_item : Net → Item → Net
with_item n (Operator o) = added n o
with_item n (Edge u v) = joined n u v
with_item n (Counts k l) = counted n k l

pub data Fault : Type 0 where
  slip : Slip → Fault
  refused : List ℕ → Fault

abbrev pub told_cause : Cause → Fault
told_cause (causes.Slip s) = slip s
told_cause (causes.Refused r) = refused (told r)

abbrev pub unless_told : List ℕ → Net → Result Net Fault
unless_told [] n = Ok n
unless_told (t ∷ ts) n = Err (refused (t ∷ ts))

abbrev pub after_item : Net → Result (Option Item) Slip → Result Net Fault
after_item n (Err s) = Err (slip s)
after_item n (Ok None) = Ok n
after_item n (Ok (Some i)) = unless_told (item_refusal n i) (with_item n i)

unfoldable pub after_line : Net → List ℕ → Result Net Fault
after_line n line = after_item n (item_of (fields (said line)))

abbrev pub and_then : ℕ → Result Net Fault → (Net → Result Net (ℕ × Fault)) → Result Net (ℕ × Fault)
and_then i (Ok n) f = f n
and_then i (Err e) f = Err (i, e)

unfoldable pub after_lines : ℕ → Net → List (List ℕ) → Result Net (ℕ × Fault)
after_lines i n [] = Ok n
after_lines i n (line ∷ ls) = and_then i (after_line n line) (λ m. after_lines (i + 1) m ls)

abbrev pub lines : List ℕ → List (List ℕ)
lines t = slice_split (λ b. b == 10) t

abbrev pub sheet_of : List ℕ → Result Net (ℕ × Fault)
sheet_of t = after_lines 1 empty (lines t)

abbrev pub told_reading : Result Sheet BadLine → Result Net (ℕ × Fault)
told_reading (Ok s) = Ok (net s)
told_reading (Err b) = Err (b.line, told_cause b.cause)
