-- What is told while a file's rows are added and its edges joined, and what holds of the sheet meanwhile.
--   row_told v o       what is told of the row o with index v
--   edge_reason ts     why a body entry is wrong, where joining its edge is told by ts
--   Listing bs i n     each edge of n is one of the first i of a body, and those ascend
use Rattle.std.specs.Prelude.{◌≡◌, ℕ, ◌<◌, true, cond, List, ◌==◌, slice_index}
use Rattle.refusals.specs.declared.Reason.{Reason}
use Rattle.refusals.specs.declared.Reason.TheVariants.{AboveLimit, NoOperator, NotUpward, NotAscending}
use Rattle.refusals.specs.declared.Section.TheVariants as sections
use Rattle.refusals.specs.declared.Refusal.TheVariants.{BodyEntry}
use Rattle.refusals.specs.Told.{told, section_number}
use Rattle.sheet.specs.declared.operators.Operator.{Operator}
use Rattle.sheet.specs.Changes.{unless, within}
use Rattle.sheet.specs.Nets.{Net, Edge}
use Rattle.sheet_layout.specs.Bodies.{from, to, ascends}

abbrev pub row_told : ℕ → Operator → List ℕ
row_told v o = unless (within o) (told (BodyEntry (section_number sections.Operators) v AboveLimit))

abbrev pub edge_reason : List ℕ → Reason
edge_reason ts = cond (slice_index ts 0 == 4) NotUpward (cond (slice_index ts 0 == 5) NotAscending NoOperator)

pub record Listing (bs : List ℕ) (i : ℕ) (n : Net) : Type 0 where
  pub listed : (u v : ℕ) → Edge n u v → (j : ℕ) × (j < i) × (from bs j ≡ u) × (to bs j ≡ v)
  pub ascending : (j : ℕ) → j < i → ascends bs j ≡ true
