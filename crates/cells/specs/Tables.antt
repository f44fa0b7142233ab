-- The two tables that a caller lends, as one plain table of cells.
--   table s t              the cells of the tables t
--   HasCells t n           there are n cells or more
--   holds_row t at w       the row of w cells at place at lies within the tables
--   holds_rows t f at w    so it does, and the row at f ends before it begins
--   row_error, rows_error  which part of that does not hold, if any: the first of them
--   SameTables t t'        t' are the slices that t were, and as long
--   TablesTurn s t t' g    the cells of t' are g of those of t
use Rattle.std.specs.Prelude.{◌≡◌, ℕ, ◌+◌, ◌≤◌, Bool, cond, length, nat_le, Some, None, Option}
use Rattle.scale.specs.Rules.{Rules}
use Rattle.cells.specs.declared.tables.Tables.{Tables}
use Rattle.cells.specs.declared.row_errors.RowError.{RowError}
use Rattle.cells.specs.declared.row_errors.RowError.TheVariants.{Overlaps, PastRatings, PastChoices}
use Rattle.cells.specs.Cells.{Cell, cell_at, Turns}
use Rattle.cells.specs.Rows.{row_fits, rows_fit}

abbrev pub table : {R : Type 0} → Rules R → Tables R → ℕ → Cell R
table s t = cell_at s t.ratings.now t.choices.now

abbrev pub HasCells : {R : Type 0} → Tables R → ℕ → Type 0
HasCells t n = (n ≤ length t.ratings.now) × (n ≤ length t.choices.now)

abbrev pub holds_row : {R : Type 0} → Tables R → ℕ → ℕ → Bool
holds_row t at w = row_fits at w (length t.ratings.now) (length t.choices.now)

abbrev pub holds_rows : {R : Type 0} → Tables R → ℕ → ℕ → ℕ → Bool
holds_rows t f at w = rows_fit f at w (length t.ratings.now) (length t.choices.now)

abbrev pub row_error : {R : Type 0} → Tables R → ℕ → ℕ → Option RowError
row_error t at w =
    cond (nat_le (at + w) (length t.ratings.now))
    (cond (nat_le (at + w) (length t.choices.now)) None (Some PastChoices))
    (Some PastRatings)

abbrev pub rows_error : {R : Type 0} → Tables R → ℕ → ℕ → ℕ → Option RowError
rows_error t f at w = cond (nat_le (f + w) at) (row_error t at w) (Some Overlaps)

pub record SameTables {R : Type 0} (t t' : Tables R) : Type 0 where
  pub ratings : t'.ratings.ghost_name ≡ t.ratings.ghost_name
  pub choices : t'.choices.ghost_name ≡ t.choices.ghost_name
  pub ratings_length : length t'.ratings.now ≡ length t.ratings.now
  pub choices_length : length t'.choices.now ≡ length t.choices.now

abbrev pub TablesTurn : {R : Type 0} → Rules R → Tables R → Tables R → ((ℕ → Cell R) → ℕ → Cell R) → Type 0
TablesTurn s t t' g = Turns s t.ratings.now t.choices.now t'.ratings.now t'.choices.now g
