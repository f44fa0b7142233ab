-- A row: the cells of one ideal, in lines of l + 1 cells, one line for each number of devices of kind 1.
--   width_of k l       how many cells a row has
--   place l a b        where in its row the cell of a devices of kind 1 and b of kind 2 stands
--   row l t table      the row that begins at place t
--   first j x from     what the row from, of ideal j, makes of a cell at a and b, with a stage of kind 1 that has the load x, if any
--   second             the same with kind 2
--   on w               the same with kind w
--   both               with kind 1, then kind 2
--   runs_of k l w      from which cells, and how far, a stage on kind w leads on in a row
--   Onto l n t g t₀ t₁ from t₀ to t₁ the first n lines of the row at t went by g, and no other cell changed
use Rattle.std.specs.Prelude.{◌≡◌, ℕ, zero, suc, ◌+◌, ◌*◌, ◌<◌, ◌≤◌, Bool, ◌&&◌, Some, None, Option, nat_le}
use Rattle.device.specs.Loads.{PlainLoad}
use Rattle.device.specs.declared.which_kinds.WhichKind.{WhichKind}
use Rattle.device.specs.declared.which_kinds.WhichKind.TheVariants.{First, Second}
use Rattle.scale.specs.Rules.{Rules}
use Rattle.cells.specs.declared.choices.Choice.{Choice}
use Rattle.cells.specs.declared.rows.Runs.{Runs}
use Rattle.cells.specs.Cells.{Cell, clear_cell, offered}

abbrev pub width_of : ℕ → ℕ → ℕ
width_of k l = (k + 1) * (l + 1)

abbrev pub place : ℕ → ℕ → ℕ → ℕ
place l a b = a * (l + 1) + b

abbrev pub runs_of : ℕ → ℕ → WhichKind → Runs
runs_of k l First = record { count = k; cells = l + 1; step = l + 1 }
runs_of k l Second = record { count = k + 1; cells = l; step = 1 }

abbrev pub by_first : ℕ → Choice
by_first j = record { ideal = j; kind = 1 }

abbrev pub by_second : ℕ → Choice
by_second j = record { ideal = j; kind = 2 }

abbrev pub row : {R : Type 0} → ℕ → ℕ → (ℕ → Cell R) → ℕ → ℕ → Cell R
row l t table a b = table (t + place l a b)

module _ {R : Type 0} (s : Rules R) where
  abbrev pub tried : Choice → Option PlainLoad → Cell R → Cell R → Cell R
  tried by None f c = c
  tried by (Some x) f c = offered s by x f c

  abbrev pub first : ℕ → Option PlainLoad → (ℕ → ℕ → Cell R) → ℕ → ℕ → Cell R → Cell R
  first j x from zero b c = c
  first j x from (suc a) b c = tried (by_first j) x (from a b) c

  abbrev pub second : ℕ → Option PlainLoad → (ℕ → ℕ → Cell R) → ℕ → ℕ → Cell R → Cell R
  second j x from a zero c = c
  second j x from a (suc b) c = tried (by_second j) x (from a b) c

  abbrev pub on : WhichKind → ℕ → Option PlainLoad → (ℕ → ℕ → Cell R) → ℕ → ℕ → Cell R → Cell R
  on First = first
  on Second = second

  abbrev pub both : ℕ → Option PlainLoad → Option PlainLoad → (ℕ → ℕ → Cell R) → ℕ → ℕ → Cell R → Cell R
  both j x y from a b c = second j y from a b (first j x from a b c)

  abbrev pub clear : ℕ → ℕ → Cell R → Cell R
  clear a b c = clear_cell s

pub record Onto {R : Type 0} (l n t : ℕ) (g : ℕ → ℕ → Cell R → Cell R) (t₀ t₁ : ℕ → Cell R) : Type 0 where
  pub here : (a b : ℕ) → a < n → b ≤ l → t₁ (t + place l a b) ≡ g a b (t₀ (t + place l a b))
  pub below : (c : ℕ) → c < t → t₁ c ≡ t₀ c
  pub above : (c : ℕ) → t + n * (l + 1) ≤ c → t₁ c ≡ t₀ c

-- a row of w cells at place t lies within ratings and choices of these lengths
abbrev pub row_fits : ℕ → ℕ → ℕ → ℕ → Bool
row_fits t w ratings choices = nat_le (t + w) ratings && nat_le (t + w) choices

-- so does the row at t, and the row at f ends before it begins
abbrev pub rows_fit : ℕ → ℕ → ℕ → ℕ → ℕ → Bool
rows_fit f t w ratings choices = nat_le (f + w) t && row_fits t w ratings choices
