-- What the two tables hold.
--   cell k l i a b     where the cell of ideal i with a devices of kind 1 and b of kind 2 stands
--   cells_of k l n     how many cells n ideals have
--   cells_fit          the cells of n ideals are not more than the ratings and the choices
--   fill_refusal       why the cells of n ideals are not filled: too many ideals, then too few cells
--   chosen c           the choice that a candidate is written as, ideal 0 and kind 0 where there is none
--   shown s c          the cell that a candidate is written as: its rating, or start where there is none
--   reached e i n      the cell of ideal i after the first n ideals were offered to it
--   Filled e k l n t   the rows of the first n ideals are as the recurrence has them
--   Passed             each cell is as the recurrence has it, and what lies beyond the cells is as it was
use Rattle.std.specs.Prelude.{◌≡◌, ℕ, ◌+◌, ◌*◌, ◌<◌, ◌≤◌, Bool, ◌&&◌, List, length, drop, Some, None, Option, nat_le, slice_index_or}
use Rattle.refusals.specs.declared.Refusal.TheVariants.{TooManyIdeals, TooFewCells}
use Rattle.refusals.specs.Told.{told}
use Rattle.sheet.specs.Changes.{unless, first}
use Rattle.scale.specs.Rules.{Rules}
use Rattle.ideals.specs.Ideals.{most_ideals}
use Rattle.recurrence.specs.Table.{one, two, number, Candidate, Setting, among, cut, best, less_one, less_two, pick}
use Rattle.cells.specs.declared.choices.Choice.{Choice}
use Rattle.cells.specs.Cells.{Cell, no_choice, clear_cell}
use Rattle.cells.specs.Rows.{width_of, place}

abbrev pub cell : ℕ → ℕ → ℕ → ℕ → ℕ → ℕ
cell k l i a b = (i * (k + 1) + a) * (l + 1) + b

abbrev pub cells_of : ℕ → ℕ → ℕ → ℕ
cells_of k l n = n * (k + 1) * (l + 1)

abbrev pub cells_fit : ℕ → ℕ → ℕ → ℕ → ℕ → Bool
cells_fit k l n ratings choices = nat_le (cells_of k l n) ratings && nat_le (cells_of k l n) choices

abbrev pub fill_refusal : ℕ → ℕ → ℕ → ℕ → ℕ → List ℕ
fill_refusal k l n ratings choices = first (unless (nat_le n most_ideals) (told TooManyIdeals)) (unless (cells_fit k l n ratings choices) (told TooFewCells))

abbrev pub chosen : {R : Type 0} → Option (Candidate R) → Choice
chosen None = no_choice
chosen (Some c) = record { ideal = c.origin; kind = number c.kind }

abbrev pub shown : {R : Type 0} → Rules R → Option (Candidate R) → Cell R
shown s None = clear_cell s
shown s (Some c) = record { rating = c.rating; choice = chosen (Some c) }

abbrev pub or_start : {R : Type 0} → Rules R → Option R → R
or_start s None = s.start
or_start s (Some r) = r

module _ {R : Type 0} (e : Setting R) where
  abbrev pub reached : ℕ → ℕ → ℕ → ℕ → Cell R → Cell R
  reached i n a b c = shown e.rules (among e.rules (less_one e a b) (less_two e a b) (cut e one a b i) (cut e two a b i) n)

  abbrev pub Filled : ℕ → ℕ → ℕ → (ℕ → Cell R) → Type 0
  Filled k l n t = (i a b : ℕ) → i < n → a < k + 1 → b ≤ l → t (i * width_of k l + place l a b) ≡ shown e.rules (pick e a b i)

  -- rs and cs are the tables before, rs' and cs' after
  pub record Passed (k l : ℕ) (rs : List R) (cs : List Choice) (rs' : List R) (cs' : List Choice) : Type 0 where
    pub ratings : (i a b : ℕ) → i < length e.ideals → a ≤ k → b ≤ l → slice_index_or rs' (cell k l i a b) e.rules.start ≡ or_start e.rules (best e a b i)
    pub choices : (i a b : ℕ) → i < length e.ideals → a ≤ k → b ≤ l → slice_index_or cs' (cell k l i a b) no_choice ≡ chosen (pick e a b i)
    pub more_ratings : drop (cells_of k l (length e.ideals)) rs' ≡ drop (cells_of k l (length e.ideals)) rs
    pub more_choices : drop (cells_of k l (length e.ideals)) cs' ≡ drop (cells_of k l (length e.ideals)) cs
