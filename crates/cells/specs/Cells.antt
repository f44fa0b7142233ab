-- One cell of the two tables, and what offering candidates does to it.
--   Cell                  a rating, and the choice that it comes from
--   choice_of j w         the choice of a stage of kind w after ideal j
--   cell_at s rs cs k     cell k of the ratings rs and the choices cs
--   stands by c           a rating stands in the cell c of the ideal that the choice by names: its kind is not 0, or that ideal is the empty one
--   lowered s r by c      the cell c after the candidate r, by the choice by, was held against it
--   offered s by x f c    the cell c after the cell f was offered to it with a stage of load x
--   poked t g table       the table with g of the cell t in its place
--   shifted               the table after the n cells from f on were offered to those from t on
--   cleared               the table after the n cells from t on were cleared
--   Turns s rs cs rs' cs' g   the two tables after a call, rs' and cs', are g of the tables before
use Rattle.std.specs.Prelude.{◌≡◌, ℕ, ◌+◌, ◌-◌, Bool, cond, not, ◌&&◌, ◌||◌, List, ◌==◌, nat_le, nat_lt, slice_index_or}
use Rattle.device.specs.Loads.{PlainLoad}
use Rattle.device.specs.declared.which_kinds.WhichKind.{WhichKind}
use Rattle.device.specs.WhichKinds.{kind_number}
use Rattle.scale.specs.Rules.{Rules}
use Rattle.cells.specs.declared.choices.Choice.{Choice}

pub record Cell (R : Type 0) : Type 0 where
  pub rating : R
  pub choice : Choice

abbrev pub no_choice : Choice
no_choice = record { ideal = 0; kind = 0 }

abbrev pub choice_of : ℕ → WhichKind → Choice
choice_of j w = record { ideal = j; kind = kind_number w }

abbrev pub stands : {R : Type 0} → Choice → Cell R → Bool
stands by c = by.ideal == 0 || not (c.choice.kind == 0)

-- k is one of the n places from t on
abbrev pub span : ℕ → ℕ → ℕ → Bool
span t n k = nat_le t k && nat_lt k (t + n)

module _ {R : Type 0} (s : Rules R) where
  abbrev pub cell_at : List R → List Choice → ℕ → Cell R
  cell_at rs cs k = record { rating = slice_index_or rs k s.start; choice = slice_index_or cs k no_choice }

  abbrev pub lowered : R → Choice → Cell R → Cell R
  lowered r by c = cond (c.choice.kind == 0 || not (s.at_most c.rating r)) (record { rating = r; choice = by }) c

  abbrev pub offered : Choice → PlainLoad → Cell R → Cell R → Cell R
  offered by x f c = cond (stands by f) (lowered (s.joined f.rating x) by c) c

  abbrev pub poked : ℕ → (Cell R → Cell R) → (ℕ → Cell R) → ℕ → Cell R
  poked t g table k = cond (k == t) (g (table t)) (table k)

  abbrev pub shifted : Choice → PlainLoad → ℕ → ℕ → ℕ → (ℕ → Cell R) → ℕ → Cell R
  shifted by x f t n table k = cond (span t n k) (offered by x (table (f + (k - t))) (table k)) (table k)

  abbrev pub clear_cell : Cell R
  clear_cell = record { rating = s.start; choice = no_choice }

  abbrev pub cleared : ℕ → ℕ → (ℕ → Cell R) → ℕ → Cell R
  cleared t n table k = cond (span t n k) clear_cell (table k)

  abbrev pub Turns : List R → List Choice → List R → List Choice → ((ℕ → Cell R) → ℕ → Cell R) → Type 0
  Turns rs cs rs' cs' g = (k : ℕ) → cell_at rs' cs' k ≡ g (cell_at rs cs) k
