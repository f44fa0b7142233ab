-- A pass over the cells of all ideals, and the tables of the cells.
--   setting_of p            the recurrence that the pass follows
--   HasRoom p t             the tables have the cells of all ideals
--   cells_in p t            the cells of the tables, on the scale of the pass
--   offered_row p t i j     what the cells of ideal i become where the row of ideal j is offered to them
--   RowTurns p t u i g      from t to u the row of ideal i went by g, and no other cell changed
--   leading p t j           in the row of ideal j a rating stands in one of the two cells of the most devices from which a stage could lead on
--   RowFalls p t j          in the row of ideal j no cell is worse than one with no more devices: what it gives to a later row falls
--   FallBefore p t i        so it is in the rows of the ideals before i
--   HeldFalls p t i          what stands in the row of ideal i falls
--   SamePass p q            q is p but for what was measured
--   NoneInside ms m f t     no ideal of the list ms from index f on and before t lies inside m
--   NextInside ms m f i r   r is the first index from f on and before i at which an ideal of the list ms lies inside m, None where there is none
use Rattle.std.specs.Prelude.{◌≡◌, ℕ, ◌+◌, ◌*◌, ◌<◌, ◌≤◌, Bool, true, false, List, length, slice_index, Option, MatchOption}
use Rattle.sets.specs.Sets.{inside}
use Rattle.device.specs.declared.kinds.Kind as kind
use Rattle.scale.specs.declared.scales.Scale as scale
use Rattle.split.specs.Problems.{net_of, kinds_of}
use Rattle.recurrence.specs.Table.{one, two, Setting, cut}
use Rattle.recurrence.specs.Planned.{setting_over}
use Rattle.cells.specs.Cells.{Cell, stands}
use Rattle.cells.specs.Rows.{width_of, by_first, row, both, Onto}
use Rattle.cells.specs.Falls.{holds, leads_on, Falls}
use Rattle.cells.specs.Tables.{table, HasCells}
use Rattle.cells.specs.declared.tables.Tables.{Tables}
use Rattle.table_pass.specs.declared.passes.Pass.{Pass}

module _ {K L S R : Type 0} {first : kind.Ghosts K} {second : kind.Ghosts L} {order : scale.Ghosts S R} where
  abbrev pub setting_of : Pass K L S R first second order → Setting R
  setting_of p = setting_over p.ideals.now (net_of p.problem.now) (kinds_of first.meaning second.meaning p.problem.now) (order.rules p.rows.scale.now)

  abbrev pub HasRoom : Pass K L S R first second order → Tables R → Type 0
  HasRoom p t = HasCells t (length p.ideals.now * width_of p.rows.counts.k p.rows.counts.l)

  abbrev pub cells_in : Pass K L S R first second order → Tables R → ℕ → Cell R
  cells_in p t = table (order.rules p.rows.scale.now) t

  abbrev pub offered_row : Pass K L S R first second order → Tables R → ℕ → ℕ → ℕ → ℕ → Cell R → Cell R
  offered_row p t i j = both (order.rules p.rows.scale.now) j (cut (setting_of p) one 0 0 i j) (cut (setting_of p) two 0 0 i j) (row p.rows.counts.l (j * width_of p.rows.counts.k p.rows.counts.l) (cells_in p t))

  abbrev pub RowTurns : Pass K L S R first second order → Tables R → Tables R → ℕ → (ℕ → ℕ → Cell R → Cell R) → Type 0
  RowTurns p t u i g = Onto p.rows.counts.l (p.rows.counts.k + 1) (i * width_of p.rows.counts.k p.rows.counts.l) g (cells_in p t) (cells_in p u)

  abbrev pub leading : Pass K L S R first second order → Tables R → ℕ → Bool
  leading p t j = leads_on p.rows.counts.k p.rows.counts.l j (row p.rows.counts.l (j * width_of p.rows.counts.k p.rows.counts.l) (cells_in p t))

  abbrev pub RowFalls : Pass K L S R first second order → Tables R → ℕ → Type 0
  RowFalls p t j = Falls (order.rules p.rows.scale.now) (stands (by_first j)) p.rows.counts.l (p.rows.counts.k + 1) (row p.rows.counts.l (j * width_of p.rows.counts.k p.rows.counts.l) (cells_in p t))

  abbrev pub FallBefore : Pass K L S R first second order → Tables R → ℕ → Type 0
  FallBefore p t i = (j : ℕ) → j < i → RowFalls p t j

  abbrev pub HeldFalls : Pass K L S R first second order → Tables R → ℕ → Type 0
  HeldFalls p t i = Falls (order.rules p.rows.scale.now) holds p.rows.counts.l (p.rows.counts.k + 1) (row p.rows.counts.l (i * width_of p.rows.counts.k p.rows.counts.l) (cells_in p t))

  pub record SamePass (p q : Pass K L S R first second order) : Type 0 where
    pub problem : q.problem ≡ p.problem
    pub rows : q.rows ≡ p.rows
    pub ideals : q.ideals ≡ p.ideals

abbrev pub NoneInside : List ℕ → ℕ → ℕ → ℕ → Type 0
NoneInside ms m f t = (u : ℕ) → f ≤ u → u < t → inside (slice_index ms u) m ≡ false

abbrev pub NextInside : List ℕ → ℕ → ℕ → ℕ → Option ℕ → Type 0
NextInside ms m f i r = MatchOption r (NoneInside ms m f i) (λ j. (f ≤ j) × (j < i) × (inside (slice_index ms j) m ≡ true) × NoneInside ms m f j)
