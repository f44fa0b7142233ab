-- What the tables tell of the recurrence, and how the stages of a cell follow from its choice.
--   Rated e k l rs    the ratings of the cells are the recurrence's
--   Chose e k l cs    the choices of the cells are the recurrence's
--   Shown             both
--   rating_at e at    the recurrence's rating of a cell
--   stages_to e at    the stages that it reads back from a cell
--   Leads e at r      r is the ideal before the last stage of the cell `at` and that stage's kind, or the cell has no stages
--   Traces e at r     r is the last stage on the way to the cell `at`, with the cell before it, or there is none
use Rattle.std.specs.Prelude.{◌≡◌, ℕ, ◌+◌, ◌-◌, ◌<◌, ◌≤◌, List, [], ◌∷◌, ◌++◌, length, Some, None, Option, slice_index_or}
use Rattle.device.specs.declared.which_kinds.WhichKind.{WhichKind}
use Rattle.device.specs.declared.which_kinds.WhichKind.TheVariants.{First, Second}
use Rattle.device.specs.WhichKinds.{kind_number}
use Rattle.split.specs.declared.stages.Stage.{Stage}
use Rattle.recurrence.specs.Table.{Setting, ideal, best, pick}
use Rattle.recurrence.specs.Stages.{stages}
use Rattle.cells.specs.declared.choices.Choice.{Choice}
use Rattle.cells.specs.Cells.{no_choice}
use Rattle.table_pass.specs.Filled.{cell, chosen, or_start}
use Rattle.best_split.specs.declared.places.Place.{Place}
use Rattle.best_split.specs.declared.places.LastStage.{LastStage}

abbrev pub HasDevice : WhichKind → Place → Type 0
HasDevice First at = 0 < at.a
HasDevice Second at = 0 < at.b

-- the cell of ideal j with one device of the kind less
abbrev pub cell_before : WhichKind → Place → ℕ → Place
cell_before First at j = record { i = j; a = at.a - 1; b = at.b }
cell_before Second at j = record { i = j; a = at.a; b = at.b - 1 }

module _ {R : Type 0} (e : Setting R) where
  abbrev pub Rated : ℕ → ℕ → List R → Type 0
  Rated k l rs = (i a b : ℕ) → i < length e.ideals → a ≤ k → b ≤ l → slice_index_or rs (cell k l i a b) e.rules.start ≡ or_start e.rules (best e a b i)

  abbrev pub Chose : ℕ → ℕ → List Choice → Type 0
  Chose k l cs = (i a b : ℕ) → i < length e.ideals → a ≤ k → b ≤ l → slice_index_or cs (cell k l i a b) no_choice ≡ chosen (pick e a b i)

  abbrev pub Shown : ℕ → ℕ → List R → List Choice → Type 0
  Shown k l rs cs = Rated k l rs × Chose k l cs

  abbrev pub rating_at : Place → Option R
  rating_at at = best e at.a at.b at.i

  abbrev pub stages_to : Place → List Stage
  stages_to at = stages e at.a at.b at.i

  -- the stage on kind w between the ideals j and i
  abbrev pub stage_between : ℕ → ℕ → WhichKind → Stage
  stage_between j i w = record { mask = ideal e i - ideal e j; kind = kind_number w }

  -- ideal j lies inside that of the cell, of which a device of kind w is left
  pub record Leading (at : Place) (j : ℕ) (w : WhichKind) : Type 0 where
    pub inner : j < at.i
    pub less : ideal e j ≤ ideal e at.i
    pub device : HasDevice w at
    pub are : stages_to at ≡ stages_to (cell_before w at j) ++ (stage_between j at.i w ∷ [])

  abbrev pub Leads : Place → Option (ℕ × WhichKind) → Type 0
  Leads at None = stages_to at ≡ []
  Leads at (Some r) = Leading at r.0 r.1

  pub record Ends (place : Place) (last : LastStage) : Type 0 where
    pub are : stages_to place ≡ stages_to last.before ++ (last.stage ∷ [])
    pub one_less : last.before.a + last.before.b + 1 ≡ place.a + place.b
    pub first_less : last.before.a ≤ place.a
    pub second_less : last.before.b ≤ place.b
    pub inner : last.before.i < place.i

  abbrev pub Traces : Place → Option LastStage → Type 0
  Traces place None = stages_to place ≡ []
  Traces place (Some last) = Ends place last
