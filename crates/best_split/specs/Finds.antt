-- What finding a least split answers and leaves, for every sheet, kinds, scale and tables.
--   tables_suffice   the three tables take all ideals and their cells
--   find_refusal     why no split is found: too many ideals, then too few cells, then no lawful split
use Rattle.std.specs.Prelude.{◌≡◌, ℕ, ◌-◌, Bool, true, false, ◌&&◌, List, length, take, is_some, is_ok, IfOk, Some, Result, nat_le}
use Rattle.refusals.specs.declared.Refusal.{Refusal}
use Rattle.refusals.specs.declared.Refusal.TheVariants.{TooManyIdeals, TooFewCells, NoLawfulSplit}
use Rattle.refusals.specs.Told.{told, outcome}
use Rattle.sheet.specs.Nets.{Net}
use Rattle.sheet.specs.Changes.{unless, first}
use Rattle.scale.specs.Rules.{Rules}
use Rattle.split.specs.declared.stages.Stage.{Stage}
use Rattle.split.specs.Splits.{Kinds, Lawful, Least}
use Rattle.ideals.specs.Ideals.{ideals, room, over}
use Rattle.recurrence.specs.Table.{Setting, best}
use Rattle.recurrence.specs.Stages.{stages}
use Rattle.recurrence.specs.Planned.{setting, best_of, split_of}
use Rattle.cells.specs.declared.choices.Choice.{Choice}
use Rattle.table_pass.specs.Filled.{cells_fit, Passed}
use Rattle.best_split.specs.declared.finds.Found.{Found}
use Rattle.best_split.specs.Views.{stages_of}

-- the same for any list of ideals, e having the list
module _ {R : Type 0} (e : Setting R) (k l : ℕ) (rs : List R) (cs : List Choice) (rs' : List R) (cs' : List Choice) where
  abbrev pub fit : Bool
  fit = cells_fit k l (length e.ideals) (length rs) (length cs)

  abbrev pub last : ℕ
  last = length e.ideals - 1

  pub record Solves (r : Result (Found R) Refusal) : Type 0 where
    pub refuses : outcome r ≡ first (unless fit (told TooFewCells)) (unless (is_some (best e k l last)) (told NoLawfulSplit))
    pub keeps : fit ≡ false → (rs' ≡ rs) × (cs' ≡ cs)
    pub fills : fit ≡ true → Passed e k l rs cs rs' cs'
    pub answers : IfOk r (λ f. (best e k l last ≡ Some f.rating) × (stages_of f.split ≡ stages e k l last) × (f.ideals ≡ length e.ideals))

abbrev pub tables_suffice : Net → ℕ → ℕ → ℕ → Bool
tables_suffice n table ratings choices = nat_le (length (ideals n)) (room table) && cells_fit n.k n.l (length (ideals n)) ratings choices

abbrev pub find_refusal : {R : Type 0} → Net → Kinds → Rules R → ℕ → ℕ → ℕ → List ℕ
find_refusal n e s table ratings choices =
    first (unless (nat_le (length (ideals n)) (room table)) (told TooManyIdeals))
    (first (unless (cells_fit n.k n.l (length (ideals n)) ratings choices) (told TooFewCells))
    (unless (is_some (best_of n e s)) (told NoLawfulSplit)))

-- ms, rs and cs are the tables of ideals, ratings and choices before, ms', rs' and cs' after
module _ {R : Type 0} (n : Net) (e : Kinds) (s : Rules R) (ms ms' : List ℕ) (rs : List R) (cs : List Choice) (rs' : List R) (cs' : List Choice) where
  abbrev pub enough : Bool
  enough = tables_suffice n (length ms) (length rs) (length cs)

  pub record Finds (r : Result (Found R) Refusal) : Type 0 where
    pub refuses : outcome r ≡ find_refusal n e s (length ms) (length rs) (length cs)
    -- the front of the list of ideals that there is room for is written, and nothing beyond
    pub lists : ms' ≡ over (take (room (length ms)) (ideals n)) ms
    -- the cells are filled where the tables suffice, and untouched where they do not
    pub keeps : enough ≡ false → (rs' ≡ rs) × (cs' ≡ cs)
    pub fills : enough ≡ true → Passed (setting n e s) n.k n.l rs cs rs' cs'
    -- what is answered is the rating of the last cell and what is read back from it
    pub answers : IfOk r (λ f. (best_of n e s ≡ Some f.rating) × (stages_of f.split ≡ split_of n e s) × (f.ideals ≡ length (ideals n)))
    -- which is a least split of all lawful ones
    pub least : IfOk r (λ f. Least n e s (stages_of f.split) f.rating)
    -- one is found wherever the tables suffice and there is a lawful split, and none is missed
    pub granted : enough ≡ true → (ss : List Stage) → Lawful n e ss → is_ok r ≡ true
    pub none : outcome r ≡ told NoLawfulSplit → (ss : List Stage) → Lawful n e ss → ⊥
