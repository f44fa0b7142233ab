-- What planning answers and leaves, for every sheet, kinds, scale and tables.
use Rattle.std.specs.Prelude.{◌≡◌, ℕ, true, false, List, length, take, is_ok, IfOk, Some, Result, MatchResult}
use Rattle.refusals.specs.declared.Refusal.{Refusal}
use Rattle.refusals.specs.declared.Refusal.TheVariants.{NoLawfulSplit}
use Rattle.refusals.specs.Told.{told, outcome}
use Rattle.scale.specs.Rules.{Rules}
use Rattle.split.specs.declared.stages.Stage.{Stage}
use Rattle.split.specs.Splits.{Kinds, Lawful, Least}
use Rattle.ideals.specs.Ideals.{ideals, room, over}
use Rattle.recurrence.specs.Planned.{setting, best_of, split_of}
use Rattle.cells.specs.declared.choices.Choice.{Choice}
use Rattle.table_pass.specs.Filled.{Passed}
use Rattle.best_split.specs.Finds.{tables_suffice, find_refusal}
use Rattle.planner.specs.declared.plans.Plan.{Plan}
use Rattle.planner.specs.States.{State, settled}

-- ms, rs and cs are the tables of ideals, ratings and choices before, ms', rs' and cs' after; p is the planner before, p' after
module _ {K L S R : Type 0} (e : Kinds) (s : Rules R) (ms ms' : List ℕ) (rs : List R) (cs : List Choice) (rs' : List R) (cs' : List Choice) (p p' : State K L S R) where
  pub record Plans (r : Result (Plan R) Refusal) : Type 0 where
    pub refuses : outcome r ≡ find_refusal p.net e s (length ms) (length rs) (length cs)
    -- the front of the list of ideals that there is room for is written, and nothing beyond
    pub lists : ms' ≡ over (take (room (length ms)) (ideals p.net)) ms
    -- the cells are filled where the tables suffice, and untouched where they do not
    pub keeps : tables_suffice p.net (length ms) (length rs) (length cs) ≡ false → (rs' ≡ rs) × (cs' ≡ cs)
    pub fills : tables_suffice p.net (length ms) (length rs) (length cs) ≡ true → Passed (setting p.net e s) p.net.k p.net.l rs cs rs' cs'
    -- the rating of the last cell, and how many stages are read back from it and ideals there are
    pub answers : IfOk r (λ a. (best_of p.net e s ≡ Some a.rating) × (a.stages ≡ length (split_of p.net e s)) × (a.ideals ≡ length (ideals p.net)))
    -- these stages stand from then on; a refusal leaves what stood
    pub settles : MatchResult r (λ a. p' ≡ settled (record { rating = a.rating; stages = split_of p.net e s }) p) (λ _. p' ≡ p)
    -- they are a least split of all lawful ones
    pub least : IfOk r (λ a. Least p.net e s (split_of p.net e s) a.rating)
    -- one is found wherever the tables suffice and there is a lawful split, and none is missed
    pub granted : tables_suffice p.net (length ms) (length rs) (length cs) ≡ true → (ss : List Stage) → Lawful p.net e ss → is_ok r ≡ true
    pub none : outcome r ≡ told NoLawfulSplit → (ss : List Stage) → Lawful p.net e ss → ⊥
