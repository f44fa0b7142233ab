-- What the recurrence over all ideals of a network finds: a least split, exactly if there is a lawful one.
--   setting n e s   the recurrence over the ideals of the network n, with two kinds and a scale
--   top n           the index of the last ideal, the set of all operators
--   best_of         the rating of the last cell
--   split_of        the stages read back from it
use Rattle.std.specs.Prelude.{◌≡◌, ℕ, ◌-◌, true, List, length, is_some, Some, None, Option}
use Rattle.sheet.specs.Nets.{Net}
use Rattle.scale.specs.Rules.{Rules}
use Rattle.split.specs.declared.stages.Stage.{Stage}
use Rattle.split.specs.Splits.{Kinds, asked, Lawful, Least}
use Rattle.ideals.specs.Ideals.{ideals}
use Rattle.recurrence.specs.Table.{number, Setting, best}
use Rattle.recurrence.specs.Stages.{stages}

-- over any list of ideals
abbrev pub setting_over : {R : Type 0} → List ℕ → Net → Kinds → Rules R → Setting R
setting_over ms n e s = record { ideals = ms; bottom = λ a b. true; ask = λ k a b m. asked n e (number k) m; rules = s }

abbrev pub setting : {R : Type 0} → Net → Kinds → Rules R → Setting R
setting n e s = setting_over (ideals n) n e s

abbrev pub top : Net → ℕ
top n = length (ideals n) - 1

abbrev pub best_of : {R : Type 0} → Net → Kinds → Rules R → Option R
best_of n e s = best (setting n e s) n.k n.l (top n)

abbrev pub split_of : {R : Type 0} → Net → Kinds → Rules R → List Stage
split_of n e s = stages (setting n e s) n.k n.l (top n)

pub record Planned {R : Type 0} (n : Net) (e : Kinds) (s : Rules R) : Type 0 where
  -- the best rating exists exactly if there is a lawful split
  pub found : (ss : List Stage) → Lawful n e ss → is_some (best_of n e s) ≡ true
  pub none : best_of n e s ≡ None → (ss : List Stage) → Lawful n e ss → ⊥
  -- and is that of the stages read back, which are a least split
  pub least : (r : R) → best_of n e s ≡ Some r → Least n e s (split_of n e s) r
