-- What a planner holds.
--   state p       as plain values
--   kinds_in p    what its two kinds answer
--   rules_in p    its scale
use Rattle.std.specs.Prelude.{◌≡◌, Some, None, Result, MatchResult}
use Rattle.std.specs.Borrow.{Bor}
use Rattle.std.specs.Option.{option_map}
use Rattle.refusals.specs.declared.Refusal.{Refusal}
use Rattle.refusals.specs.declared.Refusal.TheVariants.{NoSplit}
use Rattle.device.specs.declared.kinds.Kind as kind
use Rattle.scale.specs.declared.scales.Scale as scale
use Rattle.scale.specs.Rules.{Rules}
use Rattle.sheet.specs.Views.{net}
use Rattle.split.specs.Splits.{Kinds, kinds}
use Rattle.best_split.specs.declared.finds.Found.{Found}
use Rattle.best_split.specs.Views.{stages_of}
use Rattle.planner.specs.declared.planners.Planner.{Planner}
use Rattle.planner.specs.States.{Standing, State}

abbrev pub standing_in : {R : Type 0} → Found R → Standing R
standing_in f = record { rating = f.rating; stages = stages_of f.split }

module _ {K L S R : Type 0} {first : kind.Ghosts K} {second : kind.Ghosts L} {order : scale.Ghosts S R} (p : Planner K L S R first second order) where
  abbrev pub state : State K L S R
  state = record { net = net p.sheet; first = p.first; second = p.second; scale = p.scale; standing = option_map standing_in p.standing }

  abbrev pub kinds_in : Kinds
  kinds_in = kinds (first.meaning p.first) (second.meaning p.second)

  abbrev pub rules_in : Rules R
  rules_in = order.rules p.scale

  -- the split that stands is lent, or the refusal is that of none
  abbrev pub found_answer : Result (Bor (Found R)) Refusal → Type 0
  found_answer r = MatchResult r (λ f. p.standing ≡ Some f.now) (λ e. (p.standing ≡ None) × (e ≡ NoSplit))
