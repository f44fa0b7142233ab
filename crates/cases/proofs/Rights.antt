-- What an example says is right once it computes: that its split is a least one follows from the theorem of the recurrence.
use Rattle.std.proofs.Common.{◌≡◌, ℕ, List, [], ◌∷◌, map, length, take, None, Some, Option, IfSome, All, Ok, ◌∙◌, subst, rules}
use Rattle.std.proofs.lemmas.List.Elements.{All-nil, All-cons}
use Rattle.sheet.specs.Kept.{Kept}
use Rattle.sheet.specs.Figures.{Sums}
use Rattle.device.specs.Loads.{PlainLoad, Fair, Small, accelerated, processed}
use Rattle.split.specs.declared.stages.Stage.{Stage}
use Rattle.split.specs.Splits.{Least}
use Rattle.ideals.specs.Ideals.{ideals, room, over}
use Rattle.recurrence.specs.Planned.{best_of, split_of, Planned}
use Rattle.recurrence.specs.Laws.{Laws}
use Rattle.recurrence.proofs.Plans.{planned, kinds_answer}
use Rattle.best_split.specs.Finds.{find_refusal}
use Rattle.pages.specs.Paces.{pace_of}
use Rattle.planner.specs.Answers.{margin_answer}
use Rattle.cases.specs.Cases.{Case, kinds_of, standing, Right}

accelerated_fair : (limit : ℕ) (z : Sums) (x : PlainLoad) → Small z → accelerated limit z ≡ Some x → Fair x
accelerated_fair limit z x small h = search rules

processed_fair : (z : Sums) (x : PlainLoad) → Small z → processed z ≡ Some x → Fair x
processed_fair z x small h = search rules

module _ (c : Case) (kept : Kept c.net) (laws : Laws c.scale) where
  plan : Planned c.net (kinds_of c) c.scale
  plan = planned c.net (kinds_of c) c.scale kept (kinds_answer c.net kept (accelerated c.limit) processed (accelerated_fair c.limit) processed_fair) laws

  least_of : (o : Option ℕ) (ss : List Stage) → best_of c.net (kinds_of c) c.scale ≡ o → split_of c.net (kinds_of c) c.scale ≡ ss → IfSome o (Least c.net (kinds_of c) c.scale ss)
  least_of None ss h k = record {}
  least_of (Some r) ss h k = subst (λ (z : List Stage). Least c.net (kinds_of c) c.scale z r) k (plan.least r h)

  pub right :
      find_refusal c.net (kinds_of c) c.scale (length c.table) c.ratings c.choices ≡ c.refusal
      → over (take (room (length c.table)) (ideals c.net)) c.table ≡ c.listed
      → ideals c.net ≡ c.ideals
      → best_of c.net (kinds_of c) c.scale ≡ c.rating
      → split_of c.net (kinds_of c) c.scale ≡ c.stages
      → pace_of c.net (kinds_of c) c.stages ≡ c.pace
      → map (λ m. margin_answer c.net (kinds_of c) (standing c) m.pick) c.margins ≡ map (λ m. Ok m.left) c.margins
      → Right c
  right refuses lists counts rates splits paces margins = record {
    refuses = refuses;
    lists = lists;
    counts = counts;
    rates = rates;
    splits = splits;
    paces = paces;
    margins = margins;
    least = least_of c.rating c.stages rates splits;
    none = λ h. plan.none (rates ∙ h);
  }

-- the same, by the shape of the list
abbrev pub Each : List Case → Type 0
Each [] = Unit {0}
Each (c ∷ cs) = Right c × Each cs

pub all_of : (cs : List Case) → Each cs → All Right cs
all_of [] each = All-nil Right
all_of (c ∷ cs) each = All-cons Right c cs each.0 (all_of cs each.1)
