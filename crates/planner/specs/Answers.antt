-- What the calls that only read answer, by the split t that stands, if one does.
use Rattle.std.specs.Prelude.{ℕ, ℤ, pos, ◌-ℤ◌, cond, [], is_some, nat_le, List, length, Option, None, Some, Result, Ok, Err, nat_lt}
use Rattle.refusals.specs.declared.Refusal.{Refusal}
use Rattle.refusals.specs.declared.Refusal.TheVariants.{AboveLimit, NoOperator, NoSplit, NoStage}
use Rattle.refusals.specs.Told.{told}
use Rattle.sheet.specs.Changes.{unless, first}
use Rattle.split.specs.Splits.{Kinds}
use Rattle.pages.specs.Paces.{pace_of}
use Rattle.pages.specs.Pages.{page_of, page_refusal}
use Rattle.sets.specs.Sets.{members}
use Rattle.sheet.specs.Nets.{Net, size}
use Rattle.split.specs.declared.stages.Stage.{Stage}
use Rattle.split.specs.Splits.{stage_at}
use Rattle.planner.specs.States.{Standing, place_of}

abbrev pub stage_of : List Stage → ℕ → Result (ℕ × ℕ × ℕ) Refusal
stage_of ss i = cond (nat_lt i (length ss)) (Ok ((stage_at ss i).kind, (stage_at ss i).mask, length (members (stage_at ss i).mask))) (Err NoStage)

abbrev pub most_pick : ℕ
most_pick = 1000000000

module _ {R : Type 0} where
  abbrev pub rating_answer : Option (Standing R) → Result R Refusal
  rating_answer None = Err NoSplit
  rating_answer (Some t) = Ok t.rating

  abbrev pub stage_answer : Option (Standing R) → ℕ → Result (ℕ × ℕ × ℕ) Refusal
  stage_answer None i = Err NoSplit
  stage_answer (Some t) i = stage_of t.stages i

  abbrev pub place_answer : Net → Option (Standing R) → ℕ → Result ℕ Refusal
  place_answer n None v = Err NoSplit
  place_answer n (Some t) v = cond (nat_lt v (size n)) (Ok (place_of t.stages v)) (Err NoOperator)

  -- the pick time less the pace
  abbrev pub margin_answer : Net → Kinds → Option (Standing R) → ℕ → Result ℤ Refusal
  margin_answer n e None pick = Err NoSplit
  margin_answer n e (Some t) pick = cond (nat_le pick most_pick) (Ok (pos pick -ℤ pos (pace_of n e t.stages))) (Err AboveLimit)

  abbrev pub page_text : Net → Kinds → Option (Standing R) → List ℕ
  page_text n e None = []
  page_text n e (Some t) = page_of n e t.stages

  abbrev pub page_told : Net → Kinds → Option (Standing R) → ℕ → List ℕ
  page_told n e t room = first (unless (is_some t) (told NoSplit)) (page_refusal (page_text n e t) room)
