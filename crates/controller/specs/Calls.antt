-- What a call does and answers: p is the planner before it, p' after it, a what the caller reads.
--   kinds_at p        what the accelerator and the processor of a planner answer
--   limit_refusal M   why no accelerator has the limit M
--   Carries s c refusal g    the law of the planner's calls, on the scale s, holds with the call c added if it held before, c being refused as
--                     is told, or granted and answered by g
--   Edits             a call that changes the sheet to n where it is granted, which it is if nothing is told
--   Makes s M         the planner is new, on the scale s, with an accelerator of the limit M
--   Adds o, Joins u v, Retimes v o, Counts k l, Loads f, Clears    the sheet changes so
--   Stages i, Places v, Rates, Margins pick    what is read of the split that stands
--   Pages b b', Writes b b'             what is written into a buffer, b being its bytes before and b' after
use Rattle.std.specs.Prelude.{◌≡◌, ◌≢◌, ℕ, List, [], ◌∷◌, length, Result, Ok, MatchResult, nat_le}
use Rattle.std.specs.Borrow.{Bor}
use Rattle.refusals.specs.declared.Refusal.{Refusal}
use Rattle.refusals.specs.declared.Refusal.TheVariants.{AboveLimit}
use Rattle.refusals.specs.Told.{told}
use Rattle.sheet.specs.declared.operators.Operator.{Operator}
use Rattle.sheet.specs.Nets.{Net, size, empty}
use Rattle.sheet.specs.Changes.{unless, changed, add_refusal, added, join_refusal, joined, retime_refusal, retimed, count_refusal, counted}
use Rattle.sheet_layout.specs.Bodies.{file_refusal, net_of}
use Rattle.sheet_layout.specs.Layout.{LaidOut}
use Rattle.sheet_writer.specs.Writes as writer
use Rattle.device.specs.declared.accelerators.Accelerator.{Accelerator}
use Rattle.device.specs.declared.processors.Processor.{Processor}
use Rattle.device.specs.Limits.{most_limit}
use Rattle.device.specs.Loads.{accelerated, processed}
use Rattle.split.specs.Splits.{Kinds, kinds}
use Rattle.pages.specs.Pages.{HasPage}
use Rattle.scale.specs.Rules.{Rules}
use Rattle.planner.specs.declared.plans.Plan.{Plan}
use Rattle.planner.specs.declared.calls.Call.{Call}
use Rattle.planner.specs.declared.calls.Call.TheVariants as calls
use Rattle.planner.specs.declared.calls.Granted.{Granted}
use Rattle.planner.specs.declared.calls.Granted.TheVariants.{Added, Changed}
use Rattle.planner.specs.States.{State, fresh, edited}
use Rattle.planner.specs.Law.{Event, event, by_plan, Judged, Holds}
use Rattle.planner.specs.Answers.{rating_answer, stage_answer, place_answer, margin_answer, page_told, page_text}
use Rattle.controller.specs.declared.refused.RefusalRecord.{RefusalRecord}
use Rattle.controller.specs.declared.answers.NumberRecord.{NumberRecord}
use Rattle.controller.specs.declared.answers.StageRecord.{StageRecord}
use Rattle.controller.specs.declared.answers.MarginRecord.{MarginRecord}
use Rattle.controller.specs.Told.{refusal_told, number_told, number_of, stage_of, margin_of}

abbrev pub limit_refusal : ℕ → List ℕ
limit_refusal M = unless (nat_le M most_limit) (told AboveLimit)

module _ {S R : Type 0} where
  abbrev pub kinds_at : State Accelerator Processor S R → Kinds
  kinds_at p = kinds (accelerated p.first.limit) processed

  module _ (s : Rules R) (p p' : State Accelerator Processor S R) where
    -- ---- the calls that change a planner

    abbrev pub Adding : Call → Result (Granted R) Refusal → Type 0
    Adding c r = (h : List (Event R)) → Holds (kinds_at p) s h p → Holds (kinds_at p') s (event c r ∷ h) p'

    abbrev pub Carries : Call → List ℕ → Granted R → Type 0
    Carries c refusal g = (r : Result (Granted R) Refusal) × Judged refusal g r × Adding c r

    pub record Makes (scale : S) (M : ℕ) (a : RefusalRecord) : Type 0 where
      pub told : a ≡ refusal_told (limit_refusal M)
      pub made : limit_refusal M ≡ [] → (p' ≡ fresh p'.first p'.second scale) × (p'.first.limit ≡ M)
      pub kept : limit_refusal M ≢ [] → p' ≡ p
      pub law : limit_refusal M ≡ [] → Holds (kinds_at p') s [] p'

    pub record Edits (c : Call) (refusal : List ℕ) (n : Net) (a : RefusalRecord) : Type 0 where
      pub told : a ≡ refusal_told refusal
      pub after : p' ≡ changed refusal p (edited n p)
      pub law : Carries c refusal Changed

    pub record Adds (o : Operator) (a : NumberRecord) : Type 0 where
      pub told : a ≡ number_told (add_refusal p.net o) (size p.net)
      pub after : p' ≡ changed (add_refusal p.net o) p (edited (added p.net o) p)
      pub law : Carries (calls.Add o) (add_refusal p.net o) (Added (size p.net))

    abbrev pub Joins : ℕ → ℕ → RefusalRecord → Type 0
    Joins u v a = Edits (calls.Join u v) (join_refusal p.net u v) (joined p.net u v) a

    abbrev pub Retimes : ℕ → Operator → RefusalRecord → Type 0
    Retimes v o a = Edits (calls.Retime v o) (retime_refusal p.net v o) (retimed p.net v o) a

    abbrev pub Counts : ℕ → ℕ → RefusalRecord → Type 0
    Counts k l a = Edits (calls.Count k l) (count_refusal k l) (counted p.net k l) a

    abbrev pub Loads : Bor (List ℕ) → RefusalRecord → Type 0
    Loads f a = Edits (calls.Load f) (file_refusal f.now) (net_of f.now) a × (file_refusal f.now ≡ [] → LaidOut f.now p'.net)

    abbrev pub Clears : Type 0
    Clears = (p' ≡ edited empty p) × Adding calls.Clear (Ok Changed)

    -- a plan, with tables of the lengths a, b and c
    abbrev pub PlanAdds : ℕ → ℕ → ℕ → Result (Plan R) Refusal → Type 0
    PlanAdds a b c r = Adding (calls.Plan a b c) (by_plan r)

  module _ (p p' : State Accelerator Processor S R) where
    -- ---- the calls that only read

    abbrev pub Stages : ℕ → StageRecord → Type 0
    Stages i a = (a ≡ stage_of (stage_answer p.standing i)) × (p' ≡ p)

    abbrev pub Places : ℕ → NumberRecord → Type 0
    Places v a = (a ≡ number_of (place_answer p.net p.standing v)) × (p' ≡ p)

    abbrev pub Rates : Result R Refusal → Type 0
    Rates r = (r ≡ rating_answer p.standing) × (p' ≡ p)

    abbrev pub Margins : ℕ → MarginRecord → Type 0
    Margins pick a = (a ≡ margin_of (margin_answer p.net (kinds_at p) p.standing pick)) × (p' ≡ p)

    -- the page of the split that stands
    abbrev pub text : List ℕ
    text = page_text p.net (kinds_at p) p.standing

    pub record Pages (b b' : List ℕ) (a : NumberRecord) : Type 0 where
      pub told : a ≡ number_told (page_told p.net (kinds_at p) p.standing (length b)) (length text)
      pub written : page_told p.net (kinds_at p) p.standing (length b) ≡ [] → HasPage text b b' (length text)
      pub kept : page_told p.net (kinds_at p) p.standing (length b) ≢ [] → b' ≡ b
      pub same : p' ≡ p

    abbrev pub Writes : List ℕ → List ℕ → NumberRecord → Type 0
    Writes b b' a = (r : Result ℕ Refusal) × MatchResult r (writer.Writes p.net b b') (writer.Keeps p.net b b') × (a ≡ number_of r) × (p' ≡ p)
