-- What a call promises of a planner that is taken out of its memory, of the memory itself: p is the planner that is taken out and q what the
-- memory kept before, and what the memory keeps afterwards is told by what was put back.
use Rattle.std.proofs.Common.{◌≡◌, ◌≢◌, ℕ, List, [], ◌∷◌, length, IfOk, OnErr, Result, Ok, Err, MatchResult, refl, sym, ap, ◌∙◌, subst}
use Rattle.refusals.specs.declared.Refusal.{Refusal}
use Rattle.refusals.specs.Told.{told, outcome}
use Rattle.refusals.proofs.Tellings.{told_something}
use Rattle.device.specs.declared.accelerators.Accelerator.{Accelerator}
use Rattle.device.specs.declared.processors.Processor.{Processor}
use Rattle.scale.specs.Rules.{Rules}
use Rattle.cells.specs.declared.choices.Choice.{Choice}
use Rattle.pages.specs.Pages.{HasPage}
use Rattle.planner.specs.declared.plans.Plan.{Plan}
use Rattle.planner.specs.declared.kept.Kept.{Kept}
use Rattle.planner.specs.States.{Standing, State, settled}
use Rattle.planner.specs.Kept.{kept}
use Rattle.planner.specs.declared.calls.Call.TheVariants as calls
use Rattle.planner.specs.Plans.{Plans}
use Rattle.planner.specs.Law.{Event, event, by_plan, Holds}
use Rattle.planner.specs.Answers.{margin_answer, page_told, page_text}
use Rattle.controller.specs.Told.{number_of, margin_of}
use Rattle.controller.specs.Calls.{kinds_at, text, Pages, PlanAdds}
use Rattle.controller.proofs.Numbers.{numbered}
use Rattle.controller.proofs.Carried.{adding}

module _ {S R : Type 0} where
  -- a planner that only read is kept as it was
  pub kept_still : (p q : State Accelerator Processor S R) (r : R) (k : Kept) → p ≡ q → kept p.scale r k ≡ p → kept q.scale r k ≡ q
  kept_still p q r k same put = subst (λ x. kept x.scale r k ≡ x) same put

  pub margin_told : (p q : State Accelerator Processor S R) (pick : ℕ) (r : Result _ Refusal) → p ≡ q → r ≡ margin_answer p.net (kinds_at p) p.standing pick
      → margin_of r ≡ margin_of (margin_answer q.net (kinds_at q) q.standing pick)
  margin_told p q pick r same answer = subst (λ x. margin_of r ≡ margin_of (margin_answer x.net (kinds_at x) x.standing pick)) same (ap margin_of answer)

  paged : (p p' : State Accelerator Processor S R) (b b' : List ℕ) (r : Result ℕ Refusal) → p' ≡ p → outcome r ≡ page_told p.net (kinds_at p) p.standing (length b)
      → IfOk r (HasPage (page_text p.net (kinds_at p) p.standing) b b') → OnErr r (b' ≡ b) → Pages p p' b b' (number_of r)
  paged p p' b b' (Ok len) still told_so page keeps =
      record {
        told = numbered (Ok len) (page_told p.net (kinds_at p) p.standing (length b)) (length (page_text p.net (kinds_at p) p.standing)) told_so page.size;
        written = λ none. subst (HasPage (page_text p.net (kinds_at p) p.standing) b b') page.size page;
        kept = λ some. absurd (some (sym told_so));
        same = still;
      }
  paged p p' b b' (Err e) still told_so page keeps =
      record {
        told = numbered (Err e) (page_told p.net (kinds_at p) p.standing (length b)) (length (page_text p.net (kinds_at p) p.standing)) told_so tt;
        written = λ none. absurd (told_something e (told_so ∙ none));
        kept = λ some. keeps;
        same = still;
      }

  pub page_moved : (p q p' : State Accelerator Processor S R) (b b' : List ℕ) (r : Result ℕ Refusal) → p ≡ q → p' ≡ q → outcome r ≡ page_told p.net (kinds_at p) p.standing (length b)
      → IfOk r (HasPage (page_text p.net (kinds_at p) p.standing) b b') → OnErr r (b' ≡ b) → Pages q p' b b' (number_of r)
  page_moved p q p' b b' r same still told_so page keeps =
      subst (λ x. p' ≡ x → Pages x p' b b' (number_of r)) same (λ is. paged p p' b b' r is told_so page keeps) still

  -- what is promised of a planner by which the one that was taken out is replaced, on the same scale
  pub moved : (F : State Accelerator Processor S R → State Accelerator Processor S R → Type 0) (p q p' : State Accelerator Processor S R) (rating : R) (k : Kept)
      → p ≡ q → kept p'.scale rating k ≡ p' → p'.scale ≡ p.scale → F p p' → F q (kept q.scale rating k)
  moved F p q p' rating k same put scale promised =
      let stays : p'.scale ≡ q.scale = scale ∙ ap (λ (x : State Accelerator Processor S R). x.scale) same in
      subst (λ x. F x (kept q.scale rating k)) same (subst (F p) (sym put ∙ ap (λ s. kept s rating k) stays) promised)

  -- a plan leaves the scale and the accelerator
  scale_stays : (p p' : State Accelerator Processor S R) (standing : Plan R → Standing R) (r : Result (Plan R) Refusal)
      → MatchResult r (λ a. p' ≡ settled (standing a) p) (λ _. p' ≡ p) → p'.scale ≡ p.scale
  scale_stays p p' standing (Ok a) settles = ap (λ (x : State Accelerator Processor S R). x.scale) settles
  scale_stays p p' standing (Err e) settles = ap (λ (x : State Accelerator Processor S R). x.scale) settles

  first_stays : (p p' : State Accelerator Processor S R) (standing : Plan R → Standing R) (r : Result (Plan R) Refusal)
      → MatchResult r (λ a. p' ≡ settled (standing a) p) (λ _. p' ≡ p) → p'.first ≡ p.first
  first_stays p p' standing (Ok a) settles = ap (λ (x : State Accelerator Processor S R). x.first) settles
  first_stays p p' standing (Err e) settles = ap (λ (x : State Accelerator Processor S R). x.first) settles

  module _ (rules : S → Rules R) (ms ms' : List ℕ) (rs : List R) (cs : List Choice) (rs' : List R) (cs' : List Choice) (r : Result (Plan R) Refusal) where
    abbrev Plan_at : State Accelerator Processor S R → State Accelerator Processor S R → Type 0
    Plan_at p p' = Plans (kinds_at p) (rules p.scale) ms ms' rs cs rs' cs' p p' r

    abbrev Law_at : State Accelerator Processor S R → State Accelerator Processor S R → Type 0
    Law_at p p' = PlanAdds (rules p.scale) p p' (length ms) (length rs) (length cs) r

    pub plan_moved : (p q p' : State Accelerator Processor S R) (rating : R) (k : Kept) → p ≡ q → kept p'.scale rating k ≡ p' → Plan_at p p' → Plan_at q (kept q.scale rating k)
    plan_moved p q p' rating k same put plans = moved Plan_at p q p' rating k same put (scale_stays p p' _ r plans.settles) plans

    pub law_moved : (p q p' : State Accelerator Processor S R) (rating : R) (k : Kept) → p ≡ q → kept p'.scale rating k ≡ p' → Plan_at p p'
        → ((h : List (Event R)) → Holds (kinds_at p) (rules p.scale) h p → Holds (kinds_at p) (rules p.scale) (event (calls.Plan (length ms) (length rs) (length cs)) (by_plan r) ∷ h) p')
        → Law_at q (kept q.scale rating k)
    law_moved p q p' rating k same put plans law =
        moved Law_at p q p' rating k same put (scale_stays p p' _ r plans.settles) (adding (rules p.scale) p p' _ (by_plan r) (first_stays p p' _ r plans.settles) law)
