-- The law holds with a call added, as the planner's own methods promise it, where the accelerator stays.
use Rattle.std.proofs.Common.{◌≡◌, ℕ, List, [], ◌∷◌, IfOk, Result, Ok, Err, refl, sym, ap, subst, ◌∙◌}
use Rattle.refusals.specs.declared.Refusal.{Refusal}
use Rattle.refusals.specs.Told.{outcome}
use Rattle.refusals.proofs.Tellings.{told_something}
use Rattle.sheet.specs.declared.operators.Operator.{Operator}
use Rattle.sheet.specs.Nets.{Net, size}
use Rattle.sheet.specs.Changes.{changed, add_refusal, added}
use Rattle.device.specs.declared.accelerators.Accelerator.{Accelerator}
use Rattle.device.specs.declared.processors.Processor.{Processor}
use Rattle.device.specs.Loads.{accelerated, processed}
use Rattle.scale.specs.Rules.{Rules}
use Rattle.split.specs.Splits.{kinds}
use Rattle.planner.specs.declared.calls.Call.{Call}
use Rattle.planner.specs.declared.calls.Call.TheVariants as calls
use Rattle.planner.specs.declared.calls.Granted.{Granted}
use Rattle.planner.specs.declared.calls.Granted.TheVariants.{Added, Changed}
use Rattle.planner.specs.States.{State, edited}
use Rattle.planner.specs.Law.{Event, event, by_number, by_grant, Judged, Holds}
use Rattle.controller.specs.Told.{refusal_told, number_of}
use Rattle.controller.specs.Calls.{kinds_at, Adding, Edits, Adds}
use Rattle.controller.proofs.Numbers.{numbered}

judged : (R : Type 0) (r : Result (Unit {0}) Refusal) (refusal : List ℕ) → outcome r ≡ refusal → Judged {R = R} refusal Changed (by_grant r)
judged R (Ok u) refusal told_so = (told_so, refl)
judged R (Err e) refusal told_so = (told_so, tt)

judged_number : (R : Type 0) (r : Result ℕ Refusal) (refusal : List ℕ) (v : ℕ) → outcome r ≡ refusal → IfOk r (λ x. x ≡ v) → Judged {R = R} refusal (Added v) (by_number r)
judged_number R (Ok x) refusal v told_so same = (told_so, ap Added same)
judged_number R (Err e) refusal v told_so same = (told_so, tt)

-- what is said of a granted call
pub said : {X : Type 0} (r : Result X Refusal) {refusal : List ℕ} (A : Type 0) → outcome r ≡ refusal → IfOk r (λ _. A) → refusal ≡ [] → A
said (Ok x) A told_so a none = a
said (Err e) A told_so a none = absurd (told_something e (told_so ∙ none))

module _ {S R : Type 0} where
  pub scale_kept : (p p' : State Accelerator Processor S R) (refusal : List ℕ) (n : Net) → p' ≡ changed refusal p (edited n p) → p'.scale ≡ p.scale
  scale_kept p p' [] n is = ap (λ (x : State Accelerator Processor S R). x.scale) is
  scale_kept p p' (x ∷ r) n is = ap (λ (x : State Accelerator Processor S R). x.scale) is

  pub first_kept : (p p' : State Accelerator Processor S R) (refusal : List ℕ) (n : Net) → p' ≡ changed refusal p (edited n p) → p'.first ≡ p.first
  first_kept p p' [] n is = ap (λ (x : State Accelerator Processor S R). x.first) is
  first_kept p p' (x ∷ r) n is = ap (λ (x : State Accelerator Processor S R). x.first) is

  module _ (s : Rules R) (p p' : State Accelerator Processor S R) where
    pub adding : (c : Call) (r : Result (Granted R) Refusal) → p'.first ≡ p.first → ((h : List (Event R)) → Holds (kinds_at p) s h p → Holds (kinds_at p) s (event c r ∷ h) p') → Adding s p p' c r
    adding c r same law h held = subst (λ a. Holds (kinds (accelerated a.limit) processed) s (event c r ∷ h) p') (sym same) (law h held)

    pub edits : (c : Call) (refusal : List ℕ) (n : Net) (r : Result (Unit {0}) Refusal) → outcome r ≡ refusal → p' ≡ changed (outcome r) p (edited n p)
        → ((h : List (Event R)) → Holds (kinds_at p) s h p → Holds (kinds_at p) s (event c (by_grant r) ∷ h) p') → Edits s p p' c refusal n (refusal_told (outcome r))
    edits c refusal n r told_so is law =
        record {
          told = ap refusal_told told_so;
          after = subst (λ ts. p' ≡ changed ts p (edited n p)) told_so is;
          law = (by_grant r, judged R r refusal told_so, adding c (by_grant r) (first_kept p p' (outcome r) n is) law);
        }

    pub adds : (o : Operator) (r : Result ℕ Refusal) → outcome r ≡ add_refusal p.net o → IfOk r (λ v. v ≡ size p.net) → p' ≡ changed (outcome r) p (edited (added p.net o) p)
        → ((h : List (Event R)) → Holds (kinds_at p) s h p → Holds (kinds_at p) s (event (calls.Add o) (by_number r) ∷ h) p') → Adds s p p' o (number_of r)
    adds o r told_so value is law =
        record {
          told = numbered r (add_refusal p.net o) (size p.net) told_so value;
          after = subst (λ ts. p' ≡ changed ts p (edited (added p.net o) p)) told_so is;
          law = (by_number r, judged_number R r (add_refusal p.net o) (size p.net) told_so value, adding (calls.Add o) (by_number r) (first_kept p p' (outcome r) (added p.net o) is) law);
        }
