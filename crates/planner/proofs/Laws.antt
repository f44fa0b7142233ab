-- The law holds with one call more.
use Rattle.std.proofs.Common.{◌≡◌, ℕ, List, [], ◌∷◌, length, None, IfOk, IfSome, Result, Ok, Err, refl, sym, ap, ◌∙◌, subst}
use Rattle.refusals.specs.declared.Refusal.{Refusal}
use Rattle.refusals.specs.Told.{told, outcome}
use Rattle.refusals.proofs.Tellings.{told_something}
use Rattle.sheet.specs.declared.operators.Operator.{Operator}
use Rattle.sheet.specs.Nets.{Net, size, empty}
use Rattle.sheet.specs.Changes.{changed, add_refusal, added, join_refusal, joined, retime_refusal, retimed, count_refusal, counted}
use Rattle.sheet_layout.specs.Bodies.{file_refusal, net_of}
use Rattle.scale.specs.Rules.{Rules}
use Rattle.split.specs.Splits.{Kinds, Least}
use Rattle.std.specs.Borrow.{Bor}
use Rattle.recurrence.specs.Planned.{split_of}
use Rattle.cells.specs.declared.choices.Choice.{Choice}
use Rattle.planner.specs.declared.plans.Plan.{Plan}
use Rattle.planner.specs.declared.calls.Call.{Call}
use Rattle.planner.specs.declared.calls.Call.TheVariants as calls
use Rattle.planner.specs.declared.calls.Granted.{Granted}
use Rattle.planner.specs.declared.calls.Granted.TheVariants.{Added, Changed, Planned}
use Rattle.split.specs.declared.stages.Stage.{Stage}
use Rattle.planner.specs.States.{Standing, State, edited}
use Rattle.planner.specs.Answers.{rating_answer, stage_of, stage_answer}
use Rattle.planner.specs.Plans.{Plans}
use Rattle.planner.proofs.Judging.{plan_judged}
use Rattle.planner.specs.Law.{Event, event, by_number, by_grant, by_plan, done, present, last_plan, plan_after, rating_by, Judged, Answers, Holds}

pub kept : {X : Type 0} (r : List ℕ) (a b : X) → (r ≡ [] → ⊥) → changed r a b ≡ a
kept [] a b h = absurd (h refl)
kept (x ∷ r) a b h = refl

module _ {K L S R : Type 0} (e : Kinds) (s : Rules R) (h : List (Event R)) (p p' : State K L S R) (c : Call) where
  abbrev Exact : Net → Standing R → Type 0
  Exact n t = (t.stages ≡ split_of n e s) × Least n e s t.stages t.rating

  abbrev Shows : Net → Plan R → State K L S R → Type 0
  Shows n a q = (ss : List Stage) × (length ss ≡ a.stages) × ((i : ℕ) → stage_answer q.standing i ≡ stage_of ss i) × Least n e s ss a.rating

  -- a refused call
  pub refused : (x : Refusal) → p' ≡ p → Answers e s p.net c (Err x) → Holds e s h p → Holds e s (event c (Err x) ∷ h) p'
  refused x same right held =
      let still : present (event c (Err x) ∷ h) ≡ present h = kept (told x) (present h) (done c (present h)) (told_something x) in
      record {
        sheet = ap (λ (q : State K L S R). q.net) same ∙ held.sheet ∙ sym still;
        stands = ap (λ (q : State K L S R). rating_answer q.standing) same ∙ held.stands;
        least = subst (λ n. IfSome (last_plan h) (λ a. Shows n a p')) (sym still) (subst (λ (q : State K L S R). IfSome (last_plan h) (λ a. Shows (present h) a q)) (sym same) held.least);
        exact = subst (λ n. IfSome p'.standing (λ (t : Standing R). Exact n t)) (sym still) (subst (λ (q : State K L S R). IfSome q.standing (λ (t : Standing R). Exact (present h) t)) (sym same) held.exact);
        answered = (subst (λ n. Answers e s n c (Err x)) held.sheet right, held.answered);
      }

  -- a granted call that takes the split away
  pub granted : (g : Granted R) (n : Net) → p' ≡ edited n p → n ≡ done c p.net → plan_after (last_plan h) (Ok g) ≡ None → Answers e s p.net c (Ok g) → Holds e s h p → Holds e s (event c (Ok g) ∷ h) p'
  granted g n now is gone right held =
      record {
        sheet = ap (λ (q : State K L S R). q.net) now ∙ is ∙ ap (done c) held.sheet;
        stands = ap (λ (q : State K L S R). rating_answer q.standing) now ∙ ap rating_by (sym gone);
        least = subst (λ o. IfSome o (λ a. Shows (present (event c (Ok g) ∷ h)) a p')) (sym gone) tt;
        exact = subst (λ (q : State K L S R). IfSome q.standing (λ (t : Standing R). Exact (present (event c (Ok g) ∷ h)) t)) (sym now) tt;
        answered = (subst (λ n. Answers e s n c (Ok g)) held.sheet right, held.answered);
      }

module _ {K L S R : Type 0} (e : Kinds) (s : Rules R) (h : List (Event R)) (p p' : State K L S R) where
  -- a call that answers nothing but that it is granted
  change : (c : Call) (n : Net) (check : List ℕ) (r : Result (Unit {0}) Refusal) → n ≡ done c p.net → ((a : Result (Granted R) Refusal) → Judged check Changed a → Answers e s p.net c a)
      → outcome r ≡ check → p' ≡ changed (outcome r) p (edited n p) → Holds e s h p → Holds e s (event c (by_grant r) ∷ h) p'
  change c n check (Ok u) is right told_so now held = granted e s h p p' c Changed n now is refl (right (Ok Changed) (told_so, refl)) held
  change c n check (Err x) is right told_so now held = refused e s h p p' c x (now ∙ kept (told x) p (edited n p) (told_something x)) (right (Err x) (told_so, tt)) held

  pub after_add : (o : Operator) (r : Result ℕ Refusal) → outcome r ≡ add_refusal p.net o → IfOk r (λ v. v ≡ size p.net) → p' ≡ changed (outcome r) p (edited (added p.net o) p)
      → Holds e s h p → Holds e s (event (calls.Add o) (by_number r) ∷ h) p'
  after_add o (Ok v) told_so value now held = granted e s h p p' (calls.Add o) (Added v) (added p.net o) now refl refl (told_so, ap Added value) held
  after_add o (Err x) told_so value now held = refused e s h p p' (calls.Add o) x (now ∙ kept (told x) p (edited (added p.net o) p) (told_something x)) (told_so, tt) held

  pub after_join : (u v : ℕ) (r : Result (Unit {0}) Refusal) → outcome r ≡ join_refusal p.net u v → p' ≡ changed (outcome r) p (edited (joined p.net u v) p)
      → Holds e s h p → Holds e s (event (calls.Join u v) (by_grant r) ∷ h) p'
  after_join u v r = change (calls.Join u v) (joined p.net u v) (join_refusal p.net u v) r refl (λ a j. j)

  pub after_retime : (v : ℕ) (o : Operator) (r : Result (Unit {0}) Refusal) → outcome r ≡ retime_refusal p.net v o → p' ≡ changed (outcome r) p (edited (retimed p.net v o) p)
      → Holds e s h p → Holds e s (event (calls.Retime v o) (by_grant r) ∷ h) p'
  after_retime v o r = change (calls.Retime v o) (retimed p.net v o) (retime_refusal p.net v o) r refl (λ a j. j)

  pub after_count : (k l : ℕ) (r : Result (Unit {0}) Refusal) → outcome r ≡ count_refusal k l → p' ≡ changed (outcome r) p (edited (counted p.net k l) p)
      → Holds e s h p → Holds e s (event (calls.Count k l) (by_grant r) ∷ h) p'
  after_count k l r = change (calls.Count k l) (counted p.net k l) (count_refusal k l) r refl (λ a j. j)

  pub after_load : (f : Bor (List ℕ)) (r : Result (Unit {0}) Refusal) → outcome r ≡ file_refusal f.now → p' ≡ changed (outcome r) p (edited (net_of f.now) p)
      → Holds e s h p → Holds e s (event (calls.Load f) (by_grant r) ∷ h) p'
  after_load f r = change (calls.Load f) (net_of f.now) (file_refusal f.now) r refl (λ a j. j)

  pub after_clear : p' ≡ edited empty p → Holds e s h p → Holds e s (event calls.Clear (Ok Changed) ∷ h) p'
  after_clear now held = granted e s h p p' calls.Clear Changed empty now refl refl (refl, refl) held

  -- a plan, with tables of these lengths
  pub after_plan : (ms ms' : List ℕ) (rs : List R) (cs : List Choice) (rs' : List R) (cs' : List Choice) (r : Result (Plan R) Refusal)
      → Plans e s ms ms' rs cs rs' cs' p p' r → Holds e s h p → Holds e s (event (calls.Plan (length ms) (length rs) (length cs)) (by_plan r) ∷ h) p'
  after_plan ms ms' rs cs rs' cs' (Ok a) q held =
      record {
        sheet = ap (λ (q : State K L S R). q.net) q.settles ∙ held.sheet;
        stands = ap (λ (q : State K L S R). rating_answer q.standing) q.settles;
        least = (split_of p.net e s, sym q.answers.1, (λ i. ap (λ (q : State K L S R). stage_answer q.standing i) q.settles), subst (λ n. Least n e s (split_of p.net e s) a.rating) held.sheet q.least);
        exact = subst (λ (q : State K L S R). IfSome q.standing (λ (t : Standing R). (t.stages ≡ split_of (present h) e s) × Least (present h) e s t.stages t.rating)) (sym q.settles) (ap (λ n. split_of n e s) held.sheet, subst (λ n. Least n e s (split_of p.net e s) a.rating) held.sheet q.least);
        answered = (subst (λ n. Answers e s n (calls.Plan (length ms) (length rs) (length cs)) (Ok (Planned a))) held.sheet (plan_judged e s ms ms' rs cs rs' cs' p p' (Ok a) q), held.answered);
      }
  after_plan ms ms' rs cs rs' cs' (Err x) q held =
      refused e s h p p' (calls.Plan (length ms) (length rs) (length cs)) x q.settles (plan_judged e s ms ms' rs cs rs' cs' p p' (Err x) q) held
