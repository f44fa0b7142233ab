-- A plan is granted exactly if the tables suffice and there is a lawful split, and refused for want of one exactly if they suffice and there is none.
use Rattle.std.proofs.Common.{◌≡◌, ℕ, Bool, true, false, ◌&&◌, List, [], length, is_some, Result, Ok, Err, refl, sym, ◌∙◌, nat_le, arith}
use Rattle.refusals.specs.declared.Refusal.{Refusal}
use Rattle.refusals.specs.declared.Refusal.TheVariants.{TooManyIdeals, TooFewCells, NoLawfulSplit}
use Rattle.refusals.specs.Told.{told}
use Rattle.refusals.proofs.Tellings.{told_something}
use Rattle.sheet.specs.Changes.{unless, first}
use Rattle.scale.specs.Rules.{Rules}
use Rattle.split.specs.Splits.{Kinds}
use Rattle.ideals.specs.Ideals.{ideals, room}
use Rattle.recurrence.specs.Planned.{best_of, split_of}
use Rattle.cells.specs.declared.choices.Choice.{Choice}
use Rattle.table_pass.specs.Filled.{cells_fit}
use Rattle.planner.specs.declared.plans.Plan.{Plan}
use Rattle.planner.specs.States.{State}
use Rattle.planner.specs.Plans.{Plans}
use Rattle.planner.specs.Law.{PlanJudged, by_plan}

-- ---- three checks

abbrev three : Bool → Bool → Bool → List ℕ
three few fit some = first (unless few (told TooManyIdeals)) (first (unless fit (told TooFewCells)) (unless some (told NoLawfulSplit)))

three_granted : (few fit some : Bool) → three few fit some ≡ [] → (few && fit) ≡ true
three_granted true true some h = refl
three_granted true false some h = absurd (told_something TooFewCells h)
three_granted false fit some h = absurd (told_something TooManyIdeals h)

three_missing : (few fit some : Bool) → (few && fit) ≡ true → (three few fit some ≡ [] → ⊥) → three few fit some ≡ told NoLawfulSplit
three_missing true true true h other = absurd (other refl)
three_missing true true false h other = refl
three_missing true false some h other = absurd (cc)
three_missing false fit some h other = absurd (cc)

three_enough : (few fit some : Bool) → three few fit some ≡ told NoLawfulSplit → (few && fit) ≡ true
three_enough true true some h = refl
three_enough true false some h = let z : ◌≡◌ {A = ℕ} 8 9 = cc in absurd (omega arith)
three_enough false fit some h = let z : ◌≡◌ {A = ℕ} 7 9 = cc in absurd (omega arith)

three_short : (few fit some : Bool) → (few && fit) ≡ false → three few fit some ≡ first (unless few (told TooManyIdeals)) (told TooFewCells)
three_short true true some h = absurd (cc)
three_short true false some h = refl
three_short false fit some h = refl

-- ---- a plan

module _ {K L S R : Type 0} (e : Kinds) (s : Rules R) (ms ms' : List ℕ) (rs : List R) (cs : List Choice) (rs' : List R) (cs' : List Choice) (p p' : State K L S R) where
  abbrev few : Bool
  few = nat_le (length (ideals p.net)) (room (length ms))

  abbrev fit : Bool
  fit = cells_fit p.net.k p.net.l (length (ideals p.net)) (length rs) (length cs)

  pub plan_judged : (r : Result (Plan R) Refusal) → Plans e s ms ms' rs cs rs' cs' p p' r → PlanJudged e s p.net (length ms) (length rs) (length cs) (by_plan r)
  plan_judged (Ok a) q =
      record {
        granted = λ enough ss lawful. refl;
        suffice = λ o. three_granted few fit (is_some (best_of p.net e s)) (sym q.refuses);
        lawful = λ o. (split_of p.net e s, q.least.lawful);
        missing = λ enough none. absurd (none (split_of p.net e s) q.least.lawful);
        enough = λ o. absurd (told_something NoLawfulSplit (sym o));
        none = λ o. absurd (told_something NoLawfulSplit (sym o));
        short = λ not_enough. q.refuses ∙ three_short few fit (is_some (best_of p.net e s)) not_enough;
        refuses = q.refuses;
        answers = (a, refl, q.answers.2, (split_of p.net e s, sym q.answers.1, q.least));
      }
  plan_judged (Err x) q =
      let some = is_some (best_of p.net e s) in
      record {
        granted = λ enough ss lawful. absurd (let z : false ≡ true = q.granted enough ss lawful in cc);
        suffice = λ o. absurd (told_something x o);
        lawful = λ o. absurd (told_something x o);
        missing = λ enough none. q.refuses ∙ three_missing few fit some enough (λ z. told_something x (q.refuses ∙ z));
        enough = λ o. three_enough few fit some (sym q.refuses ∙ o);
        none = λ o. q.none o;
        short = λ not_enough. q.refuses ∙ three_short few fit some not_enough;
        refuses = q.refuses;
        answers = tt;
      }
