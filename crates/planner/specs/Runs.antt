-- A list of calls made on a planner, one after another.
--   handed a b c x     the call x as it is made where the three tables have these lengths
--   Makes              what one call does to the planner and to the tables, and answers
--   Lent               the three tables
--   Ran xs t p t' p'   the steps xs, made one after another, lead from the tables t and the planner p to t' and p'
--   history a b c xs   the calls of the steps that are made, with what came back, the newest first
use Rattle.std.specs.Prelude.{◌≡◌, ℕ, min, List, [], ◌∷◌, Some, length, take, drop, reverse, Option, Result}
use Rattle.std.specs.List.{filter_map}
use Rattle.std.specs.Option.{option_map}
use Rattle.refusals.specs.declared.Refusal.{Refusal}
use Rattle.refusals.specs.Told.{outcome}
use Rattle.sheet.specs.Changes.{changed}
use Rattle.scale.specs.Rules.{Rules}
use Rattle.split.specs.Splits.{Kinds}
use Rattle.cells.specs.declared.choices.Choice.{Choice}
use Rattle.planner.specs.declared.plans.Plan.{Plan}
use Rattle.planner.specs.declared.calls.Call.{Call}
use Rattle.planner.specs.declared.calls.Call.TheVariants as calls
use Rattle.planner.specs.declared.calls.Granted.{Granted}
use Rattle.planner.specs.declared.calls.Step.{Step}
use Rattle.planner.specs.States.{State, edited}
use Rattle.planner.specs.Plans.{Plans}
use Rattle.planner.specs.Law.{Event, event, by_plan, done, Answers}

module _ (a b c : ℕ) where
  abbrev pub handed : Call → Call
  handed (calls.Add o) = calls.Add o
  handed (calls.Join u v) = calls.Join u v
  handed (calls.Retime v o) = calls.Retime v o
  handed (calls.Count k l) = calls.Count k l
  handed (calls.Load f) = calls.Load f
  handed calls.Clear = calls.Clear
  handed (calls.Plan x y z) = calls.Plan (min x a) (min y b) (min z c)

  module _ {R : Type 0} where
    abbrev pub event_of : Step R → Option (Event R)
    event_of x = option_map (event (handed x.call)) x.answer

    abbrev pub history : List (Step R) → List (Event R)
    history xs = reverse (filter_map event_of xs)

abbrev pub call_of : {R : Type 0} → Step R → Call
call_of x = x.call

-- ms, rs and cs are the tables of ideals, ratings and choices before, ms', rs' and cs' after; p is the planner before, p' after
module _ {K L S R : Type 0} (e : Kinds) (s : Rules R) (ms ms' : List ℕ) (rs : List R) (cs : List Choice) (rs' : List R) (cs' : List Choice) (p p' : State K L S R) where
  -- a plan with the first x ideals, y ratings and z choices
  pub record MakesPlan (x y z : ℕ) (r : Result (Granted R) Refusal) : Type 0 where
    pub answer : Result (Plan R) Refusal
    pub comes : r ≡ by_plan answer
    pub plans : Plans e s (take x ms) (take x ms') (take y rs) (take z cs) (take y rs') (take z cs') p p' answer
    pub more_ideals : drop x ms' ≡ drop x ms
    pub more_ratings : drop y rs' ≡ drop y rs
    pub more_choices : drop z cs' ≡ drop z cs

  abbrev pub Untouched : Type 0
  Untouched = (ms' ≡ ms) × (rs' ≡ rs) × (cs' ≡ cs)

  -- a call that is no plan
  abbrev pub Edits : Call → Result (Granted R) Refusal → Type 0
  Edits c r = Untouched × Answers e s p.net c r × (p' ≡ changed (outcome r) p (edited (done c p.net) p))

  abbrev pub Makes : Call → Result (Granted R) Refusal → Type 0
  Makes (calls.Add o) r = Edits (calls.Add o) r
  Makes (calls.Join u v) r = Edits (calls.Join u v) r
  Makes (calls.Retime v o) r = Edits (calls.Retime v o) r
  Makes (calls.Count k l) r = Edits (calls.Count k l) r
  Makes (calls.Load f) r = Edits (calls.Load f) r
  Makes calls.Clear r = Edits calls.Clear r
  Makes (calls.Plan x y z) r = MakesPlan (min x (length ms)) (min y (length rs)) (min z (length cs)) r

pub record Lent (R : Type 0) : Type 0 where
  pub ideals : List ℕ
  pub ratings : List R
  pub choices : List Choice

abbrev pub lent : {R : Type 0} → List ℕ → List R → List Choice → Lent R
lent ms rs cs = record { ideals = ms; ratings = rs; choices = cs }

module _ {K L S R : Type 0} (e : Kinds) (s : Rules R) where
  abbrev pub Ran : List (Step R) → Lent R → State K L S R → Lent R → State K L S R → Type 0
  Ran [] t p t' p' = (t' ≡ t) × (p' ≡ p)
  Ran (x ∷ xs) t p t' p' =
      (r : Result (Granted R) Refusal) × (u : Lent R) × (q : State K L S R) × (x.answer ≡ Some r)
      × Makes e s t.ideals u.ideals t.ratings t.choices u.ratings u.choices p q x.call r × Ran xs u q t' p'
