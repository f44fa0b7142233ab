-- What holds after every list of calls on a new planner, for any two kinds e and any scale s.
--   Event              a call with all that it was handed, and what came back
--   done c n           the sheet that a granted call makes of the sheet n
--   present h          the sheet by the calls alone; of a history h the newest call comes first
--   last_plan h        what the last granted call answered, if that call is a plan
--   rating_by a        what rating answers after it
--   Answers n c r      at the sheet n, the call c is answered by r: granted exactly if none of its checks applies, and else told the first that does
--   AllAnswered h      each call was answered so, at the sheet before it
--   Holds h p          the law, of a planner p after a history h
use Rattle.std.specs.Prelude.{◌≡◌, ⊤, ℕ, true, false, List, [], ◌∷◌, length, Option, None, Some, IfOk, IfSome, Result, Ok, Err, nat_le}
use Rattle.refusals.specs.declared.Refusal.{Refusal}
use Rattle.refusals.specs.declared.Refusal.TheVariants.{TooManyIdeals, TooFewCells, NoLawfulSplit, NoSplit}
use Rattle.refusals.specs.Told.{told, outcome}
use Rattle.sheet.specs.Nets.{Net, size, empty}
use Rattle.sheet.specs.Changes.{unless, first, changed, add_refusal, added, join_refusal, joined, retime_refusal, retimed, count_refusal, counted}
use Rattle.sheet_layout.specs.Bodies.{file_refusal, net_of}
use Rattle.scale.specs.Rules.{Rules}
use Rattle.split.specs.declared.stages.Stage.{Stage}
use Rattle.split.specs.Splits.{Kinds, Lawful, Least}
use Rattle.ideals.specs.Ideals.{ideals, room}
use Rattle.recurrence.specs.Planned.{split_of}
use Rattle.best_split.specs.Finds.{tables_suffice, find_refusal}
use Rattle.planner.specs.declared.plans.Plan.{Plan}
use Rattle.planner.specs.declared.calls.Call.{Call}
use Rattle.planner.specs.declared.calls.Call.TheVariants as calls
use Rattle.planner.specs.declared.calls.Granted.{Granted}
use Rattle.planner.specs.declared.calls.Granted.TheVariants.{Added, Changed, Planned}
use Rattle.planner.specs.States.{State}
use Rattle.planner.specs.Answers.{rating_answer, stage_of, stage_answer}

pub record Event (R : Type 0) : Type 0 where
  pub call : Call
  pub answer : Result (Granted R) Refusal

-- what came back, as one type for all calls
module _ {R : Type 0} where
  abbrev pub by_number : Result ℕ Refusal → Result (Granted R) Refusal
  by_number (Ok v) = Ok (Added v)
  by_number (Err x) = Err x

  abbrev pub by_grant : Result (Unit {0}) Refusal → Result (Granted R) Refusal
  by_grant (Ok u) = Ok Changed
  by_grant (Err x) = Err x

  abbrev pub by_plan : Result (Plan R) Refusal → Result (Granted R) Refusal
  by_plan (Ok p) = Ok (Planned p)
  by_plan (Err x) = Err x

  abbrev pub event : Call → Result (Granted R) Refusal → Event R
  event c r = record { call = c; answer = r }

-- ---- the present sheet

abbrev pub done : Call → Net → Net
done (calls.Add o) n = added n o
done (calls.Join u v) n = joined n u v
done (calls.Retime v o) n = retimed n v o
done (calls.Count k l) n = counted n k l
done (calls.Load f) n = net_of f.now
done calls.Clear n = empty
done (calls.Plan a b c) n = n

module _ {R : Type 0} where
  abbrev pub present : List (Event R) → Net
  present [] = empty
  present (x ∷ h) = changed (outcome x.answer) (present h) (done x.call (present h))

  -- ---- the last plan

  -- what becomes of it by an answer
  abbrev pub plan_after : Option (Plan R) → Result (Granted R) Refusal → Option (Plan R)
  plan_after a (Err e) = a
  plan_after a (Ok (Added v)) = None
  plan_after a (Ok Changed) = None
  plan_after a (Ok (Planned p)) = Some p

  abbrev pub last_plan : List (Event R) → Option (Plan R)
  last_plan [] = None
  last_plan (x ∷ h) = plan_after (last_plan h) x.answer

  abbrev pub rating_by : Option (Plan R) → Result R Refusal
  rating_by None = Err NoSplit
  rating_by (Some a) = Ok a.rating

-- ---- what is answered

-- told just the first check that applies, and answering g where none does
abbrev pub Judged : {R : Type 0} → List ℕ → Granted R → Result (Granted R) Refusal → Type 0
Judged refusal g r = (outcome r ≡ refusal) × IfOk r (λ x. x ≡ g)

-- a plan with tables of the lengths a, b and c
module _ {R : Type 0} (e : Kinds) (s : Rules R) (n : Net) (a b c : ℕ) (r : Result (Granted R) Refusal) where
  pub record PlanJudged : Type 0 where
    -- granted exactly if the tables suffice and the sheet has a lawful split
    pub granted : tables_suffice n a b c ≡ true → (ss : List Stage) → Lawful n e ss → outcome r ≡ []
    pub suffice : outcome r ≡ [] → tables_suffice n a b c ≡ true
    pub lawful : outcome r ≡ [] → (ss : List Stage) × Lawful n e ss
    -- refused for want of a lawful split exactly if the tables suffice and the sheet has none
    pub missing : tables_suffice n a b c ≡ true → ((ss : List Stage) → Lawful n e ss → ⊥) → outcome r ≡ told NoLawfulSplit
    pub enough : outcome r ≡ told NoLawfulSplit → tables_suffice n a b c ≡ true
    pub none : outcome r ≡ told NoLawfulSplit → (ss : List Stage) → Lawful n e ss → ⊥
    -- else told of the first table that is too short
    pub short : tables_suffice n a b c ≡ false → outcome r ≡ first (unless (nat_le (length (ideals n)) (room a)) (told TooManyIdeals)) (told TooFewCells)
    -- all of which is one list of checks, the last of them by the recurrence
    pub refuses : outcome r ≡ find_refusal n e s a b c
    -- the answer is the rating and the number of stages of a least split, and the number of ideals
    pub answers : IfOk r (λ g. (p : Plan R) × (g ≡ Planned p) × (p.ideals ≡ length (ideals n)) × ((ss : List Stage) × (length ss ≡ p.stages) × Least n e s ss p.rating))

module _ {R : Type 0} (e : Kinds) (s : Rules R) (n : Net) where
  abbrev pub Answers : Call → Result (Granted R) Refusal → Type 0
  Answers (calls.Add o) r = Judged (add_refusal n o) (Added (size n)) r
  Answers (calls.Join u v) r = Judged (join_refusal n u v) Changed r
  Answers (calls.Retime v o) r = Judged (retime_refusal n v o) Changed r
  Answers (calls.Count k l) r = Judged (count_refusal k l) Changed r
  Answers (calls.Load f) r = Judged (file_refusal f.now) Changed r
  Answers calls.Clear r = Judged [] Changed r
  Answers (calls.Plan a b c) r = PlanJudged e s n a b c r

-- ---- the law

module _ {R : Type 0} (e : Kinds) (s : Rules R) where
  abbrev pub AllAnswered : List (Event R) → Type 0
  AllAnswered [] = ⊤
  AllAnswered (x ∷ h) = Answers e s (present h) x.call x.answer × AllAnswered h

  pub record Holds {K L S : Type 0} (h : List (Event R)) (p : State K L S R) : Type 0 where
    -- the planner has the present sheet
    pub sheet : p.net ≡ present h
    -- a split stands, so that rating is not refused, exactly if the last granted call is a plan, and rating answers what this plan did
    pub stands : rating_answer p.standing ≡ rating_by (last_plan h)
    -- the stages that stage answers, from 0 until it is refused, are lawful for the present sheet, and no lawful split rates lower
    pub least : IfSome (last_plan h) (λ a. (ss : List Stage) × (length ss ≡ a.stages) × ((i : ℕ) → stage_answer p.standing i ≡ stage_of ss i) × Least (present h) e s ss a.rating)
    -- what the planner keeps is a least split, and of all least ones the one that the recurrence finds
    pub exact : IfSome p.standing (λ t. (t.stages ≡ split_of (present h) e s) × Least (present h) e s t.stages t.rating)
    -- each call was answered rightly, at the sheet before it
    pub answered : AllAnswered h
