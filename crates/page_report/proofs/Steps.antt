-- What is told of a load and a plan that are made on a new planner, and what stands then.
use Rattle.std.proofs.Common.{◌≡◌, ℕ, true, List, [], ◌∷◌, length, map, get_or, slice_index_or, is_some, Option, None, Some, IfSome, Result, Ok, Err, refl, sym, ap, ◌∙◌, subst, arith}
use Rattle.std.specs.List.{All}
use Rattle.std.specs.Borrow.{Bor}
use Rattle.refusals.specs.declared.Refusal.{Refusal}
use Rattle.refusals.specs.declared.Refusal.TheVariants.{NoLawfulSplit}
use Rattle.refusals.specs.Told.{told, outcome}
use Rattle.refusals.proofs.Tellings.{told_something}
use Rattle.sheet.specs.Nets.{empty}
use Rattle.sheet.specs.Changes.{changed}
use Rattle.sheet_layout.specs.Bodies.{file_refusal, net_of}
use Rattle.device.specs.declared.accelerators.Accelerator.{Accelerator}
use Rattle.device.specs.Loads.{accelerated, processed}
use Rattle.scale.specs.Rules.{Rules}
use Rattle.scale.specs.Scales.{peak}
use Rattle.split.specs.declared.stages.Stage.{Stage}
use Rattle.split.specs.Splits.{Kinds, kinds, Lawful, Least}
use Rattle.recurrence.specs.Planned.{split_of}
use Rattle.best_split.specs.Finds.{find_refusal}
use Rattle.planner.specs.declared.calls.Call.{Call}
use Rattle.planner.specs.declared.calls.Call.TheVariants as calls
use Rattle.planner.specs.declared.calls.Granted.{Granted}
use Rattle.planner.specs.declared.calls.Step.{Step}
use Rattle.planner.specs.States.{Standing, State}
use Rattle.planner.specs.Law.{Event, event, present, plan_after, rating_by, Holds}
use Rattle.planner.specs.Answers.{rating_answer}
use Rattle.planner.specs.Runs.{call_of, history}
use Rattle.page_report.specs.SplitPages.{devices, told_in, refused_in}

module _ {R : Type 0} where
  -- what is read where no step is: the first of the calls, with noughts, and no answer
  abbrev no_step : Step R
  no_step = record { call = calls.Add (record { acc = 0; cpu = 0; size = 0; link = 0 }); answer = None }

  -- what is told of the load, and of the plan
  abbrev pub load : List (Step R) → List ℕ
  load xs = refused_in (slice_index_or xs 0 no_step)

  abbrev pub plan : List (Step R) → List ℕ
  plan xs = refused_in (slice_index_or xs 1 no_step)

some_standing : {R : Type 0} (o : Option (Standing R)) (z : R) → rating_answer o ≡ Ok z → (t : Standing R) × (o ≡ Some t)
some_standing None z h = absurd (cc)
some_standing (Some t) z h = (t, refl)

module _ {K L S R : Type 0} (e : Kinds) (s : Rules R) (f : Bor (List ℕ)) (p : State K L S R) where
  -- by what is told of the load, and of the plan
  pub record Stepped (load plan : List ℕ) : Type 0 where
    pub loads : load ≡ file_refusal f.now
    pub plans : load ≡ [] → plan ≡ find_refusal (net_of f.now) e s 512 4096 4096
    pub none : load ≡ [] → plan ≡ told NoLawfulSplit → (ss : List Stage) → Lawful (net_of f.now) e ss → ⊥
    pub net : load ≡ [] → plan ≡ [] → p.net ≡ net_of f.now
    pub stands : load ≡ [] → plan ≡ [] → (t : Standing R) × (p.standing ≡ Some t) × (t.stages ≡ split_of (net_of f.now) e s) × Least (net_of f.now) e s t.stages t.rating

  loaded : (r : Result (Granted R) Refusal) → outcome r ≡ [] → changed (outcome r) empty (net_of f.now) ≡ net_of f.now
  loaded r a = ap (λ (o : List ℕ). changed o empty (net_of f.now)) a

  module _ (r q : Result (Granted R) Refusal) where
    abbrev both : List (Event R)
    both = event (calls.Plan 512 4096 4096) q ∷ event (calls.Load f) r ∷ []

    now : outcome r ≡ [] → outcome q ≡ [] → present both ≡ net_of f.now
    now a b = ap (λ (o : List ℕ). changed o (changed (outcome r) empty (net_of f.now)) (changed (outcome r) empty (net_of f.now))) b ∙ loaded r a

  stood : (r q : Result (Granted R) Refusal) → Holds e s (both r q) p → outcome r ≡ [] → outcome q ≡ []
      → (t : Standing R) × (p.standing ≡ Some t) × (t.stages ≡ split_of (net_of f.now) e s) × Least (net_of f.now) e s t.stages t.rating
  stood r (Err x) held a b = absurd (told_something x b)
  stood r (Ok g) held a b =
      let plan = held.answered.0.answers in
      let there = some_standing p.standing plan.0.rating (held.stands ∙ ap (λ (x : Granted R). rating_by (plan_after (plan_after None r) (Ok x))) plan.1) in
      let t = there.0 in
      let kept = subst (λ (o : Option (Standing R)). IfSome o (λ u. (u.stages ≡ split_of (present (both r (Ok g))) e s) × Least (present (both r (Ok g))) e s u.stages u.rating)) there.1 held.exact in (
        t,
        there.1,
        subst (λ n. t.stages ≡ split_of n e s) (now r (Ok g) a b) kept.0,
        subst (λ n. Least n e s t.stages t.rating) (now r (Ok g) a b) kept.1,
      )

  stepped_both : (r q : Result (Granted R) Refusal) → Holds e s (both r q) p → Stepped (outcome r) (outcome q)
  stepped_both r q held = record {
    loads = held.answered.1.0.0;
    plans = λ a. subst (λ n. outcome q ≡ find_refusal n e s 512 4096 4096) (loaded r a) held.answered.0.refuses;
    none = λ a b ss lawful. held.answered.0.none b ss (subst (λ n. Lawful n e ss) (sym (loaded r a)) lawful);
    net = λ a b. held.sheet ∙ now r q a b;
    stands = stood r q held;
  }

  -- the history of two steps
  module _ (x y : Step R) (i : x.call ≡ calls.Load f) (j : y.call ≡ calls.Plan 512 4096 4096) where
    answered : (a b : Option (Result (Granted R) Refusal)) → x.answer ≡ a → y.answer ≡ b → is_some a ≡ true → is_some b ≡ true
        → Holds e s (history 512 4096 4096 (x ∷ y ∷ [])) p → Stepped (refused_in x) (refused_in y)
    answered None b k l m n held = absurd (cc)
    answered (Some r) None k l m n held = absurd (cc)
    answered (Some r) (Some q) k l m n held =
        let events : history 512 4096 4096 (x ∷ y ∷ []) ≡ both r q = rw (k, l, i, j) refl in
        subst (λ u. Stepped u (refused_in y)) (sym (ap told_in k)) (subst (λ u. Stepped (outcome r) u) (sym (ap told_in l)) (stepped_both r q (subst (λ h. Holds e s h p) events held)))

  stepped : (xs : List (Step R)) → map call_of xs ≡ calls.Load f ∷ calls.Plan 512 4096 4096 ∷ [] → All (λ (x : Step R). is_some x.answer ≡ true) xs
      → Holds e s (history 512 4096 4096 xs) p → Stepped (load xs) (plan xs)
  stepped [] same all held = absurd (let z = ap length same in omega (arith, z))
  stepped (x ∷ []) same all held = absurd (let z = ap length same in omega (arith, z))
  stepped (x ∷ y ∷ []) same all held =
      answered x y (ap (λ (cs : List Call). get_or cs 0 calls.Clear) same) (ap (λ (cs : List Call). get_or cs 1 calls.Clear) same) x.answer y.answer refl refl (all 0 x (omega arith)) (all 1 x (omega arith)) held
  stepped (x ∷ y ∷ z ∷ xs) same all held = absurd (let w = ap length same in omega (arith, w))

-- the kinds of a planner whose accelerator has the limit 1,000,000
pub limited : {a b : Accelerator} → a ≡ b → b.limit ≡ 1000000 → kinds (accelerated a.limit) processed ≡ devices
limited same is = ap (λ (l : ℕ). kinds (accelerated l) processed) (ap (λ (a : Accelerator). a.limit) same ∙ is)

-- the two steps on these kinds, on the scale peak
pub steps_of : {K L S : Type 0} {e : Kinds} {f : Bor (List ℕ)} {p : State K L S ℕ} (xs : List (Step ℕ)) → e ≡ devices → Holds e peak (history 512 4096 4096 xs) p
    → map call_of xs ≡ calls.Load f ∷ calls.Plan 512 4096 4096 ∷ [] → All (λ (x : Step ℕ). is_some x.answer ≡ true) xs → Stepped devices peak f p (load xs) (plan xs)
steps_of {e} {f} {p} xs same law made all = subst (λ e. Stepped e peak f p (load xs) (plan xs)) same (stepped e peak f p xs made all law)
