-- A plan that is handed the fronts of three tables changes nothing past them.
use Rattle.std.proofs.Common.{◌≡◌, ℕ, min, List, ◌++◌, length, take, drop, Result, refl, sym, ap, ◌∙◌, subst, arith}
use Rattle.std.proofs.Math.Seq.{take-append_seam, drop-append_seam}
use Rattle.std.proofs.lemmas.List.{length-take-le}
use Rattle.refusals.specs.declared.Refusal.{Refusal}
use Rattle.scale.specs.Rules.{Rules}
use Rattle.split.specs.Splits.{Kinds}
use Rattle.cells.specs.declared.choices.Choice.{Choice}
use Rattle.planner.specs.declared.plans.Plan.{Plan}
use Rattle.planner.specs.States.{State}
use Rattle.planner.specs.Plans.{Plans}
use Rattle.planner.specs.declared.calls.Call.{Call}
use Rattle.planner.specs.declared.calls.Call.TheVariants as calls
use Rattle.planner.specs.declared.calls.Granted.{Granted}
use Rattle.planner.specs.Law.{event, by_plan}
use Rattle.planner.specs.Runs.{handed, MakesPlan, Makes}

module _ {X : Type 0} (new old : List X) (x : ℕ) (fits : length new ≡ x) where
  front : take x (new ++ drop x old) ≡ new
  front = rw (sym fits) (take-append_seam new (drop (length new) old))

  back : drop x (new ++ drop x old) ≡ drop x old
  back = rw (sym fits) (drop-append_seam new (drop (length new) old))

module _ {K L S R : Type 0} (e : Kinds) (s : Rules R) (ms ms' : List ℕ) (rs : List R) (cs : List Choice) (rs' : List R) (cs' : List Choice) (p p' : State K L S R) (x y z : ℕ) where
  pub made_plan : (q : Result (Plan R) Refusal) → length ms' ≡ x → length rs' ≡ y → length cs' ≡ z → Plans e s (take x ms) ms' (take y rs) (take z cs) rs' cs' p p' q
      → MakesPlan e s ms (ms' ++ drop x ms) rs cs (rs' ++ drop y rs) (cs' ++ drop z cs) p p' x y z (by_plan q)
  made_plan q i j k plans = record {
    answer = q;
    comes = refl;
    plans = rw (front ms' ms x i, front rs' rs y j, front cs' cs z k) plans;
    more_ideals = back ms' ms x i;
    more_ratings = back rs' rs y j;
    more_choices = back cs' cs z k;
  }

  module _ (call : Call) (a b c : ℕ) (is : call ≡ calls.Plan a b c) (xe : x ≡ min a (length ms)) (ye : y ≡ min b (length rs)) (ze : z ≡ min c (length cs)) (q : Result (Plan R) Refusal) (r : Result (Granted R) Refusal) (told : r ≡ by_plan q) where
    pub makes_plan : length ms' ≡ x → length rs' ≡ y → length cs' ≡ z → Plans e s (take x ms) ms' (take y rs) (take z cs) rs' cs' p p' q
        → Makes e s ms (ms' ++ drop x ms) rs cs (rs' ++ drop y rs) (cs' ++ drop z cs) p p' call r
    makes_plan i j k plans =
        subst (λ u. Makes e s ms (ms' ++ drop x ms) rs cs (rs' ++ drop y rs) (cs' ++ drop z cs) p p' u r) (sym is)
        (subst (λ u. MakesPlan e s ms (ms' ++ drop x ms) rs cs (rs' ++ drop y rs) (cs' ++ drop z cs) p p' u (min b (length rs)) (min c (length cs)) r) xe
        (subst (λ u. MakesPlan e s ms (ms' ++ drop x ms) rs cs (rs' ++ drop y rs) (cs' ++ drop z cs) p p' x u (min c (length cs)) r) ye
        (subst (λ u. MakesPlan e s ms (ms' ++ drop x ms) rs cs (rs' ++ drop y rs) (cs' ++ drop z cs) p p' x y u r) ze
        (subst (MakesPlan e s ms (ms' ++ drop x ms) rs cs (rs' ++ drop y rs) (cs' ++ drop z cs) p p' x y z) (sym told) (made_plan q i j k plans)))))

    pub plan_event : event {R = R} (calls.Plan (length (take x ms)) (length (take y rs)) (length (take z cs))) (by_plan q) ≡ event (handed (length ms) (length rs) (length cs) call) r
    plan_event =
        let i : length (take x ms) ≡ min a (length ms) = length-take-le x ms (omega (arith, xe)) ∙ xe in
        let j : length (take y rs) ≡ min b (length rs) = length-take-le y rs (omega (arith, ye)) ∙ ye in
        let k : length (take z cs) ≡ min c (length cs) = length-take-le z cs (omega (arith, ze)) ∙ ze in
        rw (i, j, k) (ap (event (calls.Plan (min a (length ms)) (min b (length rs)) (min c (length cs)))) (sym told)) ∙ ap (λ u. event (handed (length ms) (length rs) (length cs) u) r) (sym is)
