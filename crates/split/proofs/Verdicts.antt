-- A list of stages breaks no rule exactly if it is a lawful split.
use Rattle.std.proofs.Common.{◌≡◌, ℕ, suc, ◌+◌, ◌<◌, ◌≤◌, cond, eqb, List, [], ◌∷◌, inl, inr, refl, ◌∙◌, arith}
use Rattle.std.proofs.lemmas.Bool.{both_ways, eq-eqb, eqb-true}
use Rattle.std.proofs.lemmas.Bool.Decides.{nat_tests}
use Rattle.sets.specs.Sets.{has, full}
use Rattle.sets.proofs.Sets.{has_none}
use Rattle.sheet.specs.Nets.{Net, size}
use Rattle.split.specs.declared.stages.Stage.{Stage}
use Rattle.split.specs.declared.stages.Breach.{Breach}
use Rattle.split.specs.declared.stages.Breach.TheVariants.{MissingOperator}
use Rattle.split.specs.Splits.{Kinds, Lawful}
use Rattle.split.specs.declared.walks.Walk.{Walk}
use Rattle.split.specs.Breaches.{told_breach, stage_breach, walked, breach_from, nowhere, breach}
use Rattle.split.proofs.Checks.{unless_nothing, first_nothing, first_stops}
use Rattle.split.proofs.Nexts.{no_breach_next, next_no_breach}
use Rattle.split.proofs.Rests.{Rest, rest_none, none_rest, rest_next, rest_more, more_rest}

-- ---- one turn of a walk

module _ (n : Net) (e : Kinds) (w : Walk) (i : ℕ) (s : Stage) (ss : List Stage) where
  pub breach_step : stage_breach n e w i s ≡ [] → breach_from n e w i (s ∷ ss) ≡ breach_from n e (walked w s) (suc i) ss
  breach_step h = rw h refl

  pub breach_stops : (b : Breach) → told_breach b ≡ stage_breach n e w i s → told_breach b ≡ breach_from n e w i (s ∷ ss)
  breach_stops b h = first_stops b (stage_breach n e w i s) (breach_from n e (walked w s) (suc i) ss) h

-- ---- the stages that are left

-- a device more is in use only where one was free
still_few : (kind k a most : ℕ) → a ≤ most → (kind ≡ k → a < most) → a + cond (eqb kind k) 1 0 ≤ most
still_few kind k a most few free = grind (arith, nat_tests)

module _ (n : Net) (e : Kinds) where
  pub no_breach_rest : (w : Walk) (i : ℕ) (ss : List Stage) → w.first ≤ n.k → w.second ≤ n.l → breach_from n e w i ss ≡ [] → Rest n e w ss
  no_breach_rest w i [] first second h =
      none_rest n e w (eqb-true w.placed (full (size n)) (unless_nothing (eqb w.placed (full (size n))) MissingOperator h)) first second
  no_breach_rest w i (s ∷ ss) first second h =
      let both = first_nothing (stage_breach n e w i s) (breach_from n e (walked w s) (suc i) ss) h in
      let next = no_breach_next n e w i s both.0 in
      more_rest n e w s ss next (no_breach_rest (walked w s) (suc i) ss
      (still_few s.kind 1 w.first n.k first next.few_first)
      (still_few s.kind 2 w.second n.l second next.few_second)
      both.1)

  pub rest_no_breach : (w : Walk) (i : ℕ) (ss : List Stage) → Rest n e w ss → breach_from n e w i ss ≡ []
  rest_no_breach w i [] d = rw (eq-eqb w.placed (full (size n)) (rest_none n e w d)) refl
  rest_no_breach w i (s ∷ ss) d =
      breach_step n e w i s ss (next_no_breach n e w i s (rest_next n e w s ss d))
      ∙ rest_no_breach (walked w s) (suc i) ss (rest_more n e w s ss d)

  -- ---- all stages

  rest_lawful : (ss : List Stage) → Rest n e nowhere ss → Lawful n e ss
  rest_lawful ss d =
      let first = d.few_first in
      let second = d.few_second in
      record {
        everywhere = λ v h. elim (d.everywhere v h) [ inl k ↦ absurd (both_ways (has 0 v) (has_none v) k) | inr t ↦ t ];
        once = d.once;
        only = d.only;
        filled = d.filled;
        forward = d.forward;
        fits = d.fits;
        few_first = omega arith;
        few_second = omega arith;
      }

  lawful_rest : (ss : List Stage) → Lawful n e ss → Rest n e nowhere ss
  lawful_rest ss d =
      let first = d.few_first in
      let second = d.few_second in
      record {
        known = λ v h. absurd (both_ways (has 0 v) (has_none v) h);
        everywhere = λ v h. inr (d.everywhere v h);
        once = d.once;
        only = d.only;
        filled = d.filled;
        apart = λ i v h k. both_ways (has 0 v) (has_none v) k;
        outward = λ u v i f h k. both_ways (has 0 v) (has_none v) k;
        forward = d.forward;
        fits = d.fits;
        few_first = omega arith;
        few_second = omega arith;
      }

  pub no_breach_lawful : (ss : List Stage) → breach n e ss ≡ [] → Lawful n e ss
  no_breach_lawful ss h = rest_lawful ss (no_breach_rest nowhere 0 ss (omega arith) (omega arith) h)

  pub lawful_no_breach : (ss : List Stage) → Lawful n e ss → breach n e ss ≡ []
  lawful_no_breach ss d = rest_no_breach nowhere 0 ss (lawful_rest ss d)
