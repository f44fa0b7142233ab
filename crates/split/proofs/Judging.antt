-- Where the judge stands before each stage, and what it promises at each end.
use Rattle.std.proofs.Common.{◌≡◌, ℕ, suc, ◌+◌, ◌<◌, ◌≤◌, Bool, true, false, cond, eqb, List, [], length, drop, Some, Ok, Err, sym, ap, ◌∙◌, arith}
use Rattle.std.proofs.lemmas.List.{at_drop_more, at_drop_all}
use Rattle.std.proofs.lemmas.Bool.{eq-eqb, ne_eqb}
use Rattle.sets.specs.Sets.{full}
use Rattle.sheet.specs.Nets.{Net, size}
use Rattle.sheet.specs.Changes.{unless}
use Rattle.device.specs.Loads.{PlainLoad}
use Rattle.scale.specs.Rules.{Rules}
use Rattle.split.specs.declared.stages.Stage.{Stage}
use Rattle.split.specs.declared.stages.Breach.{Breach}
use Rattle.split.specs.declared.stages.Breach.TheVariants.{MissingOperator}
use Rattle.split.specs.declared.walks.Walk.{Walk}
use Rattle.split.specs.Splits.{Kinds, asked, stage_at, rate_from, rate}
use Rattle.split.specs.Breaches.{told_breach, stage_breach, walked, breach_from, breach}
use Rattle.split.specs.Judged.{Judged}
use Rattle.split.proofs.Verdicts.{breach_step, breach_stops}
use Rattle.split.proofs.Rated.{rate_step}
use Rattle.split.proofs.Judged.{judged_breach, judged_made}

-- after a walk over the first i stages, which rate r, what is left breaks and rates as all of them do
pub record Judging {R : Type 0} (n : Net) (e : Kinds) (s : Rules R) (ss : List Stage) (w : Walk) (i : ℕ) (r : R) : Type 0 where
  pub breaks : breach_from n e w i (drop i ss) ≡ breach n e ss
  pub rates : rate_from n e s r (drop i ss) ≡ rate n e s ss
  pub few : (w.first ≤ i) × (w.second ≤ i)

at_most_one : (t : Bool) (a i : ℕ) → a ≤ i → a + cond t 1 0 ≤ i + 1
at_most_one true a i h = omega arith
at_most_one false a i h = omega arith

module _ {R : Type 0} {n : Net} {e : Kinds} {s : Rules R} {ss : List Stage} {w : Walk} {i : ℕ} {r : R} (so_far : Judging n e s ss w i r) where
  module _ (here : i < length ss) where
    abbrev stage : Stage
    stage = stage_at ss i

    pub judging_wrong : (b : Breach) → told_breach b ≡ stage_breach n e w i stage → Judged n e s ss (Err b)
    judging_wrong b wrong =
        judged_breach n e s ss b
        (breach_stops n e w i stage (drop (i + 1) ss) b wrong
        ∙ sym (at_drop_more (breach_from n e w i) ss i _ here)
        ∙ so_far.breaks)

    pub judging_more : (next : Walk) (q : R) (x : PlainLoad) → next ≡ walked w stage → q ≡ s.joined r x → [] ≡ stage_breach n e w i stage → asked n e stage.kind stage.mask ≡ Some x → Judging n e s ss next (i + 1) q
    judging_more next q x on joined right fits =
        let step : i + 1 ≡ suc i = omega arith in
        rw (on, joined) record {
          breaks =
              ap (λ (k : ℕ). breach_from n e (walked w stage) k (drop (i + 1) ss)) step
              ∙ sym (at_drop_more (breach_from n e w i) ss i _ here ∙ breach_step n e w i stage (drop (i + 1) ss) (sym right))
              ∙ so_far.breaks;
          rates = sym (at_drop_more (rate_from n e s r) ss i _ here ∙ rate_step n e s r stage (drop (i + 1) ss) x fits) ∙ so_far.rates;
          few = (at_most_one (eqb stage.kind 1) w.first i so_far.few.0, at_most_one (eqb stage.kind 2) w.second i so_far.few.1);
        }

  module _ (past : length ss ≤ i) where
    left : (b : Bool) → eqb w.placed (full (size n)) ≡ b → unless b (told_breach MissingOperator) ≡ breach n e ss
    left b h =
        sym (at_drop_all (breach_from n e w i) ss i past ∙ ap (λ (b : Bool). unless b (told_breach MissingOperator)) h) ∙ so_far.breaks

    pub judging_missing : (w.placed ≡ full (size n) → ⊥) → Judged n e s ss (Err MissingOperator)
    judging_missing differ = judged_breach n e s ss MissingOperator (left false (ne_eqb w.placed (full (size n)) differ))

    pub judging_all : w.placed ≡ full (size n) → Judged n e s ss (Ok r)
    judging_all whole =
        judged_made n e s ss r (left true (eq-eqb w.placed (full (size n)) whole)) (sym so_far.rates ∙ at_drop_all (rate_from n e s r) ss i past)

pub ruleset judging = (judging_wrong, judging_more, judging_missing, judging_all)
