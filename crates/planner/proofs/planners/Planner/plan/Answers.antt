use Rattle.std.proofs.Common.{subst, rules}
use Rattle.std.proofs.lemmas.Option.{same_Some}
use Rattle.sheet.specs.Views.{net}
use Rattle.best_split.specs.Views.{stages_of}
use Rattle.planner.specs.States.{Covers}
use Rattle.planner.specs.Views.{state, kinds_in, rules_in}
use Rattle.planner.proofs.Laws.{after_plan}
use Rattle.planner.proofs.Places.{covered}
use Rattle.planner.proofs.planners.Planner.plan.Goals as goal

pub invariant_of-self-2 : goal.invariant_of-self-2
invariant_of-self-2 g c =
    let p = c.args.self.now in
    record { covers = λ f is. subst (λ x. Covers (net p.sheet) (stages_of x.split)) (same_Some c.in_ok-found.found f is) (covered (net p.sheet) (kinds_in p) (stages_of c.in_ok-found.found.split) c.in_ok-found.ensures.least.lawful) }

pub returns-in_err-found-clause-plans : goal.returns-in_err-found-clause-plans
returns-in_err-found-clause-plans g c = search rules

pub returns-in_err-found-clause-law : goal.returns-in_err-found-clause-law
returns-in_err-found-clause-law g c =
    let p = c.args.self.now in
    λ h held. after_plan (kinds_in p) (rules_in p) h (state p) _ c.args.ideals.now _ c.args.ratings.now c.args.choices.now _ _ _ (returns-in_err-found-clause-plans g c) held

pub returns-clause-plans : goal.returns-clause-plans
returns-clause-plans g c = search rules

pub returns-clause-law : goal.returns-clause-law
returns-clause-law g c =
    let p = c.args.self.now in
    λ h held. after_plan (kinds_in p) (rules_in p) h (state p) _ c.args.ideals.now _ c.args.ratings.now c.args.choices.now _ _ _ (returns-clause-plans g c) held
