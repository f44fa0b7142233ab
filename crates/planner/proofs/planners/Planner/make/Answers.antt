use Rattle.std.proofs.Common.{rules, ◌≡◌, ◌∷◌, length, Ok, sym, ap, subst}
use Rattle.planner.specs.declared.calls.Granted.TheVariants.{Planned}
use Rattle.planner.specs.Views.{state, kinds_in, rules_in}
use Rattle.planner.specs.Law.{by_plan, Holds}
use Rattle.planner.proofs.Making.{makes_plan, plan_event}
use Rattle.planner.proofs.planners.Planner.make.Goals as goal

pub returns-in_err-plan-in-Plan-clause-makes : goal.returns-in_err-plan-in-Plan-clause-makes
returns-in_err-plan-in-Plan-clause-makes g c =
    let o = c.args in
    let i : length c.plan.new.ideals ≡ c.min-x.result = search rules in
    let j : length c.plan.new.ratings ≡ c.min-y.result = search rules in
    let k : length c.plan.new.choices ≡ c.min-z.result = search rules in
    let told : c.from_residual-in_err-plan-in-Plan.result ≡ by_plan c.plan.result = search rules in
    makes_plan (kinds_in o.self.now) (rules_in o.self.now) o.ideals.now c.plan.new.ideals o.ratings.now o.choices.now c.plan.new.ratings c.plan.new.choices (state o.self.now) (state c.plan.new.self)
    c.min-x.result c.min-y.result c.min-z.result o.call.now c.in-Plan.x c.in-Plan.y c.in-Plan.z c.in-Plan.is c.min-x.ensures c.min-y.ensures c.min-z.ensures c.plan.result c.from_residual-in_err-plan-in-Plan.result told i j k c.plan.ensures.plans

pub returns-in_err-plan-in-Plan-clause-law : goal.returns-in_err-plan-in-Plan-clause-law
returns-in_err-plan-in-Plan-clause-law g c = λ h held.
    let o = c.args in
    let told : c.from_residual-in_err-plan-in-Plan.result ≡ by_plan c.plan.result = search rules in
    let same = plan_event (kinds_in o.self.now) (rules_in o.self.now) o.ideals.now c.plan.new.ideals o.ratings.now o.choices.now c.plan.new.ratings c.plan.new.choices (state o.self.now) (state c.plan.new.self)
    c.min-x.result c.min-y.result c.min-z.result o.call.now c.in-Plan.x c.in-Plan.y c.in-Plan.z c.in-Plan.is c.min-x.ensures c.min-y.ensures c.min-z.ensures c.plan.result c.from_residual-in_err-plan-in-Plan.result told in
    subst (λ v. Holds (kinds_in o.self.now) (rules_in o.self.now) (v ∷ h) (state c.plan.new.self)) same (c.plan.ensures.law h held)

pub returns-in_ok-plan-in-Plan-clause-makes : goal.returns-in_ok-plan-in-Plan-clause-makes
returns-in_ok-plan-in-Plan-clause-makes g c =
    let o = c.args in
    let i : length c.plan.new.ideals ≡ c.min-x.result = search rules in
    let j : length c.plan.new.ratings ≡ c.min-y.result = search rules in
    let k : length c.plan.new.choices ≡ c.min-z.result = search rules in
    let told : (Ok (Planned c.in_ok-plan-in-Plan.plan)) ≡ by_plan c.plan.result = sym (ap by_plan c.in_ok-plan-in-Plan.was) in
    makes_plan (kinds_in o.self.now) (rules_in o.self.now) o.ideals.now c.plan.new.ideals o.ratings.now o.choices.now c.plan.new.ratings c.plan.new.choices (state o.self.now) (state c.plan.new.self)
    c.min-x.result c.min-y.result c.min-z.result o.call.now c.in-Plan.x c.in-Plan.y c.in-Plan.z c.in-Plan.is c.min-x.ensures c.min-y.ensures c.min-z.ensures c.plan.result (Ok (Planned c.in_ok-plan-in-Plan.plan)) told i j k c.plan.ensures.plans

pub returns-in_ok-plan-in-Plan-clause-law : goal.returns-in_ok-plan-in-Plan-clause-law
returns-in_ok-plan-in-Plan-clause-law g c = λ h held.
    let o = c.args in
    let told : (Ok (Planned c.in_ok-plan-in-Plan.plan)) ≡ by_plan c.plan.result = sym (ap by_plan c.in_ok-plan-in-Plan.was) in
    let same = plan_event (kinds_in o.self.now) (rules_in o.self.now) o.ideals.now c.plan.new.ideals o.ratings.now o.choices.now c.plan.new.ratings c.plan.new.choices (state o.self.now) (state c.plan.new.self)
    c.min-x.result c.min-y.result c.min-z.result o.call.now c.in-Plan.x c.in-Plan.y c.in-Plan.z c.in-Plan.is c.min-x.ensures c.min-y.ensures c.min-z.ensures c.plan.result (Ok (Planned c.in_ok-plan-in-Plan.plan)) told in
    subst (λ v. Holds (kinds_in o.self.now) (rules_in o.self.now) (v ∷ h) (state c.plan.new.self)) same (c.plan.ensures.law h held)
