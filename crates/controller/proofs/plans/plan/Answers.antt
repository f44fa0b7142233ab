use Rattle.planner.specs.Views.{state}
use Rattle.planner.specs.Kept.{kept}
use Rattle.controller.proofs.Moved.{plan_moved, law_moved}
use Rattle.controller.proofs.plans.plan.Goals as goal

pub returns-clause-plans : goal.returns-clause-plans
returns-clause-plans g c =
    plan_moved g.S.Scale.rules c.args.ideals.now _ c.args.ratings.now c.args.choices.now _ _ c.plan-answer.result
    (state c.take-planner.result) (kept c.args.scale c.args.rating.now c.args.memory.now) (state c.plan-answer.new.self)
    c.put.new.rating c.put.new.self c.take-planner.ensures c.put.ensures c.plan-answer.ensures.plans

pub returns-clause-law : goal.returns-clause-law
returns-clause-law g c =
    law_moved g.S.Scale.rules c.args.ideals.now _ c.args.ratings.now c.args.choices.now _ _ c.plan-answer.result
    (state c.take-planner.result) (kept c.args.scale c.args.rating.now c.args.memory.now) (state c.plan-answer.new.self)
    c.put.new.rating c.put.new.self c.take-planner.ensures c.put.ensures c.plan-answer.ensures.plans c.plan-answer.ensures.law
