use Rattle.std.proofs.Common.{◌≡◌, ◌<◌, true, length, take, is_some, Some, slice_index_or, refl, ◌∙◌, subst, arith, sym}
use Rattle.std.specs.List.{All}
use Rattle.std.proofs.Math.Seq.{map-set_same}
use Rattle.std.proofs.lemmas.List.{take_all, take_more_set}
use Rattle.planner.specs.States.{fresh}
use Rattle.planner.specs.declared.calls.Step.{Step}
use Rattle.planner.specs.Views.{state, kinds_in, rules_in}
use Rattle.planner.specs.Runs.{call_of, Ran, lent}
use Rattle.planner.proofs.Running.{all_more, holds_more, ran_more}
use Rattle.planner.proofs.runs.run.Goals as goal

pub loop-step-preserved : goal.loop-step-preserved
loop-step-preserved g c =
    let l = c.loop-step in
    let i = l.step-index in
    let p = l.planner in
    let q = c.make-answer.new.self in
    let r = c.make-answer.result in
    let x = slice_index_or l.steps i c.step-item.result in
    let y : Step g.row.S-Rating.Denot = record { call = x.call; answer = Some r } in
    let keeps = c.make-answer.ensures.keeps in
    let near : i < length l.steps = omega (arith, c.loop-step-test.true, l.auto.steps) in
    let kinds : kinds_in q ≡ kinds_in p = rw (keeps.0, keeps.1) refl in
    let rules : rules_in q ≡ rules_in p = rw keeps.2 refl in (
      holds_more (kinds_in p) (kinds_in q) (rules_in p) (rules_in q) (length c.args.ideals.now) (length c.args.ratings.now) (length c.args.choices.now) (length l.ideals) (length l.ratings) (length l.choices)
          l.steps i y x.call r (state q) kinds rules l.auto.ideals l.auto.ratings l.auto.choices near refl refl (c.make-answer.ensures.law _ l.invariant.0),
      keeps.0 ∙ l.invariant.1,
      keeps.1 ∙ l.invariant.2,
      keeps.2 ∙ l.invariant.3,
      map-set_same call_of l.steps i y c.step-item.result refl ∙ l.invariant.4,
      subst (λ zs. Ran (kinds_in q) (rules_in q) zs (lent c.args.ideals.now c.args.ratings.now c.args.choices.now) (fresh c.args.first c.args.second c.args.scale) (lent c.make-answer.new.ideals c.make-answer.new.ratings c.make-answer.new.choices) (state q)) (sym (take_more_set l.steps i y near))
          (rw (kinds, rules) (ran_more (kinds_in p) (rules_in p) (take i l.steps) y r (lent c.args.ideals.now c.args.ratings.now c.args.choices.now) (lent l.ideals l.ratings l.choices) (lent c.make-answer.new.ideals c.make-answer.new.ratings c.make-answer.new.choices) (fresh c.args.first c.args.second c.args.scale) (state p) (state q) l.invariant.5 refl c.make-answer.ensures.makes)),
      all_more (λ (step : Step g.row.S-Rating.Denot). is_some step.answer ≡ true) l.steps i y near refl l.invariant.6,
    )

pub returns-clause-answers : goal.returns-clause-answers
returns-clause-answers g c = subst (All (λ step. is_some step.answer ≡ true)) (take_all c.loop-step.step-index c.loop-step.steps (omega (arith, c.loop-step-test.false, c.loop-step.auto.steps))) c.loop-step.invariant.6
