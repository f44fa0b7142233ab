use Rattle.std.proofs.Common.{rules}
use Rattle.page_report.proofs.Steps.{limited, steps_of}
use Rattle.page_report.proofs.Telling.{load_refused, plan_refused, planned, means}
use Rattle.page_report.proofs.plans.plan_file.Goals as goal

pub returns-in_err-granted-clause-refuses : goal.returns-in_err-granted-clause-refuses
returns-in_err-granted-clause-refuses c =
    let run = c.run-planner in
    let steps = steps_of run.new.steps (limited run.ensures.keeps.0 (search rules)) run.ensures.law run.ensures.calls run.ensures.answers in
    load_refused steps c.in_err-granted.field-0.0 c.in_err-granted.ensures (search (rules, c.granted.ensures))

pub returns-in_err-granted-clause-means : goal.returns-in_err-granted-clause-means
returns-in_err-granted-clause-means c =
    let run = c.run-planner in
    let steps = steps_of run.new.steps (limited run.ensures.keeps.0 (search rules)) run.ensures.law run.ensures.calls run.ensures.answers in
    means steps c.laws_stand.ensures

pub returns-in_err-granted-2-clause-refuses : goal.returns-in_err-granted-2-clause-refuses
returns-in_err-granted-2-clause-refuses c =
    let run = c.run-planner in
    let steps = steps_of run.new.steps (limited run.ensures.keeps.0 (search rules)) run.ensures.law run.ensures.calls run.ensures.answers in
    plan_refused steps c.in_ok-granted.ensures (search (rules, c.granted-2.ensures))

pub returns-in_err-granted-2-clause-means : goal.returns-in_err-granted-2-clause-means
returns-in_err-granted-2-clause-means c =
    let run = c.run-planner in
    let steps = steps_of run.new.steps (limited run.ensures.keeps.0 (search rules)) run.ensures.law run.ensures.calls run.ensures.answers in
    means steps c.laws_stand.ensures

pub returns-clause-refuses : goal.returns-clause-refuses
returns-clause-refuses c =
    let run = c.run-planner in
    let steps = steps_of run.new.steps (limited run.ensures.keeps.0 (search rules)) run.ensures.law run.ensures.calls run.ensures.answers in
    plan_refused steps c.in_ok-granted.ensures c.in_ok-granted-2.ensures

pub returns-clause-stands : goal.returns-clause-stands
returns-clause-stands c =
    let run = c.run-planner in
    let steps = steps_of run.new.steps (limited run.ensures.keeps.0 (search rules)) run.ensures.law run.ensures.calls run.ensures.answers in
    planned steps c.in_ok-granted.ensures c.in_ok-granted-2.ensures (limited run.ensures.keeps.0 (search rules))

pub returns-clause-means : goal.returns-clause-means
returns-clause-means c =
    let run = c.run-planner in
    let steps = steps_of run.new.steps (limited run.ensures.keeps.0 (search rules)) run.ensures.law run.ensures.calls run.ensures.answers in
    means steps c.laws_stand.ensures
