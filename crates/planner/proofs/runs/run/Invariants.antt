use Rattle.std.proofs.Common.{◌≡◌, true, length, map, take, is_some}
use Rattle.std.specs.List.{All}
use Rattle.planner.specs.Views.{state, kinds_in, rules_in}
use Rattle.planner.specs.States.{fresh}
use Rattle.planner.specs.Law.{Holds}
use Rattle.planner.specs.Runs.{call_of, history, lent, Ran}
use Rattle.planner.proofs.runs.run.Given as goal

abbrev pub invariant-loop-step : goal.invariant-loop-step
invariant-loop-step g l =
    Holds (kinds_in l.planner) (rules_in l.planner) (history (length l.fn.ideals) (length l.fn.ratings) (length l.fn.choices) (take l.step-index l.steps)) (state l.planner)
    × (l.planner.first ≡ l.fn.first) × (l.planner.second ≡ l.fn.second) × (l.planner.scale ≡ l.fn.scale)
    × (map call_of l.steps ≡ map call_of l.fn.steps)
    × Ran (kinds_in l.planner) (rules_in l.planner) (take l.step-index l.steps) (lent l.fn.ideals l.fn.ratings l.fn.choices) (fresh l.fn.first l.fn.second l.fn.scale) (lent l.ideals l.ratings l.choices) (state l.planner)
    × All (λ step. is_some step.answer ≡ true) (take l.step-index l.steps)
