use Rattle.std.proofs.Common.{◌+◌}
use Rattle.planner_tests.proofs.searches.Search.+least_from.Given as goal

-- each stage takes a device
abbrev pub decreases-least_from : goal.decreases-least_from
decreases-least_from l = l.walk.first + l.walk.second
