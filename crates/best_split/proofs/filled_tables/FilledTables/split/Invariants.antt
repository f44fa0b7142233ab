use Rattle.std.proofs.Common.{◌≡◌, ◌+◌, ◌≤◌, ◌++◌, length, drop}
use Rattle.best_split.specs.Traces.{stages_to}
use Rattle.best_split.specs.Tables.{setting_of, last_cell, HasCell}
use Rattle.best_split.proofs.filled_tables.FilledTables.split.Given as goal

abbrev pub invariant-loop-last : goal.invariant-loop-last
invariant-loop-last g l =
    (stages_to (setting_of l.self) (last_cell l.self) ≡ stages_to (setting_of l.self) l.at ++ drop l.first l.stages)
    × HasCell l.self l.at × (l.at.a + l.at.b ≤ l.first) × (l.first ≤ 16) × (length l.stages ≡ 16)

abbrev pub decreases-loop-last : goal.decreases-loop-last
decreases-loop-last g l = l.at.a + l.at.b
