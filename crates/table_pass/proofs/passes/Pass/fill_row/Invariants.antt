use Rattle.std.proofs.Common.{◌-◌, ◌≤◌}
use Rattle.cells.specs.Tables.{SameTables}
use Rattle.table_pass.specs.Filled.{reached}
use Rattle.table_pass.specs.Passes.{setting_of, RowTurns, HeldFalls, SamePass}
use Rattle.table_pass.proofs.passes.Pass.fill_row.Given as goal

abbrev pub invariant-loop-j : goal.invariant-loop-j
invariant-loop-j g l =
    SamePass l.fn.self l.self × SameTables l.fn.tables l.tables × RowTurns l.fn.self l.fn.tables l.tables l.i (reached (setting_of l.fn.self) l.i l.from) × (l.from ≤ l.i) × HeldFalls l.fn.self l.tables l.i

abbrev pub decreases-loop-j : goal.decreases-loop-j
decreases-loop-j g l = l.i - l.from
