use Rattle.std.proofs.Common.{◌≡◌, ℕ, ◌*◌, ◌≤◌}
use Rattle.cells.specs.Rows.{width_of}
use Rattle.cells.specs.Tables.{SameTables}
use Rattle.table_pass.specs.Filled.{Filled}
use Rattle.table_pass.specs.Passes.{setting_of, cells_in, FallBefore, SamePass}
use Rattle.table_pass.proofs.passes.Pass.fill_rows.Given as goal

abbrev pub invariant-loop-i : goal.invariant-loop-i
invariant-loop-i g l =
    let p = l.fn.self in
    SamePass p l.self × SameTables l.fn.tables l.tables × Filled (setting_of p) p.rows.counts.k p.rows.counts.l l.i (cells_in p l.tables)
    × ((c : ℕ) → l.i * width_of p.rows.counts.k p.rows.counts.l ≤ c → cells_in p l.tables c ≡ cells_in p l.fn.tables c)
    × FallBefore p l.tables l.i
