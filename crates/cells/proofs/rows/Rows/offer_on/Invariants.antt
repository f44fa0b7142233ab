use Rattle.device.specs.Views.{answered}
use Rattle.cells.specs.Rows.{on, row, Onto}
use Rattle.cells.specs.Falls.{BothFall, Within, PerhapsOn}
use Rattle.cells.specs.Tables.{table, SameTables}
use Rattle.cells.proofs.RowSteps.{lines_led}
use Rattle.cells.proofs.rows.Rows.offer_on.Given as goal

abbrev pub invariant-loop-r : goal.invariant-loop-r
invariant-loop-r g l =
    let s = g.S.Scale.rules l.self.scale.now in
    let before = table s l.initial.tables in
    let now = table s l.tables in
    record {
      same : SameTables l.initial.tables l.tables;
      perhaps : Within l.self.counts.l (lines_led l.fn.kind l.r) l.to (PerhapsOn s l.fn.kind l.ideal (answered l.fn.load) (row l.self.counts.l l.from before)) before now;
      offered : BothFall s l.self.counts.k l.self.counts.l l.ideal l.from l.to before → Onto l.self.counts.l (lines_led l.fn.kind l.r) l.to (on s l.fn.kind l.ideal (answered l.fn.load) (row l.self.counts.l l.from before)) before now;
    }
