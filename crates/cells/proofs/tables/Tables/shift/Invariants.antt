use Rattle.device.specs.Views.{load_of}
use Rattle.cells.specs.Cells.{shifted}
use Rattle.cells.specs.Tables.{SameTables, TablesTurn}
use Rattle.cells.proofs.tables.Tables.shift.Given as goal

abbrev pub invariant-loop-c : goal.invariant-loop-c
invariant-loop-c g l = record {
  same : SameTables l.initial.self l.self;
  turns : TablesTurn (g.S.Scale.rules l.scale) l.initial.self l.self (shifted (g.S.Scale.rules l.scale) l.choice (load_of l.load) l.from l.to l.c);
}
