use Rattle.std.specs.List.{flat_map}
use Rattle.sets.specs.Sets.{upto}
use Rattle.sheet.specs.Views.{net}
use Rattle.sheet_layout.specs.Written.{pairs_from}
use Rattle.sheet_writer.specs.Cursors.{Puts}
use Rattle.sheet_writer.proofs.cursor.Cursor.put_edges.Given as goal

abbrev pub invariant-loop-u : goal.invariant-loop-u
invariant-loop-u l = Puts l.initial.self (flat_map (pairs_from (net l.sheet)) (upto l.u)) l.self
