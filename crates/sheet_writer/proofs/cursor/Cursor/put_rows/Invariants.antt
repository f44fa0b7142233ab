use Rattle.std.proofs.Common.{take}
use Rattle.std.specs.List.{flat_map}
use Rattle.sheet.specs.Views.{net}
use Rattle.sheet_layout.specs.Written.{row_bytes}
use Rattle.sheet_writer.specs.Cursors.{Puts}
use Rattle.sheet_writer.proofs.cursor.Cursor.put_rows.Given as goal

abbrev pub invariant-loop-node : goal.invariant-loop-node
invariant-loop-node l = Puts l.initial.self (flat_map row_bytes (take l.node-index (net l.sheet).rows)) l.self
