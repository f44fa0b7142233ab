use Rattle.std.proofs.Common.{take}
use Rattle.std.specs.List.{flat_map}
use Rattle.byte_fields.specs.Little.{spread}
use Rattle.sheet_writer.specs.Cursors.{Puts}
use Rattle.sheet_writer.proofs.cursor.Cursor.put_row.Given as goal

abbrev pub invariant-loop-figure : goal.invariant-loop-figure
invariant-loop-figure l = Puts l.initial.self (flat_map (spread 4) (take l.figure-index l.figure-items)) l.self
