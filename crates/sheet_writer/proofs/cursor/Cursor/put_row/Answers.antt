use Rattle.std.proofs.Common.{arith}
use Rattle.byte_fields.specs.Little.{spread}
use Rattle.sheet_writer.proofs.Puts.{puts_figure, each_step}
use Rattle.sheet_writer.proofs.cursor.Cursor.put_row.Goals as goal

pub loop-figure-preserved : goal.loop-figure-preserved
loop-figure-preserved c =
    each_step (spread 4) _ c.loop-figure.figure-index 0 (omega arith) c.loop-figure.invariant (puts_figure _ c.to_le_bytes.ensures c.put.ensures)
