use Rattle.sheet_writer.proofs.Puts.{puts_then}
use Rattle.sheet_writer.proofs.cursor.Cursor.put_head.Goals as goal

pub returns : goal.returns
returns c = puts_then c.put.ensures (puts_then c.put-2.ensures (puts_then c.put_entry.ensures (puts_then c.put_entry-2.ensures c.put_entry-3.ensures)))
