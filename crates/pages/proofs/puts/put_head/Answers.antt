use Rattle.byte_fields.proofs.Wrote.{wrote_then}
use Rattle.pages.proofs.puts.put_head.Goals as goal

pub returns : goal.returns
returns c = wrote_then c.put-at.ensures (wrote_then c.put_number-at.ensures (wrote_then c.put-at-2.ensures (wrote_then c.put_number-at-2.ensures c.put.ensures)))
