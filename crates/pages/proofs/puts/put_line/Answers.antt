use Rattle.byte_fields.proofs.Wrote.{wrote_then}
use Rattle.pages.proofs.puts.put_line.Goals as goal

pub returns : goal.returns
returns c = rw (← c.stage_letter.ensures) (wrote_then c.put-at.ensures (wrote_then c.put_operators-at.ensures c.put.ensures))
