use Rattle.std.proofs.Common.{rules}
use Rattle.std.proofs.Output.{has_written_append}
use Rattle.sheet_text.proofs.Uptos.{below_none, below_next}
use Rattle.sheet_graph.proofs.edges.ArrowsDisplay.fmt.Goals as goal

pub loop-from-init : goal.loop-from-init
loop-from-init g c plain = rw below_none (search rules)

pub loop-from-preserved : goal.loop-from-preserved
loop-from-preserved g c plain = rw below_next (has_written_append _ _ _ _ _ _ (c.loop-from.invariant plain) (search rules))
