use Rattle.std.proofs.Common.{rules}
use Rattle.std.proofs.Output.{has_written_append}
use Rattle.sheet_text.proofs.Uptos.{below_none, below_next}
use Rattle.sheet_graph.proofs.clusters.ClustersDisplay.fmt.Goals as goal

pub loop-number-init : goal.loop-number-init
loop-number-init g c plain = rw below_none (search rules)

pub loop-number-preserved : goal.loop-number-preserved
loop-number-preserved g c plain = rw below_next (has_written_append _ _ _ _ _ _ (c.loop-number.invariant plain) (search rules))
