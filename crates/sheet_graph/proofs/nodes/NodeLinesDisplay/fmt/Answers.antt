use Rattle.std.proofs.Common.{rules}
use Rattle.std.proofs.Output.{has_written_append}
use Rattle.sheet_text.proofs.Uptos.{below_none, below_next}
use Rattle.sheet_graph.proofs.nodes.NodeLinesDisplay.fmt.Goals as goal

pub loop-operator-init : goal.loop-operator-init
loop-operator-init g c plain = rw below_none (search rules)

pub loop-operator-preserved : goal.loop-operator-preserved
loop-operator-preserved g c plain = rw below_next (has_written_append _ _ _ _ _ _ (c.loop-operator.invariant plain) (search rules))
