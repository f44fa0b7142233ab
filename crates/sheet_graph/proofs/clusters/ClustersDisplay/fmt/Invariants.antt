use Rattle.std.specs.Fmt.{HasWritten, IsPlainFormatter}
use Rattle.std.specs.List.{flat_map}
use Rattle.sets.specs.Sets.{upto}
use Rattle.sheet.specs.Views.{net}
use Rattle.split.specs.Splits.{stage_at}
use Rattle.sheet_graph.specs.Graphs.{cluster}
use Rattle.sheet_graph.proofs.clusters.ClustersDisplay.fmt.Given as goal

abbrev pub invariant-loop-number : goal.invariant-loop-number
invariant-loop-number g l =
    IsPlainFormatter l.initial.f → HasWritten g.W.Write.write_str_gives l.initial.f (flat_map (λ i. cluster (net l.self.sheet.now) i (stage_at l.self.stages.now i)) (upto l.number)) l.f
