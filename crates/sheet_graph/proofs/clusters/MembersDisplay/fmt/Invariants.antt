use Rattle.std.specs.Fmt.{HasWritten, IsPlainFormatter}
use Rattle.std.specs.List.{flat_map}
use Rattle.sheet.specs.Views.{net}
use Rattle.sheet_graph.specs.Graphs.{node_line}
use Rattle.sheet_graph.proofs.clusters.MembersDisplay.fmt.Given as goal

abbrev pub invariant-loop-operator : goal.invariant-loop-operator
invariant-loop-operator g l =
    IsPlainFormatter l.initial.f → HasWritten g.W.Write.write_str_gives l.initial.f (flat_map (node_line (net l.sheet)) l.yielded) l.f
