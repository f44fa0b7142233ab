use Rattle.std.specs.Fmt.{HasWritten, IsPlainFormatter}
use Rattle.std.specs.List.{flat_map}
use Rattle.sheet_graph.specs.Graphs.{arrow}
use Rattle.sheet_graph.proofs.edges.ArrowsFromDisplay.fmt.Given as goal

abbrev pub invariant-loop-to : goal.invariant-loop-to
invariant-loop-to g l =
    IsPlainFormatter l.initial.f → HasWritten g.W.Write.write_str_gives l.initial.f (flat_map (arrow l.from) l.yielded) l.f
