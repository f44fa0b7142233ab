use Rattle.std.specs.Fmt.{HasWritten, IsPlainFormatter}
use Rattle.std.specs.List.{flat_map}
use Rattle.sets.specs.Sets.{upto}
use Rattle.sheet.specs.Nets.{after}
use Rattle.sheet.specs.Views.{net}
use Rattle.sheet_graph.specs.Graphs.{arrows_from}
use Rattle.sheet_graph.proofs.edges.ArrowsDisplay.fmt.Given as goal

abbrev pub invariant-loop-from : goal.invariant-loop-from
invariant-loop-from g l =
    IsPlainFormatter l.initial.f → HasWritten g.W.Write.write_str_gives l.initial.f (flat_map (λ u. arrows_from u (after (net l.self.0.now) u)) (upto l.from)) l.f
