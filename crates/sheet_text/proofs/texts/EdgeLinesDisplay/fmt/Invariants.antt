use Rattle.std.specs.Fmt.{HasWritten, IsPlainFormatter}
use Rattle.std.specs.List.{flat_map}
use Rattle.sheet_text.specs.Texts.{edge_line}
use Rattle.sheet_text.proofs.texts.EdgeLinesDisplay.fmt.Given as goal

abbrev pub invariant-loop-to : goal.invariant-loop-to
invariant-loop-to g l =
    IsPlainFormatter l.initial.f → HasWritten g.W.Write.write_str_gives l.initial.f (flat_map (edge_line l.from) l.yielded) l.f
