use Rattle.std.proofs.Common.{map, take}
use Rattle.std.specs.Fmt.{HasWritten, IsPlainFormatter}
use Rattle.std.specs.List.{flat_map}
use Rattle.sheet.specs.Nodes.{figures_in}
use Rattle.sheet_text.specs.Texts.{operator_line}
use Rattle.sheet_text.proofs.texts.OperatorLinesDisplay.fmt.Given as goal

abbrev pub invariant-loop-node : goal.invariant-loop-node
invariant-loop-node g l =
    IsPlainFormatter l.initial.f → HasWritten g.W.Write.write_str_gives l.initial.f (flat_map operator_line (map figures_in (take l.node-index l.self.0.now))) l.f
