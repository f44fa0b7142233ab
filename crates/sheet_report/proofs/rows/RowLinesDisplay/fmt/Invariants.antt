use Rattle.std.specs.Fmt.{HasWritten, IsPlainFormatter}
use Rattle.std.specs.List.{flat_map}
use Rattle.sets.specs.Sets.{upto}
use Rattle.sheet.specs.Views.{net}
use Rattle.sheet_report.specs.Report.{row_line}
use Rattle.sheet_report.proofs.rows.RowLinesDisplay.fmt.Given as goal

abbrev pub invariant-loop-operator : goal.invariant-loop-operator
invariant-loop-operator g l =
    IsPlainFormatter l.initial.f → HasWritten g.W.Write.write_str_gives l.initial.f (flat_map (row_line (net l.self.0.now)) (upto l.operator)) l.f
