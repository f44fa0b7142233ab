use Rattle.std.proofs.Common.{◌++◌, decimal, rules}
use Rattle.std.proofs.Output.{has_written_of_eq, has_written_append}
use Rattle.sets.specs.Sets.{members}
use Rattle.sheet.specs.Views.{net}
use Rattle.sheet_report.specs.Report.{row_figures, neighbours}
use Rattle.sheet_report.proofs.Lines.{row_same}
use Rattle.sheet_report.proofs.rows.RowLineDisplay.fmt.Goals as goal

pub returns-clause-writes : goal.returns-clause-writes
returns-clause-writes g c plain ok =
    let line = c.args.self.now in
    let p = c.predecessors.result in
    let s = line.node.now.successors in
    has_written_of_eq _ _ _ _ _
    (row_same (net line.sheet.now) line.operator line.node.now.figures p s line.its_figures c.predecessors.ensures.value line.its_successors)
    (has_written_append _ _ (decimal line.operator ++ row_figures line.node.now.figures) c.write.new.self (neighbours (members p) (members s)) _ (search rules) (search rules))
