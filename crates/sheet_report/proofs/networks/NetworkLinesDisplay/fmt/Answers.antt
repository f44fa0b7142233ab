use Rattle.std.proofs.Common.{rules}
use Rattle.std.proofs.Output.{has_written_of_eq}
use Rattle.sheet.specs.Views.{net, sums}
use Rattle.sheet_report.proofs.Lines.{network_same}
use Rattle.sheet_report.proofs.networks.NetworkLinesDisplay.fmt.Goals as goal

pub returns-clause-writes : goal.returns-clause-writes
returns-clause-writes g c plain ok =
    let lines = c.args.self.now in
    has_written_of_eq _ _ _ _ _
    (network_same lines.accelerator.now.limit c.limit-limit.result (net lines.sheet.now) c.all.result (sums c.figures.result) c.limit-limit.ensures c.all.ensures c.figures.ensures.value)
    (search rules)
