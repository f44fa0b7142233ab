use Rattle.std.proofs.Common.{string_bytes}
use Rattle.split.specs.Problems.{net_of, kinds_of}
use Rattle.sheet_report.proofs.Lines.{least_told}
use Rattle.sheet_report.proofs.plans.least_line.Goals as goal

pub returns : goal.returns
returns g c =
    let n = net_of c.args.problem.now in
    let e = kinds_of g.K.Kind.meaning g.L.Kind.meaning c.args.problem.now in
    let s = g.S.Scale.rules c.args.scale.now in
    let finds = rw c.in-Some.is at c.in_ok-found.ensures in
    least_told g.R.Display.output c.args.name.now n e s c.in-Some.found.rating c.stages.result.now finds.found.0 (rw c.stages.ensures finds.found.1) string_bytes c.format-2.result c.format-2.ensures.ok
