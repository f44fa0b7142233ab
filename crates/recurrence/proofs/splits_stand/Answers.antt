use Rattle.split.specs.Problems.{net_of}
use Rattle.split.specs.Splits.{kinds}
use Rattle.recurrence.proofs.Plans.{planned, kinds_answer}
use Rattle.recurrence.proofs.splits_stand.Goals as goal

pub returns : goal.returns
returns g c =
    let problem = c.args.problem.now in
    let n = net_of problem in
    let first = problem.first.now in
    let second = problem.second.now in
    let s = c.args.scale.now in
    let law = g.met.S.Scale in
    let kept = c.operators.ensures.keeps in
    let f = g.K.Kind.meaning first in
    let h = g.L.Kind.meaning second in
    planned n (kinds f h) (g.S.Scale.rules s) kept (kinds_answer n kept f h (g.met.K.Kind.bounded first) (g.met.L.Kind.bounded second))
    (record { ordered = record { total = law.total s; transitive = law.transitive s }; monotone = law.monotone s })
