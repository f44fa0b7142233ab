use Rattle.std.proofs.Common.{◌≡◌, sym, subst, rules}
use Rattle.std.proofs.lemmas.List.{take_all}
use Rattle.split.specs.Problems.{net_of, kinds_of}
use Rattle.pages.specs.Paces.{pace_of, IsPace}
use Rattle.pages.proofs.Largest.{pace_more, pace_largest}
use Rattle.pages.proofs.paces.pace.Goals as goal

pub loop-stage-preserved : goal.loop-stage-preserved
loop-stage-preserved g c =
    let n = net_of c.args.problem.now in
    let e = kinds_of g.K.Kind.meaning g.L.Kind.meaning c.args.problem.now in
    search (rules, pace_more n e c.args.stages.now c.loop-stage.stage-index c.loop-stage-test.true)

pub returns-clause-largest : goal.returns-clause-largest
returns-clause-largest g c =
    let n = net_of c.args.problem.now in
    let e = kinds_of g.K.Kind.meaning g.L.Kind.meaning c.args.problem.now in
    let whole : c.loop-stage.pace ≡ pace_of n e c.args.stages.now =
    rw (take_all c.loop-stage.stage-index c.args.stages.now c.loop-stage-test.false) at c.loop-stage.invariant in
    subst (IsPace n e c.args.stages.now) (sym whole) (pace_largest n e c.args.stages.now)
