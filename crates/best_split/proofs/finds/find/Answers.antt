use Rattle.std.proofs.Common.{sym, ◌∙◌}
use Rattle.split.specs.Problems.{net_of, kinds_of}
use Rattle.best_split.proofs.Planning.{finds_front}
use Rattle.best_split.proofs.finds.find.Goals as goal

pub returns : goal.returns
returns g c =
    let n = net_of c.args.problem.now in
    let e = kinds_of g.K.Kind.meaning g.L.Kind.meaning c.args.problem.now in
    let s = g.S.Scale.rules c.args.scale.now in
    finds_front n e s c.splits_stand.ensures c.args.ideals.now c.list.new.table c.args.ratings.now c.solve.new.ratings c.args.choices.now c.solve.new.choices
    c.solve.result c.in_ok-n.n (sym c.in_ok-n.ensures.ok_part ∙ c.list.ensures.told) c.list.ensures.table c.solve.ensures
