use Rattle.std.proofs.Common.{length, sym, refl, ◌∙◌}
use Rattle.split.specs.Problems.{net_of, kinds_of}
use Rattle.recurrence.specs.Planned.{setting_over}
use Rattle.best_split.proofs.Solves.{fit_granted, solves_some}
use Rattle.best_split.proofs.finds.solve.Goals as goal

pub returns : goal.returns
returns g c =
    let n = net_of c.args.problem.now in
    let e = setting_over c.args.ideals.now n (kinds_of g.K.Kind.meaning g.L.Kind.meaning c.args.problem.now) (g.S.Scale.rules c.args.scale.now) in
    let filled = c.in_ok-fill.ensures in
    let fits = fit_granted (length c.args.ideals.now) n.k n.l (length c.args.ratings.now) (length c.args.choices.now) c.requires.some.1 filled.refuses in
    solves_some e n.k n.l c.args.ratings.now c.fill.new.ratings c.args.choices.now c.fill.new.choices fits filled.fills
    (record { rating = c.in_ok-rating.rating; split = c.split-split.result; ideals = length c.args.ideals.now })
    (sym c.in_ok-rating.ensures.ok_part ∙ c.rating.ensures) c.split-split.ensures refl
