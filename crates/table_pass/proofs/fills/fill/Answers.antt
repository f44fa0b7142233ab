use Rattle.std.proofs.Common.{◌≡◌, ◌≤◌, length, sym, rules}
use Rattle.ideals.specs.Ideals.{most_ideals}
use Rattle.split.specs.Problems.{net_of}
use Rattle.cells.specs.Rows.{width_of}
use Rattle.table_pass.proofs.Rows.{fill_granted, fill_short}
use Rattle.table_pass.proofs.fills.fill.Goals as goal

pub returns-then-ratings-cells-clause-refuses : goal.returns-then-ratings-cells-clause-refuses
returns-then-ratings-cells-clause-refuses g c =
    let n = net_of c.args.problem.now in
    let w : c.width.result ≡ width_of n.k n.l = rw (c.new-rows.ensures.counts, c.counts.ensures.0, c.counts.ensures.1) at c.width.ensures in
    let few : length c.args.ideals.now ≤ most_ideals = search rules in
    sym (fill_short n.k n.l (length c.args.ideals.now) c.width.result (length c.args.ratings.now) (length c.args.choices.now) w few c.then-ratings-cells.either)

pub returns-clause-refuses : goal.returns-clause-refuses
returns-clause-refuses g c =
    let n = net_of c.args.problem.now in
    let w : c.width.result ≡ width_of n.k n.l = rw (c.new-rows.ensures.counts, c.counts.ensures.0, c.counts.ensures.1) at c.width.ensures in
    let few : length c.args.ideals.now ≤ most_ideals = search rules in
    sym (fill_granted n.k n.l (length c.args.ideals.now) c.width.result (length c.args.ratings.now) (length c.args.choices.now) w few c.if-ratings-cells.false c.if-choices-cells.false)
