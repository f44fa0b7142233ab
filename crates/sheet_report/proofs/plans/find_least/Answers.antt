use Rattle.std.proofs.Common.{◌≡◌, ◌+◌, ◌*◌, length, sym, mul_assoc, ◌∙◌}
use Rattle.split.specs.Problems.{net_of, kinds_of}
use Rattle.table_pass.specs.Filled.{cells_of}
use Rattle.sheet_report.proofs.LeastSplits.{made_suffice, found_least}
use Rattle.sheet_report.proofs.plans.find_least.Goals as goal

pub returns : goal.returns
returns g c =
    let n = net_of c.args.problem.now in
    let e = kinds_of g.K.Kind.meaning g.L.Kind.meaning c.args.problem.now in
    let s = g.S.Scale.rules c.args.scale.now in
    let masks = c.deref_mut.result.now in
    let ratings = c.deref_mut-2.result.now in
    let choices = c.deref_mut-3.result.now in
    let count : c.args.ideals * c.width.result ≡ cells_of n.k n.l c.args.ideals =
    rw (c.width.ensures, c.new-rows.ensures.counts, c.counts.ensures.0, c.counts.ensures.1) (sym (mul_assoc c.args.ideals (n.k + 1) (n.l + 1))) in
    let so_many : length masks ≡ c.args.ideals = c.deref_mut.ensures.len ∙ c.in_ok-masks.ensures.len in
    let rated : length ratings ≡ cells_of n.k n.l c.args.ideals = c.deref_mut-2.ensures.len ∙ c.in_ok-ratings.ensures.len ∙ count in
    let chosen : length choices ≡ cells_of n.k n.l c.args.ideals = c.deref_mut-3.ensures.len ∙ c.in_ok-choices.ensures.len ∙ count in
    rw c.ok.ensures.value (found_least n e s masks c.find.new.ideals ratings choices c.find.new.ratings c.find.new.choices c.find.result
    (made_suffice n c.args.ideals (length masks) (length ratings) (length choices) c.requires so_many rated chosen) c.find.ensures)
