use Rattle.std.proofs.Common.{◌-◌, ◌*◌, length, get_or, sym, ap, ◌∙◌}
use Rattle.std.proofs.lemmas.Result.{IfOk-at_ok}
use Rattle.sets.specs.Sets.{inside}
use Rattle.sheet.specs.Nets.{Net}
use Rattle.sheet.specs.Figures.{figures_of}
use Rattle.device.specs.Views.{answered}
use Rattle.split.specs.Problems.{net_of}
use Rattle.recurrence.specs.Table.{one, two, cut}
use Rattle.cells.specs.Rows.{width_of}
use Rattle.cells.specs.Tables.{table}
use Rattle.cells.proofs.Stops.{idle, falls_both, fair_answered}
use Rattle.table_pass.specs.Passes.{setting_of, leading}
use Rattle.std.proofs.lemmas.Bool.{both_ways}
use Rattle.table_pass.proofs.Rows.{rows_fit_in, cut_asked, offered_cut}
use Rattle.table_pass.proofs.passes.Pass.offer_ideal.Goals as goal

pub returns-then-not-leads_on-clause-rows : goal.returns-then-not-leads_on-clause-rows
returns-then-not-leads_on-clause-rows g c =
    let p = c.args.self.now in
    let scale = p.rows.scale.now in
    let s = g.S.Scale.rules scale in
    let law = g.met.S.Scale in
    let e = setting_of p in
    let k = p.rows.counts.k in
    let l = p.rows.counts.l in
    let w = width_of k l in
    idle s (law.total scale) (law.transitive scale) c.args.j (c.args.j * w) (c.args.i * w) k l (table s c.args.tables.now) (c.requires.falls, c.requires.holds) (sym c.leads_on.ensures ∙ c.if-not-leads_on.true) (cut e one 0 0 c.args.i c.args.j) (cut e two 0 0 c.args.i c.args.j)

pub unwrap-requires : goal.unwrap-requires
unwrap-requires g c =
    let p = c.args.self.now in
    let t = c.args.tables.now in
    let v = width_of p.rows.counts.k p.rows.counts.l in
    c.offer.ensures.fits
    ∙ rows_fit_in c.args.i c.args.j (length p.ideals.now) c.row_at-from.result c.row_at-to.result v (length t.ratings.now) (length t.choices.now) c.row_at-from.ensures c.row_at-to.ensures c.requires.before c.requires.listed c.requires.room.0 c.requires.room.1

pub returns-clause-rows : goal.returns-clause-rows
returns-clause-rows g c =
    let p = c.args.self.now in
    let t = c.args.tables.now in
    let s = g.S.Scale.rules p.rows.scale.now in
    let ms = p.ideals.now in
    let n = net_of p.problem.now in
    let first = g.K.Kind.meaning p.problem.now.first.now in
    let second = g.L.Kind.meaning p.problem.now.second.now in
    let e = setting_of p in
    let i = c.args.i in
    let j = c.args.j in
    let k = p.rows.counts.k in
    let l = p.rows.counts.l in
    let test = inside (get_or ms j 0) (get_or ms i 0) in
    let mask = get_or ms i 0 - get_or ms j 0 in
    let within = c.requires.inside in
    let measured = c.figures-figures.ensures.value ∙ ap (λ (m : Net). figures_of m mask) p.measures in
    offered_cut s j (cut e one 0 0 i j) (answered c.load-x.result) (cut e two 0 0 i j) (answered c.load-y.result) k l (j * width_of k l) c.row_at-from.result (i * width_of k l) c.row_at-to.result
    (table s t) (table s c.offer.new.tables) c.row_at-from.ensures c.row_at-to.ensures
    (cut_asked test (first (figures_of n mask)) (answered c.load-x.result) within (c.load-x.ensures ∙ ap first measured))
    (cut_asked test (second (figures_of n mask)) (answered c.load-y.result) within (c.load-y.ensures ∙ ap second measured))
    (IfOk-at_ok (λ _. _) c.unwrap.ensures c.offer.ensures.offers (rw (c.row_at-from.ensures, c.row_at-to.ensures) (c.requires.falls, c.requires.holds)))

pub returns-clause-holds : goal.returns-clause-holds
returns-clause-holds g c =
    let p = c.args.self.now in
    let scale = p.rows.scale.now in
    let s = g.S.Scale.rules scale in
    let law = g.met.S.Scale in
    let done = IfOk-at_ok (λ _. _) c.unwrap.ensures c.offer.ensures.offers (rw (c.row_at-from.ensures, c.row_at-to.ensures) (c.requires.falls, c.requires.holds)) in
    rw c.row_at-to.ensures at (falls_both s (law.total scale) (law.transitive scale) c.args.j (answered c.load-x.result) (answered c.load-y.result)
    (λ x is y z. law.monotone scale y z x (fair_answered c.load-x.result x is)) (λ x is y z. law.monotone scale y z x (fair_answered c.load-y.result x is))
    c.row_at-from.result c.row_at-to.result p.rows.counts.k p.rows.counts.l (table s c.args.tables.now) (table s c.offer.new.tables) (rw (c.row_at-from.ensures, c.row_at-to.ensures) (c.requires.falls, c.requires.holds)) done)

pub returns-clause-idle : goal.returns-clause-idle
returns-clause-idle g c none = absurd (both_ways (leading c.args.self.now c.args.tables.now c.args.j) none (sym c.leads_on.ensures ∙ c.if-not-leads_on.false))
