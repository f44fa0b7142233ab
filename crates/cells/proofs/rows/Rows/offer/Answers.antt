use Rattle.std.proofs.Common.{◌+◌, ◌≤◌, rules}
use Rattle.device.specs.Views.{answered}
use Rattle.cells.specs.Rows.{width_of}
use Rattle.cells.specs.Tables.{table}
use Rattle.device.specs.declared.which_kinds.WhichKind.TheVariants.{First}
use Rattle.cells.proofs.RowSteps.{onto_both, within_both}
use Rattle.cells.proofs.Stops.{fall_then, fair_answered}
use Rattle.cells.proofs.rows.Rows.offer.Goals as goal

pub returns-clause-offers : goal.returns-clause-offers
returns-clause-offers g c falls =
    let p = c.args.self.now in
    let s = g.S.Scale.rules p.scale.now in
    let law = g.met.S.Scale in
    let k = p.counts.k in
    let l = p.counts.l in
    let t = table s c.args.tables.now in
    let u = table s c.offer_on.new.tables in
    let apart : c.args.from + width_of k l ≤ c.args.to = search rules in
    let once = c.offer_on.ensures.offers falls in
    let again = fall_then s (law.total p.scale.now) (law.transitive p.scale.now) First c.args.ideal (answered c.args.x.now) (λ x is y z. law.monotone p.scale.now y z x (fair_answered c.args.x.now x is)) c.args.from c.args.to k l t u apart falls once in
    let done = onto_both s c.args.ideal (answered c.args.x.now) (answered c.args.y.now) c.args.from c.args.to (k + 1) l t u (table s c.offer_on-2.new.tables) apart once (c.offer_on-2.ensures.offers again) in
    search (rules, done)

pub returns-clause-perhaps : goal.returns-clause-perhaps
returns-clause-perhaps g c =
    let p = c.args.self.now in
    let s = g.S.Scale.rules p.scale.now in
    let apart : c.args.from + width_of p.counts.k p.counts.l ≤ c.args.to = search rules in
    let done = within_both s c.args.ideal (answered c.args.x.now) (answered c.args.y.now) c.args.from c.args.to (p.counts.k + 1) p.counts.l (table s c.args.tables.now) (table s c.offer_on.new.tables) (table s c.offer_on-2.new.tables) apart c.offer_on.ensures.perhaps c.offer_on-2.ensures.perhaps in
    search (rules, done)
