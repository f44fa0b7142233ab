use Rattle.std.proofs.Common.{◌≡◌, ◌≤◌, ◌^◌, length, sum_by, ap, ◌∙◌, arith, rules}
use Rattle.std.proofs.iter.runs.Made.{chains}
use Rattle.std.proofs.lemmas.Iterator.{YieldsList-from_slice, YieldsList-from_map}
use Rattle.std.proofs.lemmas.Iterator.Consumers.{YieldsList-at, fits_by_from_yields_list}
use Rattle.std.proofs.lemmas.List.{length-map}
use Rattle.sheet.specs.Nodes.{figures_in}
use Rattle.sheet.specs.Views.{net}
use Rattle.sheet.proofs.Fronts.{size_is}
use Rattle.sheet.proofs.Charges.{edges_from, edges_few, edges_is}
use Rattle.sheet.proofs.sheets.Sheet.edges.Goals as goal

pub sum-requires-clause-fits : goal.sum-requires-clause-fits
sum-requires-clause-fits c =
    let s = c.args.self.now in
    let nodes = c.nodes.result.now in
    let few : length nodes ≤ 64 = omega (arith, s.few, size_is s, length-map nodes figures_in, ap length c.nodes.ensures.rows) in
    fits_by_from_yields_list edges_from nodes c.map.result (2 ^ 64) (YieldsList-from_map _ edges_from (YieldsList-at c.map.ensures.source (YieldsList-from_slice nodes cc)) c.map.ensures.closure (λ x r q k. search rules)) (edges_few nodes few)

pub returns : goal.returns
returns c =
    let is : c.sum.result ≡ sum_by edges_from c.nodes.result.now = search (rules, chains) in
    is ∙ edges_is (net c.args.self.now) c.nodes.result.now c.nodes.ensures.rows c.nodes.ensures.successors
