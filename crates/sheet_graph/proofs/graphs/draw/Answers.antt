use Rattle.std.proofs.Common.{◌≡◌, ◌∙◌, [], ap, subst, refl, rules, IfOk, string_bytes}
use Rattle.device.specs.Loads.{accelerated, processed}
use Rattle.split.specs.Splits.{kinds}
use Rattle.sheet.specs.Views.{net}
use Rattle.page_report.specs.SplitPages.{devices}
use Rattle.sheet_graph.specs.Graphs.{drawn}
use Rattle.sheet_graph.proofs.Drawing.{as_found, as_refused, drawn_least}
use Rattle.sheet_graph.proofs.graphs.draw.Goals as goal

pub returns-in-Ok-clause-graph : goal.returns-in-Ok-clause-graph
returns-in-Ok-clause-graph c =
    let n = net c.args.sheet.now in
    let limited : c.unwrap.result.limit ≡ 1000000 = search rules in
    let same : kinds (accelerated c.unwrap.result.limit) processed ≡ devices = ap (λ M. kinds (accelerated M) processed) limited in
    let drawing = as_found n _ same c.find-found.result c.find-found.ensures (refl, refl, refl) c.in-Ok.found c.in-Ok.is in
    subst (λ b. IfOk c.draw_stages.result (λ t. string_bytes t ≡ b)) (ap (drawn n []) c.stages.ensures ∙ drawing) c.draw_stages.ensures

pub returns-in-Err-clause-graph : goal.returns-in-Err-clause-graph
returns-in-Err-clause-graph c =
    let n = net c.args.sheet.now in
    let limited : c.unwrap.result.limit ≡ 1000000 = search rules in
    let same : kinds (accelerated c.unwrap.result.limit) processed ≡ devices = ap (λ M. kinds (accelerated M) processed) limited in
    as_refused n _ same c.find-found.result c.find-found.ensures (refl, refl, refl) c.in-Err.refusal c.in-Err.is string_bytes c.draw_refused.result c.draw_refused.ensures

pub returns-in-Ok-clause-least : goal.returns-in-Ok-clause-least
returns-in-Ok-clause-least c =
    let n = net c.args.sheet.now in
    let limited : c.unwrap.result.limit ≡ 1000000 = search rules in
    let same : kinds (accelerated c.unwrap.result.limit) processed ≡ devices = ap (λ M. kinds (accelerated M) processed) limited in
    drawn_least n _ same c.find-found.result c.find-found.ensures (refl, refl, refl)

pub returns-in-Err-clause-least : goal.returns-in-Err-clause-least
returns-in-Err-clause-least c =
    let n = net c.args.sheet.now in
    let limited : c.unwrap.result.limit ≡ 1000000 = search rules in
    let same : kinds (accelerated c.unwrap.result.limit) processed ≡ devices = ap (λ M. kinds (accelerated M) processed) limited in
    drawn_least n _ same c.find-found.result c.find-found.ensures (refl, refl, refl)
