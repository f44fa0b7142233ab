use Rattle.std.proofs.Common.{◌∙◌}
use Rattle.planner.specs.Views.{state}
use Rattle.planner.specs.Kept.{kept}
use Rattle.controller.proofs.Moved.{kept_still, margin_told}
use Rattle.controller.proofs.reads.margin.Goals as goal

pub returns : goal.returns
returns g c =
    let p = state c.take-planner.result in
    let q = kept c.args.scale c.args.rating.now c.args.memory.now in
    (c.of.ensures ∙ margin_told p q c.args.pick c.margin-answer.result c.take-planner.ensures c.margin-answer.ensures, kept_still p q c.put.new.rating c.put.new.self c.take-planner.ensures c.put.ensures)
