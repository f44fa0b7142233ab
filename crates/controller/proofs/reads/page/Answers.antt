use Rattle.std.proofs.Common.{sym, subst}
use Rattle.planner.specs.Views.{state}
use Rattle.planner.specs.Kept.{kept}
use Rattle.controller.specs.Calls.{Pages}
use Rattle.controller.proofs.Moved.{kept_still, page_moved}
use Rattle.controller.proofs.reads.page.Goals as goal

pub returns : goal.returns
returns g c =
    let p = state c.take-planner.result in
    let q = kept c.args.scale c.args.rating.now c.args.memory.now in
    let q' = kept c.args.scale c.put.new.rating c.put.new.self in
    let answer = c.page-answer.ensures in
    let still = kept_still p q c.put.new.rating c.put.new.self c.take-planner.ensures c.put.ensures in
    subst (Pages q q' c.args.buffer.now c.page-answer.new.buffer) (sym c.of.ensures)
    (page_moved p q q' c.args.buffer.now c.page-answer.new.buffer c.page-answer.result c.take-planner.ensures still answer.refuses answer.answers answer.keeps)
