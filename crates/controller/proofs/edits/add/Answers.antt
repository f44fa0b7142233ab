use Rattle.std.proofs.Common.{subst, sym}
use Rattle.refusals.specs.Told.{outcome}
use Rattle.sheet.specs.Changes.{added}
use Rattle.planner.specs.Views.{state}
use Rattle.planner.specs.Kept.{kept}
use Rattle.controller.specs.Told.{number_of}
use Rattle.controller.specs.Calls.{Adds}
use Rattle.controller.proofs.Carried.{scale_kept, adds}
use Rattle.controller.proofs.Moved.{moved}
use Rattle.controller.proofs.edits.add.Goals as goal

pub returns : goal.returns
returns g c =
    let p = state c.take-planner.result in
    let q = kept c.args.scale c.args.rating.now c.args.memory.now in
    let p' = state c.add-answer.new.self in
    let o = c.args.operator in
    let answer = c.add-answer in
    let made = adds (g.S.Scale.rules p.scale) p p' o answer.result answer.ensures.refuses answer.ensures.value answer.ensures.changes answer.ensures.law in
    subst (Adds (g.S.Scale.rules c.args.scale) q (kept c.args.scale c.put.new.rating c.put.new.self) o) (sym c.of.ensures)
    (moved (λ x y. Adds (g.S.Scale.rules x.scale) x y o (number_of answer.result)) p q p' c.put.new.rating c.put.new.self c.take-planner.ensures c.put.ensures (scale_kept p p' (outcome answer.result) (added p.net o) answer.ensures.changes) made)
