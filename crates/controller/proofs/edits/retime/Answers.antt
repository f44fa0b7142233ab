use Rattle.std.proofs.Common.{subst, sym}
use Rattle.sheet.specs.Changes.{retime_refusal, retimed}
use Rattle.refusals.specs.Told.{outcome}
use Rattle.planner.specs.declared.calls.Call.TheVariants as calls
use Rattle.planner.specs.Views.{state}
use Rattle.planner.specs.Kept.{kept}
use Rattle.controller.specs.Told.{refusal_told}
use Rattle.controller.specs.Calls.{Retimes}
use Rattle.controller.proofs.Carried.{scale_kept, edits}
use Rattle.controller.proofs.Moved.{moved}
use Rattle.controller.proofs.edits.retime.Goals as goal

pub returns : goal.returns
returns g c =
    let p = state c.take-planner.result in
    let q = kept c.args.scale c.args.rating.now c.args.memory.now in
    let p' = state c.retime-answer.new.self in
    let answer = c.retime-answer in
    let made = edits (g.S.Scale.rules p.scale) p p' (calls.Retime c.args.v c.args.figures.now) (retime_refusal p.net c.args.v c.args.figures.now) (retimed p.net c.args.v c.args.figures.now) answer.result answer.ensures.refuses answer.ensures.changes answer.ensures.law in
    subst (Retimes (g.S.Scale.rules c.args.scale) q (kept c.args.scale c.put.new.rating c.put.new.self) c.args.v c.args.figures.now) (sym c.of_change.ensures)
    (moved (λ x y. Retimes (g.S.Scale.rules x.scale) x y c.args.v c.args.figures.now (refusal_told (outcome answer.result))) p q p' c.put.new.rating c.put.new.self c.take-planner.ensures c.put.ensures (scale_kept p p' (outcome answer.result) (retimed p.net c.args.v c.args.figures.now) answer.ensures.changes) made)
