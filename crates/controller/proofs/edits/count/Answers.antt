use Rattle.std.proofs.Common.{subst, sym}
use Rattle.sheet.specs.Changes.{count_refusal, counted}
use Rattle.refusals.specs.Told.{outcome}
use Rattle.planner.specs.declared.calls.Call.TheVariants as calls
use Rattle.planner.specs.Views.{state}
use Rattle.planner.specs.Kept.{kept}
use Rattle.controller.specs.Told.{refusal_told}
use Rattle.controller.specs.Calls.{Counts}
use Rattle.controller.proofs.Carried.{scale_kept, edits}
use Rattle.controller.proofs.Moved.{moved}
use Rattle.controller.proofs.edits.count.Goals as goal

pub returns : goal.returns
returns g c =
    let p = state c.take-planner.result in
    let q = kept c.args.scale c.args.rating.now c.args.memory.now in
    let p' = state c.count-answer.new.self in
    let answer = c.count-answer in
    let made = edits (g.S.Scale.rules p.scale) p p' (calls.Count c.args.k c.args.l) (count_refusal c.args.k c.args.l) (counted p.net c.args.k c.args.l) answer.result answer.ensures.refuses answer.ensures.changes answer.ensures.law in
    subst (Counts (g.S.Scale.rules c.args.scale) q (kept c.args.scale c.put.new.rating c.put.new.self) c.args.k c.args.l) (sym c.of_change.ensures)
    (moved (λ x y. Counts (g.S.Scale.rules x.scale) x y c.args.k c.args.l (refusal_told (outcome answer.result))) p q p' c.put.new.rating c.put.new.self c.take-planner.ensures c.put.ensures (scale_kept p p' (outcome answer.result) (counted p.net c.args.k c.args.l) answer.ensures.changes) made)
