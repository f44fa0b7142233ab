use Rattle.std.proofs.Common.{◌≡◌, [], sym, subst, ◌∙◌}
use Rattle.refusals.specs.Told.{outcome}
use Rattle.sheet_layout.specs.Bodies.{file_refusal, net_of}
use Rattle.sheet_layout.specs.Layout.{LaidOut}
use Rattle.planner.specs.declared.calls.Call.TheVariants as calls
use Rattle.planner.specs.Views.{state}
use Rattle.planner.specs.Kept.{kept}
use Rattle.controller.specs.Told.{refusal_told}
use Rattle.controller.specs.Calls.{Loads}
use Rattle.controller.proofs.Carried.{scale_kept, edits, said}
use Rattle.controller.proofs.Moved.{moved}
use Rattle.controller.proofs.edits.load.Goals as goal

pub returns : goal.returns
returns g c =
    let p = state c.take-planner.result in
    let q = kept c.args.scale c.args.rating.now c.args.memory.now in
    let p' = state c.load-answer.new.self in
    let f = c.args.file in
    let answer = c.load-answer in
    let made = edits (g.S.Scale.rules p.scale) p p' (calls.Load f) (file_refusal f.now) (net_of f.now) answer.result answer.ensures.refuses answer.ensures.changes answer.ensures.law in
    subst (Loads (g.S.Scale.rules c.args.scale) q (kept c.args.scale c.put.new.rating c.put.new.self) f) (sym c.of_change.ensures)
    (moved (λ x y. Loads (g.S.Scale.rules x.scale) x y f (refusal_told (outcome answer.result))) p q p' c.put.new.rating c.put.new.self c.take-planner.ensures c.put.ensures (scale_kept p p' (outcome answer.result) (net_of f.now) answer.ensures.changes)
    (made, said answer.result (LaidOut f.now p'.net) answer.ensures.refuses answer.ensures.says))
