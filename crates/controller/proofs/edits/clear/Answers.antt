use Rattle.std.proofs.Common.{[], Ok, ap}
use Rattle.sheet.specs.Nets.{empty}
use Rattle.planner.specs.declared.calls.Call.TheVariants as calls
use Rattle.planner.specs.declared.calls.Granted.TheVariants.{Changed}
use Rattle.planner.specs.Views.{state}
use Rattle.planner.specs.Kept.{kept}
use Rattle.controller.specs.Calls.{Clears}
use Rattle.controller.proofs.Carried.{scale_kept, first_kept, adding}
use Rattle.controller.proofs.Moved.{moved}
use Rattle.controller.proofs.edits.clear.Goals as goal

pub returns : goal.returns
returns g c =
    let p = state c.take-planner.result in
    let q = kept c.args.scale c.args.rating.now c.args.memory.now in
    let p' = state c.clear.new.self in
    let law = adding (g.S.Scale.rules p.scale) p p' calls.Clear (Ok Changed) (first_kept p p' [] empty c.clear.ensures.changes) c.clear.ensures.law in
    moved (λ x y. Clears (g.S.Scale.rules x.scale) x y) p q p' c.put.new.rating c.put.new.self c.take-planner.ensures c.put.ensures (scale_kept p p' [] empty c.clear.ensures.changes) (c.clear.ensures.changes, law)
