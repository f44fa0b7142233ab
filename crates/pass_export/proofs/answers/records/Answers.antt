use Rattle.std.proofs.Common.{◌≡◌, ◌<◌, ◌-◌, length, arith, ap, ◌∙◌}
use Rattle.std.proofs.lemmas.List.{length-drop, length-set, get_or_default}
use Rattle.pass_export.specs.Told.{stage_of}
use Rattle.pass_export.proofs.Placed.{placed, others}
use Rattle.pass_export.proofs.answers.records.Goals as goal

pub loop-i-preserved : goal.loop-i-preserved
loop-i-preserved c =
    let split = c.args.split.now in
    let stages = c.stages-stage-items.result.now in
    let few : length stages ≡ 16 - split.first = ap length c.stages-stage-items.ensures ∙ length-drop split.first split.stages ∙ ap (λ n. n - split.first) split.room in
    let within : c.loop-i.i < length stages = c.loop-i-test.true in
    let room : c.loop-i.i < length c.loop-i.records = omega arith in
    (simp length-set c.loop-i.invariant.0, placed stage_of c.loop-i.records stages c.loop-i.i _ room within c.loop-i.invariant.1 (get_or_default stages c.loop-i.i _ _ within), others stage_of c.loop-i.records 16 c.loop-i.i _ _ c.loop-i.invariant.2)
