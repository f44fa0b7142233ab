use Rattle.std.proofs.Common.{take, arith}
use Rattle.std.proofs.lemmas.List.{take_more}
use Rattle.std.proofs.lemmas.List.Folds.{length-flat_map-take}
use Rattle.byte_fields.proofs.Wrote.{wrote_length}
use Rattle.split.specs.Splits.{stage_at}
use Rattle.pages.specs.Pages.{stage_line}
use Rattle.pages.proofs.Parts.{wrote_more}
use Rattle.pages.proofs.puts.put_lines.Goals as goal

pub put_line-at-requires : goal.put_line-at-requires
put_line-at-requires c =
    let w = c.loop-stage.invariant in
    omega (arith, c.requires, w.ends, wrote_length w, length-flat_map-take stage_line c.args.stages.now c.loop-stage.stage-index (record { mask = 0; kind = 0 }) c.loop-stage-test.true)

pub loop-stage-preserved : goal.loop-stage-preserved
loop-stage-preserved c =
    let ss = c.args.stages.now in
    let i = c.loop-stage.stage-index in
    rw (take_more ss i (record { mask = 0; kind = 0 }) c.loop-stage-test.true) (wrote_more stage_line (take i ss) (stage_at ss i) c.loop-stage.invariant c.put_line-at.ensures)
