use Rattle.std.proofs.Common.{length, arith}
use Rattle.std.proofs.lemmas.List.Folds.{length-flat_map-take}
use Rattle.pages.specs.Pages.{stage_line}
use Rattle.pages.proofs.Parts.{lines_short, length_head}
use Rattle.pages.proofs.lengths.page_length.Goals as goal

pub overflow_add-length-in-loop-stage : goal.overflow_add-length-in-loop-stage
overflow_add-length-in-loop-stage c =
    let ss = c.args.stages.now in
    omega (
      arith,
      c.requires,
      length-flat_map-take stage_line ss c.loop-stage.stage-index (record { mask = 0; kind = 0 }) c.loop-stage-test.true,
      lines_short ss,
      c.loop-stage.invariant,
      c.line_length-length.ensures,
      length_head (length ss) c.args.pace,
      c.digits.ensures.value,
      c.digits.ensures.few,
      c.digits-2.ensures.value,
      c.digits-2.ensures.few,
    )
