use Rattle.std.proofs.Common.{◌≡◌, ◌+◌, length, take}
use Rattle.std.specs.List.{flat_map}
use Rattle.pages.specs.Pages.{stage_line, head_line}
use Rattle.pages.proofs.lengths.page_length.Given as goal

abbrev pub invariant-loop-stage : goal.invariant-loop-stage
invariant-loop-stage l =
    l.length ≡ length (head_line (length l.stages) l.pace) + length (flat_map stage_line (take l.stage-index l.stages))
