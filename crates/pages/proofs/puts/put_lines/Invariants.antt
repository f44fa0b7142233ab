use Rattle.std.proofs.Common.{take}
use Rattle.std.specs.List.{flat_map}
use Rattle.byte_fields.specs.Wrote.{Wrote}
use Rattle.pages.specs.Pages.{stage_line}
use Rattle.pages.proofs.puts.put_lines.Given as goal

abbrev pub invariant-loop-stage : goal.invariant-loop-stage
invariant-loop-stage l =
    Wrote l.initial.buffer l.from l.at (flat_map stage_line (take l.stage-index l.stages)) l.buffer
