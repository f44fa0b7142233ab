use Rattle.std.proofs.Common.{◌≡◌, ◌-◌, length, map, take, drop}
use Rattle.pass_export.specs.Told.{stage_of, no_stages}
use Rattle.pass_export.proofs.answers.records.Given as goal

abbrev pub invariant-loop-i : goal.invariant-loop-i
invariant-loop-i l = (length l.records ≡ 16) × (take l.i (map stage_of l.records) ≡ take l.i l.stage-items) × (drop l.i (map stage_of l.records) ≡ no_stages (16 - l.i))
