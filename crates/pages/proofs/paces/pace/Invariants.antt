use Rattle.std.proofs.Common.{◌≡◌, take}
use Rattle.split.specs.Problems.{net_of, kinds_of}
use Rattle.pages.specs.Paces.{pace_of}
use Rattle.pages.proofs.paces.pace.Given as goal

abbrev pub invariant-loop-stage : goal.invariant-loop-stage
invariant-loop-stage g l =
    l.pace ≡ pace_of (net_of l.problem) (kinds_of g.K.Kind.meaning g.L.Kind.meaning l.problem) (take l.stage-index l.stages)
