use Rattle.std.proofs.Common.{length}
use Rattle.sets.specs.Sets.{members}
use Rattle.stage_memo.specs.Parts.{Tail}
use Rattle.stage_memo.proofs.memos.StageMemo.part.Given as goal

abbrev pub invariant-loop-v : goal.invariant-loop-v
invariant-loop-v l = Tail l.mask l.rest

abbrev pub decreases-loop-v : goal.decreases-loop-v
decreases-loop-v l = length (members l.rest)
