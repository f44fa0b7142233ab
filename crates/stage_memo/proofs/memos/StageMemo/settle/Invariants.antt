use Rattle.std.proofs.Common.{◌≡◌}
use Rattle.stage_memo.specs.Known.{Right}
use Rattle.stage_memo.specs.Views.{memo_net}
use Rattle.stage_memo.proofs.Tails.{Parted}
use Rattle.stage_memo.proofs.memos.StageMemo.settle.Given as goal

abbrev pub invariant-loop-v : goal.invariant-loop-v
invariant-loop-v l = record {
  parted : Parted l.mask l.left l.known.figures.mask;
  right : Right (memo_net l.self) l.known;
  keeps : memo_net l.self ≡ memo_net l.initial.self;
}

abbrev pub decreases-loop-v : goal.decreases-loop-v
decreases-loop-v l = l.left
