use Rattle.stage_memo.specs.Views.{memo_net}
use Rattle.stage_memo.proofs.Tails.{tail_fewer}
use Rattle.stage_memo.proofs.memos.StageMemo.part.Goals as goal

pub loop-v-preserved : goal.loop-v-preserved
loop-v-preserved c = tail_fewer c.args.mask c.loop-v.rest c.in-Some.v c.in-Some.others c.in-Some.ensures c.loop-v.invariant

pub returns-clause-right : goal.returns-clause-right
returns-clause-right c = c.of_none.ensures.right (memo_net c.args.self.now)
