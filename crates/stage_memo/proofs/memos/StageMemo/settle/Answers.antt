use Rattle.std.proofs.Common.{rules, refl}
use Rattle.stage_memo.proofs.Tails.{tail_parted, parted_below, parted_more, parted_all}
use Rattle.stage_memo.proofs.memos.StageMemo.settle.Goals as goal

pub loop-v-init : goal.loop-v-init
loop-v-init c = record {
  parted = tail_parted c.args.mask c.part-known.result.figures.mask c.difference-left.result c.ranges.mask.fits (search rules) c.difference-left.ensures c.part-known.ensures.tail;
  right = c.part-known.ensures.right;
  keeps = refl;
}

pub with_below-known-requires-clause-below : goal.with_below-known-requires-clause-below
with_below-known-requires-clause-below c = parted_below c.args.mask c.loop-v.left c.loop-v.known.figures.mask c.in-Some.v c.in-Some.others c.in-Some.ensures c.loop-v.invariant.parted

pub loop-v-preserved : goal.loop-v-preserved
loop-v-preserved c = record {
  parted = parted_more c.args.mask c.loop-v.left c.loop-v.known.figures.mask c.in-Some.v c.in-Some.others c.in-Some.ensures c.loop-v.invariant.parted c.with_below-known.result.figures.mask c.with_below-known.ensures.mask;
  right = c.with_below-known.ensures.right;
  keeps = c.loop-v.invariant.keeps;
}

pub returns-clause-mask : goal.returns-clause-mask
returns-clause-mask c = parted_all c.args.mask c.loop-v.left c.loop-v.known.figures.mask c.in_default.ensures c.loop-v.invariant.parted
