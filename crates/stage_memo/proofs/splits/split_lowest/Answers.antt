use Rattle.std.proofs.Common.{sym, ◌∙◌}
use Rattle.stage_memo.proofs.Lowest.{least, lowest_is, members_empty}
use Rattle.sets.specs.Walks.{members_left}
use Rattle.stage_memo.proofs.splits.split_lowest.Goals as goal

pub returns-in_err-v : goal.returns-in_err-v
returns-in_err-v c = rw c.from_residual.ensures (members_empty c.args.set c.ranges.set.fits (sym c.members_of.ensures ∙ c.in_err-v.ensures.steps.0))

pub overflow_shl-v : goal.overflow_shl-v
overflow_shl-v c = (least c.args.set c.in_ok-v.v (members_left c.next.new.self) c.ranges.set.fits (sym c.members_of.ensures ∙ c.in_ok-v.ensures.steps)).0

pub returns : goal.returns
returns c = lowest_is c.args.set c.in_ok-v.v (members_left c.next.new.self) c.ranges.set.fits (sym c.members_of.ensures ∙ c.in_ok-v.ensures.steps) c.difference.result c.difference.ensures
