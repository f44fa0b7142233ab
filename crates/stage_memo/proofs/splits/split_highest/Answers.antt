use Rattle.std.proofs.Common.{◌<◌, rules}
use Rattle.stage_memo.proofs.Highest.{highest_is}
use Rattle.stage_memo.proofs.splits.split_highest.Goals as goal

pub overflow_sub-result : goal.overflow_sub-result
overflow_sub-result c =
    let some : 0 < c.args.set = search rules in
    (highest_is c.args.set some (search rules)).0

pub returns : goal.returns
returns c =
    let some : 0 < c.args.set = search rules in
    (highest_is c.args.set some (search rules)).1
