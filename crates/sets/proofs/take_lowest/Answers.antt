use Rattle.std.proofs.Common.{◌<◌, refl, ap, ◌∙◌, rules}
use Rattle.sets.specs.Sets.{members}
use Rattle.sets.proofs.Members.{members_more, members_none}
use Rattle.sets.proofs.take_lowest.Goals as goal

pub returns-then-left-eq0 : goal.returns-then-left-eq0
returns-then-left-eq0 c = (ap members c.if-left-eq0.true ∙ members_none, refl)

pub returns : goal.returns
returns c =
    let some : 0 < c.args.mask.now = search rules in
    members_more c.args.mask.now some (search rules)
