use Rattle.std.proofs.Common.{refl}
use Rattle.sets.specs.Sets.{has, gathered}
use Rattle.ideals.specs.Ideals.{grown}
use Rattle.ideals.proofs.cases_stand.Goals as goal

pub returns : goal.returns
unfolding has gathered grown
returns c = record { none = refl; diamond = refl; loose = refl }
