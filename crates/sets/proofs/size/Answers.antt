use Rattle.sets.proofs.Members.{ones_members}
use Rattle.sets.proofs.size.Goals as goal

pub returns : goal.returns
returns c = ones_members c.args.mask c.ranges.mask.fits
