use Rattle.std.proofs.Common.{refl}
use Rattle.sets.specs.Sets.{has, gathered, upto}
use Rattle.scale.specs.Scales.{peak}
use Rattle.ideals.specs.Ideals.{grown}
use Rattle.recurrence.specs.Cases.{diamond, devices}
use Rattle.recurrence.proofs.Plans.{planned}
use Rattle.recurrence.proofs.Diamond.{diamond_kept, devices_answer, peak_laws}
use Rattle.recurrence.proofs.cases_stand.Goals as goal

pub returns : goal.returns
unfolding has gathered upto grown
returns c = record {
  ideal_1 = (refl, refl, refl);
  ideal_2 = (refl, refl, refl);
  ideal_3 = (refl, refl, refl);
  ideal_4 = (refl, refl, refl);
  ideal_5 = (refl, refl, refl);
  rating = refl;
  stages = refl;
  least = (planned diamond devices peak diamond_kept devices_answer peak_laws).least 8 refl;
}
