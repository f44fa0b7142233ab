use Rattle.sets.proofs.Sets.{same_means, has_or, has_and, has_difference, has_including, has_full, inside_means, meeting_means}
use Rattle.sets.proofs.Members.{ones_members, has_gathered}
use Rattle.sets.proofs.laws_stand.Goals as goal

pub returns : goal.returns
returns c s t small few = record {
  same = same_means s t;
  in_either = has_or s t;
  in_both = has_and s t;
  in_without = λ v. has_difference s t v small few;
  in_including = has_including s;
  in_full = has_full;
  in_gathered = has_gathered;
  all_inside = inside_means s t;
  some_meet = meeting_means s t;
  counted = ones_members s small;
}
