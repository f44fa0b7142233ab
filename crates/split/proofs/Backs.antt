-- An edge back, seen from the operators that it leads to.
use Rattle.std.proofs.Common.{◌≡◌, ℕ, false, not, ◌&&◌, eqb, ap, arith}
use Rattle.sets.specs.Sets.{has, both, meeting, gathered}
use Rattle.sets.proofs.Sets.{has_and, meeting_means, same_sets}
use Rattle.sets.proofs.Members.{has_gathered}
use Rattle.sheet.specs.Nets.{Net, size, after}
use Rattle.sheet.specs.Figures.{feeds}
use Rattle.split.specs.Breaches.{back}

-- the operators of m that feed the set placed, where the two sets are apart
feeding_back : (n : Net) (m placed : ℕ) → meeting m placed ≡ false → both m (gathered (feeds n placed) (size n)) ≡ gathered (λ u. has m u && meeting (after n u) placed) (size n)
feeding_back n m placed apart = same_sets _ _ (λ v. grind (arith, has_and, has_gathered, meeting_means))

pub back_is : (n : Net) (m placed fed : ℕ) → meeting m placed ≡ false → fed ≡ gathered (feeds n placed) (size n) → meeting m fed ≡ back n m placed
back_is n m placed fed apart is = rw is (ap (λ (x : ℕ). not (eqb x 0)) (feeding_back n m placed apart))
