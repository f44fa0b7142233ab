-- A text for each of the numbers below v.
use Rattle.std.proofs.Common.{◌≡◌, ℕ, ◌+◌, List, [], ◌++◌, refl, sym, add-one}
use Rattle.std.specs.List.{flat_map}
use Rattle.std.proofs.lemmas.List.{flat_map_more}
use Rattle.sets.specs.Sets.{upto}

module _ (f : ℕ → List ℕ) where
  pub below_none : flat_map f (upto 0) ≡ []
  unfolding upto
  below_none = refl

  pub below_next : (v : ℕ) → flat_map f (upto (v + 1)) ≡ flat_map f (upto v) ++ f v
  unfolding upto
  below_next v = rw add-one (sym (flat_map_more f [] (upto v) v))
