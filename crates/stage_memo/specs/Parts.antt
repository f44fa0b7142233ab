-- Parts of a set of operators that lack only lowest ones.
use Rattle.std.specs.Prelude.{◌≡◌, ℕ, ◌<◌, false}
use Rattle.sets.specs.Sets.{has, In}

-- the set s is a part of m, and what it lacks is below all that it has
pub record Tail (m s : ℕ) : Type 0 where
  pub inside : (u : ℕ) → In u s → In u m
  pub below : (u w : ℕ) → In u m → has s u ≡ false → In w s → u < w
