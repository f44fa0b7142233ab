-- A set of operators as one at its end and the others.
use Rattle.std.specs.Prelude.{◌≡◌, ℕ, ◌<◌, length}
use Rattle.sets.specs.Sets.{In, including, members}

-- v is the lowest operator of the set m, and rest are the others
pub record IsLowest (m v rest : ℕ) : Type 0 where
  pub few : v < 64
  pub below : (u : ℕ) → In u rest → v < u
  pub whole : including rest v ≡ m
  pub fewer : length (members rest) < length (members m)

-- v is the highest operator of the set m, and rest are the others
pub record IsHighest (m v rest : ℕ) : Type 0 where
  pub few : v < 64
  pub above : (u : ℕ) → In u rest → u < v
  pub whole : including rest v ≡ m
  pub fewer : rest < m
