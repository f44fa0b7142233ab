-- The list of the ideals ascends, begins with the empty set, ends with the set of all operators, and holds a set exactly if it is an ideal.
use Rattle.std.specs.Prelude.{◌≡◌, ℕ, ◌-◌, ◌<◌, length, slice_index, slice_index_or}
use Rattle.sets.specs.Sets.{full}
use Rattle.sheet.specs.Nets.{Net, size}
use Rattle.ideals.specs.Ideals.{Ideal, ideals}

pub record Listing (n : Net) : Type 0 where
  pub some : 0 < length (ideals n)
  pub first : slice_index_or (ideals n) 0 0 ≡ 0
  pub last : slice_index_or (ideals n) (length (ideals n) - 1) 0 ≡ full (size n)
  pub rises : (i j : ℕ) → i < j → j < length (ideals n) → slice_index (ideals n) i < slice_index (ideals n) j
  pub valid : (i : ℕ) → i < length (ideals n) → Ideal n (slice_index (ideals n) i)
  pub complete : (m : ℕ) → Ideal n m → (i : ℕ) × (i < length (ideals n)) × (slice_index (ideals n) i ≡ m)
