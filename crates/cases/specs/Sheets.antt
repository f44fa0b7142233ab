-- The sheets of the examples.
--   single k l    one operator, with k accelerators and l processors
--   square k l    the diamond, with so many devices: edges 0 to 1, 0 to 2, 1 to 3 and 2 to 3
use Rattle.std.specs.Prelude.{ℕ, [], ◌∷◌}
use Rattle.sheet.specs.Nets.{Net}
use Rattle.sheet.specs.Changes.{counted}
use Rattle.recurrence.specs.Cases.{diamond}

abbrev pub single : ℕ → ℕ → Net
single k l = record {
  rows = record { acc = 3; cpu = 9; size = 4; link = 2 } ∷ [];
  successors = 0 ∷ [];
  k = k;
  l = l;
}

-- its four operators have acc 2, 4, 3, 2, cpu 6, 8, 9, 5, size 1, 2, 2, 1 and link 1
abbrev pub square : ℕ → ℕ → Net
square k l = counted diamond k l
