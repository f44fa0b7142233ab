-- The recurrence where a reader can follow it by hand: the diamond with two accelerators of limit 4, on peak.
use Rattle.std.specs.Prelude.{◌≡◌, ℕ, [], ◌∷◌, Some, None, Option}
use Rattle.sheet.specs.Nets.{Net}
use Rattle.device.specs.Loads.{accelerated, processed}
use Rattle.scale.specs.Scales.{peak}
use Rattle.split.specs.Splits.{Kinds, Least}
use Rattle.recurrence.specs.Table.{one, Candidate, pick}
use Rattle.recurrence.specs.Planned.{setting, best_of, split_of}

-- edges 0 to 1, 0 to 2, 1 to 3 and 2 to 3
abbrev pub diamond : Net
diamond = record {
  rows = record { acc = 2; cpu = 6; size = 1; link = 1 } ∷ record { acc = 4; cpu = 8; size = 2; link = 1 } ∷ record { acc = 3; cpu = 9; size = 2; link = 1 } ∷ record { acc = 2; cpu = 5; size = 1; link = 1 } ∷ [];
  successors = 6 ∷ 8 ∷ 8 ∷ 0 ∷ [];
  k = 2;
  l = 0;
}

abbrev pub devices : Kinds
devices = record { first = accelerated 4; second = processed }

abbrev pub picked : ℕ → ℕ → Option (Candidate ℕ)
picked i a = pick (setting diamond devices peak) a 0 i

abbrev pub rated : ℕ → ℕ → Option (Candidate ℕ)
rated r j = Some (record { rating = r; origin = j; kind = one })

-- the ideals are {}, {0}, {0, 1}, {0, 2}, {0, 1, 2} and all four; a row has the counts 0, 1 and 2
pub record Cases : Type 0 where
  pub ideal_1 : (picked 1 0 ≡ None) × (picked 1 1 ≡ rated 3 0) × (picked 1 2 ≡ rated 3 0)
  pub ideal_2 : (picked 2 0 ≡ None) × (picked 2 1 ≡ rated 8 0) × (picked 2 2 ≡ rated 6 1)
  pub ideal_3 : (picked 3 0 ≡ None) × (picked 3 1 ≡ rated 7 0) × (picked 3 2 ≡ rated 5 1)
  pub ideal_4 : (picked 4 0 ≡ None) × (picked 4 1 ≡ None) × (picked 4 2 ≡ rated 7 3)
  pub ideal_5 : (picked 5 0 ≡ None) × (picked 5 1 ≡ None) × (picked 5 2 ≡ rated 8 2)
  pub rating : best_of diamond devices peak ≡ Some 8
  pub stages : split_of diamond devices peak ≡ record { mask = 3; kind = 1 } ∷ record { mask = 12; kind = 1 } ∷ []
  -- no lawful split at all rates lower
  pub least : Least diamond devices peak (record { mask = 3; kind = 1 } ∷ record { mask = 12; kind = 1 } ∷ []) 8
