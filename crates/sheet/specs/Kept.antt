-- The rules that each sheet keeps, as one record.
use Rattle.std.specs.Prelude.{◌≡◌, ◌≤◌, length}
use Rattle.sheet.specs.Rules.{Modest, Upward, most_operators, most_devices}
use Rattle.sheet.specs.Nets.{Net, size}

pub record Kept (n : Net) : Type 0 where
  pub few : size n ≤ most_operators
  pub modest : Modest n.rows
  pub masks : length n.successors ≡ size n
  pub upward : Upward n.successors
  pub devices : (n.k ≤ most_devices) × (n.l ≤ most_devices)
