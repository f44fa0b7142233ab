-- The filled tables of a problem and a scale, as a reader takes them.
--   setting_of t      the recurrence over the ideals of the tables
--   network t         the network of the problem
--   last_cell t       the cell of the last ideal with all devices
--   HasCell t place   a cell of the tables
use Rattle.std.specs.Prelude.{◌-◌, ◌<◌, ◌≤◌, length}
use Rattle.sheet.specs.Nets.{Net}
use Rattle.device.specs.declared.kinds.Kind as kind
use Rattle.scale.specs.declared.scales.Scale as scale
use Rattle.split.specs.Problems.{net_of, kinds_of}
use Rattle.recurrence.specs.Table.{Setting}
use Rattle.recurrence.specs.Planned.{setting_over}
use Rattle.best_split.specs.declared.places.Place.{Place}
use Rattle.best_split.specs.declared.filled_tables.FilledTables.{FilledTables}

module _ {K L S R : Type 0} {first : kind.Ghosts K} {second : kind.Ghosts L} {order : scale.Ghosts S R} (t : FilledTables K L S R first second order) where
  abbrev pub network : Net
  network = net_of t.problem.now

  abbrev pub setting_of : Setting R
  setting_of = setting_over t.ideals.now (net_of t.problem.now) (kinds_of first.meaning second.meaning t.problem.now) (order.rules t.scale.now)

  abbrev pub last_cell : Place
  last_cell = record { i = length t.ideals.now - 1; a = (net_of t.problem.now).k; b = (net_of t.problem.now).l }

  abbrev pub HasCell : Place → Type 0
  HasCell place = (place.i < length t.ideals.now) × (place.a ≤ (net_of t.problem.now).k) × (place.b ≤ (net_of t.problem.now).l)
