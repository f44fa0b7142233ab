-- What memory that keeps a planner stands for.
--   kept s r k    the planner that k keeps, on the scale s, with r as the rating of the split that stands, if one does
use Rattle.std.specs.Prelude.{cond, None, Some}
use Rattle.device.specs.declared.accelerators.Accelerator.{Accelerator}
use Rattle.device.specs.declared.processors.Processor.{Processor}
use Rattle.sheet.specs.Views.{net}
use Rattle.best_split.specs.Views.{stages_of}
use Rattle.planner.specs.declared.kept.Kept.{Kept}
use Rattle.planner.specs.States.{State}

abbrev pub kept : {S R : Type 0} → S → R → Kept → State Accelerator Processor S R
kept s r k = record { net = net k.sheet; first = k.accelerator; second = record {}; scale = s; standing = cond k.stands (Some (record { rating = r; stages = stages_of k.split })) None }
