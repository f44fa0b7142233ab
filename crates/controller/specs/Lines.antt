-- The scale line, for a caller in C.
--   on_line k                 the planner that k keeps, on line
--   plan_of r, rating_of r    an answer, or the refusal and zeros
use Rattle.std.specs.Prelude.{ℕ, Result, Ok, Err}
use Rattle.refusals.specs.declared.Refusal.{Refusal}
use Rattle.refusals.specs.Told.{told}
use Rattle.device.specs.declared.accelerators.Accelerator.{Accelerator}
use Rattle.device.specs.declared.processors.Processor.{Processor}
use Rattle.scale.specs.declared.lines.Line.{Line}
use Rattle.planner.specs.declared.plans.Plan.{Plan}
use Rattle.planner.specs.States.{State}
use Rattle.planner.specs.Kept.{kept}
use Rattle.controller.specs.declared.lines.LinePlanner.{LinePlanner}
use Rattle.controller.specs.declared.lines.LinePlanRecord.{LinePlanRecord}
use Rattle.controller.specs.declared.lines.LineRatingRecord.{LineRatingRecord}
use Rattle.controller.specs.Told.{granted, refusal_told}

abbrev pub on_line : LinePlanner → State Accelerator Processor Line ℕ
on_line k = kept (record {}) k.rating k.kept

abbrev pub plan_of : Result (Plan ℕ) Refusal → LinePlanRecord
plan_of (Ok a) = record { refusal = granted; stages = a.stages; ideals = a.ideals; rating = a.rating }
plan_of (Err e) = record { refusal = refusal_told (told e); stages = 0; ideals = 0; rating = 0 }

abbrev pub rating_of : Result ℕ Refusal → LineRatingRecord
rating_of (Ok r) = record { refusal = granted; rating = r }
rating_of (Err e) = record { refusal = refusal_told (told e); rating = 0 }
