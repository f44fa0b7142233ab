-- The scale peak, for a caller in C.
--   on_peak k                 the planner that k keeps, on peak
--   plan_of r, rating_of r    an answer, or the refusal and zeros
use Rattle.std.specs.Prelude.{ℕ, Result, Ok, Err}
use Rattle.refusals.specs.declared.Refusal.{Refusal}
use Rattle.refusals.specs.Told.{told}
use Rattle.device.specs.declared.accelerators.Accelerator.{Accelerator}
use Rattle.device.specs.declared.processors.Processor.{Processor}
use Rattle.scale.specs.declared.peaks.Peak.{Peak}
use Rattle.planner.specs.declared.plans.Plan.{Plan}
use Rattle.planner.specs.States.{State}
use Rattle.planner.specs.Kept.{kept}
use Rattle.controller.specs.declared.peaks.PeakPlanner.{PeakPlanner}
use Rattle.controller.specs.declared.peaks.PeakPlanRecord.{PeakPlanRecord}
use Rattle.controller.specs.declared.peaks.PeakRatingRecord.{PeakRatingRecord}
use Rattle.controller.specs.Told.{granted, refusal_told}

abbrev pub on_peak : PeakPlanner → State Accelerator Processor Peak ℕ
on_peak k = kept (record {}) k.rating k.kept

abbrev pub plan_of : Result (Plan ℕ) Refusal → PeakPlanRecord
plan_of (Ok a) = record { refusal = granted; stages = a.stages; ideals = a.ideals; rating = a.rating }
plan_of (Err e) = record { refusal = refusal_told (told e); stages = 0; ideals = 0; rating = 0 }

abbrev pub rating_of : Result ℕ Refusal → PeakRatingRecord
rating_of (Ok r) = record { refusal = granted; rating = r }
rating_of (Err e) = record { refusal = refusal_told (told e); rating = 0 }
