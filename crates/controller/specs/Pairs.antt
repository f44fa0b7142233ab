-- The scale pair, for a caller in C.
--   on_pair k                 the planner that k keeps, on pair
--   plan_of r, rating_of r    an answer, or the refusal and zeros
use Rattle.std.specs.Prelude.{Result, Ok, Err}
use Rattle.refusals.specs.declared.Refusal.{Refusal}
use Rattle.refusals.specs.Told.{told}
use Rattle.device.specs.declared.accelerators.Accelerator.{Accelerator}
use Rattle.device.specs.declared.processors.Processor.{Processor}
use Rattle.scale.specs.declared.pairs.Pair.{Pair}
use Rattle.scale.specs.declared.pairs.PairRating.{PairRating}
use Rattle.planner.specs.declared.plans.Plan.{Plan}
use Rattle.planner.specs.States.{State}
use Rattle.planner.specs.Kept.{kept}
use Rattle.controller.specs.declared.pairs.PairPlanner.{PairPlanner}
use Rattle.controller.specs.declared.pairs.PairPlanRecord.{PairPlanRecord}
use Rattle.controller.specs.declared.pairs.PairRatingRecord.{PairRatingRecord}
use Rattle.controller.specs.Told.{granted, refusal_told}

-- beside a refusal
abbrev pub none : PairRating
none = record { ticks = 0; link = 0 }

abbrev pub on_pair : PairPlanner → State Accelerator Processor Pair PairRating
on_pair k = kept (record {}) k.rating k.kept

abbrev pub plan_of : Result (Plan PairRating) Refusal → PairPlanRecord
plan_of (Ok a) = record { refusal = granted; stages = a.stages; ideals = a.ideals; rating = a.rating }
plan_of (Err e) = record { refusal = refusal_told (told e); stages = 0; ideals = 0; rating = none }

abbrev pub rating_of : Result PairRating Refusal → PairRatingRecord
rating_of (Ok r) = record { refusal = granted; rating = r }
rating_of (Err e) = record { refusal = refusal_told (told e); rating = none }
