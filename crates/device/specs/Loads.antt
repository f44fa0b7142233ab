-- What a device kind answers: a load, or that a stage does not fit.
--   PlainLoad        ticks and link
--   Fair x           both numbers of a load are within their limit
--   Small f          each sum of a stage's figures is within its limit
--   accelerated M f  the answer of an accelerator with the limit M
--   processed f      the answer of a processor
use Rattle.std.specs.Prelude.{ℕ, ◌+◌, ◌≤◌, cond, Some, None, Option, nat_le}
use Rattle.sheet.specs.Rules.{most_sum}
use Rattle.sheet.specs.Figures.{Sums}
use Rattle.device.specs.Limits.{most_load}

pub record PlainLoad : Type 0 where
  pub ticks : ℕ
  pub link : ℕ

abbrev pub Fair : PlainLoad → Type 0
Fair x = (x.ticks ≤ most_load) × (x.link ≤ most_load)

abbrev pub Small : Sums → Type 0
Small f = (f.acc ≤ most_sum) × (f.cpu ≤ most_sum) × (f.size ≤ most_sum) × (f.incoming ≤ most_sum) × (f.outgoing ≤ most_sum)

abbrev pub accelerated : ℕ → Sums → Option PlainLoad
accelerated limit f =
    cond (nat_le f.size limit) (Some (record { ticks = f.incoming + f.acc + f.outgoing; link = f.incoming + f.outgoing })) None

abbrev pub processed : Sums → Option PlainLoad
processed f = Some (record { ticks = f.cpu; link = 0 })
