-- The three scales.
--   peak   by the largest ticks of a stage
--   line   by the sum of all ticks, which stops at 2 ^ 64 - 1
--   pair   by ticks, and on equal ticks by link: the larger pair in that order
use Rattle.std.specs.Prelude.{ℕ, ◌+◌, ◌-◌, ◌^◌, min, max, Bool, cond, ◌&&◌, ◌||◌, ◌==◌, nat_le, nat_lt}
use Rattle.device.specs.Loads.{PlainLoad}
use Rattle.scale.specs.declared.pairs.PairRating.{PairRating}
use Rattle.scale.specs.Rules.{Rules}

abbrev pub peak : Rules ℕ
peak = record { at_most = nat_le; start = 0; joined = λ r x. max r x.ticks }

-- of a rating below 2 ^ 64 the larger one here is the sum, or the greatest number where the sum is above it
abbrev pub line : Rules ℕ
line = record { at_most = nat_le; start = 0; joined = λ r x. max r (min (r + x.ticks) (2 ^ 64 - 1)) }

abbrev pub pair_at_most : PairRating → PairRating → Bool
pair_at_most p q = nat_lt p.ticks q.ticks || (p.ticks == q.ticks && nat_le p.link q.link)

abbrev pub pair_of : PlainLoad → PairRating
pair_of x = record { ticks = x.ticks; link = x.link }

abbrev pub pair : Rules PairRating
pair = record { at_most = pair_at_most; start = record { ticks = 0; link = 0 }; joined = λ r x. cond (pair_at_most r (pair_of x)) (pair_of x) r }
