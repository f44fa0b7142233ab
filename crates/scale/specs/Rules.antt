-- What a scale is: an order on ratings, a rating to start from, and how a load is joined to a rating.
--   at_most x y   the rating x is at most the rating y
--   joined r x    the rating r joined with the load x
use Rattle.std.specs.Prelude.{Bool}
use Rattle.device.specs.Loads.{PlainLoad}

pub record Rules (R : Type 0) : Type 0 where
  pub at_most : R → R → Bool
  pub start : R
  pub joined : R → PlainLoad → R
