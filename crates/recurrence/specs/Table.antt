-- The recurrence over the listed ideals: the least rating of each ideal with so many devices of each kind.
--   KindNumber      which of the two device kinds
--   Setting         all that the recurrence depends on: the listed ideals, with which counts a rating stands at the empty ideal,
--                   what a kind answers for a stage that ends at counts a and b, and the scale
--   Candidate       a rating, the index of the ideal before the last stage, and that stage's kind
--   lesser x y      the lesser of two candidates, the earlier where neither is less
--   offer j k r x   the candidate from ideal j with a stage of kind k: where a rating r stands there and the kind answers the load x
--   among .. n      the first of the least candidates from the ideals below index n; p and q give the ratings with one device of
--                   kind 1 or 2 less, x and y the loads
--   cut k a b i j   what kind k answers for the stage between ideals j and i; nothing where ideal j is not inside ideal i
--   best a b i      the least rating of ideal i with at most a devices of kind 1 and b of kind 2
--   pick a b i      the candidate that it comes from; none at the empty ideal
use Rattle.std.specs.Prelude.{ℕ, zero, suc, ◌-◌, Bool, cond, List, Some, None, Option, slice_index}
use Rattle.sets.specs.Sets.{inside}
use Rattle.device.specs.Loads.{PlainLoad}
use Rattle.scale.specs.Rules.{Rules}

pub data KindNumber : Type 0 where
  one : KindNumber
  two : KindNumber

abbrev pub number : KindNumber → ℕ
number one = 1
number two = 2

pub record Candidate (R : Type 0) : Type 0 where
  pub rating : R
  pub origin : ℕ
  pub kind : KindNumber

pub record Setting (R : Type 0) : Type 0 where
  pub ideals : List ℕ
  pub bottom : ℕ → ℕ → Bool
  pub ask : KindNumber → ℕ → ℕ → ℕ → Option PlainLoad
  pub rules : Rules R

abbrev pub rating_of : {R : Type 0} → Option (Candidate R) → Option R
rating_of None = None
rating_of (Some c) = Some c.rating

abbrev pub nothing : {R : Type 0} → ℕ → Option R
nothing j = None

module _ {R : Type 0} (s : Rules R) where
  abbrev pub lesser : Option (Candidate R) → Option (Candidate R) → Option (Candidate R)
  lesser None y = y
  lesser (Some x) None = Some x
  lesser (Some x) (Some y) = cond (s.at_most x.rating y.rating) (Some x) (Some y)

  abbrev pub offer : ℕ → KindNumber → Option R → Option PlainLoad → Option (Candidate R)
  offer j k None x = None
  offer j k (Some r) None = None
  offer j k (Some r) (Some x) = Some (record { rating = s.joined r x; origin = j; kind = k })

  abbrev pub among : (ℕ → Option R) → (ℕ → Option R) → (ℕ → Option PlainLoad) → (ℕ → Option PlainLoad) → ℕ → Option (Candidate R)
  among p q x y zero = None
  among p q x y (suc j) = lesser (lesser (among p q x y j) (offer j one (p j) (x j))) (offer j two (q j) (y j))

module _ {R : Type 0} (e : Setting R) where
  abbrev pub ideal : ℕ → ℕ
  ideal i = slice_index e.ideals i

  abbrev pub cut : KindNumber → ℕ → ℕ → ℕ → ℕ → Option PlainLoad
  cut k a b i j = cond (inside (ideal j) (ideal i)) (e.ask k a b (ideal i - ideal j)) None

  abbrev pub least : (ℕ → Option R) → (ℕ → Option R) → ℕ → ℕ → ℕ → Option (Candidate R)
  least p q a b i = among e.rules p q (cut one a b i) (cut two a b i) i

  abbrev pub via : (ℕ → Option R) → (ℕ → Option R) → ℕ → ℕ → ℕ → Option R
  via p q a b zero = cond (e.bottom a b) (Some e.rules.start) None
  via p q a b (suc i) = rating_of (least p q a b (suc i))

  abbrev pub best : ℕ → ℕ → ℕ → Option R
  best zero zero = via nothing nothing zero zero
  best zero (suc b) = via nothing (best zero b) zero (suc b)
  best (suc a) zero = via (best a zero) nothing (suc a) zero
  best (suc a) (suc b) = via (best a (suc b)) (best (suc a) b) (suc a) (suc b)

  -- the ratings with one device of kind 1 less, and of kind 2
  abbrev pub less_one : ℕ → ℕ → ℕ → Option R
  less_one zero b = nothing
  less_one (suc a) b = best a b

  abbrev pub less_two : ℕ → ℕ → ℕ → Option R
  less_two a zero = nothing
  less_two a (suc b) = best a b

  abbrev pub pick : ℕ → ℕ → ℕ → Option (Candidate R)
  pick a b i = least (less_one a b) (less_two a b) a b i
