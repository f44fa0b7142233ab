-- The worked examples as one list, and what holds of each. The first kind is an accelerator, the second a processor.
--   Margin       a pick time, and how far it lies above the pace
--   Case         a sheet, an accelerator's limit, a scale and tables, and what comes of them
--   kinds_of c   what the two kinds answer
--   standing c   the split that stands once it is found
--   Right c      all that the example says
--   on_first m   the operators of m as a stage on an accelerator
--   on_second m  the same on a processor
--   cases        the examples
use Rattle.std.specs.Prelude.{◌≡◌, ℕ, ℤ, pos, neg_ℤ, List, [], ◌∷◌, map, length, take, Option, None, Some, IfSome, Ok}
use Rattle.std.specs.Option.{option_map}
use Rattle.sheet.specs.Nets.{Net, empty}
use Rattle.device.specs.Loads.{accelerated, processed}
use Rattle.scale.specs.Rules.{Rules}
use Rattle.scale.specs.Scales.{peak, line}
use Rattle.split.specs.declared.stages.Stage.{Stage}
use Rattle.split.specs.Splits.{Kinds, kinds, Lawful, Least}
use Rattle.ideals.specs.Ideals.{ideals, room, over}
use Rattle.recurrence.specs.Planned.{best_of, split_of}
use Rattle.best_split.specs.Finds.{find_refusal}
use Rattle.pages.specs.Paces.{pace_of}
use Rattle.planner.specs.States.{Standing}
use Rattle.planner.specs.Answers.{margin_answer}
use Rattle.cases.specs.Sheets.{single, square}

pub record Margin : Type 0 where
  pub pick : ℕ
  pub left : ℤ

pub record Case : Type 0 where
  pub net : Net
  pub limit : ℕ
  pub scale : Rules ℕ
  -- the table of ideals before, and how many places the tables of ratings and choices have
  pub table : List ℕ
  pub ratings : ℕ
  pub choices : ℕ
  -- the number of the refusal, nothing where a split is found
  pub refusal : List ℕ
  -- the table of ideals after
  pub listed : List ℕ
  pub ideals : List ℕ
  -- of a least split, whether or not the tables suffice
  pub rating : Option ℕ
  pub stages : List Stage
  pub pace : ℕ
  pub margins : List Margin

abbrev pub kinds_of : Case → Kinds
kinds_of c = kinds (accelerated c.limit) processed

abbrev pub standing : Case → Option (Standing ℕ)
standing c = option_map (λ r. record { rating = r; stages = c.stages }) c.rating

pub record Right (c : Case) : Type 0 where
  pub refuses : find_refusal c.net (kinds_of c) c.scale (length c.table) c.ratings c.choices ≡ c.refusal
  pub lists : over (take (room (length c.table)) (ideals c.net)) c.table ≡ c.listed
  pub counts : ideals c.net ≡ c.ideals
  pub rates : best_of c.net (kinds_of c) c.scale ≡ c.rating
  pub splits : split_of c.net (kinds_of c) c.scale ≡ c.stages
  pub paces : pace_of c.net (kinds_of c) c.stages ≡ c.pace
  pub margins : map (λ m. margin_answer c.net (kinds_of c) (standing c) m.pick) c.margins ≡ map (λ m. Ok m.left) c.margins
  -- no lawful split rates lower, and where there is no rating, there is no lawful split
  pub least : IfSome c.rating (Least c.net (kinds_of c) c.scale c.stages)
  pub none : c.rating ≡ None → (ss : List Stage) → Lawful c.net (kinds_of c) ss → ⊥

abbrev pub on_first : ℕ → Stage
on_first m = record { mask = m; kind = 1 }

abbrev pub on_second : ℕ → Stage
on_second m = record { mask = m; kind = 2 }

-- ---- the smallest sheets

-- without operators there is one ideal, and no stage is needed
abbrev pub no_operator : Case
no_operator = record {
  net = empty;
  limit = 4;
  scale = peak;
  table = 99 ∷ 99 ∷ [];
  ratings = 1;
  choices = 1;
  refusal = [];
  listed = 0 ∷ 99 ∷ [];
  ideals = 0 ∷ [];
  rating = Some 0;
  stages = [];
  pace = 0;
  margins = record { pick = 5; left = pos 5 } ∷ [];
}

-- one operator, and no device for it
abbrev pub no_device : Case
no_device = record {
  net = single 0 0;
  limit = 4;
  scale = peak;
  table = 99 ∷ 99 ∷ [];
  ratings = 2;
  choices = 2;
  refusal = 9 ∷ [];
  listed = 0 ∷ 1 ∷ [];
  ideals = 0 ∷ 1 ∷ [];
  rating = None;
  stages = [];
  pace = 0;
  margins = [];
}

-- the operator of size 4 on an accelerator that takes 4
abbrev pub room_enough : Case
room_enough = record {
  net = single 1 0;
  limit = 4;
  scale = peak;
  table = 99 ∷ 99 ∷ [];
  ratings = 4;
  choices = 4;
  refusal = [];
  listed = 0 ∷ 1 ∷ [];
  ideals = 0 ∷ 1 ∷ [];
  rating = Some 3;
  stages = on_first 1 ∷ [];
  pace = 3;
  margins = record { pick = 3; left = pos 0 } ∷ [];
}

-- and on one that takes 3
abbrev pub too_little_room : Case
too_little_room = record {
  net = single 1 0;
  limit = 3;
  scale = peak;
  table = 99 ∷ 99 ∷ [];
  ratings = 4;
  choices = 4;
  refusal = 9 ∷ [];
  listed = 0 ∷ 1 ∷ [];
  ideals = 0 ∷ 1 ∷ [];
  rating = None;
  stages = [];
  pace = 0;
  margins = [];
}

-- ---- the diamond

abbrev pub diamond_ideals : List ℕ
diamond_ideals = 0 ∷ 1 ∷ 3 ∷ 5 ∷ 7 ∷ 15 ∷ []

-- two accelerators take half of it each; 18 cells are just enough
abbrev pub two_accelerators : Case
two_accelerators = record {
  net = square 2 0;
  limit = 4;
  scale = peak;
  table = 99 ∷ 99 ∷ 99 ∷ 99 ∷ 99 ∷ 99 ∷ 99 ∷ 99 ∷ [];
  ratings = 18;
  choices = 18;
  refusal = [];
  listed = 0 ∷ 1 ∷ 3 ∷ 5 ∷ 7 ∷ 15 ∷ 99 ∷ 99 ∷ [];
  ideals = diamond_ideals;
  rating = Some 8;
  stages = on_first 3 ∷ on_first 12 ∷ [];
  pace = 8;
  margins = record { pick = 10; left = pos 2 } ∷ record { pick = 0; left = neg_ℤ (pos 8) } ∷ [];
}

-- an accelerator and a processor; the first stage, 0 and 2, is no front of the numbering
abbrev pub one_of_each : Case
one_of_each = record {
  net = square 1 1;
  limit = 3;
  scale = peak;
  table = 99 ∷ 99 ∷ 99 ∷ 99 ∷ 99 ∷ 99 ∷ 99 ∷ 99 ∷ [];
  ratings = 24;
  choices = 24;
  refusal = [];
  listed = 0 ∷ 1 ∷ 3 ∷ 5 ∷ 7 ∷ 15 ∷ 99 ∷ 99 ∷ [];
  ideals = diamond_ideals;
  rating = Some 13;
  stages = on_first 5 ∷ on_second 10 ∷ [];
  pace = 13;
  margins = record { pick = 13; left = pos 0 } ∷ [];
}

-- by the sum of the ticks one stage is best, though two accelerators are there
abbrev pub least_sum : Case
least_sum = record {
  net = square 2 0;
  limit = 6;
  scale = line;
  table = 99 ∷ 99 ∷ 99 ∷ 99 ∷ 99 ∷ 99 ∷ 99 ∷ 99 ∷ [];
  ratings = 18;
  choices = 18;
  refusal = [];
  listed = 0 ∷ 1 ∷ 3 ∷ 5 ∷ 7 ∷ 15 ∷ 99 ∷ 99 ∷ [];
  ideals = diamond_ideals;
  rating = Some 11;
  stages = on_first 15 ∷ [];
  pace = 11;
  margins = record { pick = 10; left = neg_ℤ (pos 1) } ∷ [];
}

-- one accelerator that takes half of it
abbrev pub too_much_for_one : Case
too_much_for_one = record {
  net = square 1 0;
  limit = 3;
  scale = peak;
  table = 99 ∷ 99 ∷ 99 ∷ 99 ∷ 99 ∷ 99 ∷ 99 ∷ 99 ∷ [];
  ratings = 12;
  choices = 12;
  refusal = 9 ∷ [];
  listed = 0 ∷ 1 ∷ 3 ∷ 5 ∷ 7 ∷ 15 ∷ 99 ∷ 99 ∷ [];
  ideals = diamond_ideals;
  rating = None;
  stages = [];
  pace = 0;
  margins = [];
}

-- a table of five ideals takes the first five
abbrev pub short_table : Case
short_table = record {
  net = square 2 0;
  limit = 4;
  scale = peak;
  table = 99 ∷ 99 ∷ 99 ∷ 99 ∷ 99 ∷ [];
  ratings = 18;
  choices = 18;
  refusal = 7 ∷ [];
  listed = 0 ∷ 1 ∷ 3 ∷ 5 ∷ 7 ∷ [];
  ideals = diamond_ideals;
  rating = Some 8;
  stages = on_first 3 ∷ on_first 12 ∷ [];
  pace = 8;
  margins = [];
}

-- 17 ratings
abbrev pub short_ratings : Case
short_ratings = record {
  net = square 2 0;
  limit = 4;
  scale = peak;
  table = 99 ∷ 99 ∷ 99 ∷ 99 ∷ 99 ∷ 99 ∷ 99 ∷ 99 ∷ [];
  ratings = 17;
  choices = 18;
  refusal = 8 ∷ [];
  listed = 0 ∷ 1 ∷ 3 ∷ 5 ∷ 7 ∷ 15 ∷ 99 ∷ 99 ∷ [];
  ideals = diamond_ideals;
  rating = Some 8;
  stages = on_first 3 ∷ on_first 12 ∷ [];
  pace = 8;
  margins = [];
}

-- 17 choices
abbrev pub short_choices : Case
short_choices = record {
  net = square 2 0;
  limit = 4;
  scale = peak;
  table = 99 ∷ 99 ∷ 99 ∷ 99 ∷ 99 ∷ 99 ∷ 99 ∷ 99 ∷ [];
  ratings = 18;
  choices = 17;
  refusal = 8 ∷ [];
  listed = 0 ∷ 1 ∷ 3 ∷ 5 ∷ 7 ∷ 15 ∷ 99 ∷ 99 ∷ [];
  ideals = diamond_ideals;
  rating = Some 8;
  stages = on_first 3 ∷ on_first 12 ∷ [];
  pace = 8;
  margins = [];
}

-- ---- all of them

abbrev pub cases : List Case
cases = no_operator ∷ no_device ∷ room_enough ∷ too_little_room ∷ two_accelerators ∷ one_of_each ∷ least_sum ∷ too_much_for_one ∷ short_table ∷ short_ratings ∷ short_choices ∷ []
