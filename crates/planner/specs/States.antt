-- A planner, as plain values.
--   place_of ss v  the first stage that holds operator v, or the number of stages where none does
--   Covers n ss    each operator is in a stage
--   Standing       a split that stands: its rating and its stages
--   State          the sheet, the two kinds, the scale, and the split that stands, if one does
--   fresh          no operator, no edge, no device, no split
--   edited n p     the sheet n, and no split
--   settled t p    the split t
use Rattle.std.specs.Prelude.{ℕ, ◌<◌, List, length, Option, None, Some}
use Rattle.std.specs.List.{position_or_len}
use Rattle.sets.specs.Sets.{has}
use Rattle.sheet.specs.Nets.{Net, size, empty}
use Rattle.split.specs.declared.stages.Stage.{Stage}

abbrev pub place_of : List Stage → ℕ → ℕ
place_of ss v = position_or_len (λ st. has st.mask v) ss

abbrev pub Covers : Net → List Stage → Type 0
Covers n ss = (v : ℕ) → v < size n → place_of ss v < length ss

pub record Standing (R : Type 0) : Type 0 where
  pub rating : R
  pub stages : List Stage

pub record State (K L S R : Type 0) : Type 0 where
  pub net : Net
  pub first : K
  pub second : L
  pub scale : S
  pub standing : Option (Standing R)

module _ {K L S R : Type 0} where
  abbrev pub fresh : K → L → S → State K L S R
  fresh first second scale = record { net = empty; first = first; second = second; scale = scale; standing = None }

  abbrev pub edited : Net → State K L S R → State K L S R
  edited n p = record { net = n; first = p.first; second = p.second; scale = p.scale; standing = None }

  abbrev pub settled : Standing R → State K L S R → State K L S R
  settled t p = record { net = p.net; first = p.first; second = p.second; scale = p.scale; standing = Some t }
