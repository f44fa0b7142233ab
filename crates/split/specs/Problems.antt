-- The network of a problem, and what its two device kinds answer.
use Rattle.std.specs.Prelude.{Option}
use Rattle.sheet.specs.Nets.{Net}
use Rattle.sheet.specs.Figures.{Sums}
use Rattle.sheet.specs.Views.{net}
use Rattle.device.specs.Loads.{PlainLoad}
use Rattle.split.specs.declared.problems.Problem.{Problem}
use Rattle.split.specs.Splits.{Kinds, kinds}

module _ {K L : Type 0} where
  abbrev pub net_of : Problem K L → Net
  net_of p = net p.sheet.now

  -- by what each of the two means
  abbrev pub kinds_of : (K → Sums → Option PlainLoad) → (L → Sums → Option PlainLoad) → Problem K L → Kinds
  kinds_of first second p = kinds (first p.first.now) (second p.second.now)
