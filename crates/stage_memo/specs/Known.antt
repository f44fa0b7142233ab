-- What a memo knows of a set of operators.
--   Right n k   k is right for its own set: its figures are those of the set as a stage, and the operators that feed the set are those that the network says
use Rattle.std.specs.Prelude.{◌≡◌}
use Rattle.sets.specs.Sets.{gathered}
use Rattle.sheet.specs.Nets.{Net, size}
use Rattle.sheet.specs.Figures.{feeds, figures_of}
use Rattle.sheet.specs.Views.{sums}
use Rattle.stage_memo.specs.declared.known.Known.{Known}

pub record Right (n : Net) (k : Known) : Type 0 where
  pub figures : sums k.figures ≡ figures_of n k.figures.mask
  pub feeding : k.feeding ≡ gathered (feeds n k.figures.mask) (size n)
