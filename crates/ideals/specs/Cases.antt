-- The list for networks that a reader can list by hand.
use Rattle.std.specs.Prelude.{◌≡◌, [], ◌∷◌}
use Rattle.sheet.specs.Rules.{blank}
use Rattle.sheet.specs.Nets.{Net, empty}
use Rattle.ideals.specs.Ideals.{ideals}

-- edges 0 to 1, 0 to 2, 1 to 3 and 2 to 3
abbrev pub diamond : Net
diamond = record { rows = blank ∷ blank ∷ blank ∷ blank ∷ []; successors = 6 ∷ 8 ∷ 8 ∷ 0 ∷ []; k = 0; l = 0 }

-- three operators without edges
abbrev pub loose : Net
loose = record { rows = blank ∷ blank ∷ blank ∷ []; successors = 0 ∷ 0 ∷ 0 ∷ []; k = 0; l = 0 }

pub record Cases : Type 0 where
  pub none : ideals empty ≡ 0 ∷ []
  pub diamond : ideals diamond ≡ 0 ∷ 1 ∷ 3 ∷ 5 ∷ 7 ∷ 15 ∷ []
  pub loose : ideals loose ≡ 0 ∷ 1 ∷ 2 ∷ 3 ∷ 4 ∷ 5 ∷ 6 ∷ 7 ∷ []
