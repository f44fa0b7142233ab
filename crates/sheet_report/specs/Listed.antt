-- The text of a set of operators, as bytes.
--   spaced v    a space and a number
--   listed vs   a space and the number for each operator of a set, or that there is none
use Rattle.std.specs.Prelude.{ℕ, List, [], ◌∷◌, ◌++◌, codes, decimal}
use Rattle.std.specs.List.{flat_map}

abbrev pub spaced : ℕ → List ℕ
spaced v = codes " " ++ decimal v

abbrev pub listed : List ℕ → List ℕ
listed [] = codes " none"
listed (v ∷ vs) = flat_map spaced (v ∷ vs)
