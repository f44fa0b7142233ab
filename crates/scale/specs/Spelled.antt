-- The text of a pair as a rating.
use Rattle.std.specs.Prelude.{ℕ, List, ◌++◌, codes, decimal}
use Rattle.scale.specs.declared.pairs.PairRating.{PairRating}

abbrev pub spelled_pair : PairRating → List ℕ
spelled_pair r = decimal r.ticks ++ (codes " " ++ decimal r.link)
