-- The stages of a split, first to last.
use Rattle.std.specs.Prelude.{List, drop}
use Rattle.split.specs.declared.stages.Stage.{Stage}
use Rattle.best_split.specs.declared.splits.Split.{Split}

abbrev pub stages_of : Split → List Stage
stages_of s = drop s.first s.stages
