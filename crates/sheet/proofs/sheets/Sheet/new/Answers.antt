use Rattle.std.proofs.lemmas.Bool.{both_ways}
use Rattle.sets.specs.Sets.{has}
use Rattle.sets.proofs.Sets.{has_none}
use Rattle.sheet.proofs.sheets.Sheet.new.Goals as goal

pub invariant_of-result-2-clause-upward : goal.invariant_of-result-2-clause-upward
invariant_of-result-2-clause-upward c = λ u v h. absurd (both_ways (has 0 v) (has_none v) h)
