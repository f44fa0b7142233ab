-- What the judge promises, from the first rule that is broken.
use Rattle.std.proofs.Common.{◌≡◌, List, [], Some, Ok, Err, sym, refl, ◌∙◌}
use Rattle.sheet.specs.Nets.{Net}
use Rattle.scale.specs.Rules.{Rules}
use Rattle.split.specs.declared.stages.Stage.{Stage}
use Rattle.split.specs.declared.stages.Breach.{Breach}
use Rattle.split.specs.Splits.{Kinds, rate}
use Rattle.split.specs.Breaches.{told_breach, breach}
use Rattle.split.specs.Judged.{Judged}
use Rattle.split.proofs.Checks.{told_something}
use Rattle.split.proofs.Verdicts.{no_breach_lawful, lawful_no_breach}

pub judged_breach : {R : Type 0} (n : Net) (e : Kinds) (s : Rules R) (ss : List Stage) (b : Breach) → told_breach b ≡ breach n e ss → Judged n e s ss (Err b)
judged_breach n e s ss b wrong = record { refuses = wrong; lawful = tt; accepts = λ l. absurd (told_something b (wrong ∙ lawful_no_breach n e ss l)) }

pub judged_made : {R : Type 0} (n : Net) (e : Kinds) (s : Rules R) (ss : List Stage) (q : R) → [] ≡ breach n e ss → rate n e s ss ≡ Some q → Judged n e s ss (Ok q)
judged_made n e s ss q right rated = record { refuses = right; lawful = (no_breach_lawful n e ss (sym right), rated); accepts = λ l. refl }
