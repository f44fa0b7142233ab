-- What the judge of a list of stages promises.
use Rattle.std.specs.Prelude.{◌≡◌, true, List, is_ok, IfOk, Some, Result}
use Rattle.sheet.specs.Nets.{Net}
use Rattle.scale.specs.Rules.{Rules}
use Rattle.split.specs.declared.stages.Stage.{Stage}
use Rattle.split.specs.declared.stages.Breach.{Breach}
use Rattle.split.specs.Splits.{Kinds, Lawful, rate}
use Rattle.split.specs.Breaches.{breached, breach}

pub record Judged {R : Type 0} (n : Net) (e : Kinds) (s : Rules R) (ss : List Stage) (r : Result R Breach) : Type 0 where
  -- the first rule that is broken is told
  pub refuses : breached r ≡ breach n e ss
  -- what is answered is the rating of a lawful split
  pub lawful : IfOk r (λ q. Lawful n e ss × (rate n e s ss ≡ Some q))
  -- every lawful split is answered
  pub accepts : Lawful n e ss → is_ok r ≡ true
