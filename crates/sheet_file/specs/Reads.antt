-- What loading a file promises.
use Rattle.std.specs.Prelude.{◌≡◌, ℕ, List, IfOk, Result, MatchResult}
use Rattle.refusals.specs.declared.Refusal.{Refusal}
use Rattle.refusals.specs.Told.{outcome}
use Rattle.sheet.specs.declared.sheets.Sheet.{Sheet}
use Rattle.sheet.specs.Nets.{Net}
use Rattle.sheet.specs.Views.{net}
use Rattle.sheet_layout.specs.Bodies.{file_refusal}
use Rattle.sheet_layout.specs.Layout.{LaidOut}

pub record Reads (f : List ℕ) (r : Result Sheet Refusal) : Type 0 where
  -- the first wrong thing is told
  pub refuses : outcome r ≡ file_refusal f
  -- a sheet that is read is what the file says
  pub says : IfOk r (λ s. LaidOut f (net s))
  -- a file that is laid out by the rules is read, as the sheet that it says
  pub accepts : (n : Net) → LaidOut f n → MatchResult r (λ s. net s ≡ n) (λ e. ⊥)
