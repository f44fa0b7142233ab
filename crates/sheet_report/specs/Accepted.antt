-- What accepting a file and the limit M of an accelerator promises.
use Rattle.std.specs.Prelude.{◌≡◌, ℕ, true, false, List, Result, MatchResult, nat_le}
use Rattle.refusals.specs.declared.Refusal.{Refusal}
use Rattle.refusals.specs.declared.Refusal.TheVariants.{AboveLimit}
use Rattle.refusals.specs.Told.{told, outcome}
use Rattle.sheet.specs.declared.sheets.Sheet.{Sheet}
use Rattle.sheet.specs.Nets.{Net}
use Rattle.sheet.specs.Views.{net}
use Rattle.sheet_layout.specs.Bodies.{file_refusal}
use Rattle.sheet_layout.specs.Layout.{LaidOut}
use Rattle.device.specs.declared.accelerators.Accelerator.{Accelerator}
use Rattle.device.specs.Limits.{most_limit}

pub record Accepted (M : ℕ) (f : List ℕ) (r : Result (Accelerator × Sheet) Refusal) : Type 0 where
  -- the limit is judged before the file
  pub limited : nat_le M most_limit ≡ false → outcome r ≡ told AboveLimit
  pub refuses : nat_le M most_limit ≡ true → outcome r ≡ file_refusal f
  -- a file that is laid out by the rules is accepted, as the sheet that it says
  pub accepts : nat_le M most_limit ≡ true → (n : Net) → LaidOut f n → MatchResult r (λ a. (a.0.limit ≡ M) × (net a.1 ≡ n)) (λ e. ⊥)
