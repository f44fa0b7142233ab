-- What a search over a file promises, M being the accelerator's limit and f the file.
--   Kept         the three tables are as they were
--   Searched r   a limit above what is allowed is refused, then a file with something wrong, and the tables are kept;
--                otherwise r is what finding a least split of the file's sheet promises, with an accelerator and a processor on peak
--   Answers a    a tells such a result
use Rattle.std.specs.Prelude.{◌≡◌, ◌≢◌, ℕ, true, false, List, [], Result, nat_le}
use Rattle.refusals.specs.declared.Refusal.{Refusal}
use Rattle.refusals.specs.declared.Refusal.TheVariants.{AboveLimit}
use Rattle.refusals.specs.Told.{told, outcome}
use Rattle.sheet.specs.Nets.{Net}
use Rattle.sheet_layout.specs.Bodies.{file_refusal}
use Rattle.sheet_layout.specs.Layout.{LaidOut}
use Rattle.device.specs.Limits.{most_limit}
use Rattle.device.specs.Loads.{accelerated, processed}
use Rattle.scale.specs.Scales.{peak}
use Rattle.split.specs.Splits.{kinds}
use Rattle.cells.specs.declared.choices.Choice.{Choice}
use Rattle.best_split.specs.declared.finds.Found.{Found}
use Rattle.best_split.specs.Finds.{Finds}
use Rattle.pass_export.specs.declared.answers.Answer.{Answer}
use Rattle.pass_export.specs.Told.{Tells}

-- ms, rs and cs are the tables of ideals, ratings and choices before, ms', rs' and cs' after
pub record Kept (ms ms' : List ℕ) (rs : List ℕ) (cs : List Choice) (rs' : List ℕ) (cs' : List Choice) : Type 0 where
  pub ideals : ms' ≡ ms
  pub ratings : rs' ≡ rs
  pub choices : cs' ≡ cs

module _ (M : ℕ) (f : List ℕ) (ms ms' : List ℕ) (rs : List ℕ) (cs : List Choice) (rs' : List ℕ) (cs' : List Choice) where
  pub record Searched (r : Result (Found ℕ) Refusal) : Type 0 where
    pub limited : nat_le M most_limit ≡ false → (outcome r ≡ told AboveLimit) × Kept ms ms' rs cs rs' cs'
    pub refuses : nat_le M most_limit ≡ true → file_refusal f ≢ [] → (outcome r ≡ file_refusal f) × Kept ms ms' rs cs rs' cs'
    pub finds : nat_le M most_limit ≡ true → (n : Net) → LaidOut f n → Finds n (kinds (accelerated M) processed) peak ms ms' rs cs rs' cs' r

  abbrev pub Answers : Answer → Type 0
  Answers a = (r : Result (Found ℕ) Refusal) × Searched r × Tells r a
