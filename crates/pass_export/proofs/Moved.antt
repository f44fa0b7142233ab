-- What finding a least split promises, of the same network and limit by other names.
use Rattle.std.proofs.Common.{◌≡◌, ℕ, List, subst, Result}
use Rattle.refusals.specs.declared.Refusal.{Refusal}
use Rattle.sheet.specs.Nets.{Net}
use Rattle.device.specs.Loads.{accelerated, processed}
use Rattle.scale.specs.Scales.{peak}
use Rattle.split.specs.Splits.{kinds}
use Rattle.cells.specs.declared.choices.Choice.{Choice}
use Rattle.best_split.specs.declared.finds.Found.{Found}
use Rattle.best_split.specs.Finds.{Finds}

module _ (ms ms' : List ℕ) (rs : List ℕ) (cs : List Choice) (rs' : List ℕ) (cs' : List Choice) (r : Result (Found ℕ) Refusal) where
  At : Net → ℕ → Type 0
  At n M = Finds n (kinds (accelerated M) processed) peak ms ms' rs cs rs' cs' r

  pub moved : (n n' : Net) (M M' : ℕ) → n ≡ n' → M ≡ M' → Finds n (kinds (accelerated M) processed) peak ms ms' rs cs rs' cs' r → Finds n' (kinds (accelerated M') processed) peak ms ms' rs cs rs' cs' r
  unfolding At
  moved n n' M M' same limit found = subst (λ m. At m M') same (subst (At n) limit found)
