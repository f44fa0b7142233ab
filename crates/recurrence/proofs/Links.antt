-- A cell's rating and its stages, each as one step from the cells with a device less.
--   fewer_one a b, fewer_two a b   the stages with one device of kind 1 less, and of kind 2
use Rattle.std.proofs.Common.{◌≡◌, ℕ, zero, suc, List, refl}
use Rattle.split.specs.declared.stages.Stage.{Stage}
use Rattle.recurrence.specs.Table.{Setting, best, via, less_one, less_two, pick}
use Rattle.recurrence.specs.Stages.{no_stages, traced, stages}

module _ {R : Type 0} (e : Setting R) where
  pub best_via : (a b i : ℕ) → best e a b i ≡ via e (less_one e a b) (less_two e a b) a b i
  best_via zero zero i = refl
  best_via zero (suc b) i = refl
  best_via (suc a) zero i = refl
  best_via (suc a) (suc b) i = refl

  abbrev pub fewer_one : ℕ → ℕ → ℕ → List Stage
  fewer_one zero b = no_stages
  fewer_one (suc a) b = stages e a b

  abbrev pub fewer_two : ℕ → ℕ → ℕ → List Stage
  fewer_two a zero = no_stages
  fewer_two a (suc b) = stages e a b

  pub stages_via : (a b i : ℕ) → stages e a b i ≡ traced e (fewer_one a b) (fewer_two a b) i (pick e a b i)
  stages_via zero zero i = refl
  stages_via zero (suc b) i = refl
  stages_via (suc a) zero i = refl
  stages_via (suc a) (suc b) i = refl
