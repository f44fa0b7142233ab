-- The figures of every stage of a sheet's network are small, so that kinds which answer small figures fairly answer fairly there.
use Rattle.std.proofs.Common.{◌≡◌, ℕ, zero, suc, ◌≤◌, Bool, List, Some, sum_by, Option, subst}
use Rattle.sets.specs.Sets.{has, gathered}
use Rattle.sets.proofs.Members.{members_gathered}
use Rattle.sheet.specs.declared.operators.Figure.{Figure}
use Rattle.sheet.specs.declared.operators.Figure.TheVariants.{Acc, Cpu, Size, Link}
use Rattle.sheet.specs.Rules.{most_sum}
use Rattle.sheet.specs.Nets.{Net, size, row}
use Rattle.sheet.specs.Kept.{Kept}
use Rattle.sheet.specs.Figures.{Sums, figure_of, feeds, leaves, charged, figures_of}
use Rattle.sheet.proofs.Charges.{sum_le}
use Rattle.device.specs.Loads.{PlainLoad, Fair, Small}
use Rattle.split.specs.Splits.{kinds}
use Rattle.recurrence.specs.Laws.{Answers}
use Rattle.recurrence.proofs.Options.{none_some}

module _ (n : Net) (kept : Kept n) where
  charged_le : (w : Figure) (test : ℕ → Bool) → charged n w test ≤ most_sum
  charged_le w test =
      subst (λ (vs : List ℕ). sum_by (λ v. figure_of w (row n v)) vs ≤ most_sum) (members_gathered test (size n) kept.few)
      (sum_le n w (gathered test (size n)) kept.modest)

  pub small_figures : (m : ℕ) → Small (figures_of n m)
  small_figures m =
      (charged_le Acc (has m), charged_le Cpu (has m), charged_le Size (has m), charged_le Link (feeds n m), charged_le Link (leaves n m))

  pub kinds_answer : (f g : Sums → Option PlainLoad) → ((z : Sums) (x : PlainLoad) → Small z → f z ≡ Some x → Fair x) → ((z : Sums) (x : PlainLoad) → Small z → g z ≡ Some x → Fair x) → Answers n (kinds f g)
  kinds_answer f g first second zero m x h = absurd (none_some h)
  kinds_answer f g first second (suc zero) m x h = first (figures_of n m) x (small_figures m) h
  kinds_answer f g first second (suc (suc zero)) m x h = second (figures_of n m) x (small_figures m) h
  kinds_answer f g first second (suc (suc (suc k))) m x h = absurd (none_some h)
