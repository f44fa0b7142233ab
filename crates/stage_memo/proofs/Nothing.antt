-- What is right of the set without operators.
use Rattle.std.proofs.Common.{◌≡◌, ℕ, Bool, false, not, ◌&&◌, eqb, ltb, sym, ap, ◌∙◌}
use lib.Bits.{and_comm}
use Rattle.sets.specs.Sets.{has, gathered}
use Rattle.sets.proofs.Sets.{has_none, same_sets, and_false}
use Rattle.sets.proofs.Members.{has_gathered}
use Rattle.sheet.specs.declared.operators.Figure.TheVariants.{Acc, Cpu, Size, Link}
use Rattle.sheet.specs.Nets.{Net, size, after}
use Rattle.sheet.specs.Figures.{figures_of, feeds, leaves}
use Rattle.sheet.proofs.Charges.{same_sums}
use Rattle.stage_memo.proofs.Parts.{charged_none}

module _ (n : Net) where
  feeds_none : (u : ℕ) → feeds n 0 u ≡ false
  feeds_none u = ap (λ (x : ℕ). not (has 0 u) && not (eqb x 0)) (and_comm (after n u) 0) ∙ and_false (not (has 0 u))

  leaves_none : (u : ℕ) → leaves n 0 u ≡ false
  leaves_none u = ap (λ (b : Bool). b && not (eqb (lib.Bits.bit_and (after n u) 0) (after n u))) (has_none u)

  pub nothing_feeds : 0 ≡ gathered (feeds n 0) (size n)
  nothing_feeds = same_sets 0 (gathered (feeds n 0) (size n)) (λ u. has_none u ∙ sym (has_gathered (feeds n 0) (size n) u ∙ ap (λ (b : Bool). ltb u (size n) && b) (feeds_none u) ∙ and_false (ltb u (size n))))

  pub nothing_sums : record { mask = 0; acc = 0; cpu = 0; size = 0; incoming = 0; outgoing = 0 } ≡ figures_of n 0
  nothing_sums = same_sums 0 (sym (charged_none n Acc (has 0) has_none)) (sym (charged_none n Cpu (has 0) has_none)) (sym (charged_none n Size (has 0) has_none)) (sym (charged_none n Link (feeds n 0) feeds_none)) (sym (charged_none n Link (leaves n 0) leaves_none))
