-- The rating of a cell, by what both tables hold there.
use Rattle.std.proofs.Common.{◌≡◌, ℕ, zero, suc, true, false, cond, not, eqb, Some, None, Option, sym, refl, ap, ◌∙◌}
use Rattle.std.specs.Bool.{then_some}
use Rattle.recurrence.specs.Table.{KindNumber, one, two, number, Candidate, Setting, best, pick, rating_of}
use Rattle.recurrence.proofs.Plans.{best_via}
use Rattle.cells.specs.declared.choices.Choice.{Choice}
use Rattle.table_pass.specs.Filled.{chosen, or_start}

is_kind : (w : KindNumber) → eqb (number w) 0 ≡ false
is_kind one = refl
is_kind two = refl

module _ {R : Type 0} (e : Setting R) (bottom : (a b : ℕ) → e.bottom a b ≡ true) (a b : ℕ) where
  rating_some : (o : Option (Candidate R)) → then_some (not (eqb (chosen o).kind 0)) (or_start e.rules (rating_of o)) ≡ rating_of o
  rating_some None = refl
  rating_some (Some c) = ap (λ b. then_some (not b) c.rating) (is_kind c.kind)

  best_bottom : (i : ℕ) → i ≡ 0 → best e a b i ≡ Some e.rules.start
  best_bottom i z = rw z (best_via e a b 0 ∙ ap (λ t. cond t (Some e.rules.start) None) (bottom a b))

  pub best_first : (i : ℕ) (r : R) → r ≡ or_start e.rules (best e a b i) → i ≡ 0 → Some r ≡ best e a b i
  best_first i r q z = ap Some (q ∙ ap (or_start e.rules) (best_bottom i z)) ∙ sym (best_bottom i z)

  pub best_some : (i : ℕ) (r : R) (ch : Choice) → r ≡ or_start e.rules (best e a b i) → ch ≡ chosen (pick e a b i) → (i ≡ 0 → ⊥) → then_some (not (eqb ch.kind 0)) r ≡ best e a b i
  best_some zero r ch q p h = absurd (h refl)
  best_some (suc i) r ch q p h =
      let v = best_via e a b (suc i) in
      ap (λ (c : Choice). then_some (not (eqb c.kind 0)) r) p ∙ ap (then_some (not (eqb (chosen (pick e a b (suc i))).kind 0))) (q ∙ ap (or_start e.rules) v) ∙ rating_some (pick e a b (suc i)) ∙ sym v
