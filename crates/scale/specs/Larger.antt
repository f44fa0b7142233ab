-- Joining by taking the larger one keeps the order, whatever the order is.
use Rattle.std.specs.Prelude.{◌≡◌, Bool, true, false, cond, refl}
use Rattle.std.proofs.Common.{arith}
use Rattle.std.proofs.lemmas.Bool.Decides.{nat_tests}
use Rattle.scale.specs.declared.pairs.PairRating.{PairRating}
use Rattle.scale.specs.Scales.{pair_at_most}

module _ {X : Type 0} (le : X → X → Bool) (total : (x y : X) → le x y ≡ false → le y x ≡ true) (transitive : (x y z : X) → le x y ≡ true → le y z ≡ true → le x z ≡ true) where
  itself : (x : X) (b : Bool) → le x x ≡ b → le x x ≡ true
  itself x true e = e
  itself x false e = total x x e

  pub larger_monotone : (x y p : X) → le x y ≡ true → le (cond (le x p) p x) (cond (le y p) p y) ≡ true
  larger_monotone x y p h = go (le x p) refl (le y p) refl
    where
      go : (a : Bool) → le x p ≡ a → (b : Bool) → le y p ≡ b → le (cond a p x) (cond b p y) ≡ true
      go true e true f = itself p (le p p) refl
      go true e false f = total y p f
      go false e true f = transitive x y p h f
      go false e false f = h

pub pair_total : (p q : PairRating) → pair_at_most p q ≡ false → pair_at_most q p ≡ true
pair_total p q h = grind (arith, nat_tests)

pub pair_transitive : (p q r : PairRating) → pair_at_most p q ≡ true → pair_at_most q r ≡ true → pair_at_most p r ≡ true
pair_transitive p q r h k = grind (arith, nat_tests)
