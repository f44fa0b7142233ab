-- A lawful split has a stage for each operator, and the first that holds it is found.
use Rattle.std.proofs.Common.{◌≡◌, ℕ, zero, suc, ◌<◌, ◌≤◌, Bool, true, false, cond, not, List, [], ◌∷◌, length, get_or, Some, None, refl, ap, arith, lt-ltb}
use Rattle.std.specs.List.{position, position_or_len}
use Rattle.std.proofs.lemmas.List.Sums.{prefix_len_stops}
use Rattle.sets.specs.Sets.{has}
use Rattle.sheet.specs.Nets.{Net}
use Rattle.split.specs.declared.stages.Stage.{Stage}
use Rattle.split.specs.Splits.{Kinds, Lawful, At, stage_at}
use Rattle.planner.specs.States.{Covers, place_of}

module _ {X : Type 0} (p : X → Bool) (d : X) where
  one_more : (x : X) (xs : List X) (i : ℕ) (b : Bool) → p x ≡ b → position_or_len p xs ≤ i → position_or_len p (x ∷ xs) ≤ suc i
  one_more x xs i true e h = rw e (omega arith)
  one_more x xs i false e h = rw e (omega (arith, h))

  pub first_at : (xs : List X) (i : ℕ) → i < length xs → p (get_or xs i d) ≡ true → position_or_len p xs ≤ i
  first_at [] i h t = omega arith
  first_at (x ∷ xs) zero h t = rw t (omega arith)
  first_at (x ∷ xs) (suc i) h t = one_more x xs i (p x) refl (first_at xs i (omega (arith, h)) t)

pub covered : (n : Net) (e : Kinds) (ss : List Stage) → Lawful n e ss → Covers n ss
covered n e ss lawful v near =
    let found = lawful.everywhere v near in
    omega (arith, found.1.0, first_at (λ st. has st.mask v) (record { mask = 0; kind = 0 }) ss found.0 found.1.0 found.1.1)

pub position_there : {X : Type 0} (p : X → Bool) (xs : List X) → position_or_len p xs < length xs → position p xs ≡ Some (position_or_len p xs)
position_there p xs h = ap (λ b. cond b (Some (position_or_len p xs)) None) (lt-ltb (position_or_len p xs) (length xs) h)

pub stage_there : (ss : List Stage) (v : ℕ) → place_of ss v < length ss → At ss (place_of ss v) v
stage_there ss v h = (h, not_false (has (stage_at ss (place_of ss v)).mask v) (prefix_len_stops (λ (st : Stage). not (has st.mask v)) ss (record { mask = 0; kind = 0 }) h))
  where
    not_false : (b : Bool) → not b ≡ false → b ≡ true
    not_false true q = refl
    not_false false q = absurd (cc)
