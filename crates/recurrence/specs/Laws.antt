-- What a network's kinds and a scale have to keep for the recurrence to find a least split.
--   Ordered s     any two ratings compare, and the order is transitive
--   Laws s        ordered, and joining the same fair load keeps the order
--   Answers n e   each load that a kind answers for a stage of the network is fair
use Rattle.std.specs.Prelude.{◌≡◌, ℕ, true, false, Some}
use Rattle.sheet.specs.Nets.{Net}
use Rattle.device.specs.Loads.{PlainLoad, Fair}
use Rattle.scale.specs.Rules.{Rules}
use Rattle.split.specs.Splits.{Kinds, asked}

pub record Ordered {R : Type 0} (s : Rules R) : Type 0 where
  pub total : (x y : R) → s.at_most x y ≡ false → s.at_most y x ≡ true
  pub transitive : (x y z : R) → s.at_most x y ≡ true → s.at_most y z ≡ true → s.at_most x z ≡ true

pub record Laws {R : Type 0} (s : Rules R) : Type 0 where
  pub ordered : Ordered s
  pub monotone : (x y : R) (z : PlainLoad) → Fair z → s.at_most x y ≡ true → s.at_most (s.joined x z) (s.joined y z) ≡ true

abbrev pub Answers : Net → Kinds → Type 0
Answers n e = (k m : ℕ) (x : PlainLoad) → asked n e k m ≡ Some x → Fair x
