-- How a set is taken apart from its lowest operator up, and put together again from the highest of those down.
use Rattle.std.proofs.Common.{◌≡◌, ℕ, ◌^◌, ◌<◌, Bool, not, ◌&&◌, ◌||◌, eqb, sym, ap, ◌∙◌, arith}
use Rattle.std.proofs.lemmas.Bool.Decides.{nat_tests}
use Rattle.sets.specs.Sets.{has, In, including, without}
use Rattle.sets.proofs.Sets.{has_including, has_difference, has_none, same_sets}
use Rattle.stage_memo.specs.Ends.{IsLowest, IsHighest}
use Rattle.stage_memo.specs.Parts.{Tail}

-- ---- from the lowest up

module _ (m s v rest : ℕ) (low : IsLowest s v rest) (tail : Tail m s) where
  split : (u : ℕ) → has s u ≡ (has rest u || eqb u v)
  split u = ap (λ (x : ℕ). has x u) (sym low.whole) ∙ has_including rest v u

  pub tail_fewer : Tail m rest
  tail_fewer = record {
    inside = λ u h. tail.inside u (grind (arith, split u, h));
    below = λ u w h out k. grind (arith, nat_tests, split u, split w, h, out, k, tail.below u w, low.below w);
  }

-- ---- from the highest down

-- m is what is left and s, and what is left is below s
pub record Parted (m left s : ℕ) : Type 0 where
  pub whole : (u : ℕ) → has m u ≡ (has left u || has s u)
  pub below : (u w : ℕ) → In u left → In w s → u < w

pub tail_parted : (m s left : ℕ) → m < 2 ^ 64 → s < 2 ^ 64 → left ≡ without m s → Tail m s → Parted m left s
tail_parted m s left small less is tail = record {
  whole = λ u. grind (arith, left_is u, tail.inside u);
  below = λ u w h k. grind (arith, left_is u, h, k, tail.below u w);
}
  where
    left_is : (u : ℕ) → has left u ≡ (has m u && not (has s u))
    left_is u = ap (λ (x : ℕ). has x u) is ∙ has_difference m s u small less

module _ (m left s v rest : ℕ) (high : IsHighest left v rest) (parts : Parted m left s) where
  left_is : (u : ℕ) → has left u ≡ (has rest u || eqb u v)
  left_is u = ap (λ (x : ℕ). has x u) (sym high.whole) ∙ has_including rest v u

  more_is : (u : ℕ) → has (including s v) u ≡ (has s u || eqb u v)
  more_is u = has_including s v u

  pub parted_below : (u : ℕ) → In u s → v < u
  parted_below u h = parts.below v u (left_is v ∙ grind (arith, nat_tests)) h

  pub parted_more : (more : ℕ) → more ≡ including s v → Parted m rest more
  parted_more more is = rw is record {
    whole = λ u. grind (arith, parts.whole u, left_is u, more_is u);
    below = λ u w h k. grind (arith, nat_tests, left_is u, more_is w, h, k, parts.below u w, high.above u);
  }

pub parted_all : (m left s : ℕ) → left ≡ 0 → Parted m left s → s ≡ m
parted_all m left s none parts = same_sets s m (λ u. sym (parts.whole u ∙ ap (λ (b : Bool). b || has s u) (ap (λ (x : ℕ). has x u) none ∙ has_none u)))
