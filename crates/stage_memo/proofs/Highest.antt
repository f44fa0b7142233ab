-- A set, its highest operator, and the set of its others.
use Rattle.std.proofs.Common.{◌≡◌, ℕ, suc, ◌-◌, ◌*◌, ◌%◌, ◌^◌, ◌<◌, ◌≤◌, ap, ◌∙◌, pow-suc, arith, pow_pos}
use lib.Count.{count_leading_zeros, leading_top}
use Rattle.std.proofs.lemmas.Nat.{one_shl}
use Rattle.sets.proofs.Sets.{in_below}
use Rattle.sets.proofs.Members.{or_above}
use Rattle.stage_memo.specs.Ends.{IsHighest}

-- `m - (1 << v)` at the highest operator v
module _ (m : ℕ) (some : 0 < m) (small : m < 2 ^ 64) where
  abbrev top : ℕ
  top = 63 - count_leading_zeros 64 m

  pub near : top < 64
  near = omega arith

  pub highest_is : ((1 * 2 ^ top) % 2 ^ 64 ≤ m) × IsHighest m top (m - (1 * 2 ^ top) % 2 ^ 64)
  highest_is =
      let at = leading_top 64 m some small in
      let same : at.0 ≡ top = omega (arith, at.1) in
      let bit : (1 * 2 ^ top) % 2 ^ 64 ≡ 2 ^ top = one_shl top 64 near in
      let le : (1 * 2 ^ top) % 2 ^ 64 ≤ m = omega (arith, bit, at.2, ap (λ (j : ℕ). 2 ^ j) same) in
      let lt : m - (1 * 2 ^ top) % 2 ^ 64 < 2 ^ top = omega (arith, bit, at.3, ap (λ (j : ℕ). 2 ^ suc j) same, pow-suc 2 top) in (
        le,
        record {
          few = near;
          above = λ u h. in_below top (m - (1 * 2 ^ top) % 2 ^ 64) u lt h;
          whole = or_above (m - (1 * 2 ^ top) % 2 ^ 64) top lt ∙ omega (arith, bit);
          fewer = omega (arith, bit, some, pow_pos top);
        },
      )
