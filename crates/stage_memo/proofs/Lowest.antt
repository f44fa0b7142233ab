-- A set, its lowest operator, and the set of its others.
use Rattle.std.proofs.Common.{◌≡◌, ℕ, ◌*◌, ◌/◌, ◌%◌, ◌^◌, ◌<◌, Bool, false, not, ◌&&◌, eqb, List, [], ◌∷◌, length, sym, ap, ◌∙◌, subst, inl, inr, arith, w64}
use lib.Count.{count_trailing_zeros}
use Rattle.std.proofs.lemmas.Nat.{one_shl}
use Rattle.std.proofs.lemmas.Nat.Bits.{bit_at-trailing_zeros}
use Rattle.std.proofs.lemmas.Bool.{cases_lt, eq-eqb}
use Rattle.std.proofs.lemmas.Bool.Decides.{nat_tests}
use Rattle.sets.specs.Sets.{has, In, without, including, members}
use Rattle.sets.proofs.Sets.{has_difference, has_including, has_single, same_sets}
use Rattle.sets.proofs.Members.{kept_first, members_more, members_none}
use Rattle.stage_memo.specs.Ends.{IsLowest}

pub members_empty : (m : ℕ) → m < 2 ^ 64 → members m ≡ [] → m ≡ 0
members_empty m small none = elim (cases_lt 0 m) [
  | inl some ↦ let e = sym none ∙ members_more m some small in let z : ◌≡◌ {A = ℕ} 0 1 = cc in absurd (omega arith)
  | inr h ↦ omega arith
]

-- v is the first member
module _ (m v : ℕ) (xs : List ℕ) (small : m < 2 ^ 64) (is : members m ≡ v ∷ xs) where
  some : 0 < m
  some = elim (cases_lt 0 m) [
    | inl h ↦ h
    | inr h ↦ let zero : m ≡ 0 = omega arith in let e = sym is ∙ ap members zero ∙ members_none in let z : ◌≡◌ {A = ℕ} 0 1 = cc in absurd (omega arith)
  ]

  pub least : (v < 64) × In v m × ((u : ℕ) → u < v → has m u ≡ false)
  unfolding has
  least =
      let e = sym is ∙ members_more m some small in
      let first : count_trailing_zeros 64 m ≡ v = cc in
      let b = bit_at-trailing_zeros w64 m some small in
      subst (λ (t : ℕ). (t < 64) × In t m × ((u : ℕ) → u < t → has m u ≡ false)) first (b.0, eq-eqb (m / 2 ^ count_trailing_zeros 64 m % 2) 1 b.1, λ u h. ap (λ (x : ℕ). eqb x 1) (b.2 u h))

  pub lowest_is : (rest : ℕ) → rest ≡ without m ((1 * 2 ^ v) % 2 ^ 64) → IsLowest m v rest
  lowest_is rest cut = record {
    few = least.0;
    below = λ u h. grind (arith, nat_tests, h, others u, least.2 u);
    whole = same_sets (including rest v) m (λ u. has_including rest v u ∙ grind (arith, nat_tests, others u, least.1));
    fewer = let e = kept_first (has m) (has rest) v 64 least.0 least.1 least.2 others in omega (arith, ap length e);
  }
    where
      others : (u : ℕ) → has rest u ≡ (has m u && not (eqb u v))
      others u =
          let bit : (1 * 2 ^ v) % 2 ^ 64 ≡ 2 ^ v = one_shl v 64 least.0 in
          let low : 2 ^ v < 2 ^ 64 = omega (arith, bit) in
          ap (λ (x : ℕ). has x u) (cut ∙ ap (without m) bit) ∙ has_difference m (2 ^ v) u small low ∙ ap (λ (b : Bool). has m u && not b) (has_single v u)
