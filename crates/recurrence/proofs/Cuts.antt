-- What is cut from a set is apart from what is left, and the two make up the set.
use Rattle.std.proofs.Common.{◌≡◌, ℕ, zero, suc, ◌+◌, ◌-◌, ◌^◌, ◌<◌, Bool, true, false, not, ◌&&◌, ◌||◌, ltb, sym, ap, ◌∙◌, subst, inl, inr, pow-suc, arith}
use lib.Bits.{or_disjoint}
use Rattle.std.proofs.lemmas.Bool.{both_ways, cases_Bool, and_parts, and_from, and_left, and_right, or_left, not-true, not_from_false, lt-ltb}
use Rattle.sets.specs.Sets.{has, In, inside, either, both, gathered}
use Rattle.sets.proofs.Sets.{has_none, has_and, has_or, same_sets, inside_means, in_below}
use Rattle.sets.proofs.Members.{has_gathered}

abbrev pub Apart : ℕ → ℕ → Type 0
Apart s t = (v : ℕ) → In v s → In v t → ⊥

none_common : (s t : ℕ) → Apart s t → both t s ≡ 0
none_common s t apart = same_sets (both t s) 0 (λ v. has_and t s v ∙ elim (cases_Bool (has t v)) [
  | inl h ↦ and_right (has t v) (has s v) (elim (cases_Bool (has s v)) [ inl k ↦ absurd (apart v k h) | inr k ↦ k ]) ∙ sym (has_none v)
  | inr h ↦ and_left (has t v) (has s v) h ∙ sym (has_none v)
])

-- sets that are apart add up
pub either_adds : (s t : ℕ) → Apart t s → either s t ≡ s + t
either_adds s t apart = or_disjoint s t (none_common t s apart)

pub either_holds : (s t : ℕ) → inside s (either s t) ≡ true
either_holds s t = (inside_means s (either s t)).1 (λ v h. has_or s t v ∙ or_left (has s v) (has t v) h)

self_power : (m : ℕ) → m < 2 ^ m
self_power zero = omega arith
self_power (suc m) = omega (arith, pow-suc 2 m, self_power m)

module _ (j i : ℕ) (inner : inside j i ≡ true) where
  abbrev rest : ℕ
  rest = gathered (λ v. has i v && not (has j v)) i

  has_rest : (v : ℕ) → has rest v ≡ (ltb v i && (has i v && not (has j v)))
  has_rest v = has_gathered (λ u. has i u && not (has j u)) i v

  rest_apart : Apart rest j
  rest_apart v h k =
      let parts = and_parts (ltb v i) (has i v && not (has j v)) (sym (has_rest v) ∙ h) in
      both_ways (has j v) (not-true (has j v) (and_parts (has i v) (not (has j v)) parts.1).1) k

  -- an operator that j does not have
  rest_other : (v : ℕ) → has j v ≡ false → has rest v ≡ has i v
  rest_other v out = has_rest v ∙ elim (cases_Bool (has i v)) [
    | inl h ↦ and_from (ltb v i) (has i v && not (has j v)) (lt-ltb v i (in_below i i v (self_power i) h)) (and_from (has i v) (not (has j v)) h (not_from_false (has j v) out)) ∙ sym h
    | inr h ↦ and_right (ltb v i) (has i v && not (has j v)) (and_left (has i v) (not (has j v)) h) ∙ sym h
  ]

  rest_either : either j rest ≡ i
  rest_either = same_sets (either j rest) i (λ v. has_or j rest v ∙ elim (cases_Bool (has j v)) [
    | inl h ↦ or_left (has j v) (has rest v) h ∙ sym ((inside_means j i).0 inner v h)
    | inr h ↦ ap (λ (b : Bool). b || has rest v) h ∙ rest_other v h
  ])

  rest_is : rest ≡ i - j
  rest_is = omega (arith, either_adds j rest rest_apart, rest_either)

  pub cut_apart : Apart (i - j) j
  cut_apart = subst (λ (m : ℕ). Apart m j) rest_is rest_apart

  pub cut_either : either j (i - j) ≡ i
  cut_either = subst (λ (m : ℕ). either j m ≡ i) rest_is rest_either
