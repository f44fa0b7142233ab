-- The laws of sets. Above this file and Members nothing speaks of a mask's digits.
use Rattle.std.proofs.Common.{◌≡◌, ℕ, zero, suc, ◌-◌, ◌/◌, ◌%◌, ◌^◌, ◌<◌, ◌≤◌, Bool, true, false, cond, not, ◌&&◌, ◌||◌, eqb, ltb, ◌⊎◌, Decides, sym, refl, ap, ◌∙◌, inl, inr, pow-suc, div-one, arith, pow_pos}
use native.Mathlib.Nat.{div-div-eq-div-mul, pow-succ'}
use lib.Arith.{bin_ind}
use lib.Bits.{bit_and, bit_or, and_step, or_step}
use Rattle.std.proofs.lemmas.Bool.{eqb-true, eqb-false, eq-eqb, ne_eqb, both_ways, cases_lt, cases_Bool, and_parts, and_from, not-true, lt-ltb, le-ltb}
use Rattle.std.proofs.lemmas.Bool.Decides.{nat_tests}
use Rattle.sets.specs.Sets.{has, In, inside, meeting, including, full}

-- ---- tests

pub and_true : (b : Bool) → (b && true) ≡ b
and_true true = refl
and_true false = refl

pub and_false : (b : Bool) → (b && false) ≡ false
and_false true = refl
and_false false = refl

pub or_false : (b : Bool) → (b || false) ≡ b
or_false true = refl
or_false false = refl

-- ---- one digit

digit_cases : (d : ℕ) → d < 2 → (d ≡ 0) ⊎ (d ≡ 1)
digit_cases zero h = inl refl
digit_cases (suc zero) h = inr refl
digit_cases (suc (suc d)) h = absurd (omega arith)

pub has_lowest : (m : ℕ) → has m 0 ≡ eqb (m % 2) 1
unfolding has
has_lowest m = ap (λ (x : ℕ). eqb (x % 2) 1) (div-one m)

pub has_half : (m v : ℕ) → has m (suc v) ≡ has (m / 2) v
unfolding has
has_half m v = ap (λ (x : ℕ). eqb (x % 2) 1) (ap (λ (x : ℕ). m / x) (pow-succ' 2 v) ∙ sym (div-div-eq-div-mul m 2 (2 ^ v)))

pub lowest_even : (m : ℕ) → m % 2 ≡ 0 → has m 0 ≡ false
lowest_even m e = has_lowest m ∙ ne_eqb (m % 2) 1 (omega arith)

pub lowest_odd : (m : ℕ) → m % 2 ≡ 1 → has m 0 ≡ true
lowest_odd m e = has_lowest m ∙ eq-eqb (m % 2) 1 e

pub even_odd : (m : ℕ) → (m % 2 ≡ 0) ⊎ (m % 2 ≡ 1)
even_odd m = digit_cases (m % 2) (omega arith)

lowest_is : (m : ℕ) (b : Bool) → has m 0 ≡ b → m % 2 ≡ cond b 1 0
lowest_is m true e = eqb-true (m % 2) 1 (sym (has_lowest m) ∙ e)
lowest_is m false e =
    elim (even_odd m) [ inl z ↦ z | inr o ↦ absurd (both_ways (has m 0) e (lowest_odd m o)) ]

-- ---- the empty set, and sets with the same members

pub has_none : (v : ℕ) → has 0 v ≡ false
has_none zero = lowest_even 0 refl
has_none (suc v) = has_half 0 v ∙ has_none v

pub some_in : (m : ℕ) → 0 < m → (v : ℕ) × In v m
some_in = bin_ind (λ m. 0 < m → (v : ℕ) × In v m) (λ h. absurd (omega arith)) step
  where
    step : (m : ℕ) → (0 < m / 2 → (v : ℕ) × In v (m / 2)) → 0 < m → (v : ℕ) × In v m
    step m half h = elim (even_odd m) [
      | inl e ↦ let t = half (omega arith) in (suc t.0, has_half m t.0 ∙ t.1)
      | inr e ↦ (0, lowest_odd m e)
    ]

pub same_sets : (m n : ℕ) → ((v : ℕ) → has m v ≡ has n v) → m ≡ n
same_sets = bin_ind (λ m. (n : ℕ) → ((v : ℕ) → has m v ≡ has n v) → m ≡ n) base step
  where
    base : (n : ℕ) → ((v : ℕ) → has 0 v ≡ has n v) → 0 ≡ n
    base n same = elim (cases_lt 0 n) [
      | inl p ↦ let t = some_in n p in absurd (both_ways (has n t.0) (sym (same t.0) ∙ has_none t.0) t.1)
      | inr p ↦ omega arith
    ]

    step : (m : ℕ) → ((n : ℕ) → ((v : ℕ) → has (m / 2) v ≡ has n v) → m / 2 ≡ n) → (n : ℕ) → ((v : ℕ) → has m v ≡ has n v) → m ≡ n
    step m half n same =
        let high : m / 2 ≡ n / 2 = half (n / 2) (λ v. sym (has_half m v) ∙ same (suc v) ∙ has_half n v) in
        let low : m % 2 ≡ n % 2 = lowest_is m (has n 0) (same 0) ∙ sym (lowest_is n (has n 0) refl) in
        omega arith

-- ---- both, either, one without the other

-- what an operation on digits does to members, from what it does to the lowest digit and to the others
has_by : (op : ℕ → ℕ → ℕ) (on : Bool → Bool → Bool) → ((s t : ℕ) → op s t / 2 ≡ op (s / 2) (t / 2)) → ((s t : ℕ) → has (op s t) 0 ≡ on (has s 0) (has t 0)) → (v s t : ℕ) → has (op s t) v ≡ on (has s v) (has t v)
has_by op on half low zero s t = low s t
has_by op on half low (suc v) s t =
    has_half (op s t) v ∙ ap (λ (m : ℕ). has m v) (half s t) ∙ has_by op on half low v (s / 2) (t / 2)
    ∙ sym (ap (λ (b : Bool). on b (has t (suc v))) (has_half s v) ∙ ap (λ (b : Bool). on (has (s / 2) v) b) (has_half t v))

and_half : (s t : ℕ) → bit_and s t / 2 ≡ bit_and (s / 2) (t / 2)
and_half s t = let e = and_step s t in elim (even_odd s) [ inl p ↦ omega arith | inr p ↦ elim (even_odd t) [ inl q ↦ omega arith | inr q ↦ omega arith ] ]

and_low : (s t : ℕ) → has (bit_and s t) 0 ≡ (has s 0 && has t 0)
and_low s t =
    let e = and_step s t in
    elim (even_odd s) [
      | inl p ↦ lowest_even (bit_and s t) (omega arith) ∙ sym (ap (λ (b : Bool). b && has t 0) (lowest_even s p))
      | inr p ↦ elim (even_odd t) [
        | inl q ↦ lowest_even (bit_and s t) (omega arith) ∙ sym (ap (λ (b : Bool). b && has t 0) (lowest_odd s p) ∙ lowest_even t q)
        | inr q ↦ lowest_odd (bit_and s t) (omega arith) ∙ sym (ap (λ (b : Bool). b && has t 0) (lowest_odd s p) ∙ lowest_odd t q)
      ]
    ]

pub has_and : (s t v : ℕ) → has (bit_and s t) v ≡ (has s v && has t v)
has_and s t v = has_by bit_and ◌&&◌ and_half and_low v s t

or_half : (s t : ℕ) → bit_or s t / 2 ≡ bit_or (s / 2) (t / 2)
or_half s t = let e = or_step s t in elim (even_odd s) [ inl p ↦ elim (even_odd t) [ inl q ↦ omega arith | inr q ↦ omega arith ] | inr p ↦ elim (even_odd t) [ inl q ↦ omega arith | inr q ↦ omega arith ] ]

or_low : (s t : ℕ) → has (bit_or s t) 0 ≡ (has s 0 || has t 0)
or_low s t =
    let e = or_step s t in
    elim (even_odd s) [
      | inl p ↦ elim (even_odd t) [
        | inl q ↦ lowest_even (bit_or s t) (omega arith) ∙ sym (ap (λ (b : Bool). b || has t 0) (lowest_even s p) ∙ lowest_even t q)
        | inr q ↦ lowest_odd (bit_or s t) (omega arith) ∙ sym (ap (λ (b : Bool). b || has t 0) (lowest_even s p) ∙ lowest_odd t q)
      ]
      | inr p ↦ elim (even_odd t) [
        | inl q ↦ lowest_odd (bit_or s t) (omega arith) ∙ sym (ap (λ (b : Bool). b || has t 0) (lowest_odd s p))
        | inr q ↦ lowest_odd (bit_or s t) (omega arith) ∙ sym (ap (λ (b : Bool). b || has t 0) (lowest_odd s p))
      ]
    ]

pub has_or : (s t v : ℕ) → has (bit_or s t) v ≡ (has s v || has t v)
has_or s t v = has_by bit_or ◌||◌ or_half or_low v s t

-- ---- below a power of two

pub in_below : (n m v : ℕ) → m < 2 ^ n → In v m → v < n
in_below zero m v h e =
    let z : m ≡ 0 = omega arith in absurd (both_ways (has m v) (ap (λ (x : ℕ). has x v) z ∙ has_none v) e)
in_below (suc n) m zero h e = omega arith
in_below (suc n) m (suc v) h e =
    let half : m / 2 < 2 ^ n = omega (arith, pow-suc 2 n) in
    let l : v < n = in_below n (m / 2) v half (sym (has_half m v) ∙ e) in
    omega arith

pub has_above : (n m v : ℕ) → m < 2 ^ n → n ≤ v → has m v ≡ false
has_above n m v h l = elim (cases_Bool (has m v)) [
  | inl e ↦ let k : v < n = in_below n m v h e in absurd (omega arith)
  | inr e ↦ e
]

-- the members of the complement, among the first n
pub has_complement : (n m v : ℕ) → m < 2 ^ n → v < n → has (2 ^ n - 1 - m) v ≡ not (has m v)
has_complement zero m v h l = absurd (omega arith)
has_complement (suc n) m zero h l =
    let p = pow-suc 2 n in
    elim (even_odd m) [
      | inl e ↦ lowest_odd (2 ^ suc n - 1 - m) (omega arith) ∙ ap not (sym (lowest_even m e))
      | inr e ↦ lowest_even (2 ^ suc n - 1 - m) (omega arith) ∙ ap not (sym (lowest_odd m e))
    ]
has_complement (suc n) m (suc v) h l =
    let p = pow-suc 2 n in
    let half : m / 2 < 2 ^ n = omega arith in
    let rest : (2 ^ suc n - 1 - m) / 2 ≡ 2 ^ n - 1 - m / 2 = omega arith in
    has_half (2 ^ suc n - 1 - m) v ∙ ap (λ (x : ℕ). has x v) rest ∙ has_complement n (m / 2) v half (omega arith) ∙ ap not (sym (has_half m v))

-- ---- the set of one operator

eqb_suc : (u v : ℕ) → eqb u v ≡ eqb (suc u) (suc v)
eqb_suc u v = grind (arith, nat_tests)

pub has_single : (v u : ℕ) → has (2 ^ v) u ≡ eqb u v
has_single zero zero = lowest_odd 1 refl
has_single zero (suc u) = has_half 1 u ∙ has_none u ∙ sym (ne_eqb (suc u) 0 (omega arith))
has_single (suc v) zero = lowest_even (2 ^ suc v) (omega (arith, pow-suc 2 v)) ∙ sym (ne_eqb 0 (suc v) (omega arith))
has_single (suc v) (suc u) =
    let half : 2 ^ suc v / 2 ≡ 2 ^ v = omega (arith, pow-suc 2 v) in
    has_half (2 ^ suc v) u ∙ ap (λ (m : ℕ). has m u) half ∙ has_single v u ∙ eqb_suc u v

-- ---- the tests

pub inside_means : (s t : ℕ) → Decides (inside s t) ((v : ℕ) → In v s → In v t)
inside_means s t = (
  λ e v h. (and_parts (has s v) (has t v) (sym (has_and s t v) ∙ ap (λ (m : ℕ). has m v) (eqb-true (bit_and s t) s e) ∙ h)).1,
  λ all. eq-eqb (bit_and s t) s (same_sets (bit_and s t) s (λ v. has_and s t v ∙ kept s t v (has s v) refl (all v))),
)
  where
    kept : (s t v : ℕ) (b : Bool) → has s v ≡ b → (In v s → In v t) → (has s v && has t v) ≡ has s v
    kept s t v true e h = rw (e, h e) refl
    kept s t v false e h = rw e refl

-- where one set is not inside another, some operator is in the one and not in the other
pub some_outside : (s t : ℕ) → inside s t ≡ false → (v : ℕ) × (In v s × (has t v ≡ false))
some_outside s t h = bin_ind (λ m. (t : ℕ) → (bit_and m t ≡ m → ⊥) → (v : ℕ) × (In v m × (has t v ≡ false))) base step s t (eqb-false (bit_and s t) s h)
  where
    base : (t : ℕ) → (bit_and 0 t ≡ 0 → ⊥) → (v : ℕ) × (In v 0 × (has t v ≡ false))
    base t differ = absurd (differ refl)

    step : (m : ℕ) → ((t : ℕ) → (bit_and (m / 2) t ≡ m / 2 → ⊥) → (v : ℕ) × (In v (m / 2) × (has t v ≡ false))) → (t : ℕ) → (bit_and m t ≡ m → ⊥) → (v : ℕ) × (In v m × (has t v ≡ false))
    step m half t differ =
        let e = and_step m t in
        let further : (m % 2 ≤ t % 2) → (v : ℕ) × (In v m × (has t v ≡ false)) = λ low.
        let found = half (t / 2) (λ same. differ (omega arith)) in
        (suc found.0, (has_half m found.0 ∙ found.1.0, has_half t found.0 ∙ found.1.1)) in
        elim (even_odd m) [
          | inl p ↦ further (omega arith)
          | inr p ↦ elim (even_odd t) [
            | inl q ↦ (0, (lowest_odd m p, lowest_even t q))
            | inr q ↦ further (omega arith)
          ]
        ]

pub outside_some : (s t v : ℕ) → In v s → has t v ≡ false → inside s t ≡ false
outside_some s t v h k = elim (cases_Bool (inside s t)) [
  | inl e ↦ absurd (both_ways (has t v) k ((inside_means s t).0 e v h))
  | inr e ↦ e
]

pub meeting_means : (s t : ℕ) → Decides (meeting s t) ((v : ℕ) × (In v s × In v t))
meeting_means s t = (
  λ e.
      let some = some_in (bit_and s t) (elim (cases_lt 0 (bit_and s t)) [ inl p ↦ p | inr p ↦ absurd (eqb-false (bit_and s t) 0 (not-true (eqb (bit_and s t) 0) e) (omega arith)) ]) in
      let both = and_parts (has s some.0) (has t some.0) (sym (has_and s t some.0) ∙ some.1) in
      (some.0, (both.0, both.1)),
  λ p. ap not (ne_eqb (bit_and s t) 0 (λ z. both_ways (has (bit_and s t) p.0) (ap (λ (m : ℕ). has m p.0) z ∙ has_none p.0) (has_and s t p.0 ∙ and_from (has s p.0) (has t p.0) p.1.0 p.1.1))),
)

pub same_means : (s t : ℕ) → Decides (eqb s t) ((v : ℕ) → has s v ≡ has t v)
same_means s t = (λ e v. ap (λ (m : ℕ). has m v) (eqb-true s t e), λ same. eq-eqb s t (same_sets s t same))

-- ---- at 64 bits

pub has_difference : (s t v : ℕ) → s < 2 ^ 64 → t < 2 ^ 64 → has (bit_and s (2 ^ 64 - 1 - t)) v ≡ (has s v && not (has t v))
has_difference s t v small few = has_and s (2 ^ 64 - 1 - t) v ∙ elim (cases_lt v 64) [
  | inl l ↦ ap (λ (b : Bool). has s v && b) (has_complement 64 t v few l)
  | inr l ↦ rw (has_above 64 s v small l) refl
]

pub has_including : (m v u : ℕ) → has (including m v) u ≡ (has m u || eqb u v)
has_including m v u = has_or m (2 ^ v) u ∙ ap (λ (b : Bool). has m u || b) (has_single v u)

pub has_full : (n v : ℕ) → has (full n) v ≡ ltb v n
has_full n v = elim (cases_lt v n) [
  | inl l ↦
      let same : 2 ^ n - 1 ≡ 2 ^ n - 1 - 0 = omega arith in
      ap (λ (m : ℕ). has m v) same ∙ has_complement n 0 v (pow_pos n) l ∙ ap not (has_none v) ∙ sym (lt-ltb v n l)
  | inr l ↦ has_above n (2 ^ n - 1) v (omega (arith, pow_pos n)) l ∙ sym (le-ltb v n l)
]
