-- The members of a set: how many there are, the lowest of them, and the sets that tests gather.
use Rattle.std.proofs.Common.{◌≡◌, ℕ, zero, suc, ◌+◌, ◌-◌, ◌*◌, ◌/◌, ◌%◌, ◌^◌, ◌<◌, ◌≤◌, Bool, true, false, cond, not, ◌&&◌, ◌||◌, eqb, ltb, List, [], ◌∷◌, ◌++◌, length, sum_by, filter, fold, sym, refl, ap, ◌∙◌, subst, inl, inr, append-nil, suc-mul, pow-suc, arith, length-append}
use lib.Bits.{bit_and, bit_or, and_step, and_self, or_shifted_r}
use lib.Count.{ones, ones_step, ones-le, count_trailing_zeros}
use Rattle.std.specs.List.{AllByRecursion, range_with_len}
use Rattle.std.proofs.lemmas.List.Elements.{filter-append}
use Rattle.std.proofs.ByRecursion.{All-append, All-weaker}
use Rattle.std.proofs.lemmas.List.Sums.{sum_by_push}
use Rattle.std.proofs.lemmas.Bool.{cases_Bool, cases_eq, ne_eqb, eq-eqb, lt-ltb, le-ltb}
use Rattle.std.proofs.lemmas.Bool.Decides.{nat_tests}
use Rattle.sets.specs.Sets.{has, In, including, upto, members, gathered}
use Rattle.sets.proofs.Sets.{and_true, and_false, or_false, has_half, lowest_even, lowest_odd, even_odd, has_none, has_or, has_single}

-- ---- tests over the numbers below n

pub kept_more : (p : ℕ → Bool) (n : ℕ) → filter p (upto (suc n)) ≡ filter p (upto n) ++ cond (p n) (n ∷ []) []
unfolding upto
kept_more p n = filter-append p (upto n) (n ∷ [])

-- two tests that agree below n keep the same
pub kept_same : (p q : ℕ → Bool) (n : ℕ) → ((v : ℕ) → v < n → p v ≡ q v) → filter p (upto n) ≡ filter q (upto n)
unfolding upto
kept_same p q zero same = refl
kept_same p q (suc n) same =
    kept_more p n ∙ ap (λ (xs : List ℕ). xs ++ cond (p n) (n ∷ []) []) (kept_same p q n (λ v h. same v (omega arith)))
    ∙ ap (λ (b : Bool). filter q (upto n) ++ cond b (n ∷ []) []) (same n (omega arith)) ∙ sym (kept_more q n)

-- what a test keeps of more numbers, where it fails from n on
pub kept_far : (p : ℕ → Bool) (n k : ℕ) → ((v : ℕ) → n ≤ v → p v ≡ false) → filter p (upto (n + k)) ≡ filter p (upto n)
kept_far p n zero fails = ap (λ (m : ℕ). filter p (upto m)) (omega arith)
kept_far p n (suc k) fails =
    let at : n + suc k ≡ suc (n + k) = omega arith in
    ap (λ (m : ℕ). filter p (upto m)) at ∙ kept_more p (n + k)
    ∙ ap (λ (b : Bool). filter p (upto (n + k)) ++ cond b ((n + k) ∷ []) []) (fails (n + k) (omega arith))
    ∙ append-nil (filter p (upto (n + k))) ∙ kept_far p n k fails

-- a test that fails below n keeps nothing
pub kept_none : (p : ℕ → Bool) (n : ℕ) → ((v : ℕ) → v < n → p v ≡ false) → filter p (upto n) ≡ []
unfolding upto
kept_none p zero fails = refl
kept_none p (suc n) fails =
    kept_more p n ∙ ap (λ (b : Bool). filter p (upto n) ++ cond b (n ∷ []) []) (fails n (omega arith))
    ∙ append-nil (filter p (upto n)) ∙ kept_none p n (λ v h. fails v (omega arith))

-- the first that passes, and what is kept without it
pub kept_first : (p q : ℕ → Bool) (t n : ℕ) → t < n → p t ≡ true → ((v : ℕ) → v < t → p v ≡ false) → ((v : ℕ) → q v ≡ (p v && not (eqb v t))) → filter p (upto n) ≡ t ∷ filter q (upto n)
kept_first p q t zero h first fails rest = absurd (omega arith)
kept_first p q t (suc n) h first fails rest = elim (cases_eq n t) [
  | inl e ↦
      let none : (v : ℕ) → v < n → p v ≡ false = λ v l. fails v (omega arith) in
      let here : p n ≡ true = ap p e ∙ first in
      let gone : (v : ℕ) → v < suc n → q v ≡ false = λ v l. rest v ∙ elim (cases_eq v n) [
        | inl same ↦ ap (λ (b : Bool). p v && not b) (eq-eqb v t (same ∙ e)) ∙ and_false (p v)
        | inr other ↦ ap (λ (b : Bool). b && not (eqb v t)) (none v (omega arith))
      ] in
      kept_more p n ∙ ap (λ (xs : List ℕ). xs ++ cond (p n) (n ∷ []) []) (kept_none p n none) ∙ ap (λ (b : Bool). cond b (n ∷ []) []) here
      ∙ ap (λ (x : ℕ). x ∷ []) e ∙ ap (λ (xs : List ℕ). t ∷ xs) (sym (kept_none q (suc n) gone))
  | inr e ↦
      let later : q n ≡ p n = rest n ∙ ap (λ (b : Bool). p n && not b) (ne_eqb n t e) ∙ and_true (p n) in
      kept_more p n ∙ ap (λ (xs : List ℕ). xs ++ cond (p n) (n ∷ []) []) (kept_first p q t n (omega arith) first fails rest)
      ∙ ap (λ (b : Bool). t ∷ (filter q (upto n) ++ cond b (n ∷ []) [])) (sym later) ∙ ap (λ (xs : List ℕ). t ∷ xs) (sym (kept_more q n))
]

-- what a test keeps passes it
pub kept_all : (p : ℕ → Bool) (n : ℕ) → AllByRecursion (λ v. (v < n) × (p v ≡ true)) (filter p (upto n))
unfolding upto
kept_all p zero = tt
kept_all p (suc n) =
    let before : AllByRecursion (λ v. (v < suc n) × (p v ≡ true)) (filter p (upto n)) = All-weaker (λ v. (v < n) × (p v ≡ true)) (λ v. (v < suc n) × (p v ≡ true)) (λ v h. (omega (arith, h.0), h.1)) (filter p (upto n)) (kept_all p n) in
    subst (AllByRecursion (λ v. (v < suc n) × (p v ≡ true))) (sym (kept_more p n)) (All-append (λ v. (v < suc n) × (p v ≡ true)) (filter p (upto n)) (cond (p n) (n ∷ []) []) before (here (p n) refl))
  where
    here : (b : Bool) → p n ≡ b → AllByRecursion (λ v. (v < suc n) × (p v ≡ true)) (cond b (n ∷ []) [])
    here true e = ((omega arith, e), tt)
    here false e = tt

pub members_all : (m : ℕ) → AllByRecursion (λ v. (v < 64) × In v m) (members m)
members_all m = kept_all (has m) 64

pub length_kept : (p : ℕ → Bool) (n : ℕ) → length (filter p (upto n)) ≤ n
unfolding upto
length_kept p zero = omega arith
length_kept p (suc n) =
    let at = ap length (kept_more p n) ∙ length-append (filter p (upto n)) (cond (p n) (n ∷ []) []) in
    let before = length_kept p n in
    elim (cases_Bool (p n)) [ inl e ↦ omega (arith, rw e at at) | inr e ↦ omega (arith, rw e at at) ]

-- ---- as many members as digits that are set

shifted_count : (p : ℕ → Bool) (n : ℕ) → length (filter p (upto (suc n))) ≡ cond (p 0) 1 0 + length (filter (λ v. p (suc v)) (upto n))
unfolding upto
shifted_count p zero = elim (cases_Bool (p 0)) [ inl e ↦ rw e refl | inr e ↦ rw e refl ]
shifted_count p (suc n) =
    let more : (q : ℕ → Bool) (k : ℕ) → length (filter q (upto (suc k))) ≡ length (filter q (upto k)) + cond (q k) 1 0
    = λ q k. ap length (kept_more q k) ∙ length-append (filter q (upto k)) (cond (q k) (k ∷ []) []) ∙ ap (λ (c : ℕ). length (filter q (upto k)) + c) (unit (q k) k) in
    more p (suc n) ∙ ap (λ (c : ℕ). c + cond (p (suc n)) 1 0) (shifted_count p n) ∙ omega (arith, more (λ v. p (suc v)) n)
  where
    unit : (b : Bool) (k : ℕ) → length (cond b (k ∷ []) []) ≡ cond b 1 0
    unit true k = refl
    unit false k = refl

count : (k m : ℕ) → m < 2 ^ k → ones m ≡ length (filter (has m) (upto k))
unfolding upto
count zero m h = omega (arith, ones-le 0 m h)
count (suc k) m h =
    let half : m / 2 < 2 ^ k = omega (arith, pow-suc 2 k) in
    let rest : filter (λ v. has m (suc v)) (upto k) ≡ filter (has (m / 2)) (upto k) = kept_same (λ v. has m (suc v)) (has (m / 2)) k (λ v l. has_half m v) in
    let low : cond (has m 0) 1 0 ≡ m % 2 = elim (even_odd m) [
      | inl e ↦ ap (λ (b : Bool). cond b 1 0) (lowest_even m e) ∙ sym e
      | inr e ↦ ap (λ (b : Bool). cond b 1 0) (lowest_odd m e) ∙ sym e
    ] in
    ones_step m ∙ omega (arith, shifted_count (has m) k, ap length rest, count k (m / 2) half)

pub ones_members : (m : ℕ) → m < 2 ^ 64 → ones m ≡ length (members m)
ones_members m h = count 64 m h

-- ---- the lowest member

pub record Lowest (m t rest : ℕ) : Type 0 where
  pub here : has m t ≡ true
  pub below : (v : ℕ) → v < t → has m v ≡ false
  pub others : (v : ℕ) → has rest v ≡ (has m v && not (eqb v t))

eqb_suc : (u v : ℕ) → eqb (suc u) (suc v) ≡ eqb u v
eqb_suc u v = grind (arith, nat_tests)

-- an even set has its lowest member where its half has it, one further
even_lowest : (m t rest half : ℕ) → m % 2 ≡ 0 → rest ≡ half * 2 → Lowest (m / 2) t half → Lowest m (suc t) rest
even_lowest m t rest half even twice l = record { here = has_half m t ∙ l.here; below = below; others = others }
  where
    below : (v : ℕ) → v < suc t → has m v ≡ false
    below zero h = lowest_even m even
    below (suc v) h = has_half m v ∙ l.below v (omega arith)

    others : (v : ℕ) → has rest v ≡ (has m v && not (eqb v (suc t)))
    others zero = lowest_even rest (omega arith) ∙ sym (ap (λ (b : Bool). b && not (eqb 0 (suc t))) (lowest_even m even))
    others (suc v) =
        let same : rest / 2 ≡ half = omega arith in
        has_half rest v ∙ ap (λ (x : ℕ). has x v) same ∙ l.others v
        ∙ sym (ap (λ (b : Bool). b && not (eqb (suc v) (suc t))) (has_half m v) ∙ ap (λ (b : Bool). has (m / 2) v && not b) (eqb_suc v t))

odd_lowest : (m rest : ℕ) → m % 2 ≡ 1 → rest ≡ (m / 2) * 2 → Lowest m 0 rest
odd_lowest m rest odd twice = record { here = lowest_odd m odd; below = λ v h. absurd (omega arith); others = others }
  where
    others : (v : ℕ) → has rest v ≡ (has m v && not (eqb v 0))
    others zero = lowest_even rest (omega arith) ∙ sym (ap (λ (b : Bool). b && false) (lowest_odd m odd))
    others (suc v) =
        let same : rest / 2 ≡ m / 2 = omega arith in
        has_half rest v ∙ ap (λ (x : ℕ). has x v) same ∙ sym (has_half m v) ∙ sym (and_true (has m (suc v))) ∙ ap (λ (b : Bool). has m (suc v) && not b) (sym (ne_eqb (suc v) 0 (omega arith)))

lowest : (k m : ℕ) → 0 < m → m < 2 ^ k → Lowest m (count_trailing_zeros k m) (bit_and m (m - 1)) × (count_trailing_zeros k m < k)
unfolding count_trailing_zeros
lowest zero m p h = absurd (omega arith)
lowest (suc k) m p h = elim (even_odd m) [
  | inl e ↦
      let down : (m - 1) / 2 ≡ m / 2 - 1 = omega arith in
      let twice : bit_and m (m - 1) ≡ bit_and (m / 2) (m / 2 - 1) * 2 = and_step m (m - 1) ∙ rw (e, down) (omega arith) in
      let half = lowest k (m / 2) (omega arith) (omega (arith, pow-suc 2 k)) in
      rw e (even_lowest m (count_trailing_zeros k (m / 2)) (bit_and m (m - 1)) (bit_and (m / 2) (m / 2 - 1)) e twice half.0, omega (arith, half.1))
  | inr e ↦
      let down : (m - 1) / 2 ≡ m / 2 = omega arith in
      let even : (m - 1) % 2 ≡ 0 = omega arith in
      let twice : bit_and m (m - 1) ≡ (m / 2) * 2 = and_step m (m - 1) ∙ rw (down, even, and_self (m / 2)) (omega arith) in
      rw e (odd_lowest m (bit_and m (m - 1)) e twice, omega arith)
]

-- the lowest member, and the members of the set without it
pub members_more : (m : ℕ) → 0 < m → m < 2 ^ 64 → members m ≡ count_trailing_zeros 64 m ∷ members (bit_and m (m - 1))
members_more m p h =
    let l = lowest 64 m p h in
    kept_first (has m) (has (bit_and m (m - 1))) (count_trailing_zeros 64 m) 64 l.1 l.0.here l.0.below l.0.others

pub members_none : members 0 ≡ []
members_none = kept_none (has 0) 64 (λ v h. has_none v)

-- ---- what a test gathers

pub gathered_lt : (p : ℕ → Bool) (n : ℕ) → gathered p n < 2 ^ n
unfolding gathered
gathered_lt p zero = omega arith
gathered_lt p (suc n) =
    let low = gathered_lt p n in
    elim (cases_Bool (p n)) [ inl e ↦ rw e (omega (arith, pow-suc 2 n)) | inr e ↦ rw e (omega (arith, pow-suc 2 n)) ]

-- one more operator, above those of the set
pub or_above : (m n : ℕ) → m < 2 ^ n → bit_or m (2 ^ n) ≡ m + 2 ^ n
or_above m n h =
    let once : 1 * 2 ^ n ≡ 2 ^ n = omega arith in
    ap (λ (x : ℕ). bit_or m x) (sym once) ∙ or_shifted_r 1 n m h ∙ omega arith

-- a test at v, one number further
module _ (p : ℕ → Bool) (n v : ℕ) where
  further : (b : Bool) → p n ≡ b → ((ltb v n && p v) || (eqb v n && b)) ≡ (ltb v (suc n) && p v)
  further b e = elim (cases_eq v n) [
    | inl same ↦
        let here : p v ≡ b = ap p same ∙ e in
        rw (here, le-ltb v n (omega arith), eq-eqb v n same, lt-ltb v (suc n) (omega arith)) refl
    | inr other ↦
        let near : ltb v (suc n) ≡ ltb v n = grind (arith, nat_tests) in
        rw (ne_eqb v n other, near) (or_false (ltb v n && p v))
  ]

  gathered_step : (b : Bool) → p n ≡ b → has (gathered p n) v ≡ (ltb v n && p v) → has (gathered p n + cond b (2 ^ n) 0) v ≡ (ltb v (suc n) && p v)
  gathered_step true e before =
      ap (λ (m : ℕ). has m v) (sym (or_above (gathered p n) n (gathered_lt p n))) ∙ has_or (gathered p n) (2 ^ n) v
      ∙ ap (λ (c : Bool). c || has (2 ^ n) v) before ∙ ap (λ (c : Bool). (ltb v n && p v) || c) (has_single n v ∙ sym (and_true (eqb v n))) ∙ further true e
  gathered_step false e before =
      let same : gathered p n + 0 ≡ gathered p n = omega arith in
      ap (λ (m : ℕ). has m v) same ∙ before ∙ sym (ap (λ (c : Bool). (ltb v n && p v) || c) (and_false (eqb v n)) ∙ or_false (ltb v n && p v)) ∙ further false e

pub has_gathered : (p : ℕ → Bool) (n v : ℕ) → has (gathered p n) v ≡ (ltb v n && p v)
unfolding gathered
has_gathered p zero v = has_none v ∙ sym (ap (λ (b : Bool). b && p v) (le-ltb v 0 (omega arith)))
has_gathered p (suc n) v = gathered_step p n v (p n) refl (has_gathered p n v)

-- a set whose members are those below n that pass a test
pub members_kept : (p : ℕ → Bool) (n m : ℕ) → n ≤ 64 → ((v : ℕ) → has m v ≡ (ltb v n && p v)) → members m ≡ filter p (upto n)
members_kept p n m few is =
    let size : 64 ≡ n + (64 - n) = omega arith in
    ap (λ (k : ℕ). filter (has m) (upto k)) size
    ∙ kept_far (has m) n (64 - n) (λ v h. is v ∙ ap (λ (b : Bool). b && p v) (le-ltb v n h))
    ∙ kept_same (has m) p n (λ v h. is v ∙ ap (λ (b : Bool). b && p v) (lt-ltb v n h))

pub members_gathered : (p : ℕ → Bool) (n : ℕ) → n ≤ 64 → members (gathered p n) ≡ filter p (upto n)
members_gathered p n few = members_kept p n (gathered p n) few (has_gathered p n)

-- ---- operators included one after another: those from a on, n of them, that pass a test

-- what `include` answers
abbrev pub included : ℕ → ℕ → ℕ
included m v = cond (ltb v 64) (including m v) m

module _ (p : ℕ → Bool) where
  with_next : (a : ℕ) → a < 64 → p a ≡ true → included (gathered p a) a ≡ gathered p (a + 1)
  unfolding gathered
  with_next a near passes =
      let next : a + 1 ≡ suc a = omega arith in
      ap (λ (b : Bool). cond b (bit_or (gathered p a) (2 ^ a)) (gathered p a)) (lt-ltb a 64 near) ∙ or_above (gathered p a) a (gathered_lt p a)
      ∙ sym (ap (gathered p) next ∙ ap (λ (b : Bool). gathered p a + cond b (2 ^ a) 0) passes)

  without_next : (a : ℕ) → p a ≡ false → gathered p a ≡ gathered p (a + 1)
  unfolding gathered
  without_next a fails =
      let next : a + 1 ≡ suc a = omega arith in
      omega arith ∙ sym (ap (gathered p) next ∙ ap (λ (b : Bool). gathered p a + cond b (2 ^ a) 0) fails)

  include_one : (rest : List ℕ) (n a : ℕ) (b : Bool) → a < 64 → p a ≡ b → fold included (gathered p (a + 1)) rest ≡ gathered p n → fold included (gathered p a) (cond b (a ∷ rest) rest) ≡ gathered p n
  include_one rest n a true near passes after = ap (λ (m : ℕ). fold included m rest) (with_next a near passes) ∙ after
  include_one rest n a false near fails after = ap (λ (m : ℕ). fold included m rest) (without_next a fails) ∙ after

  include_all : (n a : ℕ) → a + n ≤ 64 → fold included (gathered p a) (filter p (range_with_len a n)) ≡ gathered p (a + n)
  include_all zero a room = ap (gathered p) (omega arith)
  include_all (suc n) a room =
      let next : (a + 1) + n ≡ a + suc n = omega arith in
      include_one (filter p (range_with_len (a + 1) n)) (a + suc n) a (p a) (omega (arith, room)) refl (include_all n (a + 1) (omega (arith, room)) ∙ ap (gathered p) next)

  pub include_below : (n : ℕ) → n ≤ 64 → fold included 0 (filter p (range_with_len 0 n)) ≡ gathered p n
  unfolding gathered
  include_below n room = include_all n 0 (omega (arith, room)) ∙ ap (gathered p) (omega arith)

-- ---- a loop that sums over the numbers below n

pub sum_upto_none : (f : ℕ → ℕ) → 0 ≡ sum_by f (upto 0)
unfolding upto
sum_upto_none f = refl

pub sum_upto_more : (f : ℕ → ℕ) (n : ℕ) → sum_by f (upto (n + 1)) ≡ sum_by f (upto n) + f n
unfolding upto
sum_upto_more f n =
    let next : n + 1 ≡ suc n = omega arith in
    ap (λ (k : ℕ). sum_by f (upto k)) next ∙ sum_by_push f (upto n) n

pub sum_upto_le : (f : ℕ → ℕ) (m n : ℕ) → ((v : ℕ) → f v ≤ m) → sum_by f (upto n) ≤ n * m
unfolding upto
sum_upto_le f m zero each = omega arith
sum_upto_le f m (suc n) each = omega (arith, sum_by_push f (upto n) n, sum_upto_le f m n each, each n, suc-mul n m)

pub members_few : (m : ℕ) → length (members m) ≤ 64
members_few m = length_kept (has m) 64
