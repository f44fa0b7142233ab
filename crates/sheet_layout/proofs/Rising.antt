-- Lists in which each element stands before every later one, and the lists that the numbers below n give.
--   Rising R xs   each element of xs stands in the relation R to every later one
use Rattle.std.proofs.Common.{◌≡◌, ℕ, zero, suc, ◌-◌, ◌<◌, ◌≤◌, Bool, true, false, cond, List, [], ◌∷◌, ◌++◌, map, length, get_or, filter, sym, refl, ap, ◌∙◌, subst, inl, inr, arith}
use Rattle.std.specs.List.{flat_map, ContainsAt as Has, AllByRecursion}
use Rattle.std.proofs.ByRecursion.{All-append, all_kept_by, All-get_or, All-push, All-weaker, All-map, has_append_left, has_append_right}
use Rattle.std.proofs.lemmas.List.{flat_map_more, length-append, get_or-map, length-map}
use Rattle.std.proofs.lemmas.Bool.{cases_lt, cases_Bool}
use Rattle.sets.specs.Sets.{upto}
use Rattle.sets.proofs.Members.{kept_more}

abbrev pub Rising : {X : Type 0} → (X → X → Type 0) → List X → Type 0
Rising R [] = Unit {0}
Rising R (x ∷ xs) = AllByRecursion (R x) xs × Rising R xs

module _ {X : Type 0} (R : X → X → Type 0) where
  pub rising_append : (xs ys : List X) → Rising R xs → Rising R ys → AllByRecursion (λ x. AllByRecursion (R x) ys) xs → Rising R (xs ++ ys)
  rising_append [] ys a b h = b
  rising_append (x ∷ xs) ys a b h = (All-append (R x) xs ys a.0 h.0, rising_append xs ys a.1 b h.1)

  pub rising_kept : (p : X → Bool) (xs : List X) → Rising R xs → Rising R (filter p xs)
  rising_kept p [] a = tt
  rising_kept p (x ∷ xs) a = either (p x) (all_kept_by p (R x) xs a.0) (rising_kept p xs a.1)
    where
      either : (b : Bool) → AllByRecursion (R x) (filter p xs) → Rising R (filter p xs) → Rising R (cond b (x ∷ filter p xs) (filter p xs))
      either true h k = (h, k)
      either false h k = k

  pub rising_map : {Y : Type 0} (S : Y → Y → Type 0) (f : Y → X) → ((y z : Y) → S y z → R (f y) (f z)) → (ys : List Y) → Rising S ys → Rising R (map f ys)
  rising_map S f keeps [] a = tt
  rising_map S f keeps (y ∷ ys) a =
      (All-map (R (f y)) f ys (All-weaker (S y) (λ z. R (f y) (f z)) (keeps y) ys a.0), rising_map S f keeps ys a.1)

  pub rising_next : (xs : List X) (i : ℕ) (d : X) → suc i < length xs → Rising R xs → R (get_or xs i d) (get_or xs (suc i) d)
  rising_next [] i d h a = absurd (omega arith)
  rising_next (x ∷ xs) zero d h a = All-get_or (R x) xs 0 d (omega arith) a.0
  rising_next (x ∷ xs) (suc i) d h a = rising_next xs i d (omega arith) a.1

-- ---- the numbers below n

pub all_upto : (n : ℕ) → AllByRecursion (λ v. v < n) (upto n)
unfolding upto
all_upto zero = tt
all_upto (suc n) =
    All-push (λ v. v < suc n) (upto n) n (All-weaker (λ v. v < n) (λ v. v < suc n) (λ v h. omega arith) (upto n) (all_upto n)) (omega arith)

pub rising_upto : (n : ℕ) → Rising (λ u v. u < v) (upto n)
unfolding upto
rising_upto zero = tt
rising_upto (suc n) =
    rising_append (λ u v. u < v) (upto n) (n ∷ []) (rising_upto n) (tt, tt)
    (All-weaker (λ v. v < n) (λ v. AllByRecursion (λ w. v < w) (n ∷ [])) (λ v h. (h, tt)) (upto n) (all_upto n))

-- one that passes a test is kept
pub has_kept : (p : ℕ → Bool) (n v : ℕ) → v < n → p v ≡ true → Has (filter p (upto n)) v
has_kept p zero v h e = absurd (omega arith)
has_kept p (suc n) v h e = subst (λ (xs : List ℕ). Has xs v) (sym (kept_more p n)) (elim (cases_lt v n) [
  | inl l ↦ has_append_left (filter p (upto n)) (cond (p n) (n ∷ []) []) v (has_kept p n v l e)
  | inr l ↦
      let same : n ≡ v = omega arith in
      has_append_right (filter p (upto n)) (cond (p n) (n ∷ []) []) v (last (p n) (ap p same ∙ e) same)
])
  where
    last : (b : Bool) → b ≡ true → n ≡ v → Has (cond b (n ∷ []) []) v
    last true d same = (0, omega arith, λ _. same)
    last false d same = absurd (let z : ◌≡◌ {A = ℕ} 0 1 = cc in omega arith)

-- a test that fails below a keeps no more than the numbers from a on
pub kept_few : (p : ℕ → Bool) (a n : ℕ) → ((v : ℕ) → v < a → p v ≡ false) → length (filter p (upto n)) ≤ n - a
unfolding upto
kept_few p a zero fails = omega arith
kept_few p a (suc n) fails =
    let more = ap length (kept_more p n) ∙ length-append (filter p (upto n)) (cond (p n) (n ∷ []) []) in
    let before = kept_few p a n fails in
    elim (cases_lt n a) [
      | inl l ↦ omega (arith, rw (fails n l) at more)
      | inr l ↦ elim (cases_Bool (p n)) [ inl e ↦ omega (arith, rw e at more) | inr e ↦ omega (arith, rw e at more) ]
    ]

-- ---- what the numbers below n give, joined

module _ {X : Type 0} where
  pub joined_none : (f : ℕ → List X) → flat_map f (upto 0) ≡ []
  unfolding upto
  joined_none f = refl

  pub joined_upto : (f : ℕ → List X) (n : ℕ) → flat_map f (upto (suc n)) ≡ flat_map f (upto n) ++ f n
  unfolding upto
  joined_upto f n = sym (flat_map_more f [] (upto n) n)

  pub all_joined : {Y : Type 0} (P : X → Type 0) (f : Y → List X) (ys : List Y) → AllByRecursion (λ y. AllByRecursion P (f y)) ys → AllByRecursion P (flat_map f ys)
  all_joined P f [] h = tt
  all_joined P f (y ∷ ys) h = All-append P (f y) (flat_map f ys) h.0 (all_joined P f ys h.1)

  pub has_joined : (f : ℕ → List X) (n u : ℕ) (x : X) → u < n → Has (f u) x → Has (flat_map f (upto n)) x
  has_joined f zero u x h k = absurd (omega arith)
  has_joined f (suc n) u x h k = subst (λ (xs : List X). Has xs x) (sym (joined_upto f n)) (elim (cases_lt u n) [
    | inl l ↦ has_append_left (flat_map f (upto n)) (f n) x (has_joined f n u x l k)
    | inr l ↦
        let same : u ≡ n = omega arith in
        has_append_right (flat_map f (upto n)) (f n) x (subst (λ (w : ℕ). Has (f w) x) same k)
  ])

  pub has_map : {Y : Type 0} (f : Y → X) (ys : List Y) (y : Y) → Has ys y → Has (map f ys) (f y)
  has_map f ys y h = (h.0, simp length-map h.1, λ d. get_or-map f ys h.0 y d h.1 ∙ ap f (h.2 y))
