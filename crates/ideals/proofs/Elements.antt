-- Which masks a list holds, and ascending lists.
use Rattle.std.proofs.Common.{◌≡◌, ℕ, zero, suc, ◌+◌, ◌-◌, ◌<◌, ◌≤◌, Bool, true, false, cond, List, [], ◌∷◌, ◌++◌, map, length, get_or, filter, sym, refl, ap, ◌∙◌, inl, inr, arith}
use Rattle.std.specs.List.{All, AllPairs}
use Rattle.std.proofs.lemmas.Bool.{cases_lt}
use Rattle.std.proofs.lemmas.List.{length-append, length-map, get_or_append_left, get_or-append_right, get_or-map}

abbrev pub Listed : ℕ → List ℕ → Type 0
Listed m xs = (i : ℕ) × (i < length xs) × (get_or xs i 0 ≡ m)

pub listed_left : (m : ℕ) (xs ys : List ℕ) → Listed m xs → Listed m (xs ++ ys)
listed_left m xs ys h = (h.0, omega (arith, h.1, length-append xs ys), get_or_append_left xs ys 0 h.0 h.1 ∙ h.2)

pub listed_right : (m : ℕ) (xs ys : List ℕ) → Listed m ys → Listed m (xs ++ ys)
listed_right m [] ys h = h
listed_right m (x ∷ xs) ys h = let t = listed_right m xs ys h in (suc t.0, omega (arith, t.1), t.2)

pub listed_map : (f : ℕ → ℕ) (m : ℕ) (xs : List ℕ) → Listed m xs → Listed (f m) (map f xs)
listed_map f m xs h = (h.0, omega (arith, h.1, length-map xs f), get_or-map f xs h.0 0 0 h.1 ∙ ap f h.2)

module _ (p : ℕ → Bool) where
  here : (m x : ℕ) (xs : List ℕ) (b : Bool) → p x ≡ b → p m ≡ true → x ≡ m → Listed m (cond b (x ∷ xs) xs)
  here m x xs true q h e = (zero, omega arith, e)
  here m x xs false q h e = let z : true ≡ false = sym h ∙ sym (ap p e) ∙ q in let n : ◌≡◌ {A = ℕ} 0 1 = cc in absurd (omega arith)

  there : (m x : ℕ) (xs : List ℕ) (b : Bool) → Listed m xs → Listed m (cond b (x ∷ xs) xs)
  there m x xs true h = (suc h.0, omega (arith, h.1), h.2)
  there m x xs false h = h

  pub listed_kept : (m : ℕ) (xs : List ℕ) → p m ≡ true → Listed m xs → Listed m (filter p xs)
  listed_kept m [] q h = absurd (omega (arith, h.1))
  listed_kept m (x ∷ xs) q (zero, h, e) = here m x (filter p xs) (p x) refl q e
  listed_kept m (x ∷ xs) q (suc i, h, e) = there m x (filter p xs) (p x) (listed_kept m xs q (i, omega arith, e))

-- ---- ascending lists

abbrev pub Ascends : List ℕ → Type 0
Ascends xs = AllPairs (λ x y. x < y) xs

pub ascends_map : (c : ℕ) (xs : List ℕ) → Ascends xs → Ascends (map (λ m. m + c) xs)
ascends_map c xs a i j d h l =
    let near : j < length xs = omega (arith, length-map xs (λ (m : ℕ). m + c)) in
    let far : i < length xs = omega arith in
    rw (get_or-map (λ (m : ℕ). m + c) xs i d d far, get_or-map (λ (m : ℕ). m + c) xs j d d near) (omega (arith, a i j d h near))

-- all of the one list are below c, and all of the other are not
pub ascends_append : (c : ℕ) (xs ys : List ℕ) → Ascends xs → Ascends ys → All (λ x. x < c) xs → All (λ y. c ≤ y) ys → Ascends (xs ++ ys)
ascends_append c xs ys a b low high i j d h l =
    let left = λ (k : ℕ) (n : k < length xs). get_or_append_left xs ys d k n in
    let right = λ (k : ℕ) (f : length xs ≤ k). get_or-append_right xs ys (length xs) k d refl f in
    let long = length-append xs ys in
    elim (cases_lt j (length xs)) [
      | inl n ↦ let m : i < length xs = omega arith in rw (left i m, left j n) (a i j d h n)
      | inr f ↦ elim (cases_lt i (length xs)) [
        | inl m ↦ rw (left i m, right j f) (omega (arith, low i d m, high (j - length xs) d (omega arith)))
        | inr g ↦ rw (right i g, right j f) (b (i - length xs) (j - length xs) d (omega arith) (omega arith))
      ]
    ]
