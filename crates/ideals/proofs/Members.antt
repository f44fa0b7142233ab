-- The list holds a set exactly if it is an ideal, and ascends.
use Rattle.std.proofs.Common.{◌≡◌, ℕ, zero, suc, ◌+◌, ◌-◌, ◌^◌, ◌<◌, ◌≤◌, Bool, true, false, ◌&&◌, ◌||◌, eqb, ltb, ◌⊎◌, [], filter, sym, ap, ◌∙◌, subst, inl, inr, pow-suc, arith}
use Rattle.std.specs.List.{All}
use Rattle.std.proofs.lemmas.List.Elements.{All-append, All-cons, All-nil, All-weaker, All-map, All-filter, filter_passes}
use Rattle.std.proofs.lemmas.Bool.{both_ways, cases_lt, cases_Bool, eqb-true, lt-ltb, ltb-true}
use Rattle.sets.specs.Sets.{has, In, inside, full, gathered}
use Rattle.sets.proofs.Sets.{has_none, same_sets, has_above, has_including, has_full, inside_means, and_false}
use Rattle.sets.proofs.Members.{gathered_lt, has_gathered, or_above}
use Rattle.ideals.specs.Ideals.{above, grown}
use Rattle.ideals.proofs.Growing.{grown_small}
use Rattle.ideals.proofs.Elements.{Listed, listed_left, listed_right, listed_map, listed_kept, Ascends, ascends_append, ascends_map}
use Rattle.std.proofs.lemmas.List.Kept.{AllPairs-filter}

-- a set of operators below n is below the power of two
pub below_power : (n m : ℕ) → ((v : ℕ) → In v m → v < n) → m < 2 ^ n
below_power n m only =
    let same : m ≡ gathered (has m) n = same_sets m (gathered (has m) n) (λ v. elim (cases_Bool (has m v)) [
      | inl h ↦ h ∙ sym (has_gathered (has m) n v ∙ ap (λ (b : Bool). b && has m v) (lt-ltb v n (only v h)) ∙ h)
      | inr h ↦ h ∙ sym (has_gathered (has m) n v ∙ ap (λ (b : Bool). ltb v n && b) h ∙ and_false (ltb v n))
    ]) in
    omega (arith, same, gathered_lt (has m) n)

-- the sets with one more operator, the highest
module _ (v m : ℕ) (low : m < 2 ^ v) where
  has_more : (u : ℕ) → has (m + 2 ^ v) u ≡ (has m u || eqb u v)
  has_more u = ap (λ (s : ℕ). has s u) (sym (or_above m v low)) ∙ has_including m v u

  more_keeps : (u : ℕ) → In u m → In u (m + 2 ^ v)
  more_keeps u h = has_more u ∙ ap (λ (b : Bool). b || eqb u v) h

  more_cases : (u : ℕ) → In u (m + 2 ^ v) → In u m ⊎ (u ≡ v)
  more_cases u h = elim (cases_Bool (has m u)) [
    | inl k ↦ inl k
    | inr k ↦ inr (eqb-true u v (sym (has_more u ∙ ap (λ (b : Bool). b || eqb u v) k) ∙ h))
  ]

-- m is an ideal of the first n operators, p giving the predecessors
pub record Closed (p : ℕ → ℕ) (n m : ℕ) : Type 0 where
  pub only : (v : ℕ) → In v m → v < n
  pub closed : (u v : ℕ) → In u (p v) → In v m → In u m

module _ (p : ℕ → ℕ) (up : (u v : ℕ) → In u (p v) → u < v) where
  with_last : (v m : ℕ) → Closed p v m → inside (p v) m ≡ true → Closed p (suc v) (m + 2 ^ v)
  with_last v m d Has-All =
      let low = below_power v m d.only in
      record {
        only = λ u h. elim (more_cases v m low u h) [
          | inl k ↦ let near : u < v = d.only u k in omega arith
          | inr k ↦ omega arith
        ];
        closed = λ u w e h. elim (more_cases v m low w h) [
          | inl k ↦ more_keeps v m low u (d.closed u w e k)
          | inr k ↦ more_keeps v m low u ((inside_means (p v) m).0 Has-All u (subst (λ (x : ℕ). In u (p x)) k e))
        ];
      }

  wider : (v m : ℕ) → Closed p v m → Closed p (suc v) m
  wider v m d = record { only = λ u h. omega (arith, d.only u h); closed = d.closed }

  pub grown_closed : (v : ℕ) → All (Closed p v) (grown p v)
  unfolding grown
  grown_closed zero =
      All-cons (Closed p 0) 0 [] (record { only = λ v h. absurd (both_ways (has 0 v) (has_none v) h); closed = λ u v e h. absurd (both_ways (has 0 v) (has_none v) h) })
      (All-nil (Closed p 0))
  grown_closed (suc v) =
      let listed = grown_closed v in
      let kept = filter (inside (p v)) (grown p v) in
      All-append (Closed p (suc v)) (grown p v) (above v (p v) (grown p v))
      (All-weaker (Closed p v) (Closed p (suc v)) (wider v) (grown p v) listed)
      (All-map (Closed p (suc v)) (λ (m : ℕ). m + 2 ^ v) kept
      (All-weaker (λ m. Closed p v m × (inside (p v) m ≡ true)) (λ m. Closed p (suc v) (m + 2 ^ v)) (λ m h. with_last v m h.0 h.1) kept
      (λ i d h. (All-filter (inside (p v)) (Closed p v) (grown p v) listed i d h, filter_passes (inside (p v)) (grown p v) i d h))))

  -- an ideal that holds the last operator, without it
  without_last : (v m : ℕ) → Closed p (suc v) m → In v m → (r : ℕ) × (r + 2 ^ v ≡ m) × Closed p v r × (inside (p v) r ≡ true)
  without_last v m d last =
      let high : 2 ^ v ≤ m = elim (cases_lt m (2 ^ v)) [ inl h ↦ absurd (both_ways (has m v) (has_above v m v h (omega arith)) last) | inr h ↦ h ] in
      let r : ℕ = m - 2 ^ v in
      let adds : r + 2 ^ v ≡ m = omega arith in
      let low : r < 2 ^ v = omega (arith, below_power (suc v) m d.only, pow-suc 2 v) in
      let in-m : (u : ℕ) → In u r → In u m = λ u h. subst (λ (x : ℕ). In u x) adds (more_keeps v r low u h) in
      let in-r : (u : ℕ) → u < v → In u m → In u r = λ u near h. elim (more_cases v r low u (subst (λ (x : ℕ). In u x) (sym adds) h)) [
        | inl k ↦ k
        | inr k ↦ absurd (omega arith)
      ] in
      let only : (u : ℕ) → In u r → u < v = λ u h. elim (cases_lt u v) [
        | inl k ↦ k
        | inr k ↦ absurd (both_ways (has r u) (has_above v r u low k) h)
      ] in (
        r,
        adds,
        record { only = only; closed = λ u w e h. in-r u (omega (arith, up u w e, only w h)) (d.closed u w e (in-m w h)) },
        (inside_means (p v) r).1 (λ u e. in-r u (up u v e) (d.closed u v e last)),
      )

  narrower : (v m : ℕ) → Closed p (suc v) m → has m v ≡ false → Closed p v m
  narrower v m d out = record {
    only = λ u h. elim (cases_lt u v) [
      | inl k ↦ k
      | inr k ↦ let same : u ≡ v = omega (arith, d.only u h, k) in absurd (both_ways (has m v) out (subst (λ (x : ℕ). In x m) same h))
    ];
    closed = d.closed;
  }

  pub closed_listed : (v m : ℕ) → Closed p v m → Listed m (grown p v)
  unfolding grown
  closed_listed zero m d = (zero, omega arith, sym (same_sets m 0 (λ v. elim (cases_Bool (has m v)) [ inl h ↦ absurd (omega (arith, d.only v h)) | inr h ↦ h ∙ sym (has_none v) ])))
  closed_listed (suc v) m d = elim (cases_Bool (has m v)) [
    | inl h ↦
        let t = without_last v m d h in
        listed_right m (grown p v) (above v (p v) (grown p v))
        (subst (λ (x : ℕ). Listed x (above v (p v) (grown p v))) t.1
        (listed_map (λ x. x + 2 ^ v) t.0 (filter (inside (p v)) (grown p v))
        (listed_kept (inside (p v)) t.0 (grown p v) t.3 (closed_listed v t.0 t.2))))
    | inr h ↦ listed_left m (grown p v) (above v (p v) (grown p v)) (closed_listed v m (narrower v m d h))
  ]

  pub full_closed : (n : ℕ) → Closed p n (full n)
  full_closed n = record {
    only = λ v h. ltb-true v n (sym (has_full n v) ∙ h);
    closed = λ u v e h. has_full n u ∙ lt-ltb u n (omega (arith, up u v e, ltb-true v n (sym (has_full n v) ∙ h)));
  }

pub grown_ascends : (p : ℕ → ℕ) (v : ℕ) → Ascends (grown p v)
unfolding grown
grown_ascends p zero = λ i j d h l. absurd (omega arith)
grown_ascends p (suc v) =
    let kept = filter (inside (p v)) (grown p v) in
    ascends_append (2 ^ v) (grown p v) (above v (p v) (grown p v)) (grown_ascends p v)
    (ascends_map (2 ^ v) kept (AllPairs-filter (λ x y. x < y) (inside (p v)) (grown p v) (grown_ascends p v)))
    (grown_small p v)
    (All-map (λ y. 2 ^ v ≤ y) (λ (m : ℕ). m + 2 ^ v) kept
    (All-weaker (λ m. inside (p v) m ≡ true) (λ m. 2 ^ v ≤ m + 2 ^ v) (λ m h. omega arith) kept (filter_passes (inside (p v)) (grown p v))))
