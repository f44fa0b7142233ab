-- What one operator more in a set does to the tests of sets.
use Rattle.std.proofs.Common.{◌≡◌, ℕ, false, ◌||◌, eqb, ◌⊎◌, sym, refl, ◌∙◌, subst, inl, inr}
use Rattle.std.proofs.lemmas.Bool.{both_ways, eqb-true, eq-eqb, or_cases, or_left, or_right}
use Rattle.std.proofs.lemmas.Bool.Decides.{same_from_decides, Decides-like, Decides-or}
use Rattle.sets.specs.Sets.{has, In, inside, meeting, including}
use Rattle.sets.proofs.Sets.{has_including, inside_means, meeting_means}

module _ (s m v : ℕ) where
  in_more : (u : ℕ) → In u (including m v) → In u m ⊎ (u ≡ v)
  in_more u h = elim (or_cases (has m u) (eqb u v) (sym (has_including m v u) ∙ h)) [ inl e ↦ inl e | inr e ↦ inr (eqb-true u v e) ]

  in_still : (u : ℕ) → In u m → In u (including m v)
  in_still u h = has_including m v u ∙ or_left (has m u) (eqb u v) h

  in_new : In v (including m v)
  in_new = has_including m v v ∙ or_right (has m v) (eqb v v) (eq-eqb v v refl)

  pub meeting_more : meeting s (including m v) ≡ (meeting s m || has s v)
  meeting_more = same_from_decides (meeting s (including m v)) (meeting s m || has s v) (Decides-like (meeting s (including m v)) to from (meeting_means s (including m v))) (Decides-or (meeting s m) (has s v) (meeting_means s m) (λ e. e, λ e. e))
    where
      to : ((u : ℕ) × (In u s × In u (including m v))) → ((u : ℕ) × (In u s × In u m)) ⊎ In v s
      to p = elim (in_more p.0 p.1.1) [ inl e ↦ inl (p.0, (p.1.0, e)) | inr e ↦ inr (subst (λ (u : ℕ). In u s) e p.1.0) ]

      from : (((u : ℕ) × (In u s × In u m)) ⊎ In v s) → (u : ℕ) × (In u s × In u (including m v))
      from q = elim q [ inl p ↦ (p.0, (p.1.0, in_still p.0 p.1.1)) | inr e ↦ (v, (e, in_new)) ]

  pub inside_more : has s v ≡ false → inside s (including m v) ≡ inside s m
  inside_more out = same_from_decides (inside s (including m v)) (inside s m) (Decides-like (inside s (including m v)) to from (inside_means s (including m v))) (inside_means s m)
    where
      to : ((u : ℕ) → In u s → In u (including m v)) → (u : ℕ) → In u s → In u m
      to all u h = elim (in_more u (all u h)) [ inl e ↦ e | inr e ↦ absurd (both_ways (has s v) out (subst (λ (x : ℕ). In x s) e h)) ]

      from : ((u : ℕ) → In u s → In u m) → (u : ℕ) → In u s → In u (including m v)
      from all u h = in_still u (all u h)
