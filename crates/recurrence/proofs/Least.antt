-- The recurrence takes one of the candidates that it meets, and takes the first of the least.
--   Before c d    c is from a smaller index than d, or from the same one and not of a later kind
--   Seen n d      d is offered by an ideal below index n
--   Made d        d is what its origin and its kind offer
--   Leads S o     o is the first of the least of the candidates that S holds of
use Rattle.std.proofs.Common.{◌≡◌, ℕ, zero, suc, ◌<◌, ◌≤◌, Bool, true, false, cond, ◌⊎◌, Some, None, Option, sym, refl, ap, ◌∙◌, subst, inl, inr, arith}
use Rattle.std.proofs.lemmas.Bool.{both_ways, cases_eq}
use Rattle.device.specs.Loads.{PlainLoad}
use Rattle.scale.specs.Rules.{Rules}
use Rattle.recurrence.specs.Table.{KindNumber, one, two, number, Candidate, lesser, offer, among}
use Rattle.recurrence.specs.Stages.{by_kind}
use Rattle.recurrence.specs.Laws.{Ordered}
use Rattle.recurrence.proofs.Options.{some_same, none_some}

abbrev pub Before : {R : Type 0} → Candidate R → Candidate R → Type 0
Before c d = (c.origin < d.origin) ⊎ ((c.origin ≡ d.origin) × (number c.kind ≤ number d.kind))

module _ {R : Type 0} (s : Rules R) where
  -- what a candidate that is offered is made of
  pub offer_parts : (j : ℕ) (k : KindNumber) (r : Option R) (x : Option PlainLoad) (d : Candidate R) → offer s j k r x ≡ Some d
      → (t : R) × (y : PlainLoad) × (r ≡ Some t) × (x ≡ Some y) × (record { rating = s.joined t y; origin = j; kind = k } ≡ d)
  offer_parts j k None x d h = absurd (none_some h)
  offer_parts j k (Some t) None d h = absurd (none_some h)
  offer_parts j k (Some t) (Some y) d h = (t, y, refl, refl, some_same h)

  lesser_cond : (b : Bool) (x y d : Candidate R) → cond b (Some x) (Some y) ≡ Some d → (Some x ≡ Some d) ⊎ (Some y ≡ Some d)
  lesser_cond true x y d h = inl h
  lesser_cond false x y d h = inr h

  lesser_one : (x y : Option (Candidate R)) (d : Candidate R) → lesser s x y ≡ Some d → (x ≡ Some d) ⊎ (y ≡ Some d)
  lesser_one None y d h = inr h
  lesser_one (Some x) None d h = inl h
  lesser_one (Some x) (Some y) d h = lesser_cond (s.at_most x.rating y.rating) x y d h

  -- ---- the candidates that are met

  module _ (p q : ℕ → Option R) (x y : ℕ → Option PlainLoad) where
    abbrev first_offer : ℕ → Option (Candidate R)
    first_offer j = offer s j one (p j) (x j)

    abbrev second_offer : ℕ → Option (Candidate R)
    second_offer j = offer s j two (q j) (y j)

    abbrev pub Seen : ℕ → Candidate R → Type 0
    Seen zero d = ⊥
    Seen (suc j) d = (Seen j d ⊎ (first_offer j ≡ Some d)) ⊎ (second_offer j ≡ Some d)

    abbrev pub Made : Candidate R → Type 0
    Made d = offer s d.origin d.kind (by_kind d.kind (p d.origin) (q d.origin)) (by_kind d.kind (x d.origin) (y d.origin)) ≡ Some d

    pub among_seen : (n : ℕ) (d : Candidate R) → among s p q x y n ≡ Some d → Seen n d
    among_seen zero d h = absurd (none_some h)
    among_seen (suc j) d h = elim (lesser_one (lesser s (among s p q x y j) (first_offer j)) (second_offer j) d h) [
      | inl k ↦ elim (lesser_one (among s p q x y j) (first_offer j) d k) [ inl l ↦ inl (inl (among_seen j d l)) | inr l ↦ inl (inr l) ]
      | inr k ↦ inr k
    ]

    -- from the newest ideal
    first_made : (j : ℕ) (d : Candidate R) → first_offer j ≡ Some d → (d.origin ≡ j) × (number d.kind ≡ 1) × Made d
    first_made j d h =
        let t = offer_parts j one (p j) (x j) d h in
        subst (λ (c : Candidate R). (c.origin ≡ j) × (number c.kind ≡ 1) × Made c) t.4 (refl, refl, h ∙ ap Some (sym t.4))

    second_made : (j : ℕ) (d : Candidate R) → second_offer j ≡ Some d → (d.origin ≡ j) × (number d.kind ≡ 2) × Made d
    second_made j d h =
        let t = offer_parts j two (q j) (y j) d h in
        subst (λ (c : Candidate R). (c.origin ≡ j) × (number c.kind ≡ 2) × Made c) t.4 (refl, refl, h ∙ ap Some (sym t.4))

    pub seen_made : (n : ℕ) (d : Candidate R) → Seen n d → (d.origin < n) × Made d
    seen_made zero d h = absurd h
    seen_made (suc j) d (inl (inl h)) = let t = seen_made j d h in (omega (arith, t.0), t.1)
    seen_made (suc j) d (inl (inr h)) = let t = first_made j d h in (omega (arith, t.0), t.2)
    seen_made (suc j) d (inr h) = let t = second_made j d h in (omega (arith, t.0), t.2)

    newest : (n j : ℕ) (k : KindNumber) (d : Candidate R) → j ≡ n → offer s j k (by_kind k (p j) (q j)) (by_kind k (x j) (y j)) ≡ Some d → Seen (suc n) d
    newest n j one d same h = inl (inr (subst (λ (i : ℕ). first_offer i ≡ Some d) same h))
    newest n j two d same h = inr (subst (λ (i : ℕ). second_offer i ≡ Some d) same h)

    pub made_seen : (n : ℕ) (d : Candidate R) → d.origin < n → Made d → Seen n d
    made_seen zero d below h = absurd (omega arith)
    made_seen (suc j) d below h = elim (cases_eq d.origin j) [
      | inl same ↦ newest j d.origin d.kind d same h
      | inr other ↦ inl (inl (made_seen j d (omega arith) h))
    ]

    -- ---- each comes after those that were met before

    first_after : (j : ℕ) (c d : Candidate R) → Seen j c → first_offer j ≡ Some d → Before c d
    first_after j c d h k = inl (omega (arith, (seen_made j c h).0, (first_made j d k).0))

    second_after : (j : ℕ) (c d : Candidate R) → Seen j c ⊎ (first_offer j ≡ Some c) → second_offer j ≡ Some d → Before c d
    second_after j c d (inl h) k = inl (omega (arith, (seen_made j c h).0, (second_made j d k).0))
    second_after j c d (inr h) k = let t = first_made j c h in let u = second_made j d k in inr (t.0 ∙ sym u.0, omega (arith, t.1, u.1))

  -- ---- the first of the least

  abbrev pub Leads : (Candidate R → Type 0) → Option (Candidate R) → Type 0
  Leads S None = (d : Candidate R) → S d → ⊥
  Leads S (Some c) = (d : Candidate R) → S d → (s.at_most c.rating d.rating ≡ true) × (s.at_most d.rating c.rating ≡ true → Before c d)

  module _ (ordered : Ordered s) where
    pub at_most_self : (r : R) → s.at_most r r ≡ true
    at_most_self r = go (s.at_most r r) refl
      where
        go : (b : Bool) → s.at_most r r ≡ b → s.at_most r r ≡ true
        go true h = h
        go false h = ordered.total r r h

    leads_itself : (c d : Candidate R) → Some c ≡ Some d → (s.at_most c.rating d.rating ≡ true) × (s.at_most d.rating c.rating ≡ true → Before c d)
    leads_itself c d h = subst (λ (z : Candidate R). (s.at_most c.rating z.rating ≡ true) × (s.at_most z.rating c.rating ≡ true → Before c z)) (some_same h) (at_most_self c.rating, λ _. inr (refl, omega arith))

    module _ (S : Candidate R → Type 0) where
      abbrev And : Option (Candidate R) → Candidate R → Type 0
      And o d = S d ⊎ (o ≡ Some d)

      leads_cond : (c x : Candidate R) (b : Bool) → s.at_most c.rating x.rating ≡ b → Leads S (Some c) → ((d : Candidate R) → Some x ≡ Some d → Before c d) → Leads (And (Some x)) (cond b (Some c) (Some x))
      leads_cond c x true h l after = λ d k. elim k [
        | inl m ↦ l d m
        | inr m ↦ (subst (λ (z : Candidate R). s.at_most c.rating z.rating ≡ true) (some_same m) h, λ _. after d m)
      ]
      leads_cond c x false h l after = λ d k. elim k [
        | inl m ↦
            let old = l d m in
            (ordered.transitive x.rating c.rating d.rating (ordered.total c.rating x.rating h) old.0, λ tie. absurd (both_ways (s.at_most c.rating x.rating) h (ordered.transitive c.rating d.rating x.rating old.0 tie)))
        | inr m ↦ leads_itself x d m
      ]

      -- one candidate more, after those of S
      leads_more : (o x : Option (Candidate R)) → Leads S o → ((c d : Candidate R) → o ≡ Some c → x ≡ Some d → Before c d) → Leads (And x) (lesser s o x)
      leads_more None None l after = λ d k. elim k [ inl m ↦ l d m | inr m ↦ none_some m ]
      leads_more None (Some x) l after = λ d k. elim k [ inl m ↦ absurd (l d m) | inr m ↦ leads_itself x d m ]
      leads_more (Some c) None l after = λ d k. elim k [ inl m ↦ l d m | inr m ↦ absurd (none_some m) ]
      leads_more (Some c) (Some x) l after = leads_cond c x (s.at_most c.rating x.rating) refl l (λ d m. after c d refl m)

    pub among_leads : (p q : ℕ → Option R) (x y : ℕ → Option PlainLoad) (n : ℕ) → Leads (Seen p q x y n) (among s p q x y n)
    among_leads p q x y zero = λ d h. h
    among_leads p q x y (suc j) =
        let before = among s p q x y j in
        let first = offer s j one (p j) (x j) in
        let half = leads_more (Seen p q x y j) before first (among_leads p q x y j) (λ c d h k. first_after p q x y j c d (among_seen p q x y j c h) k) in
        leads_more (λ d. Seen p q x y j d ⊎ (first ≡ Some d)) (lesser s before first) (offer s j two (q j) (y j)) half
        (λ c d h k. second_after p q x y j c d (elim (lesser_one before first c h) [ inl m ↦ inl (among_seen p q x y j c m) | inr m ↦ inr m ]) k)
