-- What an offer makes of a cell: no worse a cell, and the same one where it is settled.
use Rattle.std.proofs.Common.{◌≡◌, Bool, true, false, not, ◌⊎◌, Some, None, refl, ap, inl, inr, ⊎_elim}
use Rattle.std.specs.Prelude.{◌==◌}
use Rattle.std.proofs.lemmas.Bool.{cases_Bool, both_ways, and_from, and_parts}
use Rattle.device.specs.Loads.{PlainLoad}
use Rattle.scale.specs.Rules.{Rules}
use Rattle.cells.specs.declared.choices.Choice.{Choice}
use Rattle.cells.specs.Cells.{Cell, stands, offered}
use Rattle.cells.specs.Falls.{holds, candidate, settled, NoWorse}

module _ {R : Type 0} (s : Rules R) (by : Choice) (x : PlainLoad) where
  -- nothing stands where the offer comes from
  record Vain (f c : Cell R) : Type 0 where
    pub nothing : stands by f ≡ false
    pub is : offered s by x f c ≡ c

  -- what is held is at most the candidate
  record Kept (f c : Cell R) : Type 0 where
    pub held : holds c ≡ true
    pub at_most : s.at_most c.rating (s.joined f.rating x) ≡ true
    pub is : offered s by x f c ≡ c

  -- the candidate is less, or the first
  record Taken (f c : Cell R) : Type 0 where
    pub stood : stands by f ≡ true
    pub lower : holds c ≡ true → s.at_most c.rating (s.joined f.rating x) ≡ false
    pub is : offered s by x f c ≡ record { rating = s.joined f.rating x; choice = by }

  ways_by : (t z m : Bool) (f c : Cell R) → stands by f ≡ t → (c.choice.kind == 0) ≡ z → s.at_most c.rating (s.joined f.rating x) ≡ m → Vain f c ⊎ (Kept f c ⊎ Taken f c)
  ways_by false z m f c t-is z-is m-is = inl (record { nothing = t-is; is = rw t-is refl })
  ways_by true true m f c t-is z-is m-is = inr (inr (record { stood = t-is; lower = λ h. absurd (both_ways (holds c) (ap not z-is) h); is = rw (t-is, z-is) refl }))
  ways_by true false true f c t-is z-is m-is = inr (inl (record { held = ap not z-is; at_most = m-is; is = rw (t-is, z-is, m-is) refl }))
  ways_by true false false f c t-is z-is m-is = inr (inr (record { stood = t-is; lower = λ h. m-is; is = rw (t-is, z-is, m-is) refl }))

  ways : (f c : Cell R) → Vain f c ⊎ (Kept f c ⊎ Taken f c)
  ways f c = ways_by (stands by f) (c.choice.kind == 0) (s.at_most c.rating (s.joined f.rating x)) f c refl refl refl

module _ {R : Type 0} (s : Rules R) (total : (x y : R) → s.at_most x y ≡ false → s.at_most y x ≡ true) (transitive : (x y z : R) → s.at_most x y ≡ true → s.at_most y z ≡ true → s.at_most x z ≡ true) where
  pub at_most_self : (r : R) → s.at_most r r ≡ true
  at_most_self r = ⊎_elim (λ e. e) (λ e. total r r e) (cases_Bool (s.at_most r r))

  pub no_worse_then : (p : Cell R → Bool) (c d e : Cell R) → NoWorse s p c d → NoWorse s p d e → NoWorse s p c e
  no_worse_then p c d e f g h =
      let there = f h in
      let then = g there.0 in
      (then.0, transitive e.rating d.rating c.rating then.1 there.1)

  pub settled_then : (r : R) (c d : Cell R) → settled s r c ≡ true → NoWorse s holds c d → settled s r d ≡ true
  settled_then r c d h f =
      let parts = and_parts (holds c) (s.at_most c.rating r) h in
      let then = f parts.0 in
      and_from (holds d) (s.at_most d.rating r) then.0 (transitive d.rating c.rating r then.1 parts.1)

  module _ (by : Choice) (x : PlainLoad) where
    -- no candidate of the cell f is below r
    abbrev pub AtLeast : R → Cell R → Type 0
    AtLeast r f = stands by f ≡ true → s.at_most r (s.joined f.rating x) ≡ true

    pub settled_kept : (r : R) (f c : Cell R) → AtLeast r f → settled s r c ≡ true → offered s by x f c ≡ c
    settled_kept r f c bound h = elim (ways s by x f c) [
      | inl w ↦ w.is
      | inr w ↦ elim w [
        | inl k ↦ k.is
        | inr t ↦
            let parts = and_parts (holds c) (s.at_most c.rating r) h in
            absurd (both_ways (s.at_most c.rating (s.joined f.rating x)) (t.lower parts.0) (transitive c.rating r (s.joined f.rating x) parts.1 (bound t.stood)))
      ]
    ]

    module _ (named : (by.kind == 0) ≡ false) where
      -- a cell that is offered to is no worse than it was, and rates at most the candidate
      pub no_worse_offered : (f c : Cell R) → NoWorse s holds c (offered s by x f c)
      no_worse_offered f c h = elim (ways s by x f c) [
        | inl w ↦ rw w.is (h, at_most_self c.rating)
        | inr w ↦ elim w [
          | inl k ↦ rw k.is (h, at_most_self c.rating)
          | inr t ↦ rw t.is (ap not named, total c.rating (s.joined f.rating x) (t.lower h))
        ]
      ]

      at_most_offered : (f c : Cell R) → stands by f ≡ true → (holds (offered s by x f c) ≡ true) × (s.at_most (offered s by x f c).rating (s.joined f.rating x) ≡ true)
      at_most_offered f c h = elim (ways s by x f c) [
        | inl w ↦ absurd (both_ways (stands by f) w.nothing h)
        | inr w ↦ elim w [
          | inl k ↦ rw k.is (k.held, k.at_most)
          | inr t ↦ rw t.is (ap not named, at_most_self (s.joined f.rating x))
        ]
      ]

      -- so it stays with cells of which one is no worse than the other
      pub no_worse_both : (monotone : (y z : R) → s.at_most y z ≡ true → s.at_most (s.joined y x) (s.joined z x) ≡ true) (f f' c c' : Cell R) → NoWorse s (stands by) f f' → NoWorse s holds c c' → NoWorse s holds (offered s by x f c) (offered s by x f' c')
      no_worse_both monotone f f' c c' from to = elim (ways s by x f c) [
        | inl w ↦ rw w.is (no_worse_then holds c c' (offered s by x f' c') to (no_worse_offered f' c'))
        | inr w ↦ elim w [
          | inl k ↦ rw k.is (no_worse_then holds c c' (offered s by x f' c') to (no_worse_offered f' c'))
          | inr t ↦
              let there = from t.stood in
              let least = at_most_offered f' c' there.0 in
              rw t.is (λ h. (least.0, transitive (offered s by x f' c').rating (s.joined f'.rating x) (s.joined f.rating x) least.1 (monotone f'.rating f.rating there.1)))
        ]
      ]

    -- what the cell f gives is at least what one gives that is no worse
    pub candidate_bounds : (monotone : (y z : R) → s.at_most y z ≡ true → s.at_most (s.joined y x) (s.joined z x) ≡ true) (r : R) (f last : Cell R) → candidate s by x last ≡ Some r → NoWorse s (stands by) f last → AtLeast r f
    candidate_bounds monotone r f last is from h =
        let there = from h in
        let rated : s.joined last.rating x ≡ r = (let e = rw there.0 at is in cc) in
        rw (← rated) (monotone last.rating f.rating there.1)

    pub nothing_kept : (f last c : Cell R) → candidate s by x last ≡ None → NoWorse s (stands by) f last → offered s by x f c ≡ c
    nothing_kept f last c is from = elim (cases_Bool (stands by f)) [
      | inl h ↦ absurd (let there = from h in let e = rw there.0 at is in cc)
      | inr h ↦ rw h refl
    ]
