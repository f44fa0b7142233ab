-- A chain of checks tells nothing exactly if none of them complains.
use Rattle.std.proofs.Common.{◌≡◌, ℕ, zero, suc, ◌<◌, Bool, true, false, List, [], ◌∷◌, refl, ap, ◌∙◌, inl, inr, arith}
use Rattle.refusals.specs.declared.Refusal.{Refusal}
use Rattle.refusals.specs.Told.{told}
use Rattle.refusals.proofs.Tellings.{something, told_something}
use Rattle.std.proofs.lemmas.Bool.{cases_eq}
use Rattle.sheet.specs.Changes.{unless, first}
use Rattle.sheet_layout.specs.Bodies.{first_wrong}

-- ---- one check

pub unless_nothing : (b : Bool) (e : Refusal) → unless b (told e) ≡ [] → b ≡ true
unless_nothing true e h = refl
unless_nothing false e h = absurd (told_something e h)

pub nothing_unless : (b : Bool) (r : List ℕ) → b ≡ true → unless b r ≡ []
nothing_unless b r h = rw h refl

-- ---- two checks

pub first_nothing : (r s : List ℕ) → first r s ≡ [] → (r ≡ []) × (s ≡ [])
first_nothing [] s h = (refl, h)
first_nothing (x ∷ r) s h = absurd (something x r h)

pub nothing_first : (r s : List ℕ) → r ≡ [] → s ≡ [] → first r s ≡ []
nothing_first r s g h = rw g h

-- ---- the same check at each of n entries

pub first_wrong_nothing : (check : ℕ → List ℕ) (n : ℕ) → first_wrong check n ≡ [] → (i : ℕ) → i < n → check i ≡ []
unfolding first_wrong
first_wrong_nothing check zero h i l = absurd (omega arith)
first_wrong_nothing check (suc n) h i l =
    let both = first_nothing (first_wrong check n) (check n) h in
    elim (cases_eq i n) [
      | inl e ↦ ap check e ∙ both.1
      | inr e ↦ first_wrong_nothing check n both.0 i (omega arith)
    ]

pub nothing_first_wrong : (check : ℕ → List ℕ) (n : ℕ) → ((i : ℕ) → i < n → check i ≡ []) → first_wrong check n ≡ []
unfolding first_wrong
nothing_first_wrong check zero h = refl
nothing_first_wrong check (suc n) h =
    nothing_first (first_wrong check n) (check n) (nothing_first_wrong check n (λ i l. h i (omega arith))) (h n (omega arith))

-- one entry more
pub first_wrong_more : (check : ℕ → List ℕ) (n : ℕ) → first_wrong check (suc n) ≡ first (first_wrong check n) (check n)
unfolding first_wrong
first_wrong_more check n = refl
