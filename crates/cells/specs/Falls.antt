-- Rows in which no cell is worse than one with no more devices.
--   holds c              a candidate was written in the cell c: its kind is not 0
--   candidate s by x f   the rating that the cell f gives with a stage of load x, where one stands there of the ideal that the choice by names
--   settled s r c        the cell c holds a candidate that is at most r
--   NoWorse s p c d      where c passes p, d does too, and its rating is at most that of c
--   Falls s p l n row    of the first n lines of the row no cell that passes p is worse than one with no more devices of either kind
--   BothFall             so does the row at f, of ideal j, by what stands there of that ideal, and the row at t by what it holds
--   leads_on k l j row   in the row of ideal j a rating stands in the last cell from which a stage of one kind or the other leads on
--   Bounded              the n cells from f on give no candidate below r to those from t on, and of these none is worse than one before
--   Within l n t may     in the first n lines of the row at t each cell went as it may, and no other cell changed
use Rattle.std.specs.Prelude.{◌≡◌, ℕ, ◌+◌, ◌-◌, ◌*◌, ◌<◌, ◌≤◌, Bool, true, cond, not, ◌&&◌, ◌||◌, ◌==◌, ◌⊎◌, Some, None, Option}
use Rattle.device.specs.Loads.{PlainLoad}
use Rattle.scale.specs.Rules.{Rules}
use Rattle.cells.specs.declared.choices.Choice.{Choice}
use Rattle.cells.specs.Cells.{Cell, stands}
use Rattle.device.specs.declared.which_kinds.WhichKind.{WhichKind}
use Rattle.device.specs.declared.which_kinds.WhichKind.TheVariants.{First}
use Rattle.cells.specs.Rows.{by_first, place, row, second, on, both}

abbrev pub leads_on : {R : Type 0} → ℕ → ℕ → ℕ → (ℕ → ℕ → Cell R) → Bool
leads_on k l j row = (not (k == 0) && stands (by_first j) (row (k - 1) l)) || (not (l == 0) && stands (by_first j) (row k (l - 1)))

abbrev pub holds : {R : Type 0} → Cell R → Bool
holds c = not (c.choice.kind == 0)

module _ {R : Type 0} (s : Rules R) where
  abbrev pub candidate : Choice → PlainLoad → Cell R → Option R
  candidate by x f = cond (stands by f) (Some (s.joined f.rating x)) None

  abbrev pub settled : R → Cell R → Bool
  settled r c = holds c && s.at_most c.rating r

  abbrev pub NoWorse : (Cell R → Bool) → Cell R → Cell R → Type 0
  NoWorse p c d = p c ≡ true → (p d ≡ true) × (s.at_most d.rating c.rating ≡ true)

  abbrev pub Falls : (Cell R → Bool) → ℕ → ℕ → (ℕ → ℕ → Cell R) → Type 0
  Falls p l n row = (a b a' b' : ℕ) → a ≤ a' → a' < n → b ≤ b' → b' ≤ l → NoWorse p (row a b) (row a' b')

  abbrev pub BothFall : ℕ → ℕ → ℕ → ℕ → ℕ → (ℕ → Cell R) → Type 0
  BothFall k l j f t table = Falls (stands (by_first j)) l (k + 1) (row l f table) × Falls holds l (k + 1) (row l t table)

  -- from c a cell went to d: it is as it was, or offered to on the kind w
  abbrev pub PerhapsOn : WhichKind → ℕ → Option PlainLoad → (ℕ → ℕ → Cell R) → ℕ → ℕ → Cell R → Cell R → Type 0
  PerhapsOn w j x from a b c d = (d ≡ c) ⊎ (d ≡ on s w j x from a b c)

  -- or on one kind, the other or both
  abbrev pub PerhapsBoth : ℕ → Option PlainLoad → Option PlainLoad → (ℕ → ℕ → Cell R) → ℕ → ℕ → Cell R → Cell R → Type 0
  PerhapsBoth j x y from a b c d = PerhapsOn First j x from a b c d ⊎ ((d ≡ second s j y from a b c) ⊎ (d ≡ both s j x y from a b c))

  pub record Bounded (by : Choice) (x : PlainLoad) (r : R) (f t n : ℕ) (table : ℕ → Cell R) : Type 0 where
    pub offers : (d : ℕ) → d < n → stands by (table (f + d)) ≡ true → s.at_most r (s.joined (table (f + d)).rating x) ≡ true
    pub falls : (d e : ℕ) → d ≤ e → e < n → NoWorse holds (table (t + d)) (table (t + e))

-- each cell of the first n lines of the row at t went as it may, and no other cell changed
pub record Within {R : Type 0} (l n t : ℕ) (may : ℕ → ℕ → Cell R → Cell R → Type 0) (t₀ t₁ : ℕ → Cell R) : Type 0 where
  pub here : (a b : ℕ) → a < n → b ≤ l → may a b (t₀ (t + place l a b)) (t₁ (t + place l a b))
  pub below : (c : ℕ) → c < t → t₁ c ≡ t₀ c
  pub above : (c : ℕ) → t + n * (l + 1) ≤ c → t₁ c ≡ t₀ c
