-- The recurrence in the words of its rule.
--   Offered a b i c   c is a candidate for ideal i: from an ideal before it and inside it, a rating that stands with one device
--                     of the candidate's kind less, joined with the load that the kind answers for the difference
--   Chosen a b i c    a least candidate, and among equal ones that from the smallest index, then that of kind 1
--   Follows           each pick is chosen so, and there is none exactly where there is no candidate
--   FollowsOn s       the same in every setting on the scale s
use Rattle.std.specs.Prelude.{◌≡◌, ℕ, suc, ◌-◌, ◌<◌, ◌≤◌, Bool, true, ◌⊎◌, List, Some, None, Option}
use Rattle.sets.specs.Sets.{inside}
use Rattle.device.specs.Loads.{PlainLoad}
use Rattle.scale.specs.Rules.{Rules}
use Rattle.recurrence.specs.Table.{KindNumber, one, two, number, Candidate, Setting, ideal, rating_of, best, pick}

-- the counts a and b are those of a' and b' and one device of the kind more
pub data Spends : KindNumber → ℕ → ℕ → ℕ → ℕ → Type 0 where
  first : {a b : ℕ} → Spends one a b (suc a) b
  second : {a b : ℕ} → Spends two a b a (suc b)

module _ {R : Type 0} (e : Setting R) where
  pub record Offered (a b i : ℕ) (c : Candidate R) : Type 0 where
    pub before : c.origin < i
    pub within : inside (ideal e c.origin) (ideal e i) ≡ true
    pub joins : (a' : ℕ) × (b' : ℕ) × (r : R) × (x : PlainLoad) × Spends c.kind a' b' a b × (best e a' b' c.origin ≡ Some r) × (e.ask c.kind a b (ideal e i - ideal e c.origin) ≡ Some x) × (c.rating ≡ e.rules.joined r x)

  pub record Chosen (a b i : ℕ) (c : Candidate R) : Type 0 where
    pub offered : Offered a b i c
    pub least : (d : Candidate R) → Offered a b i d → e.rules.at_most c.rating d.rating ≡ true
    pub first : (d : Candidate R) → Offered a b i d → e.rules.at_most d.rating c.rating ≡ true
        → (c.origin < d.origin) ⊎ ((c.origin ≡ d.origin) × (number c.kind ≤ number d.kind))

  pub record Follows (a b i : ℕ) : Type 0 where
    pub rated : best e a b (suc i) ≡ rating_of (pick e a b (suc i))
    pub chosen : (c : Candidate R) → pick e a b (suc i) ≡ Some c → Chosen a b (suc i) c
    pub missing : (d : Candidate R) → pick e a b (suc i) ≡ None → Offered a b (suc i) d → ⊥

abbrev pub FollowsOn : {R : Type 0} → Rules R → Type 0
FollowsOn s = (ideals : List ℕ) (bottom : ℕ → ℕ → Bool) (ask : KindNumber → ℕ → ℕ → ℕ → Option PlainLoad) (a b i : ℕ) → Follows (record { ideals = ideals; bottom = bottom; ask = ask; rules = s }) a b i
