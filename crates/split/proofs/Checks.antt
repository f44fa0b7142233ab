-- A chain of checks tells nothing exactly if none of them complains, and otherwise what the first that complains tells.
use Rattle.std.proofs.Common.{◌≡◌, ℕ, Bool, true, List, [], arith}
use Rattle.sheet.specs.Changes.{unless, first}
use Rattle.split.specs.declared.stages.Breach.{Breach}
use Rattle.split.specs.Breaches.{told_breach}

-- each breach tells something
pub told_something : (b : Breach) → told_breach b ≡ [] → ⊥
told_something b h = grind arith

pub unless_nothing : (c : Bool) (b : Breach) → unless c (told_breach b) ≡ [] → c ≡ true
unless_nothing c b h = grind arith

pub first_nothing : (r s : List ℕ) → first r s ≡ [] → (r ≡ []) × (s ≡ [])
first_nothing r s h = grind arith

pub first_stops : (b : Breach) (r s : List ℕ) → told_breach b ≡ r → told_breach b ≡ first r s
first_stops b r s h = grind arith
