-- What the operations on masks mean for the members of sets. A mask has 64 bits.
use Rattle.std.specs.Prelude.{◌≡◌, ℕ, ◌^◌, ◌<◌, Bool, not, ◌&&◌, ◌||◌, length, Decides, ◌==◌, count_ones, nat_lt}
use Rattle.sets.specs.Sets.{has, In, inside, meeting, either, both, without, including, full, members, gathered}

pub record Laws (s t : ℕ) : Type 0 where
  -- two masks with the same members are equal
  pub same : Decides (s == t) ((v : ℕ) → has s v ≡ has t v)
  pub in_either : (v : ℕ) → has (either s t) v ≡ (has s v || has t v)
  pub in_both : (v : ℕ) → has (both s t) v ≡ (has s v && has t v)
  pub in_without : (v : ℕ) → has (without s t) v ≡ (has s v && not (has t v))
  pub in_including : (u v : ℕ) → has (including s u) v ≡ (has s v || v == u)
  pub in_full : (n v : ℕ) → has (full n) v ≡ nat_lt v n
  -- a set that a test gathers has those below n that pass it
  pub in_gathered : (p : ℕ → Bool) (n v : ℕ) → has (gathered p n) v ≡ (nat_lt v n && p v)
  pub all_inside : Decides (inside s t) ((v : ℕ) → In v s → In v t)
  pub some_meet : Decides (meeting s t) ((v : ℕ) × (In v s × In v t))
  -- as many ones as members
  pub counted : count_ones s ≡ length (members s)

abbrev pub LawsStand : Type 0
LawsStand = (s t : ℕ) → s < 2 ^ 64 → t < 2 ^ 64 → Laws s t
