-- The ideals of a network, and the list of them.
--   Ideal n m      m is a set of operators that holds, with each, every operator that has an edge to it
--   grown p v      the ideals among the first v operators, p giving their predecessors: those without the last operator, then those with it
--   ideals n       all ideals
--   most_ideals    how many a table takes at most
--   room len       how many a table of this length takes
--   over xs t      the table t with xs at its front
use Rattle.std.specs.Prelude.{ℕ, zero, suc, ◌+◌, ◌^◌, ◌<◌, min, cond, List, [], ◌∷◌, ◌++◌, map, length, drop, Some, None, filter, Option, nat_le}
use Rattle.sets.specs.Sets.{In, inside}
use Rattle.sheet.specs.Nets.{Net, size, Edge, before}

pub record Ideal (n : Net) (m : ℕ) : Type 0 where
  pub only : (v : ℕ) → In v m → v < size n
  pub closed : (u v : ℕ) → Edge n u v → In v m → In u m

-- the sets of a list that hold all of p, each with operator v added
abbrev pub above : ℕ → ℕ → List ℕ → List ℕ
above v p ms = map (λ m. m + 2 ^ v) (filter (inside p) ms)

unfoldable pub grown : (ℕ → ℕ) → ℕ → List ℕ
grown p zero = 0 ∷ []
grown p (suc v) = grown p v ++ above v (p v) (grown p v)

abbrev pub ideals : Net → List ℕ
ideals n = grown (before n) (size n)

abbrev pub most_ideals : ℕ
most_ideals = 4096

abbrev pub room : ℕ → ℕ
room len = min most_ideals len

abbrev pub over : {X : Type 0} → List X → List X → List X
over xs t = xs ++ drop (length xs) t

-- a count, where there is room for so many
abbrev pub fitting : ℕ → ℕ → Option ℕ
fitting most count = cond (nat_le count most) (Some count) None
