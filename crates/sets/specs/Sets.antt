-- Sets of operators as masks of 64 bits: bit v of a mask stands for operator v.
--   has m v        operator v is in the set m
--   In v m         the same, as a fact
--   inside s t     every operator of s is in t
--   meeting s t    some operator is in both
--   either s t     the operators of the one set or the other
--   both s t       the operators of both sets
--   without s t    the operators of s that are not in t
--   including m v  the set m with operator v
--   full n         the set of the operators below n
--   upto n         the numbers 0, 1, .. n - 1
--   members m      the operators of the set m, ascending
--   gathered p n   the set of those operators below n that pass the test p
use Rattle.std.specs.Prelude.{◌≡◌, ℕ, zero, suc, ◌+◌, ◌-◌, ◌/◌, ◌%◌, ◌^◌, Bool, true, cond, not, List, [], ◌∷◌, ◌++◌, filter, ◌==◌, bit_and, bit_or}

unfoldable pub has : ℕ → ℕ → Bool
has m v = m / 2 ^ v % 2 == 1

abbrev pub In : ℕ → ℕ → Type 0
In v m = has m v ≡ true

abbrev pub inside : ℕ → ℕ → Bool
inside s t = bit_and s t == s

abbrev pub meeting : ℕ → ℕ → Bool
meeting s t = not (bit_and s t == 0)

abbrev pub either : ℕ → ℕ → ℕ
either s t = bit_or s t

abbrev pub both : ℕ → ℕ → ℕ
both s t = bit_and s t

abbrev pub without : ℕ → ℕ → ℕ
without s t = bit_and s (2 ^ 64 - 1 - t)

abbrev pub including : ℕ → ℕ → ℕ
including m v = bit_or m (2 ^ v)

abbrev pub full : ℕ → ℕ
full n = 2 ^ n - 1

unfoldable pub upto : ℕ → List ℕ
upto zero = []
upto (suc n) = upto n ++ (n ∷ [])

abbrev pub members : ℕ → List ℕ
members m = filter (has m) (upto 64)

unfoldable pub gathered : (ℕ → Bool) → ℕ → ℕ
gathered p zero = 0
gathered p (suc v) = gathered p v + cond (p v) (2 ^ v) 0
