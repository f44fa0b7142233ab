use Rattle.std.specs.Prelude.{ℕ, zero, suc, ◌+◌, ◌*◌, ◌/◌, ◌%◌, ◌<◌, List, [], ◌∷◌, take, drop}
use Rattle.std.specs.List.{AllByRecursion}

-- the number that bytes stand for, the low byte first
abbrev pub little : List ℕ → ℕ
little [] = 0
little (b ∷ bs) = b + 256 * little bs

-- the n lowest bytes of x, the low byte first
abbrev pub spread : ℕ → ℕ → List ℕ
spread zero x = []
spread (suc n) x = x % 256 ∷ spread n (x / 256)

-- the number of the n bytes from the place `at`
abbrev pub field : List ℕ → ℕ → ℕ → ℕ
field bs at n = little (take n (drop at bs))

-- each is a byte
abbrev pub Bytes : List ℕ → Type 0
Bytes bs = AllByRecursion (λ b. b < 256) bs
