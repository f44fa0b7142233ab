-- The fields of a line. A line is a list of bytes.
--   is_blank b    a space, a tab or a carriage return
--   said line     the line up to its comment
--   fields bs     what stands between blanks, where something does
use Rattle.std.specs.Prelude.{ℕ, Bool, ◌==◌, ◌||◌, List, length, filter, nat_lt}
use Rattle.std.specs.List.{slice_split, before_first}

abbrev pub is_blank : ℕ → Bool
is_blank b = b == 32 || (b == 9 || b == 13)

abbrev pub said : List ℕ → List ℕ
said line = before_first (λ b. b == 35) line

unfoldable pub fields : List ℕ → List (List ℕ)
fields bs = filter (λ f. nat_lt 0 (length f)) (slice_split is_blank bs)
