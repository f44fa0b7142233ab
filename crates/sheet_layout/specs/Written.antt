-- The bytes that the writer makes of a sheet.
--   entry_bytes s o n   a contents entry
--   row_bytes o         the figures of an operator
--   pairs_from n u      the edges from u, two bytes each, ascending
--   file_of n           the sheet file
use Rattle.std.specs.Prelude.{ℕ, ◌+◌, ◌*◌, List, [], ◌∷◌, ◌++◌, length}
use Rattle.std.specs.List.{flat_map}
use Rattle.byte_fields.specs.Little.{spread}
use Rattle.sets.specs.Sets.{members, upto}
use Rattle.sheet.specs.declared.operators.Operator.{Operator}
use Rattle.sheet.specs.Nets.{Net, size, after}
use Rattle.sheet_layout.specs.Contents.{letters}

abbrev pub entry_bytes : ℕ → ℕ → ℕ → List ℕ
entry_bytes section offset len = section ∷ (spread 2 offset ++ spread 2 len)

abbrev pub row_bytes : Operator → List ℕ
row_bytes o = spread 4 o.acc ++ (spread 4 o.cpu ++ (spread 4 o.size ++ spread 4 o.link))

abbrev pub pair_bytes : ℕ → ℕ → List ℕ
pair_bytes u v = u ∷ v ∷ []

abbrev pub pairs_from : Net → ℕ → List ℕ
pairs_from n u = flat_map (pair_bytes u) (members (after n u))

abbrev pub rows_bytes : Net → List ℕ
rows_bytes n = flat_map row_bytes n.rows

abbrev pub edges_bytes : Net → List ℕ
edges_bytes n = flat_map (pairs_from n) (upto (size n))

-- with bodies of a and b bytes before the counts
abbrev pub head_bytes : ℕ → ℕ → List ℕ
head_bytes a b = letters ++ (3 ∷ (entry_bytes 1 20 a ++ (entry_bytes 2 (20 + a) b ++ entry_bytes 3 (20 + a + b) 2)))

abbrev pub file_of : Net → List ℕ
file_of n =
    head_bytes (16 * size n) (length (edges_bytes n)) ++ (rows_bytes n ++ (edges_bytes n ++ (n.k ∷ n.l ∷ [])))
