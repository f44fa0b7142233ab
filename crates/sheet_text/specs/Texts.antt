-- The text of a sheet, as bytes. Each line ends with one line feed, and a number is decimal without leading zeros.
--   operator_line o       the line of an operator
--   edge_line u v         the line of an edge
--   counts_line k l       the line of the counts
--   edge_lines_from u s   the lines of the edges from u to each operator of the set s, ascending
--   edge_lines n          the lines of all edges, ascending by from and then by to
--   text_of n             the lines of the operators in order, of the edges and of the counts
use Rattle.std.specs.Prelude.{ℕ, List, ◌++◌, codes, decimal}
use Rattle.std.specs.List.{flat_map}
use Rattle.sets.specs.Sets.{members, upto}
use Rattle.sheet.specs.declared.operators.Operator.{Operator}
use Rattle.sheet.specs.Nets.{Net, size, after}

abbrev pub operator_line : Operator → List ℕ
operator_line o =
    codes "op " ++ (decimal o.acc ++ (codes " " ++ (decimal o.cpu ++ (codes " " ++ (decimal o.size ++ (codes " " ++ (decimal o.link ++ codes "\n")))))))

abbrev pub edge_line : ℕ → ℕ → List ℕ
edge_line u v = codes "edge " ++ (decimal u ++ (codes " " ++ (decimal v ++ codes "\n")))

abbrev pub counts_line : ℕ → ℕ → List ℕ
counts_line k l = codes "count " ++ (decimal k ++ (codes " " ++ (decimal l ++ codes "\n")))

abbrev pub edge_lines_from : ℕ → ℕ → List ℕ
edge_lines_from u s = flat_map (edge_line u) (members s)

abbrev pub edge_lines : Net → List ℕ
edge_lines n = flat_map (λ u. edge_lines_from u (after n u)) (upto (size n))

abbrev pub text_of : Net → List ℕ
text_of n = flat_map operator_line n.rows ++ (edge_lines n ++ counts_line n.k n.l)
