-- The graph of a network in the language of Graphviz, as bytes. Each line ends with one line feed.
--   node_line n v       the node of operator v: its number and its figures, in three lines of a label
--   node_lines n        the nodes of all operators
--   arrow u v           an edge
--   arrows_from u s     the edges from u to each operator of the set s, ascending
--   arrows n            all edges, ascending by from and then by to
--   cluster n i st      the stage st with the number i: its label, with the letter of its kind, and the nodes of its operators
--   clusters n ss       those of all stages, first to last
--   drawn n ts ss       the graph with the stages ss, or, where something is told, with what is refused in place of them
--   graph_of n          the graph of the sheet n, with the split that its page is of
--   DrawnLeast n        of the graph of the sheet n, what its stages are
--   Draws f t           t is the graph of the sheet of the file f, or what is refused
use Rattle.std.specs.Prelude.{◌≡◌, ℕ, List, [], ◌∷◌, ◌++◌, length, codes, decimal}
use Rattle.std.specs.List.{flat_map}
use Rattle.sets.specs.Sets.{members, upto}
use Rattle.sheet.specs.Nets.{Net, size, row, after}
use Rattle.sheet_layout.specs.Bodies.{file_refusal}
use Rattle.sheet_layout.specs.Layout.{LaidOut}
use Rattle.split.specs.declared.stages.Stage.{Stage}
use Rattle.scale.specs.Scales.{peak}
use Rattle.split.specs.Splits.{stage_at, Least}
use Rattle.pages.specs.Pages.{letter}
use Rattle.page_report.specs.SplitPages.{devices, planning, found}
use Rattle.sheet_text.specs.Causes.{refused_text}

abbrev pub node_line : Net → ℕ → List ℕ
node_line n v =
    decimal v ++ (codes " [label=\"" ++ (decimal v ++ (codes "\\nacc " ++ (decimal (row n v).acc ++ (codes " cpu " ++ (decimal (row n v).cpu
    ++ (codes "\\nsize " ++ (decimal (row n v).size ++ (codes " link " ++ (decimal (row n v).link ++ codes "\"];\n"))))))))))

abbrev pub node_lines : Net → List ℕ
node_lines n = flat_map (node_line n) (upto (size n))

abbrev pub arrow : ℕ → ℕ → List ℕ
arrow u v = decimal u ++ (codes " -> " ++ (decimal v ++ codes ";\n"))

abbrev pub arrows_from : ℕ → ℕ → List ℕ
arrows_from u s = flat_map (arrow u) (members s)

abbrev pub arrows : Net → List ℕ
arrows n = flat_map (λ u. arrows_from u (after n u)) (upto (size n))

abbrev pub cluster : Net → ℕ → Stage → List ℕ
cluster n i st =
    codes "subgraph cluster_" ++ (decimal i ++ (codes " {\nlabel=\"stage " ++ (decimal i ++ (codes " " ++ (letter st ++ (codes "\";\n"
    ++ (flat_map (node_line n) (members st.mask) ++ codes "}\n")))))))

abbrev pub clusters : Net → List Stage → List ℕ
clusters n ss = flat_map (λ i. cluster n i (stage_at ss i)) (upto (length ss))

abbrev pub head : List ℕ
head = codes "digraph sheet {\n"

abbrev pub drawn : Net → List ℕ → List Stage → List ℕ
drawn n [] ss = head ++ (clusters n ss ++ (arrows n ++ codes "}\n"))
drawn n (x ∷ xs) ss = head ++ (codes "label=\"" ++ (refused_text (x ∷ xs) ++ (codes "\";\n" ++ (node_lines n ++ (arrows n ++ codes "}\n")))))

abbrev pub graph_of : Net → List ℕ
graph_of n = drawn n (planning n) (found n)

-- the stages that are drawn are a lawful split, and no lawful split rates lower
abbrev pub DrawnLeast : Net → Type 0
DrawnLeast n = planning n ≡ [] → (r : ℕ) × Least n devices peak (found n) r

pub record Draws (f t : List ℕ) : Type 0 where
  pub accepted : (n : Net) → LaidOut f n → (t ≡ graph_of n) × DrawnLeast n
  pub refused : (x : ℕ) (xs : List ℕ) → file_refusal f ≡ x ∷ xs → t ≡ refused_text (x ∷ xs) ++ codes "\n"
