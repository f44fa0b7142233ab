-- The lines that spell items, read again one after another.
use Rattle.std.proofs.Common.{◌≡◌, ℕ, suc, ◌+◌, ◌<◌, ◌≤◌, false, List, [], ◌∷◌, ◌++◌, length, set, fold, replicate, codes, decimal, ltb, Some, Ok, refl, sym, ap, ◌∙◌, arith}
use Rattle.std.specs.List.{AllByRecursion, flat_map}
use Rattle.std.proofs.lemmas.Bool.{cond-true, lt-ltb, ne_eqb, eq-eqb}
use Rattle.std.proofs.lemmas.List.{append_assoc, append-nil, get_or-set_same, length-append, length-set, set-get_or, set-set}
use Rattle.sets.specs.Sets.{has, including}
use Rattle.sets.proofs.Members.{included}
use Rattle.sheet.specs.declared.operators.Operator.{Operator as Figures}
use Rattle.sheet.specs.Rules.{Within}
use Rattle.sheet.specs.Nets.{Net, size, after}
use Rattle.sheet.specs.Changes.{added, joined}
use Rattle.sheet.proofs.Changes.{true_within, add_granted, join_granted}
use Rattle.sheet_layout.proofs.Edges.{joined_after}
use Rattle.sheet_layout.proofs.Rising.{Rising}
use Rattle.sheet_text.specs.declared.items.Item.{Item}
use Rattle.sheet_text.specs.declared.items.Item.TheVariants.{Operator, Edge}
use Rattle.sheet_text.specs.Fields.{fields}
use Rattle.sheet_text.specs.Items.{item_of}
use Rattle.sheet_text.specs.Reading.{item_refusal, with_item, after_item, unless_told, after_line, after_lines, and_then, lines}
use Rattle.sheet_text.specs.Texts.{operator_line, edge_line}
use Rattle.sheet_text.proofs.Words.{Word, spaced, fields_spaced, quiet_spaced, said_whole, lines_then}
use Rattle.sheet_text.proofs.Spellings.{decimal_word, operator_again, edge_again}

-- a line of words that says an item which is granted
module _ (w : List ℕ) (vs : List (List ℕ)) (word : Word w) (all : AllByRecursion Word vs) (item : Item) (says : item_of (w ∷ vs) ≡ Ok (Some item)) (n : Net) (granted : item_refusal n item ≡ []) where
  line_again : after_line n (spaced w vs) ≡ Ok (with_item n item)
  unfolding after_line
  line_again =
      let quiet = quiet_spaced w vs word all in
      ap (λ l. after_item n (item_of (fields l))) (said_whole (spaced w vs) quiet)
      ∙ ap (λ fs. after_item n (item_of fs)) (fields_spaced w vs word all)
      ∙ ap (after_item n) says ∙ ap (λ ts. unless_told ts (with_item n item)) granted

  pub line_first : (t rest : List ℕ) → t ≡ spaced w vs ++ (10 ∷ []) → (i : ℕ) → after_lines i n (lines (t ++ rest)) ≡ after_lines (i + 1) (with_item n item) (lines rest)
  unfolding after_lines
  line_first t rest spelled i =
      ap (λ x. after_lines i n (lines (x ++ rest))) spelled
      ∙ ap (λ x. after_lines i n (lines x)) (append_assoc (spaced w vs) (10 ∷ []) rest)
      ∙ ap (after_lines i n) (lines_then (spaced w vs) (quiet_spaced w vs word all) rest)
      ∙ ap (λ r. and_then i r (λ m. after_lines (i + 1) m (lines rest))) line_again

op_word : Word (codes "op")
op_word = record { some = omega arith; high = (omega arith, (omega arith, tt)) }

edge_word : Word (codes "edge")
edge_word = record { some = omega arith; high = (omega arith, (omega arith, (omega arith, (omega arith, tt)))) }

pub count_word : Word (codes "count")
count_word = record { some = omega arith; high = (omega arith, (omega arith, (omega arith, (omega arith, (omega arith, tt))))) }

-- ---- the operators

operator_spelled : (o : Figures) → operator_line o ≡ spaced (codes "op") (decimal o.acc ∷ decimal o.cpu ∷ decimal o.size ∷ decimal o.link ∷ []) ++ (10 ∷ [])
operator_spelled o = simp append_assoc

abbrev pub with_operators : Net → List Figures → Net
with_operators n [] = n
with_operators n (o ∷ os) = with_operators (added n o) os

pub operators_again : (os : List Figures) (n : Net) → AllByRecursion Within os → size n + length os ≤ 64 → (i : ℕ) (rest : List ℕ)
    → after_lines i n (lines (flat_map operator_line os ++ rest)) ≡ after_lines (i + length os) (with_operators n os) (lines rest)
operators_again [] n all room i rest = let same : i ≡ i + 0 = omega arith in ap (λ k. after_lines k n (lines rest)) same
operators_again (o ∷ os) n all room i rest =
    let within = all.0 in
    let words : AllByRecursion Word (decimal o.acc ∷ decimal o.cpu ∷ decimal o.size ∷ decimal o.link ∷ []) =
    (decimal_word o.acc (omega (arith, within.0)), (decimal_word o.cpu (omega (arith, within.1)), (decimal_word o.size (omega (arith, within.2)), (decimal_word o.link (omega (arith, within.3)), tt)))) in
    let next : i + 1 + length os ≡ i + suc (length os) = omega arith in
    ap (λ t. after_lines i n (lines t)) (append_assoc (operator_line o) (flat_map operator_line os) rest)
    ∙ line_first (codes "op") (decimal o.acc ∷ decimal o.cpu ∷ decimal o.size ∷ decimal o.link ∷ []) op_word words (Operator o) (operator_again o within) n (sym (add_granted n o (omega (arith, room)) (true_within o within))) (operator_line o) (flat_map operator_line os ++ rest) (operator_spelled o) i
    ∙ operators_again os (added n o) all.1 (omega (arith, room, length-append n.rows (o ∷ []))) (i + 1) rest
    ∙ ap (λ k. after_lines k (with_operators (added n o) os) (lines rest)) next

pub with_operators_is : (os : List Figures) (n : Net) → with_operators n os ≡ record { rows = n.rows ++ os; successors = n.successors ++ replicate (length os) 0; k = n.k; l = n.l }
with_operators_is [] n = rw (append-nil n.rows, append-nil n.successors) refl
with_operators_is (o ∷ os) n = with_operators_is os (added n o) ∙ rw (append_assoc n.rows (o ∷ []) os, append_assoc n.successors (0 ∷ []) (replicate (length os) 0)) refl

-- ---- the edges from an operator

edge_spelled : (u v : ℕ) → edge_line u v ≡ spaced (codes "edge") (decimal u ∷ decimal v ∷ []) ++ (10 ∷ [])
edge_spelled u v = simp append_assoc

abbrev pub with_edges_from : Net → ℕ → List ℕ → Net
with_edges_from n u [] = n
with_edges_from n u (v ∷ vs) = with_edges_from (joined n u v) u vs

-- an edge from u to v is one that the sheet n takes
pub record Free (n : Net) (u v : ℕ) : Type 0 where
  pub up : u < v
  pub near : v < size n
  pub free : has (after n u) v ≡ false

still_free : (n : Net) (u v : ℕ) → u < length n.successors → (vs : List ℕ) → AllByRecursion (λ w. v < w) vs → AllByRecursion (Free n u) vs → AllByRecursion (Free (joined n u v) u) vs
still_free n u v there [] above all = tt
still_free n u v there (w ∷ vs) above all = (
  record {
    up = all.0.up;
    near = all.0.near;
    free = joined_after n u v u w there ∙ rw (all.0.free, eq-eqb u u refl, ne_eqb w v (λ e. omega (arith, e, above.0))) refl;
  },
  still_free n u v there vs above.1 all.1,
)

pub edges_from_again : (vs : List ℕ) (n : Net) (u : ℕ) → u < length n.successors → size n ≤ 64 → Rising (λ v w. v < w) vs → AllByRecursion (Free n u) vs → (i : ℕ) (rest : List ℕ)
    → after_lines i n (lines (flat_map (edge_line u) vs ++ rest)) ≡ after_lines (i + length vs) (with_edges_from n u vs) (lines rest)
edges_from_again [] n u there few rising all i rest = let same : i ≡ i + 0 = omega arith in ap (λ k. after_lines k n (lines rest)) same
edges_from_again (v ∷ vs) n u there few rising all i rest =
    let free = all.0 in
    let words : AllByRecursion Word (decimal u ∷ decimal v ∷ []) = (decimal_word u (omega (arith, free.up, free.near)), (decimal_word v (omega (arith, free.near)), tt)) in
    let next : i + 1 + length vs ≡ i + suc (length vs) = omega arith in
    ap (λ t. after_lines i n (lines t)) (append_assoc (edge_line u v) (flat_map (edge_line u) vs) rest)
    ∙ line_first (codes "edge") (decimal u ∷ decimal v ∷ []) edge_word words (Edge u v) (edge_again u v (omega (arith, free.up, free.near)) (omega (arith, free.near))) n (sym (join_granted n u v (omega (arith, free.up, free.near)) free.near free.up free.free)) (edge_line u v) (flat_map (edge_line u) vs ++ rest) (edge_spelled u v) i
    ∙ edges_from_again vs (joined n u v) u (omega (arith, there, length-set {A = ℕ})) few rising.1 (still_free n u v there vs rising.0 all.1) (i + 1) rest
    ∙ ap (λ k. after_lines k (with_edges_from (joined n u v) u vs) (lines rest)) next

-- the set of the operators that u has an edge to, after them
pub with_edges_from_is : (vs : List ℕ) (n : Net) (u : ℕ) → u < length n.successors → AllByRecursion (λ v. v < 64) vs
    → with_edges_from n u vs ≡ record { rows = n.rows; successors = set n.successors u (fold included (after n u) vs); k = n.k; l = n.l }
with_edges_from_is [] n u there near = ap (λ s. record { rows = n.rows; successors = s; k = n.k; l = n.l }) (sym (set-get_or n.successors u 0))
with_edges_from_is (v ∷ vs) n u there near =
    let s = n.successors in
    let m = including (after n u) v in
    let one : included (after n u) v ≡ m = cond-true (ltb v 64) m (after n u) (lt-ltb v 64 near.0) in
    with_edges_from_is vs (joined n u v) u (omega (arith, there, length-set {A = ℕ})) near.1
    ∙ rw (get_or-set_same s u m 0 there, set-set s u m (fold included m vs), one) refl
