-- The sheet that three bodies say.
use Rattle.std.proofs.Common.{◌≡◌, ℕ, ◌+◌, ◌*◌, ◌<◌, List, length, get_or, refl, ap, ◌∙◌, inl, inr, arith}
use Rattle.std.proofs.lemmas.Bool.{both_ways}
use Rattle.sets.specs.Sets.{has}
use Rattle.sets.proofs.Sets.{has_none}
use Rattle.sheet.specs.declared.operators.Operator.{Operator}
use Rattle.sheet.specs.Rules.{blank}
use Rattle.sheet.specs.Nets.{Net, size, row, after, Edge, empty}
use Rattle.sheet_layout.specs.Bodies.{row_at, from, to, rows_in, edges_in, with_rows, net_of_bodies}
use Rattle.sheet_layout.proofs.Edges.{with_rows_size, with_rows_new, with_rows_masks, with_rows_after, with_edges_rows, with_edges_size, with_edges_masks, with_edges_cases, with_edges_new}

module _ (operators edges counts : List ℕ) where
  abbrev bare : Net
  bare = with_rows operators (rows_in operators) empty

  pub net_size : size (net_of_bodies operators edges counts) ≡ rows_in operators
  net_size = with_edges_size edges (edges_in edges) bare ∙ with_rows_size operators (rows_in operators) empty ∙ omega arith

  pub net_row : (v : ℕ) → v < rows_in operators → row (net_of_bodies operators edges counts) v ≡ row_at operators (16 * v)
  net_row v h =
      let place : v ≡ 0 + v = omega arith in
      ap (λ (rows : List Operator). get_or rows v blank) (with_edges_rows edges (edges_in edges) bare)
      ∙ ap (row bare) place ∙ with_rows_new operators (rows_in operators) empty v h

  bare_masks : length bare.successors ≡ rows_in operators
  bare_masks = with_rows_masks operators (rows_in operators) empty refl ∙ with_rows_size operators (rows_in operators) empty ∙ omega arith

  pub net_masks : length (net_of_bodies operators edges counts).successors ≡ rows_in operators
  net_masks = with_edges_masks edges (edges_in edges) bare ∙ bare_masks

  module _ (among : (i : ℕ) → i < edges_in edges → from edges i < rows_in operators) where
    inside : (i : ℕ) → i < edges_in edges → from edges i < length bare.successors
    inside i h = omega (arith, among i h, bare_masks)

    pub net_listed : (i : ℕ) → i < edges_in edges → Edge (net_of_bodies operators edges counts) (from edges i) (to edges i)
    net_listed i h = with_edges_new edges (edges_in edges) bare inside i h

    pub net_complete : (u v : ℕ) → Edge (net_of_bodies operators edges counts) u v → (i : ℕ) × (i < edges_in edges) × (from edges i ≡ u) × (to edges i ≡ v)
    net_complete u v e = elim (with_edges_cases edges (edges_in edges) bare inside u v e) [
      | inl old ↦
          let none = ap (λ (m : ℕ). has m v) (with_rows_after operators (rows_in operators) empty u) ∙ has_none v in
          absurd (both_ways (has (after bare u) v) none old)
      | inr new ↦ new
    ]
