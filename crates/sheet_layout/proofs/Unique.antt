-- A file is laid out for one sheet only.
use Rattle.std.proofs.Common.{◌≡◌, ℕ, ◌+◌, ◌*◌, List, get_or, sym, ap, ◌∙◌, subst, inl, inr, arith}
use Rattle.std.proofs.lemmas.List.{ext_get_or}
use Rattle.std.proofs.lemmas.Bool.{cases_Bool}
use Rattle.sets.specs.Sets.{has}
use Rattle.sets.proofs.Sets.{same_sets}
use Rattle.sheet.specs.declared.operators.Operator.{Operator}
use Rattle.sheet.specs.Rules.{blank}
use Rattle.sheet.specs.Nets.{Net, size, after, Edge}
use Rattle.sheet_layout.specs.Layout.{LaidOut, pairs, edges_at, edge_from, edge_to}

same_size : (f : List ℕ) (m n : Net) → LaidOut f m → LaidOut f n → size m ≡ size n
same_size f m n a b = omega (arith, a.first_entry.2, b.first_entry.2)

-- an edge of one is an edge of the other
same_edge : (f : List ℕ) (m n : Net) → LaidOut f m → LaidOut f n → (u v : ℕ) → Edge m u v → Edge n u v
same_edge f m n a b u v e =
    let x = a.complete u v e in
    let s = same_size f m n a b in
    subst (λ (p : ℕ). Edge n p v) (ap (λ (k : ℕ). edge_from f k x.0) (sym s) ∙ x.2)
    (subst (λ (q : ℕ). Edge n (edge_from f (size n) x.0) q) (ap (λ (k : ℕ). edge_to f k x.0) (sym s) ∙ x.3) (b.listed x.0 x.1))

same_after : (f : List ℕ) (m n : Net) → LaidOut f m → LaidOut f n → (u : ℕ) → after m u ≡ after n u
same_after f m n a b u = same_sets (after m u) (after n u) (λ v. elim (cases_Bool (has (after m u) v)) [
  | inl e ↦ e ∙ sym (same_edge f m n a b u v e)
  | inr e ↦ elim (cases_Bool (has (after n u) v)) [
    | inl g ↦ same_edge f n m b a u v g ∙ sym g
    | inr g ↦ e ∙ sym g
  ]
])

abbrev with_parts : List Operator → List ℕ → ℕ → ℕ → Net
with_parts rows successors k l = record { rows = rows; successors = successors; k = k; l = l }

-- sheets with the same parts are the same
pub same_nets : (m n : Net) → m.rows ≡ n.rows → m.successors ≡ n.successors → m.k ≡ n.k → m.l ≡ n.l → m ≡ n
same_nets m n rows successors k l =
    let same : with_parts m.rows m.successors m.k m.l ≡ with_parts n.rows n.successors n.k n.l = cc in same

pub laid_out_unique : (f : List ℕ) (m n : Net) → LaidOut f m → LaidOut f n → m ≡ n
laid_out_unique f m n a b =
    let s = same_size f m n a b in
    let rows : m.rows ≡ n.rows = ext_get_or blank m.rows n.rows s (λ v h. sym (a.rows v h) ∙ b.rows v (omega arith)) in
    let successors : m.successors ≡ n.successors = ext_get_or 0 m.successors n.successors (a.masks ∙ s ∙ sym b.masks) (λ u h. same_after f m n a b u) in
    let k : m.k ≡ n.k = sym a.counts.0 ∙ ap (λ (z : ℕ). get_or f (edges_at z + 2 * pairs f) 0) s ∙ b.counts.0 in
    let l : m.l ≡ n.l = sym a.counts.1 ∙ ap (λ (z : ℕ). get_or f (edges_at z + 2 * pairs f + 1) 0) s ∙ b.counts.1 in
    same_nets m n rows successors k l
