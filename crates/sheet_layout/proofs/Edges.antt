-- What the rows and the edges of a body make of a sheet.
--   Inside bs i n   the first i edges of a body begin at operators that n has a set of successors for
use Rattle.std.proofs.Common.{◌≡◌, ℕ, zero, suc, ◌+◌, ◌-◌, ◌*◌, ◌<◌, Bool, ◌&&◌, ◌||◌, eqb, ◌⊎◌, List, [], ◌∷◌, ◌++◌, length, get_or, set, replicate, sym, refl, ap, ◌∙◌, inl, inr, add-one, arith}
use Rattle.std.proofs.lemmas.List.{append-nil, append_assoc, length-append, length_push, length-replicate, length-set, get_or_append_left, get_or-append_right, get_or_push, get_or_past, get_or-replicate, get_or-set_same, get_or-set_other, replicate_more}
use Rattle.std.proofs.lemmas.Bool.{cases_eq, cases_lt, eq-eqb, ne_eqb, or_cases, or_left}
use Rattle.std.proofs.lemmas.Bool.Decides.{nat_tests}
use Rattle.sets.specs.Sets.{has, including}
use Rattle.sets.proofs.Sets.{has_including, or_false}
use Rattle.sheet.specs.Rules.{blank}
use Rattle.sheet.specs.Nets.{Net, size, row, after, Edge}
use Rattle.sheet.specs.Changes.{added, joined}
use Rattle.sheet_layout.specs.Bodies.{row_at, from, to, with_rows, with_edges}

-- ---- the rows of a body

pub with_rows_more : (bs : List ℕ) (v : ℕ) (n : Net) → with_rows bs (suc v) n ≡ added (with_rows bs v n) (row_at bs (16 * v))
unfolding with_rows
with_rows_more bs v n = refl

pub with_rows_size : (bs : List ℕ) (v : ℕ) (n : Net) → size (with_rows bs v n) ≡ size n + v
unfolding with_rows
with_rows_size bs zero n = omega arith
with_rows_size bs (suc v) n =
    length_push (with_rows bs v n).rows (row_at bs (16 * v)) ∙ omega (arith, with_rows_size bs v n)

-- the rows that were there stay
pub with_rows_old : (bs : List ℕ) (v : ℕ) (n : Net) (w : ℕ) → w < size n → row (with_rows bs v n) w ≡ row n w
unfolding with_rows
with_rows_old bs zero n w h = refl
with_rows_old bs (suc v) n w h =
    get_or_append_left (with_rows bs v n).rows (row_at bs (16 * v) ∷ []) blank w (omega (arith, with_rows_size bs v n))
    ∙ with_rows_old bs v n w h

-- the rows of the body come after them
pub with_rows_new : (bs : List ℕ) (v : ℕ) (n : Net) (w : ℕ) → w < v → row (with_rows bs v n) (size n + w) ≡ row_at bs (16 * w)
unfolding with_rows
with_rows_new bs zero n w h = absurd (omega arith)
with_rows_new bs (suc v) n w h = elim (cases_eq w v) [
  | inl e ↦
      let place : size (with_rows bs v n) ≡ size n + w = omega (arith, with_rows_size bs v n) in
      get_or_push (with_rows bs v n).rows (row_at bs (16 * v)) blank (size n + w) place ∙ ap (λ (x : ℕ). row_at bs (16 * x)) (sym e)
  | inr e ↦
      get_or_append_left (with_rows bs v n).rows (row_at bs (16 * v) ∷ []) blank (size n + w) (omega (arith, with_rows_size bs v n))
      ∙ with_rows_new bs v n w (omega arith)
]

pub with_rows_successors : (bs : List ℕ) (v : ℕ) (n : Net) → (with_rows bs v n).successors ≡ n.successors ++ replicate v 0
unfolding with_rows
with_rows_successors bs zero n = sym (append-nil n.successors)
with_rows_successors bs (suc v) n =
    ap (λ (ts : List ℕ). ts ++ (0 ∷ [])) (with_rows_successors bs v n) ∙ append_assoc n.successors (replicate v 0) (0 ∷ [])
    ∙ ap (λ (ts : List ℕ). n.successors ++ ts) (replicate_more v 0 ∙ ap (λ (k : ℕ). replicate k 0) (add-one v))

pub with_rows_masks : (bs : List ℕ) (v : ℕ) (n : Net) → length n.successors ≡ size n → length (with_rows bs v n).successors ≡ size (with_rows bs v n)
with_rows_masks bs v n e =
    ap length (with_rows_successors bs v n) ∙ length-append n.successors (replicate v 0)
    ∙ omega (arith, length-replicate {A = ℕ} v 0, with_rows_size bs v n)

pub with_rows_counts : (bs : List ℕ) (v : ℕ) (n : Net) → ((with_rows bs v n).k ≡ n.k) × ((with_rows bs v n).l ≡ n.l)
unfolding with_rows
with_rows_counts bs zero n = (refl, refl)
with_rows_counts bs (suc v) n = with_rows_counts bs v n

-- no edge comes with them
pub with_rows_after : (bs : List ℕ) (v : ℕ) (n : Net) (u : ℕ) → after (with_rows bs v n) u ≡ after n u
with_rows_after bs v n u = ap (λ (ts : List ℕ). get_or ts u 0) (with_rows_successors bs v n) ∙ elim (cases_lt u (length n.successors)) [
  | inl h ↦ get_or_append_left n.successors (replicate v 0) 0 u h
  | inr h ↦
      get_or-append_right n.successors (replicate v 0) (length n.successors) u 0 refl h
      ∙ zeros v (u - length n.successors) ∙ sym (get_or_past n.successors u 0 h)
]
  where
    zeros : (v i : ℕ) → ◌≡◌ {A = ℕ} (get_or (replicate v 0) i 0) 0
    zeros v i = elim (cases_lt i v) [
      | inl h ↦ get_or-replicate v i 0 0 h
      | inr h ↦ get_or_past (replicate v 0) i 0 (omega (arith, length-replicate {A = ℕ} v 0))
    ]

-- ---- one edge

-- an edge was there or is the new one
pub joined_after : (n : Net) (u v p q : ℕ) → u < length n.successors → has (after (joined n u v) p) q ≡ (has (after n p) q || (eqb p u && eqb q v))
joined_after n u v p q h = elim (cases_eq p u) [
  | inl e ↦
      let here : after (joined n u v) p ≡ including (after n p) v =
      ap (λ (x : ℕ). get_or (set n.successors u (including (after n u) v)) x 0) e
      ∙ get_or-set_same n.successors u (including (after n u) v) 0 h ∙ ap (λ (x : ℕ). including (after n x) v) (sym e) in
      ap (λ (m : ℕ). has m q) here ∙ has_including (after n p) v q
      ∙ ap (λ (b : Bool). has (after n p) q || (b && eqb q v)) (sym (eq-eqb p u e))
  | inr e ↦
      ap (λ (m : ℕ). has m q) (get_or-set_other n.successors u p (including (after n u) v) 0 e)
      ∙ sym (ap (λ (b : Bool). has (after n p) q || (b && eqb q v)) (ne_eqb p u e) ∙ or_false (has (after n p) q))
]

-- ---- the edges of a body

pub with_edges_more : (bs : List ℕ) (i : ℕ) (n : Net) → with_edges bs (suc i) n ≡ joined (with_edges bs i n) (from bs i) (to bs i)
unfolding with_edges
with_edges_more bs i n = refl

pub with_edges_rows : (bs : List ℕ) (i : ℕ) (n : Net) → (with_edges bs i n).rows ≡ n.rows
unfolding with_edges
with_edges_rows bs zero n = refl
with_edges_rows bs (suc i) n = with_edges_rows bs i n

pub with_edges_size : (bs : List ℕ) (i : ℕ) (n : Net) → size (with_edges bs i n) ≡ size n
with_edges_size bs i n = ap length (with_edges_rows bs i n)

pub with_edges_counts : (bs : List ℕ) (i : ℕ) (n : Net) → ((with_edges bs i n).k ≡ n.k) × ((with_edges bs i n).l ≡ n.l)
unfolding with_edges
with_edges_counts bs zero n = (refl, refl)
with_edges_counts bs (suc i) n = with_edges_counts bs i n

pub with_edges_masks : (bs : List ℕ) (i : ℕ) (n : Net) → length (with_edges bs i n).successors ≡ length n.successors
unfolding with_edges
with_edges_masks bs zero n = refl
with_edges_masks bs (suc i) n =
    length-set (with_edges bs i n).successors (from bs i) (including (after (with_edges bs i n) (from bs i)) (to bs i)) ∙ with_edges_masks bs i n

-- one edge more
pub with_edges_step : (bs : List ℕ) (i : ℕ) (n : Net) → from bs i < length n.successors → (u v : ℕ) → has (after (with_edges bs (suc i) n) u) v ≡ (has (after (with_edges bs i n) u) v || (eqb u (from bs i) && eqb v (to bs i)))
unfolding with_edges
with_edges_step bs i n h u v = joined_after (with_edges bs i n) (from bs i) (to bs i) u v (omega (arith, with_edges_masks bs i n))

abbrev pub Inside : List ℕ → ℕ → Net → Type 0
Inside bs i n = (j : ℕ) → j < i → from bs j < length n.successors

fewer : (bs : List ℕ) (i : ℕ) (n : Net) → Inside bs (suc i) n → Inside bs i n
fewer bs i n h j l = h j (omega arith)

-- an edge was there or is one of the body
pub with_edges_cases : (bs : List ℕ) (i : ℕ) (n : Net) → Inside bs i n → (u v : ℕ) → Edge (with_edges bs i n) u v → Edge n u v ⊎ ((j : ℕ) × (j < i) × (from bs j ≡ u) × (to bs j ≡ v))
unfolding with_edges
with_edges_cases bs zero n h u v e = inl e
with_edges_cases bs (suc i) n h u v e =
    let here = sym (with_edges_step bs i n (h i (omega arith)) u v) ∙ e in
    elim (or_cases (has (after (with_edges bs i n) u) v) (eqb u (from bs i) && eqb v (to bs i)) here) [
      | inl old ↦ elim (with_edges_cases bs i n (fewer bs i n h) u v old) [
        | inl x ↦ inl x
        | inr x ↦ inr (x.0, omega (arith, x.1), x.2, x.3)
      ]
      | inr new ↦
          let same : (u ≡ from bs i) × (v ≡ to bs i) = grind (arith, nat_tests) in
          inr (i, omega arith, sym same.0, sym same.1)
    ]

-- an edge that was there stays
pub with_edges_old : (bs : List ℕ) (i : ℕ) (n : Net) → Inside bs i n → (u v : ℕ) → Edge n u v → Edge (with_edges bs i n) u v
unfolding with_edges
with_edges_old bs zero n h u v e = e
with_edges_old bs (suc i) n h u v e =
    with_edges_step bs i n (h i (omega arith)) u v
    ∙ or_left (has (after (with_edges bs i n) u) v) (eqb u (from bs i) && eqb v (to bs i)) (with_edges_old bs i n (fewer bs i n h) u v e)

-- each edge of the body is there
pub with_edges_new : (bs : List ℕ) (i : ℕ) (n : Net) → Inside bs i n → (j : ℕ) → j < i → Edge (with_edges bs i n) (from bs j) (to bs j)
with_edges_new bs zero n h j l = absurd (omega arith)
with_edges_new bs (suc i) n h j l =
    let step = with_edges_step bs i n (h i (omega arith)) (from bs j) (to bs j) in
    elim (cases_eq j i) [
      | inl e ↦ rw e (with_edges_step bs i n (h i (omega arith)) (from bs i) (to bs i) ∙ grind (arith, nat_tests))
      | inr e ↦ let old = with_edges_new bs i n (fewer bs i n h) j (omega arith) in step ∙ or_left _ _ old
    ]
