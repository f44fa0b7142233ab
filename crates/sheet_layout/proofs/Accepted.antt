-- A file is accepted exactly if it is laid out by the rules.
use Rattle.std.proofs.Common.{◌≡◌, ℕ, zero, suc, ◌+◌, ◌*◌, ◌/◌, ◌<◌, true, List, [], length, sym, refl, ap, ◌∙◌, subst, inl, inr, arith}
use Rattle.std.proofs.lemmas.List.{get_or_past}
use Rattle.std.proofs.lemmas.Bool.{cases_lt}
use Rattle.sheet.specs.Rules.{blank, Within, Modest, Upward}
use Rattle.sheet.specs.Nets.{Net, size, row, Edge}
use Rattle.sheet_layout.specs.Contents.{length_of, body, contents_refusal}
use Rattle.sheet_layout.specs.Bodies.{row_at, from, to, ascends, rows_in, edges_in, bodies_refusal, file_refusal, net_of}
use Rattle.sheet_layout.specs.Layout.{LaidOut, Before, pairs, edge_from, edge_to}
use Rattle.sheet_layout.proofs.Firsts.{first_nothing, nothing_first}
use Rattle.sheet_layout.proofs.Heads.{RightHead, contents_right, right_contents}
use Rattle.sheet_layout.proofs.Checks.{RightEdge, RightBodies, ascends_before, before_ascends, bodies_right, right_bodies}
use Rattle.sheet_layout.proofs.Places.{body_length, row_place, from_place, to_place, k_place, l_place}
use Rattle.sheet_layout.proofs.Nets.{net_size, net_row, net_masks, net_listed, net_complete}

-- a place in the order of edges, with equal ends
before_same : (a b p q a' b' p' q' : ℕ) → a ≡ a' → b ≡ b' → p ≡ p' → q ≡ q' → Before a b p q → Before a' b' p' q'
before_same a b p q a' b' p' q' d e g h x = elim x [ inl l ↦ inl (omega arith) | inr l ↦ inr (omega (arith, l.0), omega (arith, l.1)) ]

-- ---- a file that nothing is told of

module _ (f : List ℕ) (head : RightHead f) (bodies : RightBodies (body f 0) (body f 1) (body f 2)) where
  first_length : length (body f 0) ≡ length_of f 0
  first_length = body_length f 0 (omega (arith, head.ends))

  second_length : length (body f 1) ≡ length_of f 1
  second_length = body_length f 1 (omega (arith, head.ends))

  held : size (net_of f) ≡ rows_in (body f 0)
  held = net_size (body f 0) (body f 1) (body f 2)

  sixteen : length_of f 0 ≡ 16 * size (net_of f)
  sixteen = omega (arith, first_length, held, head.operators.whole)

  listed_pairs : edges_in (body f 1) ≡ pairs f
  listed_pairs = ap (λ (n : ℕ). n / 2) second_length

  even : length_of f 1 ≡ 2 * pairs f
  even = omega (arith, head.edges.whole)

  two : length_of f 2 ≡ 2
  two = omega (arith, head.counts.least, head.counts.most)

  right_pair : (i : ℕ) → i < pairs f → RightEdge (rows_in (body f 0)) (body f 1) i
  right_pair i h = bodies.pairs i (omega (arith, listed_pairs))

  among : (i : ℕ) → i < edges_in (body f 1) → from (body f 1) i < rows_in (body f 0)
  among i h = let r = bodies.pairs i h in omega (arith, r.upward, r.among)

  from_same : (i : ℕ) → i < pairs f → from (body f 1) i ≡ edge_from f (size (net_of f)) i
  from_same = from_place f (size (net_of f)) sixteen

  to_same : (i : ℕ) → i < pairs f → to (body f 1) i ≡ edge_to f (size (net_of f)) i
  to_same = to_place f (size (net_of f)) sixteen

  found : (u v : ℕ) → Edge (net_of f) u v → (i : ℕ) × (i < pairs f) × (from (body f 1) i ≡ u) × (to (body f 1) i ≡ v)
  found u v e =
      let x = net_complete (body f 0) (body f 1) (body f 2) among u v e in
      (x.0, omega (arith, x.1, listed_pairs), x.2, x.3)

  laid_rows : (v : ℕ) → v < size (net_of f) → row_at f (20 + 16 * v) ≡ row (net_of f) v
  laid_rows v h =
      sym (row_place f (size (net_of f)) sixteen v h) ∙ sym (net_row (body f 0) (body f 1) (body f 2) v (omega (arith, held)))

  laid_modest : Modest (net_of f).rows
  laid_modest v = elim (cases_lt v (size (net_of f))) [
    | inl h ↦
        let l : v < rows_in (body f 0) = omega (arith, held) in
        subst Within (sym (net_row (body f 0) (body f 1) (body f 2) v l)) (bodies.rows v l)
    | inr h ↦ subst Within (sym (get_or_past (net_of f).rows v blank h)) (omega arith, omega arith, omega arith, omega arith)
  ]

  laid_listed : (i : ℕ) → i < pairs f → Edge (net_of f) (edge_from f (size (net_of f)) i) (edge_to f (size (net_of f)) i)
  laid_listed i h =
      let e = net_listed (body f 0) (body f 1) (body f 2) among i (omega (arith, listed_pairs)) in
      subst (λ (u : ℕ). Edge (net_of f) u (edge_to f (size (net_of f)) i)) (from_same i h)
      (subst (λ (v : ℕ). Edge (net_of f) (from (body f 1) i) v) (to_same i h) e)

  laid_complete : (u v : ℕ) → Edge (net_of f) u v → (i : ℕ) × (i < pairs f) × (edge_from f (size (net_of f)) i ≡ u) × (edge_to f (size (net_of f)) i ≡ v)
  laid_complete u v e =
      let x = found u v e in (x.0, x.1, sym (from_same x.0 x.1) ∙ x.2, sym (to_same x.0 x.1) ∙ x.3)

  laid_ascending : (i : ℕ) → suc i < pairs f → Before (edge_from f (size (net_of f)) i) (edge_to f (size (net_of f)) i) (edge_from f (size (net_of f)) (suc i)) (edge_to f (size (net_of f)) (suc i))
  laid_ascending i h =
      let l : i < pairs f = omega arith in
      before_same _ _ _ _ _ _ _ _ (from_same i l) (to_same i l) (from_same (suc i) h) (to_same (suc i) h)
      (ascends_before (body f 1) i (right_pair (suc i) h).ascending)

  laid_upward : Upward (net_of f).successors
  laid_upward u v e =
      let x = found u v e in
      let r = right_pair x.0 x.1 in
      let masks = net_masks (body f 0) (body f 1) (body f 2) in
      (omega (arith, r.upward, x.2, x.3), omega (arith, r.among, x.3, masks))

  laid_out : LaidOut f (net_of f)
  laid_out = record {
    begins = head.begins;
    entries = head.entries;
    first_entry = (head.operators.section, head.operators.offset, sixteen);
    second_entry = (head.edges.section, head.edges.offset ∙ omega (arith, sixteen), even);
    third_entry = (head.counts.section, head.counts.offset ∙ omega (arith, sixteen, even), two);
    ends = omega (arith, head.ends, sixteen, even, two);
    few = omega (arith, sixteen, head.operators.most);
    rows = laid_rows;
    modest = laid_modest;
    short = omega (arith, even, head.edges.most);
    masks = net_masks (body f 0) (body f 1) (body f 2) ∙ sym held;
    listed = laid_listed;
    complete = laid_complete;
    ascending = laid_ascending;
    upward = laid_upward;
    counts = (sym (k_place f (size (net_of f)) sixteen even two), sym (l_place f (size (net_of f)) sixteen even two));
    devices = bodies.devices;
  }

pub good_laid_out : (f : List ℕ) → file_refusal f ≡ [] → LaidOut f (net_of f)
good_laid_out f h =
    let parts = first_nothing (contents_refusal f) (bodies_refusal (body f 0) (body f 1) (body f 2)) h in
    laid_out f (contents_right f parts.0) (bodies_right (body f 0) (body f 1) (body f 2) parts.1)

-- ---- a file that is laid out by the rules

module _ (f : List ℕ) (n : Net) (d : LaidOut f n) where
  right_head : RightHead f
  right_head =
      let a = d.first_entry in
      let b = d.second_entry in
      let c = d.third_entry in
      record {
        long = omega (arith, d.ends);
        begins = d.begins;
        entries = d.entries;
        operators = record { section = a.0; offset = a.1; whole = omega (arith, a.2); least = omega arith; most = omega (arith, a.2, d.few) };
        edges = record { section = b.0; offset = b.1 ∙ omega (arith, a.2); whole = omega (arith, b.2); least = omega arith; most = omega (arith, b.2, d.short) };
        counts = record { section = c.0; offset = c.1 ∙ omega (arith, a.2, b.2); whole = omega (arith, c.2); least = omega (arith, c.2); most = omega (arith, c.2) };
        ends = omega (arith, a.2, b.2, c.2, d.ends);
      }

  rows_held : rows_in (body f 0) ≡ size n
  rows_held = omega (arith, body_length f 0 (omega (arith, right_head.ends)), d.first_entry.2)

  pairs_held : edges_in (body f 1) ≡ pairs f
  pairs_held = ap (λ (m : ℕ). m / 2) (body_length f 1 (omega (arith, right_head.ends)))

  from_here : (i : ℕ) → i < pairs f → from (body f 1) i ≡ edge_from f (size n) i
  from_here = from_place f (size n) d.first_entry.2

  to_here : (i : ℕ) → i < pairs f → to (body f 1) i ≡ edge_to f (size n) i
  to_here = to_place f (size n) d.first_entry.2

  ascends_here : (i : ℕ) → i < pairs f → ascends (body f 1) i ≡ true
  ascends_here zero h = refl
  ascends_here (suc i) h =
      let l : i < pairs f = omega arith in
      before_ascends (body f 1) i
      (before_same _ _ _ _ _ _ _ _ (sym (from_here i l)) (sym (to_here i l)) (sym (from_here (suc i) h)) (sym (to_here (suc i) h)) (d.ascending i h))

  edge_here : (i : ℕ) → i < pairs f → RightEdge (rows_in (body f 0)) (body f 1) i
  edge_here i h =
      let up = d.upward (edge_from f (size n) i) (edge_to f (size n) i) (d.listed i h) in
      let a = from_here i h in
      let b = to_here i h in
      record { upward = omega (arith, up.0); among = omega (arith, up.1, d.masks, rows_held); ascending = ascends_here i h }

  right_here : RightBodies (body f 0) (body f 1) (body f 2)
  right_here =
      let two = d.third_entry.2 in
      let even = d.second_entry.2 in
      let k = k_place f (size n) d.first_entry.2 even two ∙ d.counts.0 in
      let l = l_place f (size n) d.first_entry.2 even two ∙ d.counts.1 in
      record {
        rows = λ v h.
            let w : v < size n = omega (arith, rows_held) in
            subst Within (sym (row_place f (size n) d.first_entry.2 v w ∙ d.rows v w)) (d.modest v);
        pairs = λ i h. edge_here i (omega (arith, pairs_held));
        devices = (omega (arith, d.devices.0), omega (arith, d.devices.1));
      }

pub laid_out_good : (f : List ℕ) (n : Net) → LaidOut f n → file_refusal f ≡ []
laid_out_good f n d =
    nothing_first (contents_refusal f) (bodies_refusal (body f 0) (body f 1) (body f 2)) (right_contents f (right_head f n d))
    (right_bodies (body f 0) (body f 1) (body f 2) (right_here f n d))
