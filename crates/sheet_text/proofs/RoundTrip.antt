-- The text of a sheet says that sheet.
use Rattle.std.proofs.Common.{◌≡◌, ℕ, zero, suc, ◌+◌, ◌-◌, ◌<◌, ◌≤◌, ◌&&◌, List, [], ◌∷◌, ◌++◌, length, take, set, get_or, fold, replicate, filter, ltb, codes, decimal, Ok, refl, sym, ap, ◌∙◌, subst, inl, inr, arith}
use Rattle.std.specs.List.{AllByRecursion, flat_map, range_with_len}
use Rattle.std.proofs.ByRecursion.{All-weaker, All-from_get_or}
use Rattle.std.proofs.lemmas.Bool.{lt-ltb, le-ltb, le-leb, cases_lt, cases_Bool}
use Rattle.std.proofs.lemmas.List.{append_assoc, append-nil, take_all, take_more, length-append, length-take-le}
use Rattle.std.proofs.Math.Seq.{set-append_seam, get_or-append_seam}
use Rattle.sets.specs.Sets.{has, In, members, upto, gathered}
use Rattle.sets.proofs.Sets.{has_none, same_sets}
use Rattle.sets.proofs.Members.{included, include_below, has_gathered, members_all}
use Rattle.sheet.specs.Rules.{Within, blank}
use Rattle.sheet.specs.Nets.{Net, size, after, empty}
use Rattle.sheet.specs.Kept.{Kept}
use Rattle.sheet.specs.Changes.{counted, count_refusal}
use Rattle.sheet_layout.proofs.Rising.{rising_kept, rising_upto}
use Rattle.sheet_text.specs.declared.items.Item.TheVariants.{Counts}
use Rattle.sheet_text.specs.Fields.{fields}
use Rattle.sheet_text.specs.Reading.{after_line, after_lines, lines, sheet_of}
use Rattle.sheet_text.specs.Texts.{counts_line, edge_lines_from, edge_lines, text_of}
use Rattle.sheet_text.proofs.Spellings.{decimal_word, counts_again}
use Rattle.sheet_text.proofs.Uptos.{below_none, below_next}
use Rattle.sheet_text.proofs.Words.{Word, spaced}
use Rattle.sheet_text.proofs.Readings.{Free, line_first, count_word, with_operators, with_operators_is, operators_again, with_edges_from, with_edges_from_is, edges_from_again}

range_is : upto 64 ≡ range_with_len 0 64
unfolding upto
range_is = refl

below_64 : (m : ℕ) → ((v : ℕ) → In v m → v < 64) → (v : ℕ) → (ltb v 64 && has m v) ≡ has m v
below_64 m near v = elim (cases_lt v 64) [
  | inl less ↦ rw (lt-ltb v 64 less) refl
  | inr more ↦ elim (cases_Bool (has m v)) [ inl e ↦ absurd (omega (arith, near v e, more)) | inr e ↦ rw (le-ltb v 64 more) (sym e) ]
]

-- the members of a set, included one after another, are the set
gathers : (m : ℕ) → ((v : ℕ) → In v m → v < 64) → fold included 0 (members m) ≡ m
gathers m near =
    ap (λ us. fold included 0 (filter (has m) us)) range_is ∙ include_below (has m) 64 (omega arith)
    ∙ same_sets (gathered (has m) 64) m (λ v. has_gathered (has m) 64 v ∙ below_64 m near v)

nothing_more : (i : ℕ) (n : Net) → after_lines i n (lines []) ≡ Ok n
unfolding after_lines after_line fields
nothing_more i n = refl

module _ (n : Net) (kept : Kept n) where
  -- the sheet n without counts, and with the edges from the operators below j alone
  abbrev front : ℕ → Net
  front j = record { rows = n.rows; successors = take j n.successors ++ replicate (size n - j) 0; k = 0; l = 0 }

  abbrev with_successors : List ℕ → Net
  with_successors s = record { rows = n.rows; successors = s; k = 0; l = 0 }

  abbrev row_lines : ℕ → List ℕ
  row_lines u = edge_lines_from u (after n u)

  module _ (j : ℕ) (below : j < size n) where
    front_length : length (take j n.successors) ≡ j
    front_length = length-take-le j n.successors (omega (arith, kept.masks))

    front_next : take j n.successors ++ replicate (size n - j) 0 ≡ take j n.successors ++ (0 ∷ replicate (size n - (j + 1)) 0)
    front_next = let left : size n - j ≡ suc (size n - (j + 1)) = omega arith in ap (λ k. take j n.successors ++ replicate k 0) left

    bare : after (front j) j ≡ 0
    bare =
        let r = replicate (size n - (j + 1)) 0 in
        ap (λ s. get_or s j 0) front_next
        ∙ subst (λ i. get_or (take j n.successors ++ (0 ∷ r)) i 0 ≡ 0) front_length (get_or-append_seam (take j n.successors) 0 r 0)

    there : j < length (front j).successors
    there = omega (arith, ap length front_next, length-append (take j n.successors) (0 ∷ replicate (size n - (j + 1)) 0), front_length)

    free : AllByRecursion (Free (front j) j) (members (after n j))
    free =
        All-weaker (λ v. (v < 64) × In v (after n j)) (Free (front j) j)
        (λ v is. record { up = (kept.upward j v is.1).0; near = omega (arith, (kept.upward j v is.1).1, kept.masks); free = ap (λ m. has m v) bare ∙ has_none v })
        (members (after n j)) (members_all (after n j))

    row_filled : with_edges_from (front j) j (members (after n j)) ≡ front (j + 1)
    row_filled =
        let s = n.successors in
        let vs = members (after n j) in
        let r = replicate (size n - (j + 1)) 0 in
        let near : AllByRecursion (λ v. v < 64) vs = All-weaker (λ v. (v < 64) × In v (after n j)) (λ v. v < 64) (λ v is. is.0) vs (members_all (after n j)) in
        let set_of : fold included (after (front j) j) vs ≡ after n j = ap (λ m. fold included m vs) bare ∙ gathers (after n j) (λ v e. omega (arith, (kept.upward j v e).1, kept.masks, kept.few)) in
        let filled : set (take j s ++ (0 ∷ r)) j (after n j) ≡ take j s ++ (after n j ∷ r) = subst (λ i. set (take j s ++ (0 ∷ r)) i (after n j) ≡ take j s ++ (after n j ∷ r)) front_length (set-append_seam (take j s) 0 r (after n j)) in
        let more : take (j + 1) s ++ r ≡ take j s ++ (after n j ∷ r) = ap (λ x. x ++ r) (take_more s j 0 (omega (arith, kept.masks))) ∙ append_assoc (take j s) (after n j ∷ []) r in
        with_edges_from_is vs (front j) j there near
        ∙ ap with_successors (ap (set (front j).successors j) set_of ∙ ap (λ x. set x j (after n j)) front_next ∙ filled ∙ sym more)

    row_again : (i : ℕ) (rest : List ℕ) → after_lines i (front j) (lines (row_lines j ++ rest)) ≡ after_lines (i + length (members (after n j))) (front (j + 1)) (lines rest)
    row_again i rest =
        edges_from_again (members (after n j)) (front j) j there kept.few (rising_kept (λ v w. v < w) (has (after n j)) (upto 64) (rising_upto 64)) free i rest
        ∙ ap (λ m. after_lines (i + length (members (after n j))) m (lines rest)) row_filled

  rows_again : (j : ℕ) → j ≤ size n → (i : ℕ) (rest : List ℕ) → (k : ℕ) × (after_lines i (front 0) (lines (flat_map row_lines (upto j) ++ rest)) ≡ after_lines k (front j) (lines rest))
  rows_again zero within i rest = (i, rw (below_none row_lines) refl)
  rows_again (suc j) within i rest =
      let before = rows_again j (omega (arith, within)) i (row_lines j ++ rest) in
      let next : j + 1 ≡ suc j = omega arith in
      let split : flat_map row_lines (upto (suc j)) ++ rest ≡ flat_map row_lines (upto j) ++ (row_lines j ++ rest) = ap (λ t. t ++ rest) (ap (λ k. flat_map row_lines (upto k)) (sym next) ∙ below_next row_lines j) ∙ append_assoc (flat_map row_lines (upto j)) (row_lines j) rest in
      (before.0 + length (members (after n j)), ap (λ t. after_lines i (front 0) (lines t)) split ∙ before.1 ∙ row_again j (omega (arith, within)) before.0 rest ∙ ap (λ k. after_lines (before.0 + length (members (after n j))) (front k) (lines rest)) next)

  counts_granted : count_refusal n.k n.l ≡ []
  counts_granted = rw (le-leb n.k 8 kept.devices.0, le-leb n.l 8 kept.devices.1) refl

  counts_spelled : counts_line n.k n.l ≡ spaced (codes "count") (decimal n.k ∷ decimal n.l ∷ []) ++ (10 ∷ [])
  counts_spelled = simp append_assoc

  whole : counted (front (size n)) n.k n.l ≡ n
  whole =
      let none : size n - size n ≡ 0 = omega arith in
      let all : take (size n) n.successors ++ replicate (size n - size n) 0 ≡ n.successors =
      ap (λ k. take (size n) n.successors ++ replicate k 0) none ∙ append-nil (take (size n) n.successors) ∙ take_all (size n) n.successors (omega (arith, kept.masks)) in
      ap (λ s. record { rows = n.rows; successors = s; k = n.k; l = n.l }) all

  end_again : (i : ℕ) → after_lines i (front (size n)) (lines (counts_line n.k n.l)) ≡ Ok n
  end_again i =
      let words : AllByRecursion Word (decimal n.k ∷ decimal n.l ∷ []) = (decimal_word n.k (omega (arith, kept.devices.0)), (decimal_word n.l (omega (arith, kept.devices.1)), tt)) in
      let says = counts_again n.k n.l (omega (arith, kept.devices.0)) (omega (arith, kept.devices.1)) in
      ap (λ t. after_lines i (front (size n)) (lines t)) (sym (append-nil (counts_line n.k n.l)))
      ∙ line_first (codes "count") (decimal n.k ∷ decimal n.l ∷ []) count_word words (Counts n.k n.l) says (front (size n)) counts_granted (counts_line n.k n.l) [] counts_spelled i
      ∙ ap (λ m. after_lines (i + 1) m (lines [])) whole ∙ nothing_more (i + 1) n

  pub text_again : sheet_of (text_of n) ≡ Ok n
  text_again =
      let rest = edge_lines n ++ counts_line n.k n.l in
      let all : AllByRecursion Within n.rows = All-from_get_or Within n.rows blank (λ v below. kept.modest v) in
      let none : size n ≡ size n - 0 = omega arith in
      let start : with_operators empty n.rows ≡ front 0 = with_operators_is n.rows empty ∙ ap (λ k. with_successors (replicate k 0)) none in
      let rows = rows_again (size n) (omega arith) (1 + size n) (counts_line n.k n.l) in
      operators_again n.rows empty all (omega (arith, kept.few)) 1 rest
      ∙ ap (λ m. after_lines (1 + size n) m (lines rest)) start ∙ rows.1 ∙ end_again rows.0
