-- What one operator more, below all operators of a set, does to the set's figures.
use Rattle.std.proofs.Common.{◌≡◌, ℕ, ◌+◌, ◌-◌, ◌^◌, ◌<◌, ◌≤◌, Bool, false, cond, not, ◌&&◌, ◌||◌, eqb, filter, refl, ap, ◌∙◌, inl, inr, arith}
use Rattle.std.proofs.lemmas.List.{get_or_past}
use Rattle.std.proofs.lemmas.Bool.{cases_Bool, cases_eq, ne_eqb}
use Rattle.std.proofs.lemmas.Bool.Decides.{nat_tests}
use Rattle.sets.specs.Sets.{has, In, inside, meeting, either, without, including, upto, gathered, members}
use Rattle.sets.proofs.Sets.{has_including, has_none, has_or, has_difference, same_sets, and_false}
use Rattle.sets.proofs.Members.{has_gathered, members_kept}
use Rattle.sheet.specs.declared.operators.Figure.{Figure}
use Rattle.sheet.specs.declared.operators.Figure.TheVariants.{Link}
use Rattle.sheet.specs.Nets.{Net, size, row, after, before}
use Rattle.sheet.specs.Kept.{Kept}
use Rattle.sheet.specs.Figures.{figure_of, feeds, leaves, charged}
use Rattle.sheet.proofs.Charges.{before_means}
use Rattle.stage_memo.proofs.Masks.{meeting_more, inside_more}
use Rattle.stage_memo.proofs.Parts.{charged_apart, charged_one, charged_single}

-- ---- a number without operator has no edge

module _ (n : Net) (kept : Kept n) where
  after_far : (u : ℕ) → size n ≤ u → after n u ≡ 0
  after_far u far = get_or_past n.successors u 0 (omega (arith, kept.masks))

  edge_far : (u v : ℕ) → size n ≤ u → has (after n u) v ≡ false
  edge_far u v far = ap (λ (s : ℕ). has s v) (after_far u far) ∙ has_none v

  feeds_far : (m u : ℕ) → size n ≤ u → feeds n m u ≡ false
  feeds_far m u far = ap (λ (s : ℕ). not (has m u) && meeting s m) (after_far u far) ∙ and_false (not (has m u))

  pub has_feeding : (m u : ℕ) → has (gathered (feeds n m) (size n)) u ≡ feeds n m u
  has_feeding m u = has_gathered (feeds n m) (size n) u ∙ grind (arith, nat_tests, feeds_far m u)

  pub has_before : (v u : ℕ) → has (before n v) u ≡ has (after n u) v
  has_before v u = before_means n v u (omega (arith, kept.masks))

-- u feeds the set m with v, and not m
abbrev pub fresh : Net → ℕ → ℕ → ℕ → Bool
fresh n m v u = has (after n u) v && not (feeds n m u)

-- a test at v
at_place : (p : ℕ → Bool) (u v : ℕ) → (eqb u v && p u) ≡ (eqb u v && p v)
at_place p u v = elim (cases_eq u v) [ inl e ↦ ap (λ (x : ℕ). eqb u v && p x) e | inr e ↦ rw (ne_eqb u v e) refl ]

module _ (n : Net) (kept : Kept n) (m v : ℕ) (below : (u : ℕ) → In u m → v < u) where
  -- v is not in the set, and no edge leads to it from itself or from the set
  out : (u : ℕ) → (eqb u v && has m u) ≡ false
  out u = grind (arith, nat_tests, below u)

  no_loop : (u : ℕ) → (eqb u v && has (after n u) v) ≡ false
  no_loop u = let up : In v (after n u) → u < v = λ h. (kept.upward u v h).0 in grind (arith, nat_tests, up)

  no_back : (u : ℕ) → (has m u && has (after n u) v) ≡ false
  no_back u = let up : In v (after n u) → u < v = λ h. (kept.upward u v h).0 in grind (arith, nat_tests, below u, up)

  -- ---- the figures of the operators

  pub charged_more : (w : Figure) → charged n w (has (including m v)) ≡ charged n w (has m) + figure_of w (row n v)
  charged_more w =
      charged_apart n w (has (including m v)) (has m) (λ u. eqb u v) (has_including m v) (λ u. grind (arith, out u)) ∙ ap (λ (x : ℕ). charged n w (has m) + x) (charged_single n w v)

  -- ---- what enters

  feeds_more : (u : ℕ) → feeds n (including m v) u ≡ (not (has m u || eqb u v) && (meeting (after n u) m || has (after n u) v))
  feeds_more u = grind (arith, has_including m v u, meeting_more (after n u) m v)

  -- the operators that feed the set with v: `fed` feed the set, and `to` have an edge to v
  pub feeding_more : (fed to wide mask new : ℕ) → wide < 2 ^ 64 → mask < 2 ^ 64 → fed ≡ gathered (feeds n m) (size n) → to ≡ before n v → wide ≡ either fed to → mask ≡ including m v → new ≡ without wide mask
      → new ≡ gathered (feeds n (including m v)) (size n)
  feeding_more fed to wide mask new small few is edges both more cut = cut ∙ same_sets (without wide mask) (gathered (feeds n (including m v)) (size n)) same
    where
      wide_is : (u : ℕ) → has wide u ≡ (feeds n m u || has (after n u) v)
      wide_is u = rw (both, is, edges) (has_or (gathered (feeds n m) (size n)) (before n v) u ∙ rw (has_feeding n kept m u, has_before n kept v u) refl)

      mask_is : (u : ℕ) → has mask u ≡ (has m u || eqb u v)
      mask_is u = rw more (has_including m v u)

      same : (u : ℕ) → has (without wide mask) u ≡ has (gathered (feeds n (including m v)) (size n)) u
      same u = has_difference wide mask u small few ∙ grind (arith, wide_is u, mask_is u, feeds_more u, has_feeding n kept (including m v) u)

  feeds_parts : (u : ℕ) → feeds n (including m v) u ≡ ((feeds n m u && not (eqb u v)) || fresh n m v u)
  feeds_parts u = feeds_more u ∙ grind (arith, out u, no_loop u, no_back u)

  pub incoming_more : (old fed new : ℕ) → old ≡ charged n Link (feeds n m) → fed ≡ cond (feeds n m v) (row n v).link 0 → new ≡ charged n Link (fresh n m v)
      → (fed ≤ old) × ((old - fed) + new ≡ charged n Link (feeds n (including m v)))
  incoming_more old fed new is out enters =
      let parts = charged_apart n Link (feeds n (including m v)) (λ u. feeds n m u && not (eqb u v)) (fresh n m v) feeds_parts (λ u. grind arith) in
      let whole = charged_apart n Link (feeds n m) (λ u. feeds n m u && not (eqb u v)) (λ u. eqb u v && feeds n m v) (λ u. grind (arith, at_place (feeds n m) u v)) (λ u. grind arith) in
      let one = charged_one n Link v (feeds n m v) in
      (omega arith, omega arith)

  -- `to` have an edge to v, and `fed` feed the set
  pub fresh_members : (to fed new : ℕ) → to < 2 ^ 64 → fed < 2 ^ 64 → to ≡ before n v → fed ≡ gathered (feeds n m) (size n) → new ≡ without to fed → members new ≡ filter (fresh n m v) (upto (size n))
  fresh_members to fed new small few edges is cut = members_kept (fresh n m v) (size n) new kept.few (λ u. rw (cut, has_difference to fed u small few, edges, is, has_before n kept v u, has_feeding n kept m u) (grind (arith, nat_tests, edge_far n kept u v)))

  -- ---- what leaves

  leaves_parts : (u : ℕ) → leaves n (including m v) u ≡ (leaves n m u || (eqb u v && not (inside (after n v) m)))
  leaves_parts u = elim (cases_Bool (has (after n u) v)) [
    | inl e ↦ grind (arith, has_including m v u, no_loop u, no_back u)
    | inr e ↦ grind (arith, has_including m v u, inside_more (after n u) m v e, at_place (λ (x : ℕ). not (inside (after n x) m)) u v)
  ]

  pub outgoing_more : (old sent : ℕ) → old ≡ charged n Link (leaves n m) → sent ≡ cond (not (inside (after n v) m)) (row n v).link 0 → old + sent ≡ charged n Link (leaves n (including m v))
  outgoing_more old sent is to =
      let parts = charged_apart n Link (leaves n (including m v)) (leaves n m) (λ u. eqb u v && not (inside (after n v) m)) leaves_parts (λ u. grind (arith, out u)) in
      let one = charged_one n Link v (not (inside (after n v) m)) in
      omega arith
