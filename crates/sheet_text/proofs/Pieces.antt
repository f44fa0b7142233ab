-- The fields of bytes, by their first one.
use Rattle.std.proofs.Common.{◌≡◌, ℕ, zero, suc, ◌+◌, ◌-◌, ◌<◌, ◌≤◌, Bool, true, false, not, cond, ltb, List, [], ◌∷◌, length, take, drop, get_or, filter, Option, Some, None, unwrap_or, refl, sym, ap, ◌∙◌, subst, inl, inr, arith}
use Rattle.std.specs.List.{All, slice_split, position_or_len}
use Rattle.std.proofs.Math.ListN.{drop_of_length-le}
use Rattle.std.proofs.Math.Seq.{drop-cons}
use Rattle.std.proofs.lemmas.Bool.{lt-ltb, ltb-true, ltb-false, not-false, not-true, cases_Bool, cases_lt, cases_eq, both_ways, cond-true}
use Rattle.std.proofs.lemmas.List.{get_or-drop, take_all, length-drop, length-take}
use Rattle.std.proofs.lemmas.List.Splits.{slice_split-cons_yes, slice_split_none, slice_split_first}
use Rattle.std.proofs.lemmas.List.Sums.{prefix_len-le-length, fails_before_first, passes_at_first}
use Rattle.sheet_text.specs.Fields.{is_blank, fields}

module _ (p : ℕ → Bool) (bs : List ℕ) where
  abbrev pub place : Option ℕ
  place = cond (ltb (position_or_len p bs) (length bs)) (Some (position_or_len p bs)) None

  pub at_most : position_or_len p bs ≤ length bs
  at_most = prefix_len-le-length (λ b. not (p b)) bs

  -- the first place that passes, or the end
  pub place_or_end : (o : Option ℕ) → o ≡ place → unwrap_or o (length bs) ≡ position_or_len p bs
  place_or_end o is = elim (cases_Bool (ltb (position_or_len p bs) (length bs))) [
    | inl less ↦ rw (is, less) refl
    | inr none ↦ rw (is, none) (omega (arith, at_most, ltb-false (position_or_len p bs) (length bs) none))
  ]

  pub placed : (o : Option ℕ) (i : ℕ) → o ≡ place → o ≡ Some i → (i ≡ position_or_len p bs) × (i < length bs)
  placed o i is some = elim (cases_Bool (ltb (position_or_len p bs) (length bs))) [
    | inl less ↦ (let e = rw less at is in cc, let e = rw less at is in let same : i ≡ position_or_len p bs = cc in omega (arith, ltb-true (position_or_len p bs) (length bs) less))
    | inr none ↦ absurd (let e = rw none at is in cc)
  ]

  pub no_place : (o : Option ℕ) → o ≡ place → o ≡ None → length bs ≤ position_or_len p bs
  no_place o is none = elim (cases_Bool (ltb (position_or_len p bs) (length bs))) [
    | inl less ↦ absurd (let e = rw less at is in cc)
    | inr end ↦ ltb-false (position_or_len p bs) (length bs) end
  ]

-- a part that is not empty is a field
pub kept : (x : List ℕ) (xs : List (List ℕ)) → 0 < length x → filter (λ f. ltb 0 (length f)) (x ∷ xs) ≡ x ∷ filter (λ f. ltb 0 (length f)) xs
kept x xs some = cond-true (ltb 0 (length x)) (x ∷ filter (λ f. ltb 0 (length f)) xs) (filter (λ f. ltb 0 (length f)) xs) (lt-ltb 0 (length x) some)

pub fields_blank : (b : ℕ) (bs : List ℕ) → is_blank b ≡ true → fields (b ∷ bs) ≡ fields bs
unfolding fields
fields_blank b bs blank = ap (filter (λ f. ltb 0 (length f))) (slice_split-cons_yes is_blank b bs blank)

-- blanks at the front do not matter
pub fields_skip : (bs : List ℕ) (k : ℕ) → k ≤ length bs → ((i : ℕ) → i < k → is_blank (get_or bs i 0) ≡ true) → fields bs ≡ fields (drop k bs)
fields_skip bs zero within blank = refl
fields_skip [] (suc k) within blank = absurd (omega arith)
fields_skip (b ∷ bs) (suc k) within blank =
    fields_blank b bs (blank 0 (omega arith)) ∙ fields_skip bs k (omega arith) (λ i below. blank (suc i) (omega arith))

pub fields_none : (bs : List ℕ) → ((i : ℕ) → i < length bs → is_blank (get_or bs i 0) ≡ true) → fields bs ≡ []
unfolding fields
fields_none bs blank = fields_skip bs (length bs) (omega arith) blank ∙ ap fields (drop_of_length-le bs (omega arith))

-- bytes without a blank are one field
pub fields_whole : (bs : List ℕ) → 0 < length bs → All (λ b. is_blank b ≡ false) bs → fields bs ≡ bs ∷ []
unfolding fields
fields_whole bs some none = ap (filter (λ f. ltb 0 (length f))) (slice_split_none is_blank bs none) ∙ kept bs [] some

module _ (bs : List ℕ) (some : 0 < length bs) (first : is_blank (get_or bs 0 0) ≡ false) where
  abbrev end : ℕ
  end = position_or_len is_blank bs

  not_at_once : end < length bs → 0 < end
  not_at_once less = elim (cases_eq end 0) [
    | inl none ↦ absurd (both_ways (is_blank (get_or bs 0 0)) first (subst (λ i. is_blank (get_or bs i 0) ≡ true) none (passes_at_first is_blank bs 0 less)))
    | inr later ↦ omega arith
  ]

  from_end : end < length bs → drop end bs ≡ get_or bs end 0 ∷ drop (end + 1) bs
  from_end less = let next : suc end ≡ end + 1 = omega arith in rw (← next) (drop-cons bs end 0 less)

  -- bytes that begin with a field: it ends at the first blank
  pub fields_first : fields bs ≡ take (position_or_len is_blank bs) bs ∷ fields (drop (position_or_len is_blank bs) bs)
  unfolding fields
  fields_first = elim (cases_lt end (length bs)) [
    | inl less ↦
        ap (filter (λ f. ltb 0 (length f))) (slice_split_first is_blank bs 0 less)
        ∙ kept (take end bs) (slice_split is_blank (drop (end + 1) bs)) (omega (arith, length-take end bs, not_at_once less))
        ∙ ap (λ fs. take end bs ∷ fs) (sym (ap fields (from_end less) ∙ fields_blank (get_or bs end 0) (drop (end + 1) bs) (passes_at_first is_blank bs 0 less)))
    | inr more ↦
        fields_whole bs some (λ i d within. fails_before_first is_blank bs i d (omega arith))
        ∙ ap (λ x. x ∷ []) (sym (take_all end bs more)) ∙ ap (λ x. take end bs ∷ fields x) (sym (drop_of_length-le bs more))
  ]

module _ (bs xs : List ℕ) (o q : Option ℕ) (s : ℕ) (starts : o ≡ place (λ b. not (is_blank b)) bs) (found : o ≡ Some s) (left : xs ≡ take (length bs - s) (drop s bs)) (ends : q ≡ place is_blank xs) where
  tail : xs ≡ drop s bs
  tail = left ∙ take_all (length bs - s) (drop s bs) (omega (arith, length-drop s bs))

  at : (s ≡ position_or_len (λ b. not (is_blank b)) bs) × (s < length bs)
  at = placed (λ b. not (is_blank b)) bs o s starts found

  blank : (i : ℕ) → i < s → is_blank (get_or bs i 0) ≡ true
  blank i below = not-false (is_blank (get_or bs i 0)) (fails_before_first (λ b. not (is_blank b)) bs i 0 (omega (arith, at.0)))

  begins : is_blank (get_or xs 0 0) ≡ false
  begins =
      let p = position_or_len (λ b. not (is_blank b)) bs in
      let same : get_or xs 0 0 ≡ get_or bs p 0 = ap (λ l. get_or l 0 0) tail ∙ get_or-drop s bs 0 0 ∙ ap (λ i. get_or bs i 0) (omega (arith, at.0)) in
      rw same (not-true (is_blank (get_or bs p 0)) (passes_at_first (λ b. not (is_blank b)) bs 0 (omega (arith, at.0, at.1))))

  pub fields_split : fields bs ≡ take (unwrap_or q (length xs)) xs ∷ fields (drop (unwrap_or q (length xs)) xs)
  fields_split =
      fields_skip bs s (omega (arith, at.1)) blank ∙ ap fields (sym tail)
      ∙ rw (place_or_end is_blank xs q ends) (fields_first xs (omega (arith, ap length tail, length-drop s bs, at.1)) begins)

pub fields_blanks : (bs : List ℕ) (o : Option ℕ) → o ≡ place (λ b. not (is_blank b)) bs → o ≡ None → fields bs ≡ []
fields_blanks bs o is none =
    let end = no_place (λ b. not (is_blank b)) bs o is none in
    fields_none bs (λ i below. not-false (is_blank (get_or bs i 0)) (fails_before_first (λ b. not (is_blank b)) bs i 0 (omega (arith, end))))
