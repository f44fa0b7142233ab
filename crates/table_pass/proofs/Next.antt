-- The next ideal inside another one, found in the part of the list between two indices.
use Rattle.std.proofs.Common.{◌≡◌, ℕ, ◌+◌, ◌-◌, ◌<◌, ◌≤◌, Bool, true, false, cond, ltb, List, length, take, drop, get_or, Option, Some, None, refl, sym, ap, ◌∙◌, arith}
use Rattle.std.specs.List.{position_or_len}
use Rattle.std.proofs.lemmas.Bool.{ltb-true, ltb-false}
use Rattle.std.proofs.lemmas.List.{get_or-drop, get_or-take, length-drop, length-take-le}
use Rattle.std.proofs.lemmas.List.Sums.{fails_before_first, passes_at_first}
use Rattle.sets.specs.Sets.{inside}
use Rattle.table_pass.specs.Passes.{NoneInside, NextInside}

module _ (ms : List ℕ) (m f i : ℕ) (range : f ≤ i) (listed : i ≤ length ms) where
  abbrev part : List ℕ
  part = take (i - f) (drop f ms)

  abbrev test : ℕ → Bool
  test x = inside x m

  abbrev steps : ℕ
  steps = position_or_len test part

  part_length : length part ≡ i - f
  part_length = length-take-le (i - f) (drop f ms) (omega (arith, length-drop f ms))

  part_at : (k : ℕ) → k < i - f → get_or part k 0 ≡ get_or ms (f + k) 0
  part_at k less = get_or-take (i - f) (drop f ms) k 0 less ∙ get_or-drop f ms k 0

  none_before : (t : ℕ) → t ≤ i → t ≤ f + steps → NoneInside ms m f t
  none_before t within before u from to =
      let k : u ≡ f + (u - f) = omega arith in
      ap (λ (x : ℕ). test (get_or ms x 0)) k ∙ ap test (sym (part_at (u - f) (omega arith))) ∙ fails_before_first test part (u - f) 0 (omega arith)

  abbrev placed : Bool → Option ℕ
  placed b = cond b (Some steps) None

  some : (b : Bool) (k : ℕ) → ltb steps (length part) ≡ b → placed b ≡ Some k → NextInside ms m f i (Some (f + k))
  some true k less is =
      let at : k ≡ steps = cc in
      let near : steps < i - f = omega (arith, ltb-true steps (length part) less, part_length) in
      rw at (
        omega arith,
        omega arith,
        ap test (sym (part_at steps near)) ∙ passes_at_first test part 0 (ltb-true steps (length part) less),
        none_before (f + steps) (omega arith) (omega arith),
      )
  some false k less is = absurd cc

  none : (b : Bool) → ltb steps (length part) ≡ b → placed b ≡ None → NextInside ms m f i None
  none true less is = absurd cc
  none false less is = none_before i (omega arith) (omega (arith, ltb-false steps (length part) less, part_length))

  -- what is found in the part is the next one
  module _ (found : Option ℕ) (is : found ≡ placed (ltb steps (length part))) where
    pub next_some : (k : ℕ) → found ≡ Some k → NextInside ms m f i (Some (f + k))
    next_some k at = some (ltb steps (length part)) k refl (sym is ∙ at)

    pub next_none : found ≡ None → NextInside ms m f i None
    next_none at = none (ltb steps (length part)) refl (sym is ∙ at)
