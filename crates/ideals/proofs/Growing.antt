-- The list of ideals as it grows, operator by operator.
use Rattle.std.proofs.Common.{◌≡◌, ℕ, zero, suc, ◌+◌, ◌-◌, ◌^◌, ◌<◌, ◌≤◌, List, [], ◌∷◌, ◌++◌, length, get_or, take, drop, set, Some, None, Option, filter, sym, refl, ap, ◌∙◌, subst, pow-suc, arith}
use Rattle.std.specs.List.{All}
use Rattle.std.proofs.lemmas.List.Elements.{All-append, All-cons, All-nil, All-weaker, All-get_or, All-map, All-filter}
use Rattle.std.proofs.lemmas.List.{append-nil, append_assoc, length-append, length-drop, length-take, length-take-le, take-append-drop, drop-append-le, take_at, take_all, take-append-le, get_or_append_left}
use Rattle.sets.specs.Sets.{inside}
use Rattle.ideals.specs.Ideals.{above, grown, room, over, fitting}
use Rattle.ideals.proofs.Fronts.{Appended, over_over, fitting_some, fitting_none, fits, exceeds}

module _ (p : ℕ → ℕ) where
  pub grown_none : grown p 0 ≡ 0 ∷ []
  unfolding grown
  grown_none = refl

  pub grown_more : (v : ℕ) → grown p (v + 1) ≡ grown p v ++ above v (p v) (grown p v)
  unfolding grown
  grown_more v = let next : v + 1 ≡ suc v = omega arith in ap (grown p) next

  pub grown_small : (v : ℕ) → All (λ x. x < 2 ^ v) (grown p v)
  unfolding grown
  grown_small zero = All-cons (λ x. x < 1) 0 [] (omega arith) (All-nil (λ x. x < 1))
  grown_small (suc v) =
      let before = grown_small v in
      All-append (λ x. x < 2 ^ suc v) (grown p v) (above v (p v) (grown p v))
      (All-weaker (λ x. x < 2 ^ v) (λ x. x < 2 ^ suc v) (λ x h. omega (arith, h, pow-suc 2 v)) (grown p v) before)
      (All-map (λ x. x < 2 ^ suc v) (λ (m : ℕ). m + 2 ^ v) (filter (inside (p v)) (grown p v))
      (All-filter (inside (p v)) (λ m. m + 2 ^ v < 2 ^ suc v) (grown p v)
      (All-weaker (λ x. x < 2 ^ v) (λ m. m + 2 ^ v < 2 ^ suc v) (λ x h. omega (arith, h, pow-suc 2 v)) (grown p v) before)))

  -- the list of fewer operators is a front of the list of more
  grown_front : (v d : ℕ) → (zs : List ℕ) × (grown p (v + d) ≡ grown p v ++ zs)
  grown_front v zero = let same : v + 0 ≡ v = omega arith in ([], ap (grown p) same ∙ sym (append-nil (grown p v)))
  grown_front v (suc d) =
      let before = grown_front v d in
      let next : v + suc d ≡ (v + d) + 1 = omega arith in (
        before.0 ++ above (v + d) (p (v + d)) (grown p (v + d)),
        ap (grown p) next ∙ grown_more (v + d) ∙ ap (λ (z : List ℕ). z ++ above (v + d) (p (v + d)) (grown p (v + d))) before.1 ∙ append_assoc (grown p v) before.0 (above (v + d) (p (v + d)) (grown p (v + d))),
      )

  pub grown_whole : (v n : ℕ) → v ≤ n → (zs : List ℕ) × (grown p n ≡ grown p v ++ zs)
  grown_whole v n h =
      let sum : n ≡ v + (n - v) = omega arith in
      let f = grown_front v (n - v) in
      (f.0, ap (grown p) sum ∙ f.1)

  pub grown_some : (n : ℕ) → 0 < length (grown p n)
  grown_some n =
      let f = grown_whole 0 n (omega arith) in
      omega (arith, ap length f.1 ∙ length-append (grown p 0) f.0, ap length grown_none)

-- the first v operators are done, in a table that was t
pub record Stands (p : ℕ → ℕ) (t : List ℕ) (v count : ℕ) (table : List ℕ) : Type 0 where
  pub counts : count ≡ length (grown p v)
  pub within : count ≤ length t
  pub holds : table ≡ over (grown p v) t

pub stands_none : (p : ℕ → ℕ) (t : List ℕ) → 0 < length t → Stands p t 0 1 (set t 0 0)
stands_none p [] h = absurd (omega arith)
stands_none p (x ∷ t) h = record { counts = sym (ap length (grown_none p)); within = h; holds = sym (ap (λ (z : List ℕ). over z (x ∷ t)) (grown_none p)) }

module _ (p : ℕ → ℕ) (t : List ℕ) (v count : ℕ) (table : List ℕ) (s : Stands p t v count table) where
  pub stands_length : length table ≡ length t
  stands_length = omega (arith, ap length s.holds, length-append (grown p v) (drop (length (grown p v)) t), length-drop (length (grown p v)) t, s.counts, s.within)

  stands_front : take count table ≡ grown p v
  stands_front = ap (take count) s.holds ∙ take_at (grown p v) (drop (length (grown p v)) t) count (sym s.counts)

  pub stands_small : (k : ℕ) → k < count → get_or table k 0 < 2 ^ v
  stands_small k h =
      let near : k < length (grown p v) = omega (arith, s.counts) in
      let read : get_or table k 0 ≡ get_or (grown p v) k 0 = ap (λ (z : List ℕ). get_or z k 0) s.holds ∙ get_or_append_left (grown p v) (drop (length (grown p v)) t) 0 k near in
      subst (λ (x : ℕ). x < 2 ^ v) (sym read) (All-get_or (λ x. x < 2 ^ v) (grown p v) k 0 near (grown_small p v))

  longer : length (grown p v) ≤ length (grown p (v + 1))
  longer = omega (arith, ap length (grown_more p v), length-append (grown p v) (above v (p v) (grown p v)))

  -- `all` are the masks with those of the next operator
  stands_grown : (needed : ℕ) (all : List ℕ) → needed ≡ p v → all ≡ take count table ++ above v needed (take count table) → all ≡ grown p (v + 1)
  stands_grown needed all is e = e ∙ ap (λ (z : List ℕ). z ++ above v needed z) stands_front ∙ ap (λ (x : ℕ). grown p v ++ above v x (grown p v)) is ∙ sym (grown_more p v)

  pub stands_more : (needed more : ℕ) (next : List ℕ) → needed ≡ p v → Appended table count v needed (Some more) next → Stands p t (v + 1) more next
  stands_more needed more next is told =
      let all = take count table ++ above v needed (take count table) in
      let f = fitting_some (length table) (length all) more told.0 in
      let g = stands_grown needed all is refl in
      record {
        counts = f.0 ∙ ap length g;
        within = omega (arith, f.0, f.1, stands_length);
        holds = told.1 ∙ ap (λ (z : List ℕ). over z table) (take_all (length table) all f.1 ∙ g) ∙ ap (over (grown p (v + 1))) s.holds ∙ over_over (grown p v) (grown p (v + 1)) t longer;
      }

  pub stands_full : (needed n : ℕ) (next : List ℕ) → v < n → needed ≡ p v → Appended table count v needed None next → (None ≡ fitting (length t) (length (grown p n))) × (next ≡ over (take (length t) (grown p n)) t)
  stands_full needed n next h is told =
      let all = take count table ++ above v needed (take count table) in
      let g = stands_grown needed all is refl in
      let w = grown_whole p (v + 1) n (omega arith) in
      let more = ap length w.1 ∙ length-append (grown p (v + 1)) w.0 in
      let past : length t < length (grown p (v + 1)) = omega (arith, fitting_none (length table) (length all) told.0, ap length g, stands_length) in
      let same : take (length table) all ≡ take (length t) (grown p n) = ap (λ (k : ℕ). take k all) stands_length ∙ ap (take (length t)) g ∙ sym (ap (take (length t)) w.1 ∙ take-append-le (length t) (grown p (v + 1)) w.0 (omega arith)) in
      let cut : length (take (length t) (grown p n)) ≡ length t = length-take-le (length t) (grown p n) (omega (arith, more)) in (
        exceeds (length t) (length (grown p n)) (omega (arith, more)),
        told.1 ∙ ap (λ (z : List ℕ). over z table) same ∙ ap (over (take (length t) (grown p n))) s.holds ∙ over_over (grown p v) (take (length t) (grown p n)) t (omega (arith, cut, s.counts, s.within)),
      )

  pub stands_all : (n : ℕ) → v ≡ n → (Some count ≡ fitting (length t) (length (grown p n))) × (table ≡ over (take (length t) (grown p n)) t)
  stands_all n same =
      let g : grown p v ≡ grown p n = ap (grown p) same in
      let short : length (grown p n) ≤ length t = omega (arith, ap length g, s.counts, s.within) in
      (ap Some (s.counts ∙ ap length g) ∙ fits (length t) (length (grown p n)) short, s.holds ∙ ap (λ (z : List ℕ). over z t) (g ∙ sym (take_all (length t) (grown p n) short)))

-- the room is the first m places of the table t
module _ (p : ℕ → ℕ) (n : ℕ) (t : List ℕ) (m : ℕ) (is : m ≡ room (length t)) where
  length_room : length (take m t) ≡ m
  length_room = length-take-le m t (omega (arith, is))

  over_room : (xs : List ℕ) → length xs ≤ m → over xs (take m t) ++ drop m t ≡ over xs t
  over_room xs h =
      append_assoc xs (drop (length xs) (take m t)) (drop m t)
      ∙ ap (λ (z : List ℕ). xs ++ z) (sym (drop-append-le (length xs) (take m t) (drop m t) (omega (arith, h, length_room))) ∙ ap (drop (length xs)) (take-append-drop m t))

  pub listed_room : (told : Option ℕ) (part : List ℕ) → told ≡ fitting (length (take m t)) (length (grown p n)) → part ≡ over (take (length (take m t)) (grown p n)) (take m t)
      → (told ≡ fitting (room (length t)) (length (grown p n))) × (part ++ drop m t ≡ over (take (room (length t)) (grown p n)) t)
  listed_room told part counted written =
      let same : length (take m t) ≡ room (length t) = length_room ∙ is in (
        counted ∙ ap (λ (k : ℕ). fitting k (length (grown p n))) same,
        ap (λ (z : List ℕ). z ++ drop m t) written ∙ over_room (take (length (take m t)) (grown p n)) (simp length-take (omega (arith, length_room))) ∙ ap (λ (k : ℕ). over (take k (grown p n)) t) same,
      )

  -- there is no room
  pub listed_nowhere : length (take m t) ≡ 0 → (None ≡ fitting (room (length t)) (length (grown p n))) × (take m t ++ drop m t ≡ over (take (room (length t)) (grown p n)) t)
  listed_nowhere none =
      listed_room None (take m t) (exceeds (length (take m t)) (length (grown p n)) (omega (arith, none, grown_some p n))) (ap (λ (k : ℕ). over (take k (grown p n)) (take m t)) (sym none))
