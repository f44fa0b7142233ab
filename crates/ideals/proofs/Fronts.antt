-- A table's front while masks are appended to it.
use Rattle.std.proofs.Common.{◌≡◌, ℕ, ◌+◌, ◌-◌, ◌^◌, ◌<◌, ◌≤◌, List, [], ◌∷◌, ◌++◌, map, length, get_or, take, drop, set, Some, None, filter, Option, sym, refl, ap, ◌∙◌, arith}
use Rattle.std.specs.List.{All}
use Rattle.std.proofs.lemmas.List.Elements.{All-from_get_or, All-filter, All-same, All-tail}
use Rattle.std.proofs.lemmas.List.{append-nil, append_assoc, map-append, length-append, length-drop, length_push, length-take-le, take_at, take_all, drop_more, drop-drop, drop_at, set_at, get_or-take}
use Rattle.std.proofs.lemmas.Bool.Decides.{nat_tests}
use Rattle.sets.specs.Sets.{inside}
use Rattle.ideals.specs.Ideals.{above, over, fitting}

pub over_push : (xs t : List ℕ) (y : ℕ) → length xs < length t → set (over xs t) (length xs) y ≡ over (xs ++ (y ∷ [])) t
over_push xs t y h =
    ap (λ (r : List ℕ). set (xs ++ r) (length xs) y) (drop_more t (length xs) 0 h)
    ∙ set_at xs (get_or t (length xs) 0) (drop (length xs + 1) t) y (length xs) refl
    ∙ ap (λ (n : ℕ). xs ++ (y ∷ drop n t)) (sym (length_push xs y))
    ∙ sym (append_assoc xs (y ∷ []) (drop (length (xs ++ (y ∷ []))) t))

pub over_over : (xs ys t : List ℕ) → length xs ≤ length ys → over ys (over xs t) ≡ over ys t
over_over xs ys t h =
    let further : length xs + (length ys - length xs) ≡ length ys = omega arith in
    ap (λ (z : List ℕ). ys ++ z) (ap (λ (m : ℕ). drop m (over xs t)) (sym further)
    ∙ sym (drop-drop (length ys - length xs) (length xs) (over xs t))
    ∙ ap (drop (length ys - length xs)) (drop_at xs (drop (length xs) t) (length xs) refl)
    ∙ drop-drop (length ys - length xs) (length xs) t
    ∙ ap (λ (m : ℕ). drop m t) further)

pub fitting_some : (most n m : ℕ) → Some m ≡ fitting most n → (m ≡ n) × (n ≤ most)
fitting_some most n m e = (grind (arith, nat_tests, e), grind (arith, nat_tests, e))

pub fitting_none : (most n : ℕ) → None ≡ fitting most n → most < n
fitting_none most n e = grind (arith, nat_tests, e)

pub fits : (most n : ℕ) → n ≤ most → Some n ≡ fitting most n
fits most n h = grind (arith, nat_tests, h)

pub exceeds : (most n : ℕ) → most < n → None ≡ fitting most n
exceeds most n h = grind (arith, nat_tests, h)

-- what `append_above` answers, and what it leaves in the table
abbrev pub Appended : List ℕ → ℕ → ℕ → ℕ → Option ℕ → List ℕ → Type 0
Appended t n v p told table = (told ≡ fitting (length t) (length (take n t ++ above v p (take n t)))) × (table ≡ over (take (length t) (take n t ++ above v p (take n t))) t)

-- after so many free places of the table t: the masks that they were given, and those of the first n that are still to be looked at
pub record SoFar (t : List ℕ) (n v p : ℕ) (rest : List ℕ) (added : ℕ) (places : List ℕ) : Type 0 where
  pub given : List ℕ
  pub parted : filter (inside p) (take n t) ≡ given ++ filter (inside p) rest
  pub small : All (λ m. m < 2 ^ v) (filter (inside p) rest)
  pub counts : length (map (λ m. m + 2 ^ v) given) ≡ added
  pub holds : places ≡ over (map (λ m. m + 2 ^ v) given) (drop n t)

module _ (t : List ℕ) (n v p : ℕ) (fitted : n ≤ length t) where
  length_n : length (take n t) ≡ n
  length_n = length-take-le n t fitted

  pub so_far_none : (rest places : List ℕ) → rest ≡ take n t → places ≡ drop n t → ((k : ℕ) → k < n → get_or t k 0 < 2 ^ v) → SoFar t n v p rest 0 places
  so_far_none rest places front back low =
      let each : All (λ m. m < 2 ^ v) (take n t) = All-from_get_or (λ m. m < 2 ^ v) (take n t) 0 (λ k h. let near : k < n = omega (arith, length_n) in rw get_or-take (low k near)) in
      record { given = []; parted = ap (filter (inside p)) (sym front); small = All-filter (inside p) (λ m. m < 2 ^ v) rest (All-same (λ m. m < 2 ^ v) rest (take n t) front each); counts = refl; holds = back }

  module _ (rest : List ℕ) (added : ℕ) (places : List ℕ) (s : SoFar t n v p rest added places) where
    pub so_far_more : (x : ℕ) (left : List ℕ) → added < length places → filter (inside p) rest ≡ x ∷ filter (inside p) left → SoFar t n v p left (added + 1) (set places added (x + 2 ^ v))
    so_far_more x left near e =
        let done : List ℕ = map (λ m. m + 2 ^ v) s.given in
        let more : map (λ m. m + 2 ^ v) (s.given ++ (x ∷ [])) ≡ done ++ ((x + 2 ^ v) ∷ []) = map-append (λ (m : ℕ). m + 2 ^ v) s.given (x ∷ []) in
        let free : length done < length (drop n t) = omega (arith, s.counts, ap length s.holds, length-append done (drop (length done) (drop n t)), length-drop (length done) (drop n t)) in
        record {
          given = s.given ++ (x ∷ []);
          parted = s.parted ∙ ap (λ (z : List ℕ). s.given ++ z) e ∙ sym (append_assoc s.given (x ∷ []) (filter (inside p) left));
          small = All-tail (λ m. m < 2 ^ v) x (filter (inside p) left) (All-same (λ m. m < 2 ^ v) (x ∷ filter (inside p) left) (filter (inside p) rest) (sym e) s.small);
          counts = ap length more ∙ length_push done (x + 2 ^ v) ∙ ap (λ (k : ℕ). k + 1) s.counts;
          holds = ap (λ (z : List ℕ). set z added (x + 2 ^ v)) s.holds ∙ ap (λ (k : ℕ). set (over done (drop n t)) k (x + 2 ^ v)) (sym s.counts) ∙ over_push done (drop n t) (x + 2 ^ v) free ∙ ap (λ (z : List ℕ). over z (drop n t)) (sym more);
        }

    whole : (pending : List ℕ) → filter (inside p) rest ≡ pending → take n t ++ above v p (take n t) ≡ (take n t ++ map (λ m. m + 2 ^ v) s.given) ++ map (λ m. m + 2 ^ v) pending
    whole pending e =
        let add : List ℕ → List ℕ = map (λ m. m + 2 ^ v) in
        ap (λ (z : List ℕ). take n t ++ add z) (s.parted ∙ ap (λ (z : List ℕ). s.given ++ z) e) ∙ ap (λ (z : List ℕ). take n t ++ z) (map-append (λ (m : ℕ). m + 2 ^ v) s.given pending) ∙ sym (append_assoc (take n t) (add s.given) (add pending))

    length_done : length (take n t ++ map (λ m. m + 2 ^ v) s.given) ≡ n + added
    length_done = omega (arith, length-append (take n t) (map (λ m. m + 2 ^ v) s.given), length_n, s.counts)

    joined : (front ys : List ℕ) → front ≡ take n t → ys ≡ take n t ++ map (λ m. m + 2 ^ v) s.given → front ++ places ≡ over ys t
    joined front ys is e =
        let done : List ℕ = map (λ m. m + 2 ^ v) s.given in
        let further : n + length done ≡ length (take n t ++ done) = omega (arith, length_done, s.counts) in
        ap (λ (z : List ℕ). z ++ places) is ∙ ap (λ (z : List ℕ). take n t ++ z) s.holds ∙ sym (append_assoc (take n t) done (drop (length done) (drop n t)))
        ∙ ap (λ (z : List ℕ). (take n t ++ done) ++ z) (drop-drop (length done) n t ∙ ap (λ (k : ℕ). drop k t) further) ∙ ap (λ (z : List ℕ). over z t) (sym e)

    -- no mask is left
    pub so_far_done : (front : List ℕ) → front ≡ take n t → n + added ≤ length t → filter (inside p) rest ≡ [] → Appended t n v p (Some (n + added)) (front ++ places)
    so_far_done front first near none =
        let all = take n t ++ above v p (take n t) in
        let is = whole [] none ∙ append-nil (take n t ++ map (λ m. m + 2 ^ v) s.given) in
        let long : n + added ≡ length all = sym (ap length is ∙ length_done) in
        let short : length all ≤ length t = omega (arith, long) in
        (ap Some long ∙ fits (length t) (length all) short, joined front (take (length t) all) first (take_all (length t) all short ∙ is))

    -- a mask is left, and no place for it
    pub so_far_full : (front : List ℕ) → front ≡ take n t → n + added ≡ length t → (x : ℕ) (left : List ℕ) → filter (inside p) rest ≡ x ∷ left → Appended t n v p None (front ++ places)
    so_far_full front first full x left more =
        let all = take n t ++ above v p (take n t) in
        let done : List ℕ = take n t ++ map (λ m. m + 2 ^ v) s.given in
        let others : List ℕ = map (λ m. m + 2 ^ v) (x ∷ left) in
        let is : all ≡ done ++ others = whole (x ∷ left) more in
        let long : length t < length all = omega (arith, ap length is, length-append done others, length_done) in
        (exceeds (length t) (length all) long, joined front (take (length t) all) first (ap (take (length t)) is ∙ take_at done others (length t) (length_done ∙ full)))
