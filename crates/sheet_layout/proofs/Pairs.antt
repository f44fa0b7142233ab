-- The edges of a sheet as a list of pairs, and the bytes of that list.
--   edges_from n u    the edges from u, ascending
--   edges_below n j   the edges from the operators below j, ascending
--   edge_list n       all edges, ascending
--   two e             the two bytes of an edge
--   room u            how many edges the operators below u can have, of 64
use Rattle.std.proofs.Common.{◌≡◌, ℕ, zero, suc, ◌+◌, ◌-◌, ◌*◌, ◌<◌, ◌≤◌, false, List, [], ◌∷◌, ◌++◌, map, length, get_or, sym, refl, ap, ◌∙◌, subst, inl, inr, arith}
use Rattle.std.specs.List.{flat_map, ContainsAt as Has, AllByRecursion}
use Rattle.std.proofs.ByRecursion.{All-weaker, All-map, All-get_or}
use Rattle.std.proofs.lemmas.List.{length-append, length-map, get_or_past}
use Rattle.std.proofs.lemmas.Bool.{cases_lt, cases_Bool, both_ways}
use Rattle.sets.specs.Sets.{has, In, members, upto}
use Rattle.sets.proofs.Sets.{has_none}
use Rattle.sets.proofs.Members.{members_all}
use Rattle.sheet.specs.Nets.{Net, size, after, Edge}
use Rattle.sheet_layout.specs.Layout.{Before}
use Rattle.sheet_layout.specs.Written.{pair_bytes, pairs_from, edges_bytes}
use Rattle.sheet.specs.Kept.{Kept}
use Rattle.sheet_layout.proofs.Rising.{Rising, rising_append, rising_kept, rising_map, rising_next, all_upto, rising_upto, has_kept, kept_few, joined_none, joined_upto, all_joined, has_joined, has_map}

abbrev pub two : ℕ × ℕ → List ℕ
two e = e.0 ∷ e.1 ∷ []

abbrev pub edges_from : Net → ℕ → List (ℕ × ℕ)
edges_from n u = map (λ v. (u, v)) (members (after n u))

abbrev pub edges_below : Net → ℕ → List (ℕ × ℕ)
edges_below n j = flat_map (edges_from n) (upto j)

abbrev pub edge_list : Net → List (ℕ × ℕ)
edge_list n = edges_below n (size n)

-- ---- pairs and their bytes

pub length_two : (es : List (ℕ × ℕ)) → length (flat_map two es) ≡ 2 * length es
length_two [] = refl
length_two (e ∷ es) = omega (arith, length_two es)

pub from_two : (es : List (ℕ × ℕ)) (i : ℕ) → i < length es → get_or (flat_map two es) (2 * i) 0 ≡ (get_or es i (0, 0)).0
from_two [] i h = absurd (omega arith)
from_two (e ∷ es) zero h = refl
from_two (e ∷ es) (suc i) h =
    let at : 2 * suc i ≡ suc (suc (2 * i)) = omega arith in
    ap (λ (j : ℕ). get_or (flat_map two (e ∷ es)) j 0) at ∙ from_two es i (omega arith)

pub to_two : (es : List (ℕ × ℕ)) (i : ℕ) → i < length es → get_or (flat_map two es) (2 * i + 1) 0 ≡ (get_or es i (0, 0)).1
to_two [] i h = absurd (omega arith)
to_two (e ∷ es) zero h = refl
to_two (e ∷ es) (suc i) h =
    let at : 2 * suc i + 1 ≡ suc (suc (2 * i + 1)) = omega arith in
    ap (λ (j : ℕ). get_or (flat_map two (e ∷ es)) j 0) at ∙ to_two es i (omega arith)

two_append : (ds es : List (ℕ × ℕ)) → flat_map two (ds ++ es) ≡ flat_map two ds ++ flat_map two es
two_append [] es = refl
two_append (d ∷ ds) es = ap (λ (bs : List ℕ). d.0 ∷ d.1 ∷ bs) (two_append ds es)

two_from : (u : ℕ) (vs : List ℕ) → flat_map two (map (λ v. (u, v)) vs) ≡ flat_map (pair_bytes u) vs
two_from u [] = refl
two_from u (v ∷ vs) = ap (λ (bs : List ℕ). u ∷ v ∷ bs) (two_from u vs)

two_joined : (n : Net) (us : List ℕ) → flat_map two (flat_map (edges_from n) us) ≡ flat_map (pairs_from n) us
two_joined n [] = refl
two_joined n (u ∷ us) =
    two_append (edges_from n u) (flat_map (edges_from n) us)
    ∙ ap (λ (bs : List ℕ). bs ++ flat_map two (flat_map (edges_from n) us)) (two_from u (members (after n u)))
    ∙ ap (λ (bs : List ℕ). pairs_from n u ++ bs) (two_joined n us)

pub bytes_are_pairs : (n : Net) → flat_map two (edge_list n) ≡ edges_bytes n
bytes_are_pairs n = two_joined n (upto (size n))

-- ---- how many bytes the edges have

pub length_pairs_from : (n : Net) (u : ℕ) → length (pairs_from n u) ≡ 2 * length (members (after n u))
length_pairs_from n u =
    ap length (sym (two_from u (members (after n u)))) ∙ length_two (edges_from n u)
    ∙ ap (λ (k : ℕ). 2 * k) (length-map (members (after n u)) (λ v. (u, v)))

pub length_edges_bytes : (n : Net) → length (edges_bytes n) ≡ 2 * length (edge_list n)
length_edges_bytes n = ap length (sym (bytes_are_pairs n)) ∙ length_two (edge_list n)

-- ---- the list ascends

abbrev pub BeforePair : ℕ × ℕ → ℕ × ℕ → Type 0
BeforePair d e = Before d.0 d.1 e.0 e.1

-- what holds of each edge from u, and of each from the operators below j
all_from : (n : Net) (P : ℕ × ℕ → Type 0) (u : ℕ) → ((v : ℕ) → Edge n u v → P (u, v)) → AllByRecursion P (edges_from n u)
all_from n P u h =
    All-map P (λ v. (u, v)) (members (after n u))
    (All-weaker (λ v. (v < 64) × In v (after n u)) (λ v. P (u, v)) (λ v k. h v k.1) (members (after n u)) (members_all (after n u)))

all_below : (n : Net) (P : ℕ × ℕ → Type 0) (j : ℕ) → ((u v : ℕ) → u < j → Edge n u v → P (u, v)) → AllByRecursion P (edges_below n j)
all_below n P j h =
    all_joined P (edges_from n) (upto j)
    (All-weaker (λ u. u < j) (λ u. AllByRecursion P (edges_from n u)) (λ u l. all_from n P u (λ v e. h u v l e)) (upto j) (all_upto j))

rising_from : (n : Net) (u : ℕ) → Rising BeforePair (edges_from n u)
rising_from n u =
    rising_map BeforePair (λ v w. v < w) (λ v. (u, v)) (λ v w h. inr (refl, h)) (members (after n u))
    (rising_kept (λ v w. v < w) (has (after n u)) (upto 64) (rising_upto 64))

rising_below : (n : Net) (j : ℕ) → Rising BeforePair (edges_below n j)
rising_below n zero = rw (joined_none (edges_from n)) tt
rising_below n (suc j) =
    let later : (e : ℕ × ℕ) → e.0 < j → AllByRecursion (BeforePair e) (edges_from n j) = λ e h. all_from n (BeforePair e) j (λ v k. inl h) in
    let split : AllByRecursion (λ (e : ℕ × ℕ). AllByRecursion (BeforePair e) (edges_from n j)) (edges_below n j) = all_below n (λ (e : ℕ × ℕ). AllByRecursion (BeforePair e) (edges_from n j)) j (λ u v l k. later (u, v) l) in
    subst (Rising BeforePair) (sym (joined_upto (edges_from n) j))
    (rising_append BeforePair (edges_below n j) (edges_from n j) (rising_below n j) (rising_from n j) split)

pub pairs_ascend : (n : Net) (i : ℕ) → suc i < length (edge_list n) → BeforePair (get_or (edge_list n) i (0, 0)) (get_or (edge_list n) (suc i) (0, 0))
pairs_ascend n i h = rising_next BeforePair (edge_list n) i (0, 0) h (rising_below n (size n))

-- ---- the list has the edges

pub pairs_listed : (n : Net) (i : ℕ) → i < length (edge_list n) → Edge n (get_or (edge_list n) i (0, 0)).0 (get_or (edge_list n) i (0, 0)).1
pairs_listed n i h =
    let Is : ℕ × ℕ → Type 0 = λ e. Edge n e.0 e.1 in
    All-get_or Is (edge_list n) i (0, 0) h (all_below n Is (size n) (λ u v l e. e))

-- an edge leads from an operator
edge_below : (n : Net) (u v : ℕ) → Edge n u v → u < length n.successors
edge_below n u v e = elim (cases_lt u (length n.successors)) [
  | inl l ↦ l
  | inr l ↦ absurd (both_ways (has (after n u) v) (ap (λ (m : ℕ). has m v) (get_or_past n.successors u 0 l) ∙ has_none v) e)
]

pub pairs_complete : (n : Net) → Kept n → (u v : ℕ) → Edge n u v → Has (edge_list n) (u, v)
pairs_complete n kept u v e =
    let from : u < length n.successors = edge_below n u v e in
    let to = kept.upward u v e in
    has_joined (edges_from n) (size n) u (u, v) (omega arith)
    (has_map (λ w. (u, w)) (members (after n u)) v (has_kept (has (after n u)) 64 v (omega arith) e))

-- ---- there is room for them

abbrev room : ℕ → ℕ
room zero = 0
room (suc u) = room u + (63 - u)

room_most : (m u : ℕ) → u ≤ m → room u ≤ room m
room_most zero u h = let z : u ≡ 0 = omega arith in rw z (omega arith)
room_most (suc m) u h = elim (cases_lt m u) [
  | inl l ↦ let z : u ≡ suc m = omega arith in rw z (omega arith)
  | inr l ↦ omega (arith, room_most m u l)
]

from_few : (n : Net) → Kept n → (u : ℕ) → length (edges_from n u) ≤ 63 - u
from_few n kept u =
    let fails : (v : ℕ) → v < suc u → has (after n u) v ≡ false = λ v l. elim (cases_Bool (has (after n u) v)) [
      | inl e ↦ absurd (omega (arith, kept.upward u v e))
      | inr e ↦ e
    ] in
    omega (arith, length-map {B = ℕ × ℕ} (members (after n u)) (λ v. (u, v)), kept_few (has (after n u)) (suc u) 64 fails)

below_few : (n : Net) → Kept n → (u : ℕ) → length (edges_below n u) ≤ room u
below_few n kept zero = rw (joined_none (edges_from n)) (omega arith)
below_few n kept (suc u) =
    let more = ap length (joined_upto (edges_from n) u) ∙ length-append (edges_below n u) (edges_from n u) in
    omega (arith, more, below_few n kept u, from_few n kept u)

pub edges_short : (n : Net) → Kept n → length (edges_bytes n) ≤ 4032
edges_short n kept =
    omega (arith, length_edges_bytes n, below_few n kept (size n), room_most 64 (size n) kept.few)
