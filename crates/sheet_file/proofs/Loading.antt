-- Reading a file's bodies entry by entry: the first complaint, and why an edge that is there already does not ascend.
use Rattle.std.proofs.Common.{◌≡◌, ℕ, zero, suc, ◌+◌, ◌-◌, ◌*◌, ◌<◌, ◌≤◌, true, false, List, [], ◌∷◌, length, get_or, take, drop, Option, None, Some, Result, Ok, Err, sym, refl, ap, ◌∙◌, subst, inl, inr, add-one, arith, length-drop}
use Rattle.std.proofs.lemmas.List.{get_or-drop, take_rest, drop-drop}
use Rattle.std.proofs.lemmas.Bool.{cases_Bool, cases_eq}
use Rattle.std.proofs.lemmas.Bool.Decides.{nat_tests}
use Rattle.std.specs.Simd.{first_chunks}
use Rattle.refusals.specs.declared.Reason.{Reason}
use Rattle.refusals.specs.declared.Section.TheVariants as sections
use Rattle.refusals.specs.declared.Refusal.{Refusal}
use Rattle.refusals.specs.declared.Refusal.TheVariants.{BodyEntry}
use Rattle.refusals.specs.Told.{told, section_number}
use Rattle.sheet.specs.declared.operators.Operator.{Operator}
use Rattle.sheet.specs.Nets.{Net, size, Edge, empty}
use Rattle.sheet.specs.Changes.{first, added, joined}
use Rattle.sheet_layout.specs.Bodies.{rows_in, row_at, from, to, ascends, first_wrong, edge_refusal, with_rows, with_edges}
use Rattle.sheet_layout.specs.Layout.{Before}
use Rattle.sheet_file.specs.Loading.{Listing}
use Rattle.sheet_file.specs.declared.bodies.Pair.{Pair}
use Rattle.sheet_file.specs.Pairs.{comes_after, pair_outcome}
use Rattle.sheet_layout.proofs.Places.{part_row}
use Rattle.refusals.proofs.Tellings.{told_something}
use Rattle.sheet_layout.proofs.Firsts.{first_wrong_more, first_wrong_nothing}
use Rattle.sheet_layout.proofs.Edges.{with_rows_more, with_edges_more, with_edges_cases, Inside}
use Rattle.sheet_layout.proofs.Checks.{ascends_before, RightEdge, edge_right}

-- ---- the first complaint

pub first_told : (e : Refusal) (r s : List ℕ) → r ≡ told e → first r s ≡ told e
first_told e [] s h = absurd (told_something e (sym h))
first_told e (x ∷ r) s h = h

-- of n entries, those before i being right, the one at i is the first that is wrong
pub first_wrong_at : (check : ℕ → List ℕ) (e : Refusal) (i n : ℕ) → i < n → first_wrong check i ≡ [] → told e ≡ check i → told e ≡ first_wrong check n
first_wrong_at check e i zero h right wrong = absurd (omega arith)
first_wrong_at check e i (suc n) h right wrong = elim (cases_eq i n) [
  | inl here ↦ sym (first_wrong_more check n ∙ ap (λ (r : List ℕ). first r (check n)) (ap (first_wrong check) (sym here) ∙ right) ∙ sym (wrong ∙ ap check here))
  | inr later ↦ sym (first_wrong_more check n ∙ first_told e (first_wrong check n) (check n) (sym (first_wrong_at check e i n (omega arith) right wrong)))
]

pub first_wrong_step : (check : ℕ → List ℕ) (n : ℕ) → first_wrong check n ≡ [] → check n ≡ [] → first_wrong check (n + 1) ≡ []
first_wrong_step check n before here =
    let next : n + 1 ≡ suc n = omega arith in
    ap (first_wrong check) next ∙ first_wrong_more check n ∙ ap (λ (r : List ℕ). first r (check n)) before ∙ here

-- ---- edges in ascending order

before_trans : (a b c d p q : ℕ) → Before a b c d → Before c d p q → Before a b p q
before_trans a b c d p q h k = grind arith

before_itself : (a b : ℕ) → Before a b a b → ⊥
before_itself a b h = grind arith

-- an edge further on comes later
later : (bs : List ℕ) (j k : ℕ) → j < k → ((i : ℕ) → i < suc k → ascends bs i ≡ true) → Before (from bs j) (to bs j) (from bs k) (to bs k)
later bs j zero h up = absurd (omega arith)
later bs j (suc k) h up = elim (cases_eq j k) [
  | inl same ↦ subst (λ (i : ℕ). Before (from bs i) (to bs i) (from bs (suc k)) (to bs (suc k))) (sym same) (ascends_before bs k (up (suc k) (omega arith)))
  | inr less ↦ before_trans (from bs j) (to bs j) (from bs k) (to bs k) (from bs (suc k)) (to bs (suc k)) (later bs j k (omega arith) (λ i l. up i (omega arith))) (ascends_before bs k (up (suc k) (omega arith)))
]

-- an edge that is there already is one of those before, so that it does not ascend
pub there_descends : (bs : List ℕ) (i : ℕ) (n : Net) → Listing bs i n → Edge n (from bs i) (to bs i) → ascends bs i ≡ false
there_descends bs i n l there = elim (cases_Bool (ascends bs i)) [
  | inl up ↦
      let old = l.listed (from bs i) (to bs i) there in
      let all : (k : ℕ) → k < suc i → ascends bs k ≡ true = λ k h. elim (cases_eq k i) [
        | inl same ↦ ap (ascends bs) same ∙ up
        | inr less ↦ l.ascending k (omega arith)
      ] in
      let again = later bs old.0 i old.1 all in
      absurd (before_itself (from bs i) (to bs i) (subst (λ (b : ℕ). Before (from bs i) b (from bs i) (to bs i)) old.3 (subst (λ (a : ℕ). Before a (to bs old.0) (from bs i) (to bs i)) old.2 again)))
  | inr down ↦ down
]

-- ---- an edge after the one before it

-- the pair with index i of a body, and the one before it
abbrev pub pair_at : List ℕ → ℕ → Pair
pair_at bs i = record { from = from bs i; to = to bs i }

abbrev pub last_at : List ℕ → ℕ → Option Pair
last_at bs zero = None
last_at bs (suc i) = Some (pair_at bs i)

comes_ascends : (bs : List ℕ) (i : ℕ) → comes_after (last_at bs i) (pair_at bs i) ≡ ascends bs i
comes_ascends bs zero = refl
comes_ascends bs (suc i) = refl

-- what is told where an edge has such an outcome
abbrev pub tells : ℕ → Result (Unit {0}) Reason → List ℕ
tells i (Ok x) = []
tells i (Err r) = told (BodyEntry (section_number sections.Edges) i r)

pub pair_tells : (n : ℕ) (bs : List ℕ) (i : ℕ) (last : Option Pair) (p : Pair) → last ≡ last_at bs i → p ≡ pair_at bs i → tells i (pair_outcome n last p) ≡ edge_refusal n bs i
pair_tells n bs i last p before here =
    let order = comes_ascends bs i in
    rw (before, here) (grind (arith, nat_tests))

-- an edge that is there already does not come after the last one
pub there_before : (bs : List ℕ) (i : ℕ) (n : Net) (last : Option Pair) (p : Pair) → Listing bs i n → last ≡ last_at bs i → p ≡ pair_at bs i → Edge n p.from p.to → comes_after last p ≡ false
there_before bs i n last p l before here there =
    ap (λ (q : Option Pair). comes_after q p) before ∙ ap (λ (q : Pair). comes_after (last_at bs i) q) here ∙ comes_ascends bs i
    ∙ there_descends bs i n l (subst (λ (q : Pair). Edge n q.from q.to) here there)

-- the next pair
pub last_more : (bs : List ℕ) (i : ℕ) (p : Pair) → p ≡ pair_at bs i → Some p ≡ last_at bs (i + 1)
last_more bs i p here = rw add-one (ap (λ (q : Pair). Some q) here)

-- ---- one turn of each loop

-- the chunk of sixteen bytes with index v
chunk_at : (n : ℕ) (bs : List ℕ) (v : ℕ) (d : List ℕ) → v < n → get_or (first_chunks 16 n bs) v d ≡ take 16 (drop (16 * v) bs)
chunk_at zero bs v d h = absurd (omega arith)
chunk_at (suc n) bs zero d h = refl
chunk_at (suc n) bs (suc v) d h =
    let place : 16 + 16 * v ≡ 16 * suc v = omega arith in
    chunk_at n (drop 16 bs) v d (omega arith) ∙ ap (take 16) (drop-drop (16 * v) 16 bs ∙ ap (λ (k : ℕ). drop k bs) place)

-- its row
pub chunk_row : (bs : List ℕ) (rows : List (List ℕ)) (v : ℕ) → rows ≡ first_chunks 16 (rows_in bs) bs → v < rows_in bs → row_at (get_or rows v []) 0 ≡ row_at bs (16 * v)
chunk_row bs rows v are h =
    let place : 16 * v + 0 ≡ 16 * v = omega arith in
    ap (λ (parts : List (List ℕ)). row_at (get_or parts v []) 0) are ∙ ap (λ (part : List ℕ). row_at part 0) (chunk_at (rows_in bs) bs v [] h)
    ∙ part_row bs (16 * v) 16 0 (omega arith) ∙ ap (row_at bs) place

pub rows_step : (bs : List ℕ) (v : ℕ) (n m : Net) (o : Operator) → n ≡ with_rows bs v empty → o ≡ row_at bs (16 * v) → m ≡ added n o → m ≡ with_rows bs (v + 1) empty
rows_step bs v n m o before here is =
    let next : v + 1 ≡ suc v = omega arith in
    is ∙ ap (added n) here ∙ ap (λ (x : Net). added x (row_at bs (16 * v))) before ∙ sym (ap (λ (k : ℕ). with_rows bs k empty) next ∙ with_rows_more bs v empty)

pub edges_step : (bs : List ℕ) (i : ℕ) (base n m : Net) (p : Pair) → n ≡ with_edges bs i base → p ≡ pair_at bs i → m ≡ joined n p.from p.to → m ≡ with_edges bs (i + 1) base
edges_step bs i base n m p before here is =
    let next : i + 1 ≡ suc i = omega arith in
    is ∙ ap (λ (q : Pair). joined n q.from q.to) here ∙ ap (λ (x : Net). joined x (from bs i) (to bs i)) before
    ∙ sym (ap (λ (k : ℕ). with_edges bs k base) next ∙ with_edges_more bs i base)

-- what is joined so far, to a net without edges
pub listing_so_far : (bs : List ℕ) (i : ℕ) (base n : Net) → ((u v : ℕ) → Edge base u v → ⊥) → length base.successors ≡ size base → n ≡ with_edges bs i base → first_wrong (edge_refusal (size base) bs) i ≡ [] → Listing bs i n
listing_so_far bs i base n bare masks is right =
    let each : (j : ℕ) → j < i → RightEdge (size base) bs j = λ j l. edge_right (size base) bs j (first_wrong_nothing (edge_refusal (size base) bs) i right j l) in
    let inside : Inside bs i base = λ j l. let e = each j l in omega (arith, e.upward, e.among, masks) in
    record {
      listed = λ u v h. elim (with_edges_cases bs i base inside u v (subst (λ (x : Net). Edge x u v) is h)) [ inl old ↦ absurd (bare u v old) | inr new ↦ new ];
      ascending = λ j l. (each j l).ascending;
    }

-- the pair at the front of what is left of a body
pub front_pair : (body left : List ℕ) (i : ℕ) → left ≡ drop (2 * i) body → ◌≡◌ {A = Pair} (record { from = get_or left 0 0; to = get_or left 1 0 }) (pair_at body i)
front_pair body left i is =
    let at : 2 * i + 0 ≡ 2 * i = omega arith in
    let one : get_or left 0 0 ≡ from body i = ap (λ (xs : List ℕ). get_or xs 0 0) is ∙ get_or-drop (2 * i) body 0 0 ∙ ap (λ (k : ℕ). get_or body k 0) at in
    let two : get_or left 1 0 ≡ to body i = ap (λ (xs : List ℕ). get_or xs 1 0) is ∙ get_or-drop (2 * i) body 1 0 in
    rw (one, two) refl

-- and what is left after it
pub rest_left : (body left : List ℕ) (i : ℕ) → left ≡ drop (2 * i) body → take (length left - 2) (drop 2 left) ≡ drop (2 * (i + 1)) body
rest_left body left i is =
    let at : 2 * i + 2 ≡ 2 * (i + 1) = omega arith in
    take_rest left 2 ∙ ap (drop 2) is ∙ drop-drop 2 (2 * i) body ∙ ap (λ (k : ℕ). drop k body) at

pub rest_length : (left : List ℕ) (i all : ℕ) → 2 ≤ length left → 2 * i + length left ≡ all → 2 * (i + 1) + length (take (length left - 2) (drop 2 left)) ≡ all
rest_length left i all two is = omega (arith, ap length (take_rest left 2), length-drop 2 left)
