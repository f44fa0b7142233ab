-- What the writer's steps rest on.
--   puts_none, puts_then             nothing put, and one part after another
--   room_front, room_after           what there is room for
--   more_room, more_step             a loop that puts the bytes of the elements of a list
--   each_room, each_step             the same by an index
--   length_edges, file_length_lem    how long the edges and the file are
--   edges_few                        a sheet that keeps the rules has few edges
--   whole_room                       there is room for all parts of the file
--   file_written                     what was put to the front of a buffer is as it should be
use Rattle.std.proofs.Common.{◌≡◌, ℕ, zero, suc, ◌+◌, ◌*◌, ◌/◌, ◌%◌, ◌<◌, ◌≤◌, List, [], ◌∷◌, ◌++◌, length, get_or, map, take, drop, sum_by, sym, refl, ap, ◌∙◌, subst, inl, inr, add-one, arith}
use Rattle.std.specs.List.{flat_map, AllByRecursion}
use Rattle.std.proofs.lemmas.List.{append_assoc, length-append, get_or-map, take_more, drop_more, take-append-drop, flat_map_more}
use Rattle.std.proofs.lemmas.List.Concat.{flat_map-append}
use Rattle.std.proofs.lemmas.List.Sums.{sum_by-cons}
use Rattle.std.proofs.lemmas.Bool.{cases_lt}
use Rattle.byte_fields.specs.Little.{spread}
use Rattle.byte_fields.proofs.Little.{spread_four}
use Rattle.byte_fields.specs.Wrote.{Wrote}
use Rattle.byte_fields.proofs.Wrote.{wrote_none, wrote_then, wrote_take, wrote_drop, wrote_length}
use Rattle.sets.specs.Sets.{In, members, upto}
use Rattle.sets.proofs.Members.{members_all}
use Rattle.sheet.specs.declared.operators.Operator.{Operator}
use Rattle.sheet.specs.declared.nodes.Node.{Node}
use Rattle.sheet.specs.Rules.{blank}
use Rattle.sheet.specs.Nodes.{figures_in, successors_in}
use Rattle.sheet.proofs.Fronts.{blank_node}
use Rattle.sheet.specs.Nets.{Net, size, after, edges_of}
use Rattle.sheet.specs.Kept.{Kept}
use Rattle.sheet_layout.specs.Layout.{LaidOut}
use Rattle.sheet_layout.specs.Written.{pair_bytes, pairs_from, rows_bytes, edges_bytes, head_bytes, file_of}
use Rattle.sheet_layout.proofs.Pairs.{length_pairs_from, edges_short}
use Rattle.sheet_layout.proofs.Written.{length_file, written_laid_out}
use Rattle.sheet_layout.proofs.Unique.{laid_out_unique}
use Rattle.sheet_layout.proofs.Accepted.{laid_out_good}
use Rattle.sheet_writer.specs.Writes.{Writes}
use Rattle.sheet_writer.specs.declared.cursor.Cursor.{Cursor}
use Rattle.sheet_writer.specs.Cursors.{Room, Puts}

-- ---- one part after another

pub puts_none : (c : Cursor) → c.at ≤ length c.buffer.now → Puts c [] c
puts_none c h = record { wrote = wrote_none c.buffer.now c.at h; same = refl }

pub puts_then : {a b c : Cursor} {bs cs : List ℕ} → Puts a bs b → Puts b cs c → Puts a (bs ++ cs) c
puts_then p q = record { wrote = wrote_then p.wrote q.wrote; same = q.same ∙ p.same }

pub room_front : (c : Cursor) (bs cs : List ℕ) → Room c (bs ++ cs) → Room c bs
room_front c bs cs room = omega (arith, length-append bs cs)

-- for what comes after a part that was put
pub room_after : {a b : Cursor} {bs : List ℕ} (cs : List ℕ) → Puts a bs b → Room a (bs ++ cs) → Room b cs
room_after {a} {b} {bs} cs p room = omega (arith, p.wrote.ends, wrote_length p.wrote, length-append bs cs)

-- a figure, as `u32::to_le_bytes` gives it
pub puts_figure : {a b : Cursor} {bs : List ℕ} (x : ℕ) → bs ≡ (x % 256) ∷ (x / 256 % 256) ∷ (x / 65536 % 256) ∷ (x / 16777216 % 256) ∷ [] → Puts a bs b → Puts a (spread 4 x) b
puts_figure {a} {b} x e p = subst (λ (bs : List ℕ). Puts a bs b) (e ∙ sym (spread_four x)) p

-- ---- a loop that puts the bytes of the elements of a list

module _ {X : Type 0} (f : X → List ℕ) (done : List X) {a b : Cursor} (p : Puts a (flat_map f done) b) where
  -- room for the next element, where others may come after it
  pub more_room : (x : X) (rest all : List X) → done ++ (x ∷ rest) ≡ all → Room a (flat_map f all) → Room b (f x)
  more_room x rest all split room =
      let parts : flat_map f all ≡ flat_map f done ++ (f x ++ flat_map f rest) = ap (flat_map f) (sym split) ∙ flat_map-append f done (x ∷ rest) in
      room_front b (f x) (flat_map f rest) (room_after (f x ++ flat_map f rest) p (rw (← parts) room))

  pub more_step : (x : X) {c : Cursor} → Puts b (f x) c → Puts a (flat_map f (done ++ (x ∷ []))) c
  more_step x {c} q = subst (λ (bs : List ℕ). Puts a bs c) (flat_map_more f [] done x) (puts_then p q)

-- the same in a loop by an index
module _ {X : Type 0} (f : X → List ℕ) (xs : List X) (i : ℕ) (d : X) (h : i < length xs) {a b : Cursor} (p : Puts a (flat_map f (take i xs)) b) where
  pub each_room : Room a (flat_map f xs) → Room b (f (get_or xs i d))
  each_room room =
      more_room f (take i xs) p (get_or xs i d) (drop (i + 1) xs) xs (ap (λ (ys : List X). take i xs ++ ys) (sym (drop_more xs i d h)) ∙ take-append-drop i xs) room

  pub each_step : {c : Cursor} → Puts b (f (get_or xs i d)) c → Puts a (flat_map f (take (i + 1) xs)) c
  each_step {c} q = rw (take_more xs i d h) (more_step f (take i xs) p (get_or xs i d) q)

-- ---- the nodes of a sheet

-- the row of a node
pub row_of : (nodes : List Node) (rows : List Operator) (v : ℕ) → map figures_in nodes ≡ rows → v < length nodes → figures_in (get_or nodes v blank_node) ≡ get_or rows v blank
row_of nodes rows v e h = sym (get_or-map figures_in nodes v blank_node blank h) ∙ ap (λ (os : List Operator). get_or os v blank) e

-- its edges
pub edges_from_node : (nodes : List Node) (n : Net) (u : ℕ) → map successors_in nodes ≡ n.successors → u < length nodes → flat_map (pair_bytes u) (members (successors_in (get_or nodes u blank_node))) ≡ pairs_from n u
edges_from_node nodes n u e h =
    let is : successors_in (get_or nodes u blank_node) ≡ after n u = sym (get_or-map successors_in nodes u blank_node 0 h) ∙ ap (λ (ms : List ℕ). get_or ms u 0) e in
    ap (λ (m : ℕ). flat_map (pair_bytes u) (members m)) is

pub member_small : (m v : ℕ) (rest : List ℕ) → members m ≡ v ∷ rest → v < 64
member_small m v rest e = (subst (AllByRecursion (λ w. (w < 64) × In w m)) e (members_all m)).0.0

pub upto_more : (u : ℕ) → upto (u + 1) ≡ upto u ++ (u ∷ [])
unfolding upto
upto_more u = ap upto (add-one u)

-- u among the numbers below m
pub upto_split : (m u : ℕ) → u < m → (rest : List ℕ) × (upto u ++ (u ∷ rest) ≡ upto m)
unfolding upto
upto_split zero u h = absurd (omega arith)
upto_split (suc m) u h = elim (cases_lt u m) [
  | inl l ↦
      let s = upto_split m u l in
      (s.0 ++ (m ∷ []), sym (append_assoc (upto u) (u ∷ s.0) (m ∷ [])) ∙ ap (λ (vs : List ℕ). vs ++ (m ∷ [])) s.1)
  | inr l ↦ let z : u ≡ m = omega arith in ([], rw z refl)
]

-- ---- how long the file is

length_pairs : (n : Net) (us : List ℕ) → length (flat_map (pairs_from n) us) ≡ 2 * sum_by (λ u. length (members (after n u))) us
length_pairs n [] = refl
length_pairs n (u ∷ us) =
    omega (arith, length-append (pairs_from n u) (flat_map (pairs_from n) us), length_pairs_from n u, sum_by-cons (λ v. length (members (after n v))) u us, length_pairs n us)

pub length_edges : (n : Net) → length (edges_bytes n) ≡ 2 * edges_of n
length_edges n = length_pairs n (upto (size n))

pub file_length_lem : (n : Net) → length (file_of n) ≡ 22 + 16 * size n + 2 * edges_of n
file_length_lem n = length_file n ∙ ap (λ (k : ℕ). 22 + 16 * size n + k) (length_edges n)

pub edges_few : (n : Net) → Kept n → 2 * edges_of n ≤ 4032
edges_few n kept = subst (λ (k : ℕ). k ≤ 4032) (length_edges n) (edges_short n kept)

-- ---- the whole file

-- the parts make the file
pub file_parts : (n : Net) (operators edges k l : ℕ) → operators ≡ size n → edges ≡ edges_of n → (k ≡ n.k) × (l ≡ n.l) → head_bytes (16 * operators) (2 * edges) ++ (rows_bytes n ++ (edges_bytes n ++ (k ∷ l ∷ []))) ≡ file_of n
file_parts n operators edges k l rows joins counts =
    let long : length (edges_bytes n) ≡ 2 * edges = omega (arith, length_edges n) in
    rw (long, rows, counts.0, counts.1) refl

-- what was put to the front of a buffer, where that is the file, and what the buffer then holds
pub file_written : (n : Net) → Kept n → {a b : Cursor} {bs new : List ℕ} → Puts a bs b → a.at ≡ 0 → bs ≡ file_of n → new ≡ b.buffer.now → Writes n a.buffer.now new b.at
file_written n kept {a} {b} {bs} {new} p front is holds =
    let w : Wrote a.buffer.now 0 b.at bs new = rw (← front, holds) p.wrote in
    let file : take b.at new ≡ file_of n = wrote_take w ∙ is in
    let laid : LaidOut (take b.at new) n = subst (λ (f : List ℕ). LaidOut f n) (sym file) (written_laid_out n kept) in
    record {
      size = omega (arith, w.ends) ∙ ap length is;
      bytes = file;
      rest = wrote_drop w;
      laid_out = laid;
      reads_back = λ m other. laid_out_unique (take b.at new) m n other laid;
      good = laid_out_good (take b.at new) n laid;
    }
