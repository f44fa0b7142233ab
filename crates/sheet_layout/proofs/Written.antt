-- What the writer makes is laid out by the rules.
--   field_past, byte_past, row_past   what is read past a front
--   row_read                          a row is read again
--   length_file                       how long the file is
--   written_laid_out                  the file of a sheet that keeps the rules is laid out, and says the sheet
use Rattle.std.proofs.Common.{◌≡◌, ℕ, zero, suc, ◌+◌, ◌-◌, ◌*◌, ◌/◌, ◌<◌, ◌≤◌, List, [], ◌∷◌, ◌++◌, length, get_or, take, drop, sym, refl, ap, ◌∙◌, subst, arith}
use Rattle.std.specs.List.{flat_map, ContainsAt as Has}
use Rattle.std.proofs.lemmas.List.{length-append, drop-drop, drop_at, get_or_append_left, get_or-append_right}
use Rattle.byte_fields.specs.Little.{little, field}
use Rattle.byte_fields.proofs.Little.{little_spread}
use Rattle.sheet.specs.declared.operators.Operator.{Operator}
use Rattle.sheet.specs.Rules.{Within, blank}
use Rattle.sheet.specs.Nets.{Net, size, row, Edge}
use Rattle.sheet_layout.specs.Bodies.{row_at}
use Rattle.sheet_layout.specs.Contents.{length_of}
use Rattle.sheet_layout.specs.Layout.{LaidOut, Before, pairs, edges_at, edge_from, edge_to}
use Rattle.sheet_layout.specs.Written.{row_bytes, rows_bytes, edges_bytes, head_bytes, file_of}
use Rattle.sheet.specs.Kept.{Kept}
use Rattle.sheet_layout.proofs.Pairs.{two, edge_list, BeforePair, from_two, to_two, bytes_are_pairs, length_edges_bytes, pairs_ascend, pairs_listed, pairs_complete, edges_short}

-- ---- what is read past a front

module _ (front rest : List ℕ) (a : ℕ) (long : length front ≡ a) where
  pub field_past : (at n : ℕ) → field (front ++ rest) (a + at) n ≡ field rest at n
  field_past at n =
      ap (λ (cs : List ℕ). little (take n cs)) (sym (drop-drop at a (front ++ rest)) ∙ ap (drop at) (drop_at front rest a long))

  pub byte_past : (i : ℕ) → get_or (front ++ rest) (a + i) 0 ≡ get_or rest i 0
  byte_past i =
      let back : a + i - a ≡ i = omega arith in
      get_or-append_right front rest a (a + i) 0 long (omega arith) ∙ ap (λ (j : ℕ). get_or rest j 0) back

same_figures : {a b c d p q r s : ℕ} → a ≡ p → b ≡ q → c ≡ r → d ≡ s → ◌≡◌ {A = Operator} (record { acc = a; cpu = b; size = c; link = d }) (record { acc = p; cpu = q; size = r; link = s })
same_figures e f g h = cc

same_pair : {a b p q : ℕ} → a ≡ p → b ≡ q → ◌≡◌ {A = ℕ × ℕ} (a, b) (p, q)
same_pair e f = cc

pub row_past : (front rest : List ℕ) (a at : ℕ) → length front ≡ a → row_at (front ++ rest) (a + at) ≡ row_at rest at
row_past front rest a at long =
    same_figures (field_past front rest a long at 4) (later 4) (later 8) (later 12)
  where
    later : (k : ℕ) → field (front ++ rest) (a + at + k) 4 ≡ field rest (at + k) 4
    later k =
        let place : a + at + k ≡ a + (at + k) = omega arith in
        ap (λ (j : ℕ). field (front ++ rest) j 4) place ∙ field_past front rest a long (at + k) 4

-- ---- the rows

first_row : (o : Operator) (rest : List ℕ) → Within o → row_at (row_bytes o ++ rest) 0 ≡ o
first_row o rest h =
    same_figures (little_spread 4 o.acc (omega (arith, h.0))) (little_spread 4 o.cpu (omega (arith, h.1)))
    (little_spread 4 o.size (omega (arith, h.2))) (little_spread 4 o.link (omega (arith, h.3)))

pub row_read : (os : List Operator) (rest : List ℕ) (v : ℕ) → v < length os → ((w : ℕ) → Within (get_or os w blank)) → row_at (flat_map row_bytes os ++ rest) (16 * v) ≡ get_or os v blank
row_read [] rest v h modest = absurd (omega arith)
row_read (o ∷ os) rest zero h modest = first_row o (flat_map row_bytes os ++ rest) (modest 0)
row_read (o ∷ os) rest (suc v) h modest =
    let place : 16 * suc v ≡ 16 + 16 * v = omega arith in
    ap (row_at (flat_map row_bytes (o ∷ os) ++ rest)) place ∙ row_past (row_bytes o) (flat_map row_bytes os ++ rest) 16 (16 * v) refl
    ∙ row_read os rest v (omega arith) (λ w. modest (suc w))

pub length_rows : (os : List Operator) → length (flat_map row_bytes os) ≡ 16 * length os
length_rows [] = refl
length_rows (o ∷ os) = omega (arith, length_rows os)

-- ---- the places of a file

abbrev counts_bytes : Net → List ℕ
counts_bytes n = n.k ∷ n.l ∷ []

pub length_file : (n : Net) → length (file_of n) ≡ 22 + 16 * size n + length (edges_bytes n)
length_file n =
    let all = length-append (rows_bytes n) (edges_bytes n ++ counts_bytes n) in
    omega (arith, all, length-append (edges_bytes n) (counts_bytes n), length_rows n.rows)

module _ (n : Net) where
  -- past the rows
  byte_behind : (i : ℕ) → get_or (file_of n) (edges_at (size n) + i) 0 ≡ get_or (edges_bytes n ++ counts_bytes n) i 0
  byte_behind i =
      let place : edges_at (size n) + i ≡ 20 + (16 * size n + i) = omega arith in
      ap (λ (j : ℕ). get_or (file_of n) j 0) place
      ∙ byte_past (head_bytes (16 * size n) (length (edges_bytes n))) (rows_bytes n ++ (edges_bytes n ++ counts_bytes n)) 20 refl (16 * size n + i)
      ∙ byte_past (rows_bytes n) (edges_bytes n ++ counts_bytes n) (16 * size n) (length_rows n.rows) i

  edge_byte : (i : ℕ) → i < length (edges_bytes n) → get_or (file_of n) (edges_at (size n) + i) 0 ≡ get_or (flat_map two (edge_list n)) i 0
  edge_byte i h =
      byte_behind i ∙ get_or_append_left (edges_bytes n) (counts_bytes n) 0 i h
      ∙ ap (λ (bs : List ℕ). get_or bs i 0) (sym (bytes_are_pairs n))

  -- the ends of edge i stand at their places
  pair_place : (i : ℕ) → i < length (edge_list n) → ◌≡◌ {A = ℕ × ℕ} (edge_from (file_of n) (size n) i, edge_to (file_of n) (size n) i) (get_or (edge_list n) i (0, 0))
  pair_place i h =
      let place : edges_at (size n) + 2 * i + 1 ≡ edges_at (size n) + (2 * i + 1) = omega arith in
      same_pair
      (edge_byte (2 * i) (omega (arith, length_edges_bytes n)) ∙ from_two (edge_list n) i h)
      (ap (λ (j : ℕ). get_or (file_of n) j 0) place ∙ edge_byte (2 * i + 1) (omega (arith, length_edges_bytes n)) ∙ to_two (edge_list n) i h)

  count_place : (i at : ℕ) → at ≡ edges_at (size n) + length (edges_bytes n) + i → get_or (file_of n) at 0 ≡ get_or (counts_bytes n) i 0
  count_place i at e =
      let place : at ≡ edges_at (size n) + (length (edges_bytes n) + i) = omega (arith, e) in
      ap (λ (j : ℕ). get_or (file_of n) j 0) place ∙ byte_behind (length (edges_bytes n) + i)
      ∙ byte_past (edges_bytes n) (counts_bytes n) (length (edges_bytes n)) refl i

  module _ (kept : Kept n) where
    row_place : (v : ℕ) → v < size n → row_at (file_of n) (20 + 16 * v) ≡ row n v
    row_place v h =
        row_past (head_bytes (16 * size n) (length (edges_bytes n))) (rows_bytes n ++ (edges_bytes n ++ counts_bytes n)) 20 (16 * v) refl
        ∙ row_read n.rows (edges_bytes n ++ counts_bytes n) v h kept.modest

    edges_length : length_of (file_of n) 1 ≡ length (edges_bytes n)
    edges_length = little_spread 2 (length (edges_bytes n)) (omega (arith, edges_short n kept))

    pair_count : pairs (file_of n) ≡ length (edge_list n)
    pair_count = ap (λ (k : ℕ). k / 2) edges_length ∙ omega (arith, length_edges_bytes n)

    pair_bytes_count : 2 * pairs (file_of n) ≡ length (edges_bytes n)
    pair_bytes_count = ap (λ (k : ℕ). 2 * k) pair_count ∙ sym (length_edges_bytes n)

    -- an index of the file's edges is one of the list's
    in_list : (i : ℕ) → i < pairs (file_of n) → i < length (edge_list n)
    in_list i h = subst (λ (k : ℕ). i < k) pair_count h

    listed : (i : ℕ) → i < pairs (file_of n) → Edge n (edge_from (file_of n) (size n) i) (edge_to (file_of n) (size n) i)
    listed i h =
        subst (λ (e : ℕ × ℕ). Edge n e.0 e.1) (sym (pair_place i (in_list i h))) (pairs_listed n i (in_list i h))

    complete : (u v : ℕ) → Edge n u v → (i : ℕ) × (i < pairs (file_of n)) × (edge_from (file_of n) (size n) i ≡ u) × (edge_to (file_of n) (size n) i ≡ v)
    complete u v e =
        let found : Has (edge_list n) (u, v) = pairs_complete n kept u v e in
        let at = pair_place found.0 found.1 ∙ found.2 (0, 0) in
        (found.0, subst (λ (k : ℕ). found.0 < k) (sym pair_count) found.1, ap (λ (d : ℕ × ℕ). d.0) at, ap (λ (d : ℕ × ℕ). d.1) at)

    ascending : (i : ℕ) → suc i < pairs (file_of n) → Before (edge_from (file_of n) (size n) i) (edge_to (file_of n) (size n) i) (edge_from (file_of n) (size n) (suc i)) (edge_to (file_of n) (size n) (suc i))
    ascending i h =
        let next : suc i < length (edge_list n) = in_list (suc i) h in
        let here : i < length (edge_list n) = omega (arith, next) in
        subst (λ (d : ℕ × ℕ). BeforePair d (edge_from (file_of n) (size n) (suc i), edge_to (file_of n) (size n) (suc i))) (sym (pair_place i here))
        (subst (BeforePair (get_or (edge_list n) i (0, 0))) (sym (pair_place (suc i) next)) (pairs_ascend n i next))

    pub written_laid_out : LaidOut (file_of n) n
    written_laid_out =
        let twice : 2 * pairs (file_of n) ≡ length (edges_bytes n) = pair_bytes_count in
        let few : size n ≤ 64 = kept.few in
        let short : length (edges_bytes n) ≤ 4032 = edges_short n kept in
        let behind : 20 + 16 * size n + length (edges_bytes n) ≡ edges_at (size n) + 2 * pairs (file_of n) = ap (λ (k : ℕ). 20 + 16 * size n + k) (sym twice) in
        record {
          begins = refl;
          entries = refl;
          first_entry = (refl, refl, little_spread 2 (16 * size n) (omega arith));
          second_entry = (refl, little_spread 2 (20 + 16 * size n) (omega arith), edges_length ∙ sym twice);
          third_entry = (refl, little_spread 2 (20 + 16 * size n + length (edges_bytes n)) (omega arith) ∙ behind, refl);
          ends = length_file n ∙ omega (arith, behind);
          few = kept.few;
          rows = row_place;
          modest = kept.modest;
          short = subst (λ (k : ℕ). k ≤ 4032) (sym twice) short;
          masks = kept.masks;
          listed = listed;
          complete = complete;
          ascending = ascending;
          upward = kept.upward;
          counts = (
            count_place 0 (edges_at (size n) + 2 * pairs (file_of n)) (omega (arith, behind)),
            count_place 1 (edges_at (size n) + 2 * pairs (file_of n) + 1) (omega (arith, behind)),
          );
          devices = kept.devices;
        }
