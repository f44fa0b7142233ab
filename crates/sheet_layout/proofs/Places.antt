-- Reading in a body is reading in the file.
use Rattle.std.proofs.Common.{◌≡◌, ℕ, ◌+◌, ◌*◌, ◌<◌, ◌≤◌, List, length, get_or, take, drop, refl, ap, ◌∙◌, arith}
use Rattle.std.proofs.lemmas.List.{length-take-le, length-drop, get_or-take, get_or-drop}
use Rattle.byte_fields.specs.Little.{field}
use Rattle.byte_fields.proofs.Little.{field_part}
use Rattle.sheet_layout.specs.Contents.{length_of, start, body}
use Rattle.sheet_layout.specs.Bodies.{row_at, from, to}
use Rattle.sheet_layout.specs.Layout.{pairs, edges_at, edge_from, edge_to}

-- the row in a part of m bytes that begins at a
pub part_row : (bs : List ℕ) (a m at : ℕ) → at + 16 ≤ m → row_at (take m (drop a bs)) at ≡ row_at bs (a + at)
part_row bs a m at h =
    let place : (k : ℕ) → k ≤ 12 → field (take m (drop a bs)) (at + k) 4 ≡ field bs (a + at + k) 4
    = λ k l.
    let same : a + (at + k) ≡ a + at + k = omega arith in
    field_part bs a (at + k) 4 m (omega arith) ∙ ap (λ (x : ℕ). field bs x 4) same in
    let acc = field_part bs a at 4 m (omega arith) in
    let cpu = place 4 (omega arith) in
    let size = place 8 (omega arith) in
    let link = place 12 (omega arith) in
    rw (acc, cpu, size, link) refl

module _ (f : List ℕ) (i : ℕ) where
  -- a body that ends within the file is as long as its entry says
  pub body_length : start f i + length_of f i ≤ length f → length (body f i) ≡ length_of f i
  body_length h = length-take-le (length_of f i) (drop (start f i) f) (omega (arith, length-drop (start f i) f))

  pub body_at : (k : ℕ) → k < length_of f i → get_or (body f i) k 0 ≡ get_or f (start f i + k) 0
  body_at k h = get_or-take (length_of f i) (drop (start f i) f) k 0 h ∙ get_or-drop (start f i) f k 0

  pub body_row : (at : ℕ) → at + 16 ≤ length_of f i → row_at (body f i) at ≡ row_at f (start f i + at)
  body_row at h = part_row f (start f i) (length_of f i) at h

-- the bodies of a file whose first holds s rows
module _ (f : List ℕ) (s : ℕ) (rows : length_of f 0 ≡ 16 * s) where
  pub row_place : (v : ℕ) → v < s → row_at (body f 0) (16 * v) ≡ row_at f (20 + 16 * v)
  row_place v h = body_row f 0 (16 * v) (omega arith)

  pub from_place : (i : ℕ) → i < pairs f → from (body f 1) i ≡ edge_from f s i
  from_place i h =
      let same : start f 1 + 2 * i ≡ edges_at s + 2 * i = omega arith in
      body_at f 1 (2 * i) (omega arith) ∙ ap (λ (x : ℕ). get_or f x 0) same

  pub to_place : (i : ℕ) → i < pairs f → to (body f 1) i ≡ edge_to f s i
  to_place i h =
      let same : start f 1 + (2 * i + 1) ≡ edges_at s + 2 * i + 1 = omega arith in
      body_at f 1 (2 * i + 1) (omega arith) ∙ ap (λ (x : ℕ). get_or f x 0) same

  module _ (even : length_of f 1 ≡ 2 * pairs f) (two : length_of f 2 ≡ 2) where
    pub k_place : get_or (body f 2) 0 0 ≡ get_or f (edges_at s + 2 * pairs f) 0
    k_place =
        let same : start f 2 + 0 ≡ edges_at s + 2 * pairs f = omega arith in
        body_at f 2 0 (omega arith) ∙ ap (λ (x : ℕ). get_or f x 0) same

    pub l_place : get_or (body f 2) 1 0 ≡ get_or f (edges_at s + 2 * pairs f + 1) 0
    l_place =
        let same : start f 2 + 1 ≡ edges_at s + 2 * pairs f + 1 = omega arith in
        body_at f 2 1 (omega arith) ∙ ap (λ (x : ℕ). get_or f x 0) same
