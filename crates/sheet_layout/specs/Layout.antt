-- How the bytes of a sheet file and a sheet belong together, place by place.
--   EntryAt f i s o n   the contents entry with index i names section s, offset o and length n
--   pairs f             how many edges the file lists
--   Before a b p q      the pair (a, b) stands before the pair (p, q): by from, then by to
--   LaidOut f n         the file f is laid out by the rules, and n is what it says
use Rattle.std.specs.Prelude.{◌≡◌, ℕ, suc, ◌+◌, ◌*◌, ◌/◌, ◌<◌, ◌≤◌, ◌⊎◌, List, length, take, slice_index, slice_index_or}
use Rattle.sheet.specs.Rules.{Modest, Upward, most_operators, most_devices}
use Rattle.sheet.specs.Nets.{Net, size, row, Edge}
use Rattle.sheet_layout.specs.Contents.{letters, section_of, offset_of, length_of}
use Rattle.sheet_layout.specs.Bodies.{row_at}

abbrev pub EntryAt : List ℕ → ℕ → ℕ → ℕ → ℕ → Type 0
EntryAt f i section offset len = (section_of f i ≡ section) × (offset_of f i ≡ offset) × (length_of f i ≡ len)

abbrev pub pairs : List ℕ → ℕ
pairs f = length_of f 1 / 2

-- the place of the edges among n operators
abbrev pub edges_at : ℕ → ℕ
edges_at n = 20 + 16 * n

abbrev pub edge_from : List ℕ → ℕ → ℕ → ℕ
edge_from f n i = slice_index f (edges_at n + 2 * i)

abbrev pub edge_to : List ℕ → ℕ → ℕ → ℕ
edge_to f n i = slice_index f (edges_at n + 2 * i + 1)

abbrev pub Before : ℕ → ℕ → ℕ → ℕ → Type 0
Before a b p q = (a < p) ⊎ ((a ≡ p) × (b < q))

pub record LaidOut (f : List ℕ) (n : Net) : Type 0 where
  -- letters and contents
  pub begins : take 4 f ≡ letters
  pub entries : slice_index_or f 4 0 ≡ 3
  pub first_entry : EntryAt f 0 1 20 (16 * size n)
  pub second_entry : EntryAt f 1 2 (edges_at (size n)) (2 * pairs f)
  pub third_entry : EntryAt f 2 3 (edges_at (size n) + 2 * pairs f) 2
  pub ends : length f ≡ edges_at (size n) + 2 * pairs f + 2
  -- section 1, the operators
  pub few : size n ≤ most_operators
  pub rows : (v : ℕ) → v < size n → row_at f (20 + 16 * v) ≡ row n v
  pub modest : Modest n.rows
  -- section 2, the edges
  pub short : 2 * pairs f ≤ 4032
  pub masks : length n.successors ≡ size n
  pub listed : (i : ℕ) → i < pairs f → Edge n (edge_from f (size n) i) (edge_to f (size n) i)
  pub complete : (u v : ℕ) → Edge n u v → (i : ℕ) × (i < pairs f) × (edge_from f (size n) i ≡ u) × (edge_to f (size n) i ≡ v)
  pub ascending : (i : ℕ) → suc i < pairs f → Before (edge_from f (size n) i) (edge_to f (size n) i) (edge_from f (size n) (suc i)) (edge_to f (size n) (suc i))
  pub upward : Upward n.successors
  -- section 3, the counts
  pub counts : (slice_index f (edges_at (size n) + 2 * pairs f) ≡ n.k) × (slice_index f (edges_at (size n) + 2 * pairs f + 1) ≡ n.l)
  pub devices : (n.k ≤ most_devices) × (n.l ≤ most_devices)
