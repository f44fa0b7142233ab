-- The bodies of a file are right exactly if nothing is told of them.
--   RightEdge n bs i        edge i is upward, among n operators, and comes after the one before it
--   RightBodies ops es cs   each row is within the limits, each edge right, and the counts within their limit
use Rattle.std.proofs.Common.{◌≡◌, ℕ, suc, ◌*◌, ◌<◌, ◌≤◌, true, List, [], get_or, arith}
use Rattle.std.proofs.lemmas.Bool.Decides.{nat_tests}
use Rattle.sheet.specs.Rules.{Within, most_devices}
use Rattle.sheet.specs.Changes.{first}
use Rattle.sheet_layout.specs.Bodies.{row_at, from, to, ascends, first_wrong, row_refusal, edge_refusal, counts_refusal, rows_in, edges_in, bodies_refusal}
use Rattle.sheet_layout.specs.Layout.{Before}
use Rattle.sheet_layout.proofs.Firsts.{first_nothing, nothing_first, first_wrong_nothing, nothing_first_wrong}

-- ---- a row

pub row_right : (bs : List ℕ) (v : ℕ) → row_refusal bs v ≡ [] → Within (row_at bs (16 * v))
row_right bs v h = grind (arith, nat_tests)

pub right_row : (bs : List ℕ) (v : ℕ) → Within (row_at bs (16 * v)) → row_refusal bs v ≡ []
right_row bs v h = grind (arith, nat_tests)

-- ---- an edge

module _ (bs : List ℕ) (i : ℕ) where
  pub ascends_before : ascends bs (suc i) ≡ true → Before (from bs i) (to bs i) (from bs (suc i)) (to bs (suc i))
  ascends_before h = grind (arith, nat_tests)

  pub before_ascends : Before (from bs i) (to bs i) (from bs (suc i)) (to bs (suc i)) → ascends bs (suc i) ≡ true
  before_ascends h = grind (arith, nat_tests)

pub record RightEdge (n : ℕ) (bs : List ℕ) (i : ℕ) : Type 0 where
  pub upward : from bs i < to bs i
  pub among : to bs i < n
  pub ascending : ascends bs i ≡ true

module _ (n : ℕ) (bs : List ℕ) (i : ℕ) where
  pub edge_right : edge_refusal n bs i ≡ [] → RightEdge n bs i
  edge_right h = grind (arith, nat_tests)

  pub right_edge : RightEdge n bs i → edge_refusal n bs i ≡ []
  right_edge r = grind (arith, nat_tests)

-- ---- the counts

pub counts_right : (bs : List ℕ) → counts_refusal bs ≡ [] → (get_or bs 0 0 ≤ most_devices) × (get_or bs 1 0 ≤ most_devices)
counts_right bs h = grind (arith, nat_tests)

pub right_counts : (bs : List ℕ) → get_or bs 0 0 ≤ most_devices → get_or bs 1 0 ≤ most_devices → counts_refusal bs ≡ []
right_counts bs g h = grind (arith, nat_tests)

-- ---- the three bodies

pub record RightBodies (operators edges counts : List ℕ) : Type 0 where
  pub rows : (v : ℕ) → v < rows_in operators → Within (row_at operators (16 * v))
  pub pairs : (i : ℕ) → i < edges_in edges → RightEdge (rows_in operators) edges i
  pub devices : (get_or counts 0 0 ≤ most_devices) × (get_or counts 1 0 ≤ most_devices)

module _ (operators edges counts : List ℕ) where
  pub bodies_right : bodies_refusal operators edges counts ≡ [] → RightBodies operators edges counts
  bodies_right h =
      let a = first_nothing (first_wrong (row_refusal operators) (rows_in operators)) (first (first_wrong (edge_refusal (rows_in operators) edges) (edges_in edges)) (counts_refusal counts)) h in
      let b = first_nothing (first_wrong (edge_refusal (rows_in operators) edges) (edges_in edges)) (counts_refusal counts) a.1 in
      record {
        rows = λ v l. row_right operators v (first_wrong_nothing (row_refusal operators) (rows_in operators) a.0 v l);
        pairs = λ i l. edge_right (rows_in operators) edges i (first_wrong_nothing (edge_refusal (rows_in operators) edges) (edges_in edges) b.0 i l);
        devices = counts_right counts b.1;
      }

  pub right_bodies : RightBodies operators edges counts → bodies_refusal operators edges counts ≡ []
  right_bodies r =
      nothing_first (first_wrong (row_refusal operators) (rows_in operators)) (first (first_wrong (edge_refusal (rows_in operators) edges) (edges_in edges)) (counts_refusal counts))
      (nothing_first_wrong (row_refusal operators) (rows_in operators) (λ v l. right_row operators v (r.rows v l)))
      (nothing_first (first_wrong (edge_refusal (rows_in operators) edges) (edges_in edges)) (counts_refusal counts)
      (nothing_first_wrong (edge_refusal (rows_in operators) edges) (edges_in edges) (λ i l. right_edge (rows_in operators) edges i (r.pairs i l)))
      (right_counts counts r.devices.0 r.devices.1))
