-- What a sheet says, as plain values.
--   Net          rows of figures, for each operator the set of its successors, and the counts of devices
--   size n       how many operators there are; they are numbered from 0
--   row n v      the row of operator v, blank where there is none
--   after n u    the set of the operators that u has an edge to
--   Edge n u v   an edge leads from u to v
--   before n v   the set of the operators that have an edge to v
--   edges_of n   how many edges there are
--   empty        no operator, no edge, no device
use Rattle.std.specs.Prelude.{ℕ, List, [], length, sum_by, slice_index, slice_index_or}
use Rattle.sets.specs.Sets.{has, In, members, upto, gathered}
use Rattle.sheet.specs.declared.operators.Operator.{Operator}
use Rattle.sheet.specs.Rules.{blank}

pub record Net : Type 0 where
  pub rows : List Operator
  pub successors : List ℕ
  pub k : ℕ
  pub l : ℕ

abbrev pub size : Net → ℕ
size n = length n.rows

abbrev pub row : Net → ℕ → Operator
row n v = slice_index_or n.rows v blank

abbrev pub after : Net → ℕ → ℕ
after n u = slice_index n.successors u

abbrev pub Edge : Net → ℕ → ℕ → Type 0
Edge n u v = In v (after n u)

abbrev pub before : Net → ℕ → ℕ
before n v = gathered (λ u. has (after n u) v) (size n)

abbrev pub edges_of : Net → ℕ
edges_of n = sum_by (λ u. length (members (after n u))) (upto (size n))

abbrev pub empty : Net
empty = record { rows = []; successors = []; k = 0; l = 0 }
