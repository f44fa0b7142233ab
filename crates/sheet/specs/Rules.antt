-- The limits of a sheet, and the rules that each sheet keeps.
--   blank               the row of no operator: each figure 0
--   Within o            each of the four figures of o is within its limit
--   Modest rows         each row is within the limits
--   Upward successors   each edge leads to an operator of a higher number; the mask at u is the set of the operators that u has an edge to
use Rattle.std.specs.Prelude.{ℕ, ◌<◌, ◌≤◌, List, length, slice_index, slice_index_or}
use Rattle.sets.specs.Sets.{In}
use Rattle.sheet.specs.declared.operators.Operator.{Operator}

abbrev pub most_operators : ℕ
most_operators = 64

abbrev pub most_figure : ℕ
most_figure = 1000000

abbrev pub most_devices : ℕ
most_devices = 8

-- of 64 operators
abbrev pub most_sum : ℕ
most_sum = 64000000

abbrev pub blank : Operator
blank = record { acc = 0; cpu = 0; size = 0; link = 0 }

abbrev pub Within : Operator → Type 0
Within o = (o.acc ≤ most_figure) × (o.cpu ≤ most_figure) × (o.size ≤ most_figure) × (o.link ≤ most_figure)

abbrev pub Modest : List Operator → Type 0
Modest rows = (v : ℕ) → Within (slice_index_or rows v blank)

abbrev pub Upward : List ℕ → Type 0
Upward successors = (u v : ℕ) → In v (slice_index successors u) → (u < v) × (v < length successors)
