-- The bodies of a sheet file: sixteen bytes an operator, two bytes an edge, two bytes of counts.
--   row_at bs at           the four figures from the place at
--   from bs i, to bs i     the ends of the edge with index i
--   ascends bs i           edge i comes after the one before it, by from and then by to
--   first_wrong check n    what is told of the first of n entries that a check complains of
--   file_refusal f         what is told of the first wrong thing in a file, nothing where the file is good
--   net_of f               the sheet of a good file: its rows added, its edges joined, its counts set
use Rattle.std.specs.Prelude.{ℕ, zero, suc, ◌+◌, ◌*◌, ◌/◌, Bool, true, ◌&&◌, ◌||◌, List, [], length, ◌==◌, nat_le, nat_lt, slice_index}
use Rattle.byte_fields.specs.Little.{field}
use Rattle.refusals.specs.declared.Reason.TheVariants as reasons
use Rattle.refusals.specs.declared.Section.TheVariants as sections
use Rattle.refusals.specs.declared.Refusal.TheVariants.{BodyEntry}
use Rattle.refusals.specs.Told.{told, section_number}
use Rattle.sheet.specs.declared.operators.Operator.{Operator}
use Rattle.sheet.specs.Rules.{most_devices}
use Rattle.sheet.specs.Nets.{Net, empty}
use Rattle.sheet.specs.Changes.{unless, first, within, added, joined, counted}
use Rattle.sheet_layout.specs.Contents.{contents_refusal, body}

abbrev pub row_at : List ℕ → ℕ → Operator
row_at bs at = record { acc = field bs at 4; cpu = field bs (at + 4) 4; size = field bs (at + 8) 4; link = field bs (at + 12) 4 }

abbrev pub from : List ℕ → ℕ → ℕ
from bs i = slice_index bs (2 * i)

abbrev pub to : List ℕ → ℕ → ℕ
to bs i = slice_index bs (2 * i + 1)

abbrev pub ascends : List ℕ → ℕ → Bool
ascends bs zero = true
ascends bs (suc i) = nat_lt (from bs i) (from bs (suc i)) || (from bs i == from bs (suc i) && nat_lt (to bs i) (to bs (suc i)))

-- ---- what is told

unfoldable pub first_wrong : (ℕ → List ℕ) → ℕ → List ℕ
first_wrong check zero = []
first_wrong check (suc n) = first (first_wrong check n) (check n)

abbrev pub row_refusal : List ℕ → ℕ → List ℕ
row_refusal bs v = unless (within (row_at bs (16 * v))) (told (BodyEntry (section_number sections.Operators) v reasons.AboveLimit))

-- of an edge among n operators
abbrev pub edge_refusal : ℕ → List ℕ → ℕ → List ℕ
edge_refusal n bs i =
    first (unless (nat_lt (from bs i) n && nat_lt (to bs i) n) (told (BodyEntry (section_number sections.Edges) i reasons.NoOperator)))
    (first (unless (nat_lt (from bs i) (to bs i)) (told (BodyEntry (section_number sections.Edges) i reasons.NotUpward)))
    (unless (ascends bs i) (told (BodyEntry (section_number sections.Edges) i reasons.NotAscending))))

abbrev pub counts_refusal : List ℕ → List ℕ
counts_refusal bs = unless (nat_le (slice_index bs 0) most_devices && nat_le (slice_index bs 1) most_devices) (told (BodyEntry (section_number sections.Counts) 0 reasons.CountAboveLimit))

abbrev pub rows_in : List ℕ → ℕ
rows_in bs = length bs / 16

abbrev pub edges_in : List ℕ → ℕ
edges_in bs = length bs / 2

abbrev pub bodies_refusal : List ℕ → List ℕ → List ℕ → List ℕ
bodies_refusal operators edges counts =
    first (first_wrong (row_refusal operators) (rows_in operators))
    (first (first_wrong (edge_refusal (rows_in operators) edges) (edges_in edges)) (counts_refusal counts))

abbrev pub file_refusal : List ℕ → List ℕ
file_refusal f = first (contents_refusal f) (bodies_refusal (body f 0) (body f 1) (body f 2))

-- ---- the sheet

-- the first v rows of a body added
unfoldable pub with_rows : List ℕ → ℕ → Net → Net
with_rows bs zero n = n
with_rows bs (suc v) n = added (with_rows bs v n) (row_at bs (16 * v))

-- the first i edges of a body joined
unfoldable pub with_edges : List ℕ → ℕ → Net → Net
with_edges bs zero n = n
with_edges bs (suc i) n = joined (with_edges bs i n) (from bs i) (to bs i)

abbrev pub net_of_bodies : List ℕ → List ℕ → List ℕ → Net
net_of_bodies operators edges counts =
    counted (with_edges edges (edges_in edges) (with_rows operators (rows_in operators) empty)) (slice_index counts 0) (slice_index counts 1)

abbrev pub net_of : List ℕ → Net
net_of f = net_of_bodies (body f 0) (body f 1) (body f 2)
