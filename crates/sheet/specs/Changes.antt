-- What the calls that change a sheet are refused for, and what they do to it when granted.
--   unless b r           nothing where b holds, and otherwise r
--   first r s            of two checks the first that complains
--   changed r old new    where a call leads: to the new one if it is granted, that is if r is nothing, and otherwise to the old one
use Rattle.std.specs.Prelude.{ℕ, Bool, cond, not, ◌&&◌, List, [], ◌∷◌, ◌++◌, nat_le, nat_lt, slice_set}
use Rattle.refusals.specs.declared.Refusal.TheVariants.{AboveLimit, SheetFull, NoOperator, NotUpward, EdgeExists, CountAboveLimit}
use Rattle.refusals.specs.Told.{told}
use Rattle.sets.specs.Sets.{has, including}
use Rattle.sheet.specs.declared.operators.Operator.{Operator}
use Rattle.sheet.specs.Rules.{most_operators, most_figure, most_devices}
use Rattle.sheet.specs.Nets.{Net, size, after}

abbrev pub unless : Bool → List ℕ → List ℕ
unless b r = cond b [] r

abbrev pub first : List ℕ → List ℕ → List ℕ
first [] s = s
first (x ∷ r) s = x ∷ r

abbrev pub changed : {X : Type 0} → List ℕ → X → X → X
changed [] old new = new
changed (x ∷ r) old new = old

-- each figure is within its limit
abbrev pub within : Operator → Bool
within o = nat_le o.acc most_figure && (nat_le o.cpu most_figure && (nat_le o.size most_figure && nat_le o.link most_figure))

-- ---- one operator more

abbrev pub add_refusal : Net → Operator → List ℕ
add_refusal n o = first (unless (nat_lt (size n) most_operators) (told SheetFull)) (unless (within o) (told AboveLimit))

abbrev pub added : Net → Operator → Net
added n o = record { rows = n.rows ++ (o ∷ []); successors = n.successors ++ (0 ∷ []); k = n.k; l = n.l }

-- ---- an edge from u to v

abbrev pub join_refusal : Net → ℕ → ℕ → List ℕ
join_refusal n u v =
    first (unless (nat_lt u (size n) && nat_lt v (size n)) (told NoOperator))
    (first (unless (nat_lt u v) (told NotUpward)) (unless (not (has (after n u) v)) (told EdgeExists)))

abbrev pub joined : Net → ℕ → ℕ → Net
joined n u v = record { rows = n.rows; successors = slice_set n.successors u (including (after n u) v); k = n.k; l = n.l }

-- ---- other figures for operator v

abbrev pub retime_refusal : Net → ℕ → Operator → List ℕ
retime_refusal n v o = first (unless (nat_lt v (size n)) (told NoOperator)) (unless (within o) (told AboveLimit))

abbrev pub retimed : Net → ℕ → Operator → Net
retimed n v o = record { rows = slice_set n.rows v o; successors = n.successors; k = n.k; l = n.l }

-- ---- other counts of devices

abbrev pub count_refusal : ℕ → ℕ → List ℕ
count_refusal k l = unless (nat_le k most_devices && nat_le l most_devices) (told CountAboveLimit)

abbrev pub counted : Net → ℕ → ℕ → Net
counted n k l = record { rows = n.rows; successors = n.successors; k = k; l = l }
