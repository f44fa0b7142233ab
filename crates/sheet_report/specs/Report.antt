-- The text of a report on a sheet file, as bytes. Each line ends with one line feed.
--   summary n         how many operators and edges there are, and how many devices of each kind
--   row_figures o     the figures of an operator
--   neighbours s t    the predecessors and the successors of an operator
--   row_line n v      the line of operator v
--   row_lines n       the lines of all operators
--   stage_line s      the figures of a stage
--   ratings x         what a load rates on each scale where there is no other
--   load_line a       the answer of a device kind: a load, or that the stage does not fit
--   accelerator_head M, accelerator_line M s   the line of a stage on an accelerator with the limit M
--   processor_line s  the line of a stage on a processor
--   stage_lines M s   the figures of a stage and both answers
--   network_lines M n those of all operators taken as one stage
--   sheet_lines M n   what the sheet n says, and its network as one stage
--   described M n     the report on the sheet n, with an accelerator of the limit M: that, and its least splits
--   refused_line ts   the report on what is refused, which is told by ts
--   Reported M f t    t is the report on the file f, with an accelerator of the limit M
use Rattle.std.specs.Prelude.{◌≡◌, ℕ, true, false, List, ◌∷◌, ◌++◌, Some, None, codes, decimal, Option, nat_le}
use Rattle.std.specs.List.{flat_map}
use Rattle.refusals.specs.declared.Refusal.TheVariants.{AboveLimit}
use Rattle.refusals.specs.Told.{told, spelled}
use Rattle.sets.specs.Sets.{full, members, upto}
use Rattle.sheet.specs.declared.operators.Operator.{Operator}
use Rattle.sheet.specs.Nets.{Net, size, row, after, before, edges_of}
use Rattle.sheet.specs.Figures.{Sums, figures_of}
use Rattle.sheet_layout.specs.Bodies.{file_refusal}
use Rattle.sheet_layout.specs.Layout.{LaidOut}
use Rattle.device.specs.Limits.{most_limit}
use Rattle.device.specs.Loads.{PlainLoad, accelerated, processed}
use Rattle.device.specs.Spelled.{spelled_load}
use Rattle.scale.specs.Scales.{peak, line, pair}
use Rattle.sheet_report.specs.Listed.{listed}
use Rattle.sheet_report.specs.Plans.{plan_lines}

abbrev pub summary : Net → List ℕ
summary n =
    codes "operators " ++ (decimal (size n)
    ++ (codes "\nedges " ++ (decimal (edges_of n)
    ++ (codes "\ncounts " ++ (decimal n.k ++ (codes " " ++ (decimal n.l ++ codes "\n")))))))

abbrev pub row_figures : Operator → List ℕ
row_figures o =
    codes ": acc " ++ (decimal o.acc
    ++ (codes " cpu " ++ (decimal o.cpu
    ++ (codes " size " ++ (decimal o.size
    ++ (codes " link " ++ decimal o.link))))))

abbrev pub neighbours : List ℕ → List ℕ → List ℕ
neighbours sources targets =
    codes ", predecessors" ++ (listed sources
    ++ (codes ", successors" ++ (listed targets ++ codes "\n")))

abbrev pub row_line : Net → ℕ → List ℕ
row_line n v = decimal v ++ (row_figures (row n v) ++ neighbours (members (before n v)) (members (after n v)))

abbrev pub row_lines : Net → List ℕ
row_lines n = flat_map (row_line n) (upto (size n))

abbrev pub stage_line : Sums → List ℕ
stage_line s =
    codes "network: acc " ++ (decimal s.acc
    ++ (codes " cpu " ++ (decimal s.cpu
    ++ (codes " size " ++ (decimal s.size
    ++ (codes " in " ++ (decimal s.incoming
    ++ (codes " out " ++ (decimal s.outgoing ++ codes "\n")))))))))

abbrev pub ratings : PlainLoad → List ℕ
ratings x =
    codes ", peak " ++ (decimal (peak.joined peak.start x)
    ++ (codes " line " ++ (decimal (line.joined line.start x)
    ++ (codes " pair " ++ (decimal (pair.joined pair.start x).ticks
    ++ (codes " " ++ (decimal (pair.joined pair.start x).link ++ codes "\n")))))))

abbrev pub load_line : Option PlainLoad → List ℕ
load_line None = codes "does not fit\n"
load_line (Some x) = spelled_load x ++ ratings x

abbrev pub accelerator_head : ℕ → List ℕ
accelerator_head M = codes "accelerator " ++ (decimal M ++ codes ": ")

abbrev pub accelerator_line : ℕ → Sums → List ℕ
accelerator_line M s = accelerator_head M ++ load_line (accelerated M s)

abbrev pub processor_line : Sums → List ℕ
processor_line s = codes "processor: " ++ load_line (processed s)

abbrev pub stage_lines : ℕ → Sums → List ℕ
stage_lines M s = stage_line s ++ (accelerator_line M s ++ processor_line s)

abbrev pub network_lines : ℕ → Net → List ℕ
network_lines M n = stage_lines M (figures_of n (full (size n)))

abbrev pub sheet_lines : ℕ → Net → List ℕ
sheet_lines M n = summary n ++ (row_lines n ++ network_lines M n)

abbrev pub described : ℕ → Net → List ℕ
described M n = sheet_lines M n ++ plan_lines M n

abbrev pub refused_line : List ℕ → List ℕ
refused_line ts = codes "refused " ++ (spelled ts ++ codes "\n")

pub record Reported (M : ℕ) (f : List ℕ) (t : List ℕ) : Type 0 where
  pub limited : nat_le M most_limit ≡ false → t ≡ refused_line (told AboveLimit)
  pub accepted : nat_le M most_limit ≡ true → (n : Net) → LaidOut f n → t ≡ described M n
  pub refused : nat_le M most_limit ≡ true → (x : ℕ) (xs : List ℕ) → file_refusal f ≡ x ∷ xs → t ≡ refused_line (x ∷ xs)
