-- The figures of a stage: its mask and five sums.
--   figure_of w o       the figure of an operator that w names
--   feeds n m u         u is outside the set m and has an edge into it
--   leaves n m u        u is in the set m and has an edge out of it
--   Feeds, Leaves       the same, as facts about edges
--   charged n w test    the sum of a figure over the operators that pass a test, each counted once
--   figures_of n m      the figures of the set m as a stage
use Rattle.std.specs.Prelude.{◌≡◌, ℕ, Bool, false, not, ◌&&◌, Decides, sum_by, filter}
use Rattle.sets.specs.Sets.{has, In, inside, meeting, upto}
use Rattle.sheet.specs.declared.operators.Operator.{Operator}
use Rattle.sheet.specs.declared.operators.Figure.{Figure}
use Rattle.sheet.specs.declared.operators.Figure.TheVariants.{Acc, Cpu, Size, Link}
use Rattle.sheet.specs.Nets.{Net, size, row, after, Edge}

pub record Sums : Type 0 where
  pub mask : ℕ
  pub acc : ℕ
  pub cpu : ℕ
  pub size : ℕ
  pub incoming : ℕ
  pub outgoing : ℕ

abbrev pub figure_of : Figure → Operator → ℕ
figure_of Acc o = o.acc
figure_of Cpu o = o.cpu
figure_of Size o = o.size
figure_of Link o = o.link

abbrev pub feeds : Net → ℕ → ℕ → Bool
feeds n m u = not (has m u) && meeting (after n u) m

abbrev pub leaves : Net → ℕ → ℕ → Bool
leaves n m u = has m u && not (inside (after n u) m)

abbrev pub Feeds : Net → ℕ → ℕ → Type 0
Feeds n m u = (has m u ≡ false) × ((v : ℕ) × (Edge n u v × In v m))

abbrev pub Leaves : Net → ℕ → ℕ → Type 0
Leaves n m u = In u m × ((v : ℕ) × (Edge n u v × (has m v ≡ false)))

-- the tests of feeds and leaves say just that
abbrev pub Charging : Net → ℕ → Type 0
Charging n m = (u : ℕ) → Decides (feeds n m u) (Feeds n m u) × Decides (leaves n m u) (Leaves n m u)

abbrev pub charged : Net → Figure → (ℕ → Bool) → ℕ
charged n w test = sum_by (λ v. figure_of w (row n v)) (filter test (upto (size n)))

abbrev pub figures_of : Net → ℕ → Sums
figures_of n m = record {
  mask = m;
  acc = charged n Acc (has m);
  cpu = charged n Cpu (has m);
  size = charged n Size (has m);
  incoming = charged n Link (feeds n m);
  outgoing = charged n Link (leaves n m);
}
