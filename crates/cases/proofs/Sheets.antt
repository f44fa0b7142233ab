-- The sheets of the examples keep the rules of a sheet, and the sum of ticks keeps the laws of a scale.
use Rattle.std.proofs.Common.{ℕ, zero, suc, ◌+◌, ◌-◌, ◌^◌, ◌≤◌, min, max, refl, arith}
use Rattle.std.proofs.lemmas.Bool.{both_ways, leb-true, le-leb}
use Rattle.sets.specs.Sets.{has}
use Rattle.sets.proofs.Sets.{has_none}
use Rattle.sheet.specs.Nets.{empty}
use Rattle.sheet.specs.Rules.{Modest, Upward}
use Rattle.sheet.specs.Kept.{Kept}
use Rattle.scale.specs.Scales.{line}
use Rattle.recurrence.specs.Laws.{Laws}
use Rattle.recurrence.proofs.Diamond.{diamond_kept, peak_laws}
use Rattle.cases.specs.Sheets.{single, square}

empty_modest : Modest empty.rows
empty_modest v = (omega arith, omega arith, omega arith, omega arith)

empty_upward : Upward empty.successors
empty_upward u v h = absurd (both_ways (has 0 v) (has_none v) h)

pub empty_kept : Kept empty
empty_kept = record { few = omega arith; modest = empty_modest; masks = refl; upward = empty_upward; devices = (omega arith, omega arith) }

module _ (k l : ℕ) (few_first : k ≤ 8) (few_second : l ≤ 8) where
  single_modest : Modest (single k l).rows
  single_modest zero = (omega arith, omega arith, omega arith, omega arith)
  single_modest (suc v) = (omega arith, omega arith, omega arith, omega arith)

  single_upward : Upward (single k l).successors
  single_upward zero v h = absurd (both_ways (has 0 v) (has_none v) h)
  single_upward (suc u) v h = absurd (both_ways (has 0 v) (has_none v) h)

  pub single_kept : Kept (single k l)
  single_kept = record { few = omega arith; modest = single_modest; masks = refl; upward = single_upward; devices = (few_first, few_second) }

  pub square_kept : Kept (square k l)
  square_kept = record { few = diamond_kept.few; modest = diamond_kept.modest; masks = refl; upward = diamond_kept.upward; devices = (few_first, few_second) }

pub line_laws : Laws line
line_laws = record {
  ordered = record { total = peak_laws.ordered.total; transitive = peak_laws.ordered.transitive };
  monotone = λ x y z fair h. le-leb (max x (min (x + z.ticks) (2 ^ 64 - 1))) (max y (min (y + z.ticks) (2 ^ 64 - 1))) (omega (arith, leb-true x y h));
}
