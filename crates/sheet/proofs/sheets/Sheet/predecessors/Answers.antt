use Rattle.std.proofs.Common.{◌≡◌, ℕ, ap, ◌∙◌, arith, rules}
use Rattle.sets.specs.Sets.{has}
use Rattle.sheet.specs.Nets.{before}
use Rattle.sheet.specs.Views.{net}
use Rattle.sheet.proofs.Fronts.{kept_by_sheet}
use Rattle.sheet.proofs.Charges.{before_means}
use Rattle.sheet.proofs.sheets.Sheet.predecessors.Goals as goal

pub returns-clause-means : goal.returns-clause-means
returns-clause-means c = λ u.
    let s = c.args.self.now in
    let is : c.gather.result ≡ before (net s) c.args.v = search rules in
    ap (λ (m : ℕ). has m u) is ∙ before_means (net s) c.args.v u (omega (arith, (kept_by_sheet s).masks))
