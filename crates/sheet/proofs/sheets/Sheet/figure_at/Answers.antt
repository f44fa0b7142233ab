use Rattle.std.proofs.Common.{◌≡◌, ◌∙◌, rules}
use Rattle.std.specs.Option.{option_map_or}
use Rattle.sheet.specs.Figures.{figure_of}
use Rattle.sheet.specs.Views.{net}
use Rattle.sheet.proofs.Charges.{figure_read}
use Rattle.sheet.proofs.sheets.Sheet.figure_at.Goals as goal

pub returns : goal.returns
returns c =
    let is : c.map_or.result ≡ option_map_or (λ o. figure_of c.args.which o.now) c.row.result 0 = search rules in
    is ∙ figure_read (net c.args.self.now) c.args.which c.args.v c.row.result c.row.ensures
