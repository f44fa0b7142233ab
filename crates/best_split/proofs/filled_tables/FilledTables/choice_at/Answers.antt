use Rattle.std.proofs.Common.{get_or, sym, ap, ◌∙◌}
use Rattle.cells.specs.Cells.{no_choice}
use Rattle.best_split.specs.Tables.{setting_of}
use Rattle.best_split.proofs.Leads.{leads, leads_none}
use Rattle.best_split.proofs.filled_tables.FilledTables.choice_at.Goals as goal

pub returns-in_err-kind : goal.returns-in_err-kind
returns-in_err-kind g c =
    let t = c.args.self.now in
    let at = c.args.at in
    let here = c.requires.here in
    let is = ap (λ m. get_or t.choices.now m no_choice) c.index_of.ensures.value ∙ t.shown.1 at.i at.a at.b here.0 here.1 here.2 in
    rw c.from_residual.ensures (leads_none (setting_of t) at (get_or t.choices.now c.index_of.result no_choice) is (sym c.in_err-kind.ensures))

pub returns : goal.returns
returns g c =
    let t = c.args.self.now in
    let at = c.args.at in
    let here = c.requires.here in
    let is = ap (λ m. get_or t.choices.now m no_choice) c.index_of.ensures.value ∙ t.shown.1 at.i at.a at.b here.0 here.1 here.2 in
    leads (setting_of t) at (get_or t.choices.now c.index_of.result no_choice) c.in_ok-kind.kind is (sym c.in_ok-kind.ensures)
