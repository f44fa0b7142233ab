use Rattle.std.specs.Bool.{then_some}
use Rattle.std.proofs.Common.{not, eq-eqb, ◌≡◌, ◌-◌, ◌<◌, length, get_or, sym, refl, ap, ◌∙◌, arith}
use Rattle.std.proofs.lemmas.List.{get_or_read}
use Rattle.recurrence.specs.Table.{best}
use Rattle.cells.specs.Cells.{no_choice}
use Rattle.table_pass.specs.Filled.{cell, or_start}
use Rattle.best_split.specs.declared.places.Place.{Place}
use Rattle.best_split.specs.Tables.{network, setting_of}
use Rattle.best_split.proofs.Last.{best_first, best_some}
use Rattle.best_split.proofs.filled_tables.FilledTables.rating.Goals as goal
use Rattle.best_split.proofs.filled_tables.FilledTables.rating.Goals.{then-place-eq0, else-place-eq0}

pub returns : goal.returns
returns g c =
    let t = c.args.self.now in
    let e = setting_of t in
    let k = (network t).k in
    let l = (network t).l in
    let i = length t.ideals.now - 1 in
    let at = c.index_of-at.result in
    let lt : i < length t.ideals.now = omega (arith, t.some) in
    let stands : at ≡ cell k l i k l = c.index_of-at.ensures.value ∙ ap (λ (p : Place). cell k l p.i p.a p.b) c.last_cell-place.ensures in
    let choice = ap (λ m. get_or t.choices.now m no_choice) stands ∙ t.shown.1 i k l lt (omega arith) (omega arith) in
    let read = c.index-self-at.result in
    let rating : read ≡ or_start e.rules (best e k l i) = get_or_read t.ratings.now at read c.index_of-at.ensures.rated c.index-self-at.is e.rules.start ∙ ap (λ m. get_or t.ratings.now m e.rules.start) stands ∙ t.shown.0 i k l lt (omega arith) (omega arith) in
    let at_last : c.last_cell-place.result.i ≡ i = ap (λ (p : Place). p.i) c.last_cell-place.ensures in
    c.then_some.ensures ∙ ap (then_some c.if-place-eq0.stands) (sym c.index-self-at.is) ∙ elim c.if-place-eq0.branch [
      | then-place-eq0 w ↦ ap (λ b. then_some b read) (w.stands-is ∙ eq-eqb c.last_cell-place.result.i 0 w.if-place-eq0.true) ∙ best_first e (λ _ _. refl) k l i read rating (sym at_last ∙ w.if-place-eq0.true)
      | else-place-eq0 w ↦ ap (λ b. then_some b read) (w.stands-is ∙ ap not w.is_none.ensures) ∙ best_some e (λ _ _. refl) k l i read (get_or t.choices.now at no_choice) rating choice (λ z. w.if-place-eq0.false (at_last ∙ z))
    ]
