use Rattle.std.proofs.Common.{length}
use Rattle.best_split.specs.Tables.{network}
use Rattle.best_split.proofs.Leads.{cell_in}
use Rattle.best_split.proofs.filled_tables.FilledTables.index_of.Goals as goal

pub returns-clause-rated : goal.returns-clause-rated
returns-clause-rated g c =
    let t = c.args.self.now in
    let at = c.args.at in
    let here = c.requires.here in
    rw (c.from.ensures, c.from-2.ensures, c.counts-counts.ensures.0, c.counts-counts.ensures.1) (cell_in (network t).k (network t).l (length t.ideals.now) at.i at.a at.b (length t.ratings.now) (length t.choices.now) here.0 here.1 here.2 t.fit).0

pub returns-clause-chosen : goal.returns-clause-chosen
returns-clause-chosen g c =
    let t = c.args.self.now in
    let at = c.args.at in
    let here = c.requires.here in
    rw (c.from.ensures, c.from-2.ensures, c.counts-counts.ensures.0, c.counts-counts.ensures.1) (cell_in (network t).k (network t).l (length t.ideals.now) at.i at.a at.b (length t.ratings.now) (length t.choices.now) here.0 here.1 here.2 t.fit).1
