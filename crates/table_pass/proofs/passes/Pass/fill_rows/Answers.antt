use Rattle.std.proofs.Common.{◌≡◌, length, refl, ◌∙◌, arith}
use Rattle.table_pass.specs.Passes.{setting_of, cells_in}
use Rattle.table_pass.proofs.Falls.{fall_more}
use Rattle.table_pass.proofs.Same.{same_tables}
use Rattle.table_pass.proofs.Rows.{filled_more, beyond_more, passed}
use Rattle.table_pass.proofs.passes.Pass.fill_rows.Goals as goal

pub fill_row-requires-clause-fall : goal.fill_row-requires-clause-fall
fill_row-requires-clause-fall g c = rw c.loop-i.invariant.0.rows c.loop-i.invariant.4

pub loop-i-preserved : goal.loop-i-preserved
loop-i-preserved g c =
    let p = c.args.self.now in
    let t = c.args.tables.now in
    let u = c.loop-i.tables in
    let w = c.fill_row.new.tables in
    let e = setting_of p in
    let law = g.met.S.Scale in
    let k = p.rows.counts.k in
    let l = p.rows.counts.l in
    let v = c.loop-i.invariant in
    let step = c.fill_row.ensures in
    let filled = rw (v.0.problem, v.0.rows, v.0.ideals) at step.rows in (
      record { problem = step.same.problem ∙ v.0.problem; rows = step.same.rows ∙ v.0.rows; ideals = step.same.ideals ∙ v.0.ideals },
      same_tables t u w v.1 step.lent,
      filled_more e (λ _ _. refl) k l c.loop-i.i (cells_in p u) (cells_in p w) v.2 filled,
      beyond_more e (λ _ _. refl) k l c.loop-i.i (cells_in p t) (cells_in p u) (cells_in p w) v.3 filled,
      fall_more e.rules (law.total p.rows.scale.now) (law.transitive p.rows.scale.now) c.loop-i.i k l (cells_in p u) (cells_in p w) v.4 (rw v.0.rows at step.falls) filled.below,
    )

pub returns-clause-rows : goal.returns-clause-rows
returns-clause-rows g c =
    let p = c.args.self.now in
    let t = c.args.tables.now in
    let u = c.loop-i.tables in
    let all : c.loop-i.i ≡ length p.ideals.now = omega (arith, c.loop-i-test.false) in
    let v = rw all at c.loop-i.invariant in
    passed (setting_of p) (λ _ _. refl) p.rows.counts.k p.rows.counts.l t.ratings.now u.ratings.now t.choices.now u.choices.now v.1.ratings_length v.1.choices_length v.2 v.3
