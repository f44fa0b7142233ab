use Rattle.std.proofs.Common.{◌≡◌, ℕ, ◌+◌, ◌*◌, List, length, slice_index, Bor, refl, ap, ◌∙◌, arith}
use Rattle.sets.specs.Sets.{inside}
use Rattle.recurrence.specs.Table.{one, two, cut}
use Rattle.cells.specs.Rows.{width_of}
use Rattle.table_pass.specs.Passes.{setting_of, cells_in}
use Rattle.table_pass.proofs.Same.{same_tables}
use Rattle.cells.specs.Cells.{stands}
use Rattle.cells.specs.Rows.{by_first, place, row}
use Rattle.cells.proofs.Falls.{at_most_self}
use Rattle.cells.proofs.Stops.{falls_like}
use Rattle.table_pass.specs.Filled.{reached}
use Rattle.table_pass.proofs.Falls.{cleared_holds, row_falls}
use Rattle.table_pass.proofs.Rows.{before_row, row_fits_in, row_more, row_skips}
use Rattle.std.proofs.lemmas.Result.{IfOk-at_ok}
use Rattle.table_pass.proofs.passes.Pass.fill_row.Goals as goal

pub unwrap-requires : goal.unwrap-requires
unwrap-requires g c =
    let p = c.args.self.now in
    let t = c.args.tables.now in
    c.clear.ensures.fits
    ∙ row_fits_in c.args.i (length p.ideals.now) c.row_at-at.result (width_of p.rows.counts.k p.rows.counts.l) (length t.ratings.now) (length t.choices.now) c.row_at-at.ensures c.requires.listed c.requires.room.0 c.requires.room.1

pub offer_ideal-requires-clause-inside : goal.offer_ideal-requires-clause-inside
offer_ideal-requires-clause-inside g c =
    let q = c.loop-j.self in
    ap (λ (ms : Bor (List ℕ)). inside (slice_index q.ideals.now c.in-Some.j) (slice_index ms.now c.args.i)) c.loop-j.invariant.0.ideals ∙ c.in-Some.ensures.2

pub loop-j-init : goal.loop-j-init
loop-j-init g c =
    let p = c.args.self.now in
    let s = g.S.Scale.rules p.rows.scale.now in
    let cleared = rw c.row_at-at.ensures at (IfOk-at_ok (λ _. _) c.unwrap.ensures c.clear.ensures.clears) in (
      record { problem = refl; rows = refl; ideals = refl },
      c.clear.ensures.same,
      cleared,
      omega arith,
      cleared_holds s (p.rows.counts.k + 1) p.rows.counts.l (c.args.i * width_of p.rows.counts.k p.rows.counts.l) (cells_in p c.args.tables.now) (cells_in p c.clear.new.tables) cleared,
    )

pub offer_ideal-requires-clause-falls : goal.offer_ideal-requires-clause-falls
offer_ideal-requires-clause-falls g c =
    let p = c.args.self.now in
    let s = g.S.Scale.rules p.rows.scale.now in
    let k = p.rows.counts.k in
    let l = p.rows.counts.l in
    let w = width_of k l in
    let j = c.in-Some.j in
    let v = c.loop-j.invariant in
    let law = g.met.S.Scale in
    rw v.0.rows (falls_like s (law.total p.rows.scale.now) (law.transitive p.rows.scale.now) (stands (by_first j)) l (k + 1) (row l (j * w) (cells_in p c.args.tables.now)) (row l (j * w) (cells_in p c.loop-j.tables))
    (λ a b h h'. v.2.below _ (before_row c.args.i j k l a b c.in-Some.ensures.1 h h'))
    (c.requires.fall j c.in-Some.ensures.1))

pub offer_ideal-requires-clause-holds : goal.offer_ideal-requires-clause-holds
offer_ideal-requires-clause-holds g c = rw c.loop-j.invariant.0.rows c.loop-j.invariant.4

pub loop-j-preserved : goal.loop-j-preserved
loop-j-preserved g c =
    let p = c.args.self.now in
    let t = c.args.tables.now in
    let e = setting_of p in
    let i = c.args.i in
    let j = c.in-Some.j in
    let k = p.rows.counts.k in
    let l = p.rows.counts.l in
    let v = c.loop-j.invariant in
    let next = rw v.0.ideals at c.in-Some.ensures in
    let skipped = row_skips e (λ _ _. refl) k l i c.loop-j.from j (cells_in p t) (cells_in p c.loop-j.tables) next.0 next.3 v.2 in
    let step = c.offer_ideal.ensures in
    let offered = rw (v.0.problem, v.0.rows, v.0.ideals) at step.rows in (
      record { problem = step.same.problem ∙ v.0.problem; rows = step.same.rows ∙ v.0.rows; ideals = step.same.ideals ∙ v.0.ideals },
      same_tables t c.loop-j.tables c.offer_ideal.new.tables v.1 step.lent,
      row_more e (λ _ _. refl) k l i j (cut e one 0 0 i j) (cut e two 0 0 i j) (cells_in p t) (cells_in p c.loop-j.tables) (cells_in p c.offer_ideal.new.tables) next.1
          (λ _ _. refl) (λ _ _. refl) c.requires.stand skipped offered,
      omega (arith, next.1),
      rw v.0.rows at step.holds,
    )

pub returns-clause-rows : goal.returns-clause-rows
returns-clause-rows g c =
    let p = c.args.self.now in
    let v = c.loop-j.invariant in
    row_skips (setting_of p) (λ _ _. refl) p.rows.counts.k p.rows.counts.l c.args.i c.loop-j.from c.args.i (cells_in p c.args.tables.now) (cells_in p c.loop-j.tables) v.3 (rw v.0.ideals at c.in_default.ensures) v.2

pub returns-clause-falls : goal.returns-clause-falls
returns-clause-falls g c =
    let p = c.args.self.now in
    let s = g.S.Scale.rules p.rows.scale.now in
    let law = g.met.S.Scale in
    let k = p.rows.counts.k in
    let l = p.rows.counts.l in
    let at = c.args.i * width_of k l in
    let v = c.loop-j.invariant in
    row_falls s (at_most_self s (law.total p.rows.scale.now) (law.transitive p.rows.scale.now)) c.args.i (k + 1) l (row l at (cells_in p c.loop-j.tables))
    (λ none a b h h'. let none' : c.loop-j.from ≡ 0 = omega (arith, none, v.3) in v.2.here a b h h' ∙ ap (λ n. reached (setting_of p) c.args.i n a b (cells_in p c.args.tables.now (at + place l a b))) none')
    v.4
