use Rattle.std.proofs.Common.{◌≡◌, ◌+◌, ◌*◌, ◌<◌, Some, None, sym, ap, ◌∙◌, arith, rules}
use Rattle.device.specs.Views.{load_of, answered}
use Rattle.cells.specs.Rows.{row, on}
use Rattle.cells.specs.Tables.{table}
use Rattle.cells.specs.Falls.{candidate, settled}
use Rattle.cells.proofs.RowSteps.{lines_led, led_le, run_le, lines_all, onto_more, onto_rest, within_more}
use Rattle.cells.proofs.Stops.{within_rest, last_of, onto_same, vain, bounded_run, stays, first_past}
use Rattle.cells.proofs.rows.Rows.offer_on.Goals as goal

pub returns-in_default-candidate-clause-offers : goal.returns-in_default-candidate-clause-offers
returns-in_default-candidate-clause-offers g c falls =
    let p = c.args.self.now in
    let s = g.S.Scale.rules p.scale.now in
    let law = g.met.S.Scale in
    let k = p.counts.k in
    let l = p.counts.l in
    let t = table s c.args.tables.now in
    let w = c.args.kind in
    let x = load_of c.in-Some.load in
    let is = ap answered c.in-Some.is in
    let none : candidate s c.of-choice.result x (t (last_of c.args.from l c.runs-runs.result)) ≡ None = rw (c.line-line.ensures) at (sym c.candidate.ensures ∙ c.in_default-candidate.is) in
    rw is (onto_same s (on s w c.args.ideal (Some x) (row l c.args.from t)) (k + 1) l c.args.to t
    (λ a b h h'. vain s (law.total p.scale.now) (law.transitive p.scale.now) c.args.ideal x c.args.from c.args.to k l c.runs-runs.result t falls w c.runs-runs.ensures (rw c.of-choice.ensures at none) a b (omega arith) h h'))

pub is_settled-requires : goal.is_settled-requires
is_settled-requires g c =
    let ends = run_le c.args.kind c.args.self.now.counts.k c.args.self.now.counts.l c.loop-r.r c.runs-runs.result c.runs-runs.ensures c.loop-r-test.true in
    let some : 0 < c.runs-runs.result.cells = omega (arith, c.if-runs-eq0-2.false) in
    let same = c.loop-r.invariant.same in
    rw (c.line-line.ensures, same.ratings_length, same.choices_length) (omega arith, omega arith)

pub returns-then-is_settled-clause-perhaps : goal.returns-then-is_settled-clause-perhaps
returns-then-is_settled-clause-perhaps g c =
    let p = c.args.self.now in
    let s = g.S.Scale.rules p.scale.now in
    let t = table s c.args.tables.now in
    within_rest s c.args.kind c.args.ideal (answered c.args.load.now) (lines_led c.args.kind c.loop-r.r) (p.counts.k + 1) p.counts.l c.args.to (row p.counts.l c.args.from t) t (table s c.loop-r.tables) (led_le c.args.kind p.counts.k p.counts.l c.loop-r.r c.runs-runs.result c.runs-runs.ensures c.loop-r-test.true) c.loop-r.invariant.perhaps

pub returns-then-is_settled-clause-offers : goal.returns-then-is_settled-clause-offers
returns-then-is_settled-clause-offers g c falls =
    let p = c.args.self.now in
    let s = g.S.Scale.rules p.scale.now in
    let law = g.met.S.Scale in
    let k = p.counts.k in
    let l = p.counts.l in
    let t = table s c.args.tables.now in
    let u = table s c.loop-r.tables in
    let w = c.args.kind in
    let r = c.loop-r.r in
    let runs = c.runs-runs.result in
    let x = load_of c.in-Some.load in
    let is = ap answered c.in-Some.is in
    let some : 0 < c.runs-runs.result.cells = omega (arith, c.if-runs-eq0-2.false) in
    let done = c.loop-r.invariant.offered falls in
    let found = rw (c.of-choice.ensures, c.line-line.ensures) at (sym c.candidate.ensures ∙ c.in-Some-candidate.is) in
    let stop = rw c.line-line.ensures at (sym c.is_settled.ensures ∙ c.if-is_settled.true) in
    let same : u (c.args.to + r * (l + 1) + runs.step) ≡ t (c.args.to + r * (l + 1) + runs.step) = done.above _ (first_past w k l r c.args.to runs c.runs-runs.ensures) in
    onto_rest s (on s w c.args.ideal (answered c.args.load.now) (row l c.args.from t)) (lines_led w r) (k + 1) l c.args.to t u (led_le w k l r runs c.runs-runs.ensures c.loop-r-test.true)
    (rw is (stays s (law.total p.scale.now) (law.transitive p.scale.now) c.args.ideal x c.args.from c.args.to k l runs t falls (λ y z. law.monotone p.scale.now y z x c.in-Some.load.fair) c.in-Some-candidate.bound w c.runs-runs.ensures found r c.loop-r-test.true some (sym (ap (settled s c.in-Some-candidate.bound) same) ∙ stop)))
    done

pub loop-r-preserved : goal.loop-r-preserved
loop-r-preserved g c =
    let p = c.args.self.now in
    let s = g.S.Scale.rules p.scale.now in
    let law = g.met.S.Scale in
    let k = p.counts.k in
    let l = p.counts.l in
    let t = table s c.args.tables.now in
    let u = table s c.loop-r.tables in
    let w = c.args.kind in
    let r = c.loop-r.r in
    let runs = c.runs-runs.result in
    let x = load_of c.in-Some.load in
    let is = ap answered c.in-Some.is in
    let found = rw (c.of-choice.ensures, c.line-line.ensures) at (sym c.candidate.ensures ∙ c.in-Some-candidate.is) in
    let each = rw (c.of-choice.ensures, c.line-line.ensures) at c.shift.ensures.each in
    let turns = rw (c.of-choice.ensures, c.line-line.ensures) at c.shift.ensures.turns in
    record {
      same = search rules;
      perhaps = within_more s w c.args.ideal (answered c.args.load.now) x c.args.from c.args.to k l r runs t u (table s c.shift.new.self) is c.runs-runs.ensures c.loop-r-test.true c.requires.apart c.loop-r.invariant.perhaps each;
      offered = λ falls.
          let done = c.loop-r.invariant.offered falls in
          let bounded = bounded_run s (law.total p.scale.now) (law.transitive p.scale.now) c.args.ideal x c.args.from c.args.to k l runs t falls (λ y z. law.monotone p.scale.now y z x c.in-Some.load.fair) c.in-Some-candidate.bound w c.runs-runs.ensures c.requires.apart found r c.loop-r-test.true (on s w c.args.ideal (answered c.args.load.now) (row l c.args.from t)) u done in
          onto_more s w c.args.ideal (answered c.args.load.now) x c.args.from c.args.to k l r runs t u (table s c.shift.new.self) is c.runs-runs.ensures c.loop-r-test.true c.requires.apart done (turns bounded);
    }

pub shift-requires-clause-room : goal.shift-requires-clause-room
shift-requires-clause-room g c =
    let ends = run_le c.args.kind c.args.self.now.counts.k c.args.self.now.counts.l c.loop-r.r c.runs-runs.result c.runs-runs.ensures c.loop-r-test.true in
    let same = c.loop-r.invariant.same in
    rw (c.line-line.ensures, same.ratings_length, same.choices_length) (omega arith, omega arith)

pub returns-clause-offers : goal.returns-clause-offers
returns-clause-offers g c falls =
    let all = lines_all c.args.kind c.args.self.now.counts.k c.args.self.now.counts.l c.runs-runs.result c.runs-runs.ensures in
    let count : c.loop-r.r ≡ c.runs-runs.result.count = omega arith in
    rw (count, all) at (c.loop-r.invariant.offered falls)

pub returns-clause-perhaps : goal.returns-clause-perhaps
returns-clause-perhaps g c =
    let all = lines_all c.args.kind c.args.self.now.counts.k c.args.self.now.counts.l c.runs-runs.result c.runs-runs.ensures in
    let count : c.loop-r.r ≡ c.runs-runs.result.count = omega arith in
    rw (count, all) at c.loop-r.invariant.perhaps
