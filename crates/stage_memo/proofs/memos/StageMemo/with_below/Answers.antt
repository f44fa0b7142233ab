use Rattle.std.proofs.Common.{◌≡◌, ℕ, ◌+◌, ◌-◌, ◌<◌, ◌≤◌, cond, not, true, false, get_or, sym, ap, ◌∙◌, subst, arith}
use Rattle.sets.specs.Sets.{has, inside, including}
use Rattle.sheet.specs.declared.operators.Operator.{Operator}
use Rattle.sheet.specs.declared.operators.Figure.TheVariants.{Acc, Cpu, Size}
use Rattle.sheet.specs.Rules.{most_sum}
use Rattle.sheet.specs.Nets.{row}
use Rattle.sheet.specs.Figures.{Sums, figures_of}
use Rattle.sheet.proofs.Charges.{same_sums}
use Rattle.sheet.proofs.Fronts.{kept_by_sheet}
use Rattle.stage_memo.specs.declared.vertices.Vertex.{Vertex}
use Rattle.stage_memo.specs.declared.memos.StageMemo.{StageMemo}
use Rattle.stage_memo.specs.Vertices.{vertex_of}
use Rattle.stage_memo.specs.Views.{memo_net}
use Rattle.stage_memo.proofs.Added.{sum_added, incoming_added, outgoing_added, feeding_added, included}
use Rattle.stage_memo.proofs.memos.StageMemo.with_below.Goals as goal
use Rattle.stage_memo.proofs.memos.StageMemo.with_below.Goals.{After-difference-2, then-holds, else-holds, then-is_inside, else-is_inside}

abbrev vertex : StageMemo → ℕ → Vertex
vertex s v = get_or s.vertices v (record { acc = 0; cpu = 0; size = 0; link = 0; predecessors = 0; successors = 0 })

abbrev weighed : Vertex → Operator
weighed x = record { acc = x.acc; cpu = x.cpu; size = x.size; link = x.link }

vertex_is : (s : StageMemo) (v : ℕ) → v < 64 → vertex s v ≡ vertex_of (memo_net s) v
vertex_is s v near = s.network v (record { acc = 0; cpu = 0; size = 0; link = 0; predecessors = 0; successors = 0 }) near

weighed_is : (s : StageMemo) (v : ℕ) → v < 64 → weighed (vertex s v) ≡ row (memo_net s) v
weighed_is s v near = ap weighed (vertex_is s v near)

pub overflow_sub-kept : goal.overflow_sub-kept
overflow_sub-kept c =
    let s = c.args.self.now in
    let k = c.args.above in
    let at = vertex_is s c.args.v c.requires.place in
    let yes : has k.feeding c.args.v ≡ true = sym c.holds.ensures ∙ c.if-holds.true in
    rw yes at (incoming_added (memo_net s) (kept_by_sheet s.sheet.now) k.figures.mask c.args.v c.requires.below (weighed (vertex s c.args.v)) (weighed_is s c.args.v c.requires.place) k.feeding (vertex s c.args.v).predecessors c.difference.result k.figures.incoming c.links-fresh.result
    c.requires.right.feeding (ap (λ (x : Vertex). x.predecessors) at) c.difference.ensures (ap (λ (f : Sums). f.incoming) c.requires.right.figures) c.links-fresh.ensures.value).0

-- the five sums are those of the set with the operator, and small
step : (c : goal.After-difference-2)
    → (record { mask = including c.args.above.figures.mask c.args.v; acc = c.args.above.figures.acc + (vertex c.args.self.now c.args.v).acc; cpu = c.args.above.figures.cpu + (vertex c.args.self.now c.args.v).cpu; size = c.args.above.figures.size + (vertex c.args.self.now c.args.v).size; incoming = c.if-holds.kept + c.links-fresh.result; outgoing = c.if-is_inside.outgoing } ≡ figures_of (memo_net c.args.self.now) (including c.args.above.figures.mask c.args.v))
    × ((c.args.above.figures.acc + (vertex c.args.self.now c.args.v).acc ≤ most_sum) × (c.args.above.figures.cpu + (vertex c.args.self.now c.args.v).cpu ≤ most_sum) × (c.args.above.figures.size + (vertex c.args.self.now c.args.v).size ≤ most_sum) × (c.if-holds.kept + c.links-fresh.result ≤ most_sum) × (c.if-is_inside.outgoing ≤ most_sum))
step c =
    let s = c.args.self.now in
    let n = memo_net s in
    let kept = kept_by_sheet s.sheet.now in
    let k = c.args.above in
    let f = k.figures in
    let v = c.args.v in
    let at = vertex_is s v c.requires.place in
    let o = weighed (vertex s v) in
    let figures = weighed_is s v c.requires.place in
    let right = c.requires.right.figures in
    let acc = sum_added n kept f.mask v c.requires.below o figures Acc f.acc (ap (λ (f : Sums). f.acc) right) in
    let cpu = sum_added n kept f.mask v c.requires.below o figures Cpu f.cpu (ap (λ (f : Sums). f.cpu) right) in
    let size = sum_added n kept f.mask v c.requires.below o figures Size f.size (ap (λ (f : Sums). f.size) right) in
    let incoming = incoming_added n kept f.mask v c.requires.below o figures k.feeding (vertex s v).predecessors c.difference.result f.incoming c.links-fresh.result
    c.requires.right.feeding (ap (λ (x : Vertex). x.predecessors) at) c.difference.ensures (ap (λ (f : Sums). f.incoming) right) c.links-fresh.ensures.value in
    let outgoing = outgoing_added n kept f.mask v c.requires.below o figures (vertex s v).successors f.outgoing (ap (λ (x : Vertex). x.successors) at) (ap (λ (f : Sums). f.outgoing) right) in
    let kept-is : c.if-holds.kept ≡ f.incoming - cond (has k.feeding v) o.link 0 = elim c.if-holds.branch [
      | then-holds w ↦ let yes : has k.feeding v ≡ true = sym c.holds.ensures ∙ w.if-holds.true in rw yes w.kept-is
      | else-holds w ↦ let out : has k.feeding v ≡ false = sym c.holds.ensures ∙ w.if-holds.false in rw out (omega (arith, w.kept-is))
    ] in
    let outgoing-is : c.if-is_inside.outgoing ≡ f.outgoing + cond (not (inside (vertex s v).successors f.mask)) o.link 0 = elim c.if-is_inside.branch [
      | then-is_inside w ↦ let yes : inside (vertex s v).successors f.mask ≡ true = sym c.is_inside.ensures ∙ w.if-is_inside.true in rw yes (omega (arith, w.outgoing-is))
      | else-is_inside w ↦ let out : inside (vertex s v).successors f.mask ≡ false = sym c.is_inside.ensures ∙ w.if-is_inside.false in rw out w.outgoing-is
    ] in (
      same_sums (including f.mask v) acc.0 cpu.0 size.0 (rw kept-is incoming.1) (rw outgoing-is outgoing.0),
      (acc.1, cpu.1, size.1, rw kept-is incoming.2, rw outgoing-is outgoing.1),
    )

pub invariant_of-result : goal.invariant_of-result
invariant_of-result c = record { small = (step c).1 }

pub returns : goal.returns
returns c =
    let s = c.args.self.now in
    let k = c.args.above in
    let f = k.figures in
    let v = c.args.v in
    let more = included f.mask c.args.v c.include-mask.result c.requires.place c.include-mask.ensures in
    let all = step (goal.at.returns c).After-difference-2 in
    record {
      mask = more;
      right = record {
        figures = subst (λ (m : ℕ). record { mask = m; acc = f.acc + (vertex s v).acc; cpu = f.cpu + (vertex s v).cpu; size = f.size + (vertex s v).size; incoming = c.if-holds.kept + c.links-fresh.result; outgoing = c.if-is_inside.outgoing } ≡ figures_of (memo_net s) m) (sym more) all.0;
        feeding = feeding_added (memo_net s) (kept_by_sheet s.sheet.now) f.mask c.args.v c.requires.below k.feeding (vertex s v).predecessors c.union.result c.include-mask.result c.difference-2.result c.union.type_inv c.include-mask.type_inv c.requires.right.feeding (ap (λ (x : Vertex). x.predecessors) (vertex_is s v c.requires.place)) c.union.ensures more c.difference-2.ensures;
      };
    }
