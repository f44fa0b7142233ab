use Rattle.std.proofs.Common.{ℕ, ◌<◌, List, length, ap, sym, subst, arith}
use Rattle.std.proofs.lemmas.List.{length-map}
use Rattle.sets.specs.Sets.{upto}
use Rattle.sheet.specs.Nodes.{successors_in}
use Rattle.sheet.specs.Nets.{size}
use Rattle.sheet.specs.Views.{net}
use Rattle.sheet.proofs.Fronts.{kept_by_sheet}
use Rattle.sheet_layout.specs.Written.{pairs_from}
use Rattle.sheet_layout.proofs.Rising.{joined_none}
use Rattle.sheet_writer.specs.Cursors.{Room, Puts}
use Rattle.sheet_writer.proofs.Puts.{puts_none, more_room, more_step, upto_split, upto_more, edges_from_node}
use Rattle.sheet_writer.proofs.cursor.Cursor.put_edges.Goals as goal

pub loop-u-init : goal.loop-u-init
loop-u-init c = rw (joined_none (pairs_from (net c.args.sheet.now))) (puts_none c.args.self.now (omega (arith, c.requires)))

pub put_pairs-requires : goal.put_pairs-requires
put_pairs-requires c =
    let n = net c.args.sheet.now in
    let u = c.loop-u.u in
    let nodes = c.nodes-node-items.result.now in
    let near : u < length nodes = c.loop-u-test.true in
    let among : u < size n = omega (arith, length-map nodes successors_in, ap length c.nodes-node-items.ensures.successors, (kept_by_sheet c.args.sheet.now).masks) in
    let split = upto_split (size n) u among in
    subst (λ (bs : List ℕ). Room c.loop-u.self bs) (sym (edges_from_node nodes n u c.nodes-node-items.ensures.successors near))
    (more_room (pairs_from n) (upto u) c.loop-u.invariant u split.0 (upto (size n)) split.1 c.requires)

pub loop-u-preserved : goal.loop-u-preserved
loop-u-preserved c =
    let n = net c.args.sheet.now in
    let u = c.loop-u.u in
    let nodes = c.nodes-node-items.result.now in
    let near : u < length nodes = c.loop-u-test.true in
    rw (upto_more u) (more_step (pairs_from n) (upto u) c.loop-u.invariant u
    (subst (λ (bs : List ℕ). Puts c.loop-u.self bs c.put_pairs.new.self) (edges_from_node nodes n u c.nodes-node-items.ensures.successors near) c.put_pairs.ensures))
