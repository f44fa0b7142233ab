use Rattle.std.proofs.Common.{◌≡◌, ℕ, ◌≤◌, [], List, length, get_or, sym, refl, ap, ◌∙◌, arith, rules}
use Rattle.std.proofs.lemmas.Result.{err_from_is_err_and}
use Rattle.refusals.specs.Told.{told}
use Rattle.sheet.specs.Nets.{Net, size}
use Rattle.sheet.specs.Changes.{joined}
use Rattle.sheet.specs.Views.{net}
use Rattle.sheet.proofs.Fronts.{kept_by_sheet}
use Rattle.sheet_layout.specs.Bodies.{with_edges, first_wrong, edge_refusal, edges_in}
use Rattle.sheet_layout.proofs.Edges.{with_edges_size}
use Rattle.sheet_file.proofs.Loading.{tells, pair_tells, there_before, last_more, front_pair, rest_left, rest_length, listing_so_far, edges_step, first_wrong_step, first_wrong_at}
use Rattle.sheet_file.proofs.bodies.join_edges.Goals as goal

-- the sheet has the operators that it had before any edge
same_size : (bs : List ℕ) (i : ℕ) (base n : Net) → n ≡ with_edges bs i base → edge_refusal (size n) bs i ≡ edge_refusal (size base) bs i
same_size bs i base n is = ap (λ (k : ℕ). edge_refusal k bs i) (ap size is ∙ with_edges_size bs i base)

pub loop-left-init : goal.loop-left-init
unfolding with_edges first_wrong
loop-left-init c = record { rest = refl; many = omega arith; before = refl; reads = refl; right = refl }

pub join_edge-requires : goal.join_edge-requires
join_edge-requires c =
    let bs = c.args.body.now in
    let i = c.loop-left.i in
    let l = c.loop-left.invariant in
    let listing = listing_so_far bs i (net c.args.sheet.now) (net c.loop-left.sheet) c.requires.bare (kept_by_sheet c.args.sheet.now).masks l.reads l.right in
    record { rising = there_before bs i (net c.loop-left.sheet) c.loop-left.last _ listing l.before (front_pair bs c.loop-left.left.now i l.rest) }

pub returns-in_err-map_err-clause-refuses : goal.returns-in_err-map_err-clause-refuses
returns-in_err-map_err-clause-refuses c =
    let p = err_from_is_err_and c.from_residual.result c.from_residual.ensures.1 in
    let bs = c.args.body.now in
    let i = c.loop-left.i in
    let l = c.loop-left.invariant in
    let n = net c.loop-left.sheet in
    let base = net c.args.sheet.now in
    let two : 2 ≤ length c.loop-left.left.now = search rules in
    let wrong : told c.in_err-map_err.field-0.0 ≡ tells i c.join_edge.result = search rules in
    let here = wrong ∙ ap (tells i) c.join_edge.ensures.refuses ∙ pair_tells (size n) bs i c.loop-left.last _ l.before (front_pair bs c.loop-left.left.now i l.rest) ∙ same_size bs i base n l.reads in
    rw (p.1, p.2) (first_wrong_at (edge_refusal (size base) bs) c.in_err-map_err.field-0.0 i (edges_in bs) (omega (arith, two, l.many)) l.right here)

pub loop-left-preserved : goal.loop-left-preserved
loop-left-preserved c =
    let bs = c.args.body.now in
    let i = c.loop-left.i in
    let l = c.loop-left.invariant in
    let left = c.loop-left.left.now in
    let n = net c.loop-left.sheet in
    let base = net c.args.sheet.now in
    let two : 2 ≤ length left = search rules in
    let front = front_pair bs left i l.rest in
    let granted : [] ≡ tells i c.join_edge.result = search rules in
    let here = granted ∙ ap (tells i) c.join_edge.ensures.refuses ∙ pair_tells (size n) bs i c.loop-left.last _ l.before front ∙ same_size bs i base n l.reads in
    let is : net c.join_edge.new.sheet ≡ joined n (get_or left 0 0) (get_or left 1 0) = search rules in
    record {
      rest = rest_left bs left i l.rest;
      many = rest_length left i (length bs) two l.many;
      before = last_more bs i _ front;
      reads = edges_step bs i base n (net c.join_edge.new.sheet) _ l.reads front is;
      right = first_wrong_step (edge_refusal (size base) bs) i l.right (sym here);
    }
