use Rattle.std.proofs.Common.{◌≡◌, ◌+◌, ◌*◌, [], length, drop}
use Rattle.sheet.specs.Nets.{size}
use Rattle.sheet.specs.Views.{net}
use Rattle.sheet_layout.specs.Bodies.{first_wrong, edge_refusal, with_edges}
use Rattle.sheet_file.proofs.Loading.{last_at}
use Rattle.sheet_file.proofs.bodies.join_edges.Given as goal

abbrev pub invariant-loop-left : goal.invariant-loop-left
invariant-loop-left l = record {
  rest : l.left ≡ drop (2 * l.i) l.body;
  many : 2 * l.i + length l.left ≡ length l.body;
  before : l.last ≡ last_at l.body l.i;
  reads : net l.sheet ≡ with_edges l.body l.i (net l.initial.sheet);
  right : first_wrong (edge_refusal (size (net l.initial.sheet)) l.body) l.i ≡ [];
}

abbrev pub decreases-loop-left : goal.decreases-loop-left
decreases-loop-left l = length l.left
