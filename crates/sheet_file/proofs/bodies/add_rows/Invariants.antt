use Rattle.std.proofs.Common.{◌≡◌, []}
use Rattle.sheet.specs.Nets.{empty}
use Rattle.sheet.specs.Views.{net}
use Rattle.sheet_layout.specs.Bodies.{first_wrong, row_refusal, with_rows}
use Rattle.sheet_file.proofs.bodies.add_rows.Given as goal

abbrev pub invariant-loop-v : goal.invariant-loop-v
invariant-loop-v l = record {
  reads : net l.sheet ≡ with_rows l.body l.v empty;
  right : first_wrong (row_refusal l.body) l.v ≡ [];
}
