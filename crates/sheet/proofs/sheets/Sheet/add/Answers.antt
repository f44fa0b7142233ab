use Rattle.std.proofs.Common.{◌<◌, length, sym, refl, ◌∙◌, arith, length-set}
use Rattle.sheet.specs.declared.nodes.Node.{Node}
use Rattle.sheet.specs.Nodes.{figures_in, successors_in}
use Rattle.sheet.proofs.Fronts.{front_more}
use Rattle.sheet.proofs.Changes.{modest_more, upward_more}
use Rattle.sheet.proofs.sheets.Sheet.add.Goals as goal

pub invariant_of-self-clause-table : goal.invariant_of-self-clause-table
invariant_of-self-clause-table c =
    let s = c.args.self.now in
    length-set s.nodes s.operators (record { figures = c.args.operator; successors = 0 }) ∙ s.table

pub invariant_of-self-clause-modest : goal.invariant_of-self-clause-modest
invariant_of-self-clause-modest c =
    let s = c.args.self.now in
    modest_more s.nodes s.operators (record { figures = c.args.operator; successors = 0 }) (omega arith) s.modest (sym c.if-not-is_within.ensures)

pub invariant_of-self-clause-upward : goal.invariant_of-self-clause-upward
invariant_of-self-clause-upward c =
    let s = c.args.self.now in
    upward_more s.nodes s.operators (record { figures = c.args.operator; successors = 0 }) (omega arith) s.upward refl

pub returns-clause-changes : goal.returns-clause-changes
returns-clause-changes c =
    let s = c.args.self.now in
    let n = s.operators in
    let x : Node = record { figures = c.args.operator; successors = 0 } in
    let room : n < length s.nodes = omega arith in
    rw (front_more figures_in s.nodes n x room, front_more successors_in s.nodes n x room) refl
