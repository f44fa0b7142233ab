use Rattle.std.proofs.Common.{ℕ, get_or, sym, refl, ◌∙◌, arith, length-set}
use Rattle.sheet.specs.declared.nodes.Node.{Node}
use Rattle.sheet.specs.declared.operators.Operator.{Operator}
use Rattle.sheet.specs.declared.sheets.Sheet.{Sheet}
use Rattle.sheet.specs.Nodes.{figures_in, successors_in}
use Rattle.sheet.proofs.Fronts.{blank_node, front_set, front_same}
use Rattle.sheet.proofs.Changes.{modest_set}
use Rattle.sheet.proofs.sheets.Sheet.retime.Goals as goal

-- the node at v, with o for its figures
abbrev with_figures : Sheet → ℕ → Operator → Node
with_figures s v o = record { figures = o; successors = (get_or s.nodes v blank_node).successors }

pub invariant_of-self-clause-table : goal.invariant_of-self-clause-table
invariant_of-self-clause-table c =
    let s = c.args.self.now in
    length-set s.nodes c.args.v (with_figures s c.args.v c.args.figures.now) ∙ s.table

pub invariant_of-self-clause-modest : goal.invariant_of-self-clause-modest
invariant_of-self-clause-modest c =
    let s = c.args.self.now in
    modest_set s.nodes s.operators c.args.v (with_figures s c.args.v c.args.figures.now) (omega arith) s.modest (sym c.if-not-is_within.ensures)

pub invariant_of-self-clause-upward : goal.invariant_of-self-clause-upward
invariant_of-self-clause-upward c =
    let s = c.args.self.now in
    rw (front_same successors_in s.nodes s.operators c.args.v (with_figures s c.args.v c.args.figures.now) blank_node (omega arith) (omega arith) refl) s.upward

pub returns-clause-changes : goal.returns-clause-changes
returns-clause-changes c =
    let s = c.args.self.now in
    let v = c.args.v in
    let x = with_figures s v c.args.figures.now in
    rw (front_same successors_in s.nodes s.operators v x blank_node (omega arith) (omega arith) refl, front_set figures_in s.nodes s.operators v x (omega arith)) refl
