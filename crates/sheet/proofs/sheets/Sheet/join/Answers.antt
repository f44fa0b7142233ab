use Rattle.std.proofs.Common.{◌≡◌, ℕ, Bool, ◌<◌, cond, ltb, get_or, refl, ap, ◌∙◌, arith, length-set}
use Rattle.std.proofs.lemmas.Bool.{lt-ltb}
use Rattle.sets.specs.Sets.{including}
use Rattle.sheet.specs.declared.nodes.Node.{Node}
use Rattle.sheet.specs.declared.sheets.Sheet.{Sheet}
use Rattle.sheet.specs.Nodes.{figures_in, successors_in}
use Rattle.sheet.proofs.Fronts.{blank_node, after_is, front_set, front_same}
use Rattle.sheet.proofs.Changes.{upward_set}
use Rattle.sheet.proofs.sheets.Sheet.join.Goals as goal

-- the node at u, with m for its successors
abbrev with_mask : Sheet → ℕ → ℕ → Node
with_mask s u m = record { figures = (get_or s.nodes u blank_node).figures; successors = m }

included : (m v r : ℕ) → v < 64 → r ≡ cond (ltb v 64) (including m v) m → r ≡ including m v
included m v r near is = is ∙ ap (λ (b : Bool). cond b (including m v) m) (lt-ltb v 64 near)

pub invariant_of-self-clause-table : goal.invariant_of-self-clause-table
invariant_of-self-clause-table c =
    let s = c.args.self.now in
    length-set s.nodes c.args.from (with_mask s c.args.from c.include.result) ∙ s.table

pub invariant_of-self-clause-modest : goal.invariant_of-self-clause-modest
invariant_of-self-clause-modest c =
    let s = c.args.self.now in
    rw (front_same figures_in s.nodes s.operators c.args.from (with_mask s c.args.from c.include.result) blank_node (omega arith) (omega arith) refl) s.modest

pub invariant_of-self-clause-upward : goal.invariant_of-self-clause-upward
invariant_of-self-clause-upward c =
    let s = c.args.self.now in
    let u = c.args.from in
    let v = c.args.to in
    upward_set s.nodes s.operators u v (with_mask s u c.include.result) (omega arith) (omega arith) (omega arith) (included (get_or s.nodes u blank_node).successors v c.include.result (omega arith) c.include.ensures) s.upward

pub returns-clause-changes : goal.returns-clause-changes
returns-clause-changes c =
    let s = c.args.self.now in
    let u = c.args.from in
    let v = c.args.to in
    let x = with_mask s u c.include.result in
    let is = included (get_or s.nodes u blank_node).successors v c.include.result (omega arith) c.include.ensures in
    rw (front_same figures_in s.nodes s.operators u x blank_node (omega arith) (omega arith) refl, front_set successors_in s.nodes s.operators u x (omega arith), is, after_is s u (omega arith)) refl
