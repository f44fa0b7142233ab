use Rattle.std.proofs.Common.{◌<◌, length, ap, subst, arith}
use Rattle.std.proofs.lemmas.List.{length-map}
use Rattle.sheet.specs.declared.operators.Operator.{Operator}
use Rattle.sheet.specs.Rules.{blank}
use Rattle.sheet.specs.Nodes.{figures_in}
use Rattle.sheet.specs.Views.{net}
use Rattle.sheet_layout.specs.Written.{row_bytes}
use Rattle.sheet_writer.specs.Cursors.{Puts}
use Rattle.sheet_writer.proofs.Puts.{each_room, each_step, row_of}
use Rattle.sheet_writer.proofs.cursor.Cursor.put_rows.Goals as goal

pub put_row-requires : goal.put_row-requires
put_row-requires c =
    let many = ap length c.nodes-node-items.ensures.rows in
    each_room row_bytes (net c.args.sheet.now).rows c.loop-node.node-index blank (omega (arith, many, length-map c.nodes-node-items.result.now figures_in)) c.loop-node.invariant c.requires

pub loop-node-preserved : goal.loop-node-preserved
loop-node-preserved c =
    let nodes = c.nodes-node-items.result.now in
    let rows = (net c.args.sheet.now).rows in
    let i = c.loop-node.node-index in
    let near : i < length nodes = c.loop-node-test.true in
    let many = ap length c.nodes-node-items.ensures.rows in
    each_step row_bytes rows i blank (omega (arith, many, length-map nodes figures_in)) c.loop-node.invariant
    (subst (λ (o : Operator). Puts c.loop-node.self (row_bytes o) c.put_row.new.self) (row_of nodes rows i c.nodes-node-items.ensures.rows near) c.put_row.ensures)
