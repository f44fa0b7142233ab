use Rattle.std.proofs.Common.{sym, refl, rules}
use Rattle.sheet.specs.Views.{net}
use Rattle.sheet_writer.proofs.Puts.{puts_then, file_parts, file_written}
use Rattle.sheet_writer.proofs.write.Goals as goal

pub returns : goal.returns
returns c =
    let n = net c.args.sheet.now in
    let all = puts_then c.put_head.ensures (puts_then c.put_rows.ensures (puts_then c.put_edges.ensures c.put.ensures)) in
    file_written n c.operators.ensures.keeps all refl
    (file_parts n c.operators.result c.edges.result c.counts-counts.result.k c.counts-counts.result.l c.operators.ensures.value c.edges.ensures c.counts-counts.ensures)
    (search (rules, sym all.same))
