use Rattle.std.proofs.lemmas.Result.{err_from_is_err_and}
use Rattle.sheet.specs.Views.{net}
use Rattle.sheet_file.proofs.Building.{rows_bare, edges_told, counts_told, net_built}
use Rattle.sheet_file.proofs.bodies.build.Goals as goal

pub join_edges-requires : goal.join_edges-requires
join_edges-requires c = record {
  bare = rows_bare c.args.operators.now c.args.edges.now c.args.counts.now (net c.add_rows.new.sheet) c.in_ok-add_rows.ensures.reads;
}

pub returns-in_err-join_edges : goal.returns-in_err-join_edges
returns-in_err-join_edges c =
    let p = err_from_is_err_and c.from_residual-in_err-join_edges.result c.from_residual-in_err-join_edges.ensures.1 in
    let rows = c.in_ok-add_rows.ensures in
    rw (p.1, p.2) (record {
      refuses = edges_told c.args.operators.now c.args.edges.now c.args.counts.now (net c.add_rows.new.sheet) c.in_err-join_edges.field-0.0 rows.refuses rows.reads c.in_err-join_edges.ensures.refuses;
      reads = tt;
    })

pub returns-in_err-set_counts : goal.returns-in_err-set_counts
returns-in_err-set_counts c =
    let p = err_from_is_err_and c.from_residual-in_err-set_counts.result c.from_residual-in_err-set_counts.ensures.1 in
    let rows = c.in_ok-add_rows.ensures in
    rw (p.1, p.2) (record {
      refuses = counts_told c.args.operators.now c.args.edges.now c.args.counts.now (net c.add_rows.new.sheet) _ rows.refuses rows.reads c.in_ok-join_edges.ensures.refuses c.in_err-set_counts.ensures.refuses;
      reads = tt;
    })

pub returns : goal.returns
returns c =
    let rows = c.in_ok-add_rows.ensures in
    let edges = c.in_ok-join_edges.ensures in
    let counts = c.in_ok-set_counts.ensures in
    record {
      refuses = counts_told c.args.operators.now c.args.edges.now c.args.counts.now (net c.add_rows.new.sheet) _ rows.refuses rows.reads edges.refuses counts.refuses;
      reads = net_built c.args.operators.now c.args.edges.now c.args.counts.now (net c.add_rows.new.sheet) (net c.join_edges.new.sheet) (net c.set_counts.new.sheet) rows.reads edges.reads counts.reads;
    }
