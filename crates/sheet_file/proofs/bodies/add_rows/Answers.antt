use Rattle.std.proofs.Common.{◌≡◌, ◌+◌, ◌<◌, sym, refl, ap, ◌∙◌, arith}
use Rattle.std.proofs.lemmas.Result.{err_from_is_err_and}
use Rattle.sheet.specs.Nets.{size, empty}
use Rattle.sheet.specs.Views.{net}
use Rattle.sheet_layout.specs.Bodies.{row_refusal, rows_in, with_rows, first_wrong}
use Rattle.sheet_layout.proofs.Edges.{with_rows_size}
use Rattle.sheet_file.specs.Loading.{row_told}
use Rattle.sheet_file.proofs.Loading.{chunk_row, first_wrong_at, first_wrong_step, rows_step}
use Rattle.sheet_file.proofs.bodies.add_rows.Goals as goal

pub loop-v-init : goal.loop-v-init
unfolding with_rows first_wrong
loop-v-init c = record { reads = c.requires.empty; right = refl }

pub add_row-requires : goal.add_row-requires
add_row-requires c =
    let held : size (net c.loop-v.sheet) ≡ 0 + c.loop-v.v = ap size c.loop-v.invariant.reads ∙ with_rows_size c.args.body.now c.loop-v.v empty in
    omega (arith, held, c.requires.within, c.as_chunks.ensures.front_len)

pub returns-in_err-add_row : goal.returns-in_err-add_row
returns-in_err-add_row c =
    let p = err_from_is_err_and c.from_residual.result c.from_residual.ensures.1 in
    let bs = c.args.body.now in
    let v = c.loop-v.v in
    let near : v < rows_in bs = omega (arith, c.as_chunks.ensures.front_len) in
    let row = c.row.ensures ∙ chunk_row bs c.as_chunks.result.0.now v c.as_chunks.ensures.front near in
    rw (p.1, p.2) (record {
      refuses = first_wrong_at (row_refusal bs) c.in_err-add_row.field-0.0 v (rows_in bs) near c.loop-v.invariant.right (c.in_err-add_row.ensures.refuses ∙ ap (row_told v) row);
      reads = tt;
    })

pub loop-v-preserved : goal.loop-v-preserved
loop-v-preserved c =
    let bs = c.args.body.now in
    let v = c.loop-v.v in
    let near : v < rows_in bs = omega (arith, c.as_chunks.ensures.front_len) in
    let row = c.row.ensures ∙ chunk_row bs c.as_chunks.result.0.now v c.as_chunks.ensures.front near in
    record {
      reads = rows_step bs v (net c.loop-v.sheet) (net c.add_row.new.sheet) c.row.result c.loop-v.invariant.reads row c.in_ok-add_row.ensures.reads;
      right = first_wrong_step (row_refusal bs) v c.loop-v.invariant.right (sym (c.in_ok-add_row.ensures.refuses ∙ ap (row_told v) row));
    }
