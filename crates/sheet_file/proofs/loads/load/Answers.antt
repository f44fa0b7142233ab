use Rattle.std.proofs.Common.{length, ap, ◌∙◌, arith}
use Rattle.std.proofs.lemmas.Result.{err_from_is_err_and}
use Rattle.sheet_file.proofs.Building.{body_sizes, contents_told, reads_refused, reads_bodies}
use Rattle.sheet_file.proofs.loads.load.Goals as goal

pub returns-in_err-reader : goal.returns-in_err-reader
returns-in_err-reader c =
    let p = err_from_is_err_and c.from_residual.result c.from_residual.ensures.1 in
    let f = c.args.file.now in
    let e = c.in_err-reader.field-0.0 in
    rw (p.1, p.2) (reads_refused f e (contents_told f e c.in_err-reader.ensures.refuses))

pub build-requires : goal.build-requires
build-requires c =
    let f = c.args.file.now in
    let opened = c.in_ok-reader.ensures.opens in
    let sizes = body_sizes f c.in_ok-reader.ensures.refuses in
    let operators = ap length (c.operators-operators.ensures.1 ∙ opened.operators.1) in
    let counts = ap length (c.counts-counts.ensures.1 ∙ opened.counts.1) in
    record { within = (omega (arith, operators, sizes.0), counts ∙ sizes.1) }

pub returns : goal.returns
returns c =
    let f = c.args.file.now in
    let opened = c.in_ok-reader.ensures.opens in
    reads_bodies f c.operators-operators.result.bytes.now c.edges-edges.result.bytes.now c.counts-counts.result.bytes.now c.build.result
    c.in_ok-reader.ensures.refuses (c.operators-operators.ensures.1 ∙ opened.operators.1) (c.edges-edges.ensures.1 ∙ opened.edges.1) (c.counts-counts.ensures.1 ∙ opened.counts.1)
    c.build.ensures.refuses c.build.ensures.reads
