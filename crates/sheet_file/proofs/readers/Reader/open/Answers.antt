use Rattle.std.proofs.Common.{◌≡◌, ℕ, ◌+◌, sym, refl, ap, ◌∙◌}
use Rattle.sheet_layout.specs.Contents.{start, length_of}
use Rattle.sheet_file.proofs.Opened.{contents_granted, part_is}
use Rattle.sheet_file.proofs.readers.Reader.open.Goals as goal

pub returns : goal.returns
returns c =
    let f = c.args.file.now in
    let operators = c.in-Some.ensures in
    let edges = c.in-Some-body_end.ensures in
    let counts = c.in-Some-body_end-2.ensures in
    let edges_at : c.in-Some.edges_at ≡ start f 1 = operators.1 in
    let counts_at : c.in-Some-body_end.counts_at ≡ start f 2 = edges.1 ∙ ap (λ (x : ℕ). x + length_of f 1) edges_at in
    record {
      refuses = contents_granted f (sym c.if-not-is_sheet_file.ensures) operators.0 edges.0 counts.0;
      opens = record {
        whole = refl;
        operators = (refl, part_is f 20 c.in-Some.edges_at 20 (length_of f 0) refl operators.1);
        edges = (edges_at, part_is f c.in-Some.edges_at c.in-Some-body_end.counts_at (start f 1) (length_of f 1) edges_at edges.1);
        counts = (counts_at, part_is f c.in-Some-body_end.counts_at c.in-Some-body_end-2.end (start f 2) (length_of f 2) counts_at counts.1);
      };
    }
