use Rattle.std.proofs.Common.{◌==◌, ap, ◌∙◌, take, rules}
use borrow.Author.Tests.{tests}
use Rattle.std.proofs.lemmas.Iterator.{YieldsList-from_slice}
use Rattle.std.proofs.lemmas.Iterator.Search.{position_from_yields_List}
use Rattle.sheet_text.proofs.Pieces.{place_or_end}
use Rattle.sheet_text.proofs.fields.said.Goals as goal

pub returns : goal.returns
returns c =
    let line = c.args.line.now in
    let found = position_from_yields_List (λ b. b == 35) _ _ c.position-end.result c.position-end.ensures.ran (YieldsList-from_slice line c.iter.ensures.rest) (λ x b q k. search (rules, tests)) in
    ap (λ i. take i line) (c.unwrap_or.ensures ∙ place_or_end (λ b. b == 35) line c.position-end.result found)
