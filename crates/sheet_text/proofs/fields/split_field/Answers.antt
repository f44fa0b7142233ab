use Rattle.std.proofs.Common.{◌≡◌, not, ◌-◌, take, drop, length, rules, refl}
use borrow.Author.Tests.{tests}
use Rattle.std.proofs.lemmas.Iterator.{YieldsList-from_slice}
use Rattle.std.proofs.lemmas.Iterator.Search.{position_from_yields_List}
use Rattle.sheet_text.specs.Fields.{is_blank}
use Rattle.sheet_text.proofs.Pieces.{place, fields_split, fields_blanks}
use Rattle.sheet_text.proofs.fields.split_field.Goals as goal

pub returns-in_err-start : goal.returns-in_err-start
returns-in_err-start c =
    let bs = c.args.bytes.now in
    let found : c.position.result ≡ place (λ b. not (is_blank b)) bs = position_from_yields_List (λ b. not (is_blank b)) _ _ c.position.result c.position.ensures.ran (YieldsList-from_slice bs c.iter.ensures.rest) (λ x b q k. search (rules, tests)) in
    rw c.from_residual.ensures (fields_blanks bs c.position.result found c.in_err-start.was)

pub returns : goal.returns
returns c =
    let bs = c.args.bytes.now in
    let s = c.in_ok-start.start in
    let xs = take (length bs - s) (drop s bs) in
    let found : c.position.result ≡ place (λ b. not (is_blank b)) bs = position_from_yields_List (λ b. not (is_blank b)) _ _ c.position.result c.position.ensures.ran (YieldsList-from_slice bs c.iter.ensures.rest) (λ x b q k. search (rules, tests)) in
    let ended : c.position-end.result ≡ place is_blank xs = position_from_yields_List is_blank _ _ c.position-end.result c.position-end.ensures.ran (YieldsList-from_slice xs c.iter-2.ensures.rest) (λ x b q k. search (rules, tests)) in
    let split = fields_split bs xs c.position.result c.position-end.result s found c.in_ok-start.was refl ended in
    rw (c.split_at.ensures.front, c.split_at.ensures.back, c.unwrap_or.ensures) split
