use Rattle.std.proofs.Common.{◌≡◌, ap, sym, ◌∙◌, filter, fold, arith, rules, tests}
use Rattle.std.proofs.lemmas.Iterator.{YieldsList-from_range}
use Rattle.std.proofs.lemmas.Iterator.Consumers.{YieldsList-from_filter, fold_from_yields_List}
use Rattle.std.specs.List.{range_with_len}
use Rattle.sets.specs.Sets.{gathered}
use Rattle.sets.proofs.Members.{included, include_below}
use Rattle.sheet.proofs.Fronts.{size_is}
use Rattle.sheet.proofs.sheets.Sheet.gather.Goals as goal

pub returns : goal.returns
returns g c = λ p is.
    let s = c.args.self.now in
    let n = s.operators in
    let walked : c.fold.result ≡ fold included 0 (filter p (range_with_len 0 n)) =
    fold_from_yields_List _ included 0 c.fold.result c.fold.ensures.ran
    (YieldsList-from_filter _ p (YieldsList-from_range 0 n n c.filter.ensures.source (omega arith)) c.filter.ensures.closure (λ x r q k. search (rules, tests, is)))
    (λ a x b q k. search rules) in
    walked ∙ include_below p n (omega (arith, s.few)) ∙ ap (gathered p) (sym (size_is s))
