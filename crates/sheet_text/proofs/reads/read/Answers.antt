use Rattle.std.proofs.Common.{ℕ, List, ◌==◌, ◌∙◌, ◌+◌, [], ◌∷◌, map, Ok, Err, sym, ap, rules}
use Rattle.std.proofs.lemmas.List.{map-append}
use Rattle.std.specs.Borrow.{Bor}
use borrow.Author.Tests.{tests}
use Rattle.std.proofs.lemmas.Iterator.Splits.{YieldsList-from_slice_split}
use Rattle.std.proofs.lemmas.Iterator.Consumers.{YieldsList-from_enumerate, YieldsList-at}
use Rattle.sheet.specs.Nets.{empty}
use Rattle.sheet.specs.Views.{net}
use Rattle.sheet_text.specs.Reading.{after_lines, lines, told_cause}
use Rattle.sheet_text.proofs.LineLists.{line_good, line_bad, next_line, all_lines}
use Rattle.sheet_text.proofs.reads.read.Goals as goal

pub loop-index-init : goal.loop-index-init
unfolding after_lines
loop-index-init c = ap (λ n. Ok n) (sym c.new-sheet.ensures)

pub returns-in-Err : goal.returns-in-Err
returns-in-Err c =
    let ls = lines c.args.text.now in
    let xs = c.loop-index.yielded in
    let x : ℕ × Bor (List ℕ) = (c.in-Some.index, c.in-Some.line) in
    let next = next_line ls xs _ c.loop-index.yielded_by _ _ c.next.ensures.steps x c.in-Some.is (YieldsList-at c.into_iter-index-iterator.ensures.into_iter_gives (YieldsList-from_enumerate (YieldsList-at c.enumerate-index-items.ensures.source (YieldsList-from_slice_split _ (λ b. b == 10) c.args.text.now c.split.ensures.rest c.split.ensures.done c.split.ensures.closure (λ x r q k. search (rules, tests)))) c.enumerate-index-items.ensures.count)) in
    let fault = told_cause c.in-Err.cause in
    ap (λ i. Err (i + 1, fault)) next.1 ∙ sym (line_bad empty (net c.loop-index.sheet) (map (λ p. p.1.now) xs) c.in-Some.line.now c.loop-index.invariant ls _ next.0 fault c.in-Err.ensures)

pub loop-index-preserved : goal.loop-index-preserved
loop-index-preserved c =
    let xs = c.loop-index.yielded in
    ap (after_lines 1 empty) (map-append (λ p. p.1.now) xs ((c.in-Some.index, c.in-Some.line) ∷ [])) ∙ line_good empty (net c.loop-index.sheet) (map (λ p. p.1.now) xs) c.in-Some.line.now c.loop-index.invariant (net c.add_line.new.sheet) c.in_default.ensures

pub returns : goal.returns
returns c =
    let all = all_lines (lines c.args.text.now) c.loop-index.yielded _ c.loop-index.yielded_by _ _ c.next.ensures.steps c.in-None.is (YieldsList-at c.into_iter-index-iterator.ensures.into_iter_gives (YieldsList-from_enumerate (YieldsList-at c.enumerate-index-items.ensures.source (YieldsList-from_slice_split _ (λ b. b == 10) c.args.text.now c.split.ensures.rest c.split.ensures.done c.split.ensures.closure (λ x r q k. search (rules, tests)))) c.enumerate-index-items.ensures.count)) in
    sym c.loop-index.invariant ∙ ap (after_lines 1 empty) all
