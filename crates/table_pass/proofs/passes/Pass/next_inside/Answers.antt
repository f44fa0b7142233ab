use Rattle.std.proofs.Common.{◌-◌, take, drop, rules}
use borrow.Author.Tests.{tests}
use Rattle.std.proofs.lemmas.Iterator.{YieldsList-from_slice}
use Rattle.std.proofs.lemmas.Iterator.Search.{position_from_yields_List}
use Rattle.sets.specs.Sets.{inside}
use Rattle.table_pass.proofs.Next.{next_some, next_none}
use Rattle.table_pass.proofs.passes.Pass.next_inside.Goals as goal

pub returns-in_err-steps : goal.returns-in_err-steps
returns-in_err-steps g c =
    let ms = c.args.self.now.ideals.now in
    let part = take (c.args.i - c.args.from) (drop c.args.from ms) in
    let found = position_from_yields_List (λ x. inside x c.args.outer) _ _ c.position.result c.position.ensures.ran (YieldsList-from_slice part c.iter.ensures.rest) (λ x b q k. search (rules, tests)) in
    rw c.from_residual.ensures (next_none ms c.args.outer c.args.from c.args.i c.requires.range c.requires.listed c.position.result found c.in_err-steps.was)

pub returns : goal.returns
returns g c =
    let ms = c.args.self.now.ideals.now in
    let part = take (c.args.i - c.args.from) (drop c.args.from ms) in
    let found = position_from_yields_List (λ x. inside x c.args.outer) _ _ c.position.result c.position.ensures.ran (YieldsList-from_slice part c.iter.ensures.rest) (λ x b q k. search (rules, tests)) in
    next_some ms c.args.outer c.args.from c.args.i c.requires.range c.requires.listed c.position.result found c.in_ok-steps.steps c.in_ok-steps.was
