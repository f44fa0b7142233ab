use Rattle.std.proofs.Common.{◌≡◌, length, arith, rules}
use Rattle.std.proofs.lemmas.Grind.{common_steps}
use Rattle.cells.proofs.Clears.{folded, cleared_by}
use Rattle.cells.proofs.tables.Tables.clear.Goals as goal

pub returns-clause-turns : goal.returns-clause-turns
returns-clause-turns g c =
    let start = folded _ _ c.start-start.result (λ x f h. search rules) _ _ c.fill_with.ensures.ran.1 in
    let none = c.fill.ensures.after (λ y e. e) in
    let long : length c.fill_with.new.self ≡ c.args.count = grind (arith, common_steps, c.fill_with.ensures.len) in
    let long' : length c.fill.new.self ≡ c.args.count = grind (arith, common_steps, c.fill.ensures.len) in
    cleared_by (g.S.Scale.rules c.args.scale.now) c.args.to c.args.count _ _ _ _ _ (omega arith) c.requires.0 c.requires.1 long long' (rw (← c.start-start.ensures) start) (rw c.fill.ensures.len none)
