use Rattle.std.proofs.Common.{ℕ, ◌^◌, arith, rules}
use Rattle.std.proofs.lemmas.Iterator.{YieldsList-from_map}
use Rattle.std.proofs.lemmas.Iterator.Consumers.{YieldsList-at, YieldsList-from_first, fits_by_from_yields_list, sum_by_from_yields_List}
use Rattle.sets.specs.Sets.{members}
use Rattle.sets.specs.Walks.{members_left}
use Rattle.sheet.specs.declared.operators.Figure.TheVariants.{Link}
use Rattle.sheet.specs.Nets.{row}
use Rattle.sheet.proofs.Charges.{sum_le}
use Rattle.sheet.proofs.Fronts.{kept_by_sheet}
use Rattle.stage_memo.specs.Views.{memo_net}
use Rattle.stage_memo.proofs.memos.StageMemo.links.Goals as goal

pub sum-requires-clause-fits : goal.sum-requires-clause-fits
sum-requires-clause-fits c =
    let n = memo_net c.args.self.now in
    let charge : ℕ → ℕ = λ v. (row n v).link in
    fits_by_from_yields_list charge (members c.args.set) c.map.result (2 ^ 32)
    (YieldsList-from_map _ charge (YieldsList-at c.map.ensures.source (YieldsList-from_first (λ x. x) members_left (members c.args.set) c.members_of.ensures)) c.map.ensures.closure (λ x r q k. search rules))
    (omega (arith, sum_le n Link c.args.set (kept_by_sheet c.args.self.now.sheet.now).modest))

pub returns : goal.returns
returns c =
    let n = memo_net c.args.self.now in
    let charge : ℕ → ℕ = λ v. (row n v).link in
    let is = sum_by_from_yields_List charge (members c.args.set) c.map.result c.sum.result c.sum.ensures.ran
    (YieldsList-from_map _ charge (YieldsList-at c.map.ensures.source (YieldsList-from_first (λ x. x) members_left (members c.args.set) c.members_of.ensures)) c.map.ensures.closure (λ x r q k. search rules)) in
    record { value = is; bound = omega (arith, is, sum_le n Link c.args.set (kept_by_sheet c.args.self.now.sheet.now).modest) }
