use Rattle.stage_memo.proofs.Nothing.{nothing_feeds, nothing_sums}
use Rattle.stage_memo.proofs.known.Known.of_none.Goals as goal

pub returns-clause-right : goal.returns-clause-right
returns-clause-right c = λ n. record { figures = nothing_sums n; feeding = nothing_feeds n }
