use Rattle.std.proofs.Common.{ap, Ok, rules}
use Rattle.sheet.specs.Views.{net}
use Rattle.planner.specs.States.{edited}
use Rattle.planner.specs.Views.{state, kinds_in, rules_in}
use Rattle.planner.proofs.Loads.{says_entries}
use Rattle.planner.proofs.Laws.{after_load}
use Rattle.planner.proofs.planners.Planner.load.Goals as goal

pub returns-clause-changes : goal.returns-clause-changes
returns-clause-changes g c = ap (λ n. edited n (state c.args.self.now)) (says_entries c.laws_stand.ensures c.args.file.now (net c.in_ok-self.field-0) c.in_ok-self.ensures.says)

pub returns-clause-law : goal.returns-clause-law
returns-clause-law g c = λ h held. after_load (kinds_in c.args.self.now) (rules_in c.args.self.now) h (state c.args.self.now) _ c.args.file (Ok tt) c.in_ok-self.ensures.refuses (returns-clause-changes g c) held

pub returns-in_err-self-clause-changes : goal.returns-in_err-self-clause-changes
returns-in_err-self-clause-changes g c = search rules

pub returns-in_err-self-clause-law : goal.returns-in_err-self-clause-law
returns-in_err-self-clause-law g c = λ h held. after_load (kinds_in c.args.self.now) (rules_in c.args.self.now) h (state c.args.self.now) (state c.args.self.now) c.args.file c.from_residual.result (search rules) (returns-in_err-self-clause-changes g c) held
