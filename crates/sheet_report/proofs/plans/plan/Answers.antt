use Rattle.std.proofs.Common.{◌≡◌, List, ℕ, IfOk, string_bytes, decimal, refl, sym, subst, ◌∙◌}
use Rattle.split.specs.Problems.{net_of}
use Rattle.scale.specs.Spelled.{spelled_pair}
use Rattle.sheet_report.proofs.Lines.{plan_same}
use Rattle.sheet_report.proofs.plans.plan.Goals as goal

pub returns : goal.returns
returns c =
    subst (λ (xs : List ℕ). IfOk c.format-2.result (λ t. string_bytes t ≡ xs))
    (plan_same c.args.problem.now.first.now.limit (net_of c.args.problem.now) c.in-Some.ideals
    (string_bytes c.in_ok-peak.peak) (string_bytes c.in_ok-line.line) (string_bytes c.in_ok-pair.pair)
    (sym c.in-Some.is ∙ c.in_ok-ideals.ensures)
    (c.in_ok-peak.ensures decimal (λ r. refl)) (c.in_ok-line.ensures decimal (λ r. refl)) (c.in_ok-pair.ensures spelled_pair (λ r. refl)))
    c.format-2.ensures.ok
