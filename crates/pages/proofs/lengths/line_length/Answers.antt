use Rattle.std.proofs.Common.{rules, [], ◌∷◌, ◌++◌, ap, ◌∙◌, sym, decimal, codes, arith}
use Rattle.std.proofs.lemmas.List.{append_assoc, length-append}
use Rattle.sets.specs.Sets.{members}
use Rattle.sets.specs.Walks.{members_left}
use Rattle.pages.specs.Pages.{spaced}
use Rattle.pages.proofs.Parts.{more_short, length_then, length_line, operators_short}
use Rattle.pages.proofs.lengths.line_length.Goals as goal

pub overflow_add-length-in-loop-operator : goal.overflow_add-length-in-loop-operator
overflow_add-length-in-loop-operator c =
    let v = c.in-Some.operator in
    let done = c.loop-operator.yielded in
    let within = more_short spaced done v (members_left c.next.new.self) (members c.args.stage.now.mask) (ap (λ vs. done ++ vs) (sym c.in-Some.ensures.steps) ∙ c.loop-operator.invariant.1) in
    omega (arith, within, c.loop-operator.invariant.0, c.digits.ensures.value, length-append (codes " ") (decimal v), operators_short c.args.stage.now.mask)

pub loop-operator-preserved : goal.loop-operator-preserved
loop-operator-preserved c =
    let v = c.in-Some.operator in
    let done = c.loop-operator.yielded in (
      omega (arith, length_then spaced done v, c.loop-operator.invariant.0, c.digits.ensures.value, length-append (codes " ") (decimal v)),
      append_assoc done (v ∷ []) (members_left c.next.new.self) ∙ ap (λ vs. done ++ vs) (sym c.in-Some.ensures.steps) ∙ c.loop-operator.invariant.1,
    )

pub returns : goal.returns
returns c = search (rules, length_line c.args.stage.now)
