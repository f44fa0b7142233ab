use Rattle.std.proofs.Common.{[], ◌∷◌, ◌++◌, ap, ◌∙◌, sym}
use Rattle.std.proofs.lemmas.List.{append_assoc}
use Rattle.sets.specs.Walks.{members_left}
use Rattle.byte_fields.proofs.Wrote.{wrote_then}
use Rattle.pages.specs.Pages.{spaced}
use Rattle.pages.proofs.Parts.{wrote_more}
use Rattle.pages.proofs.puts.put_operators.Goals as goal

pub loop-operator-preserved : goal.loop-operator-preserved
loop-operator-preserved c =
    let v = c.in-Some.operator in
    let done = c.loop-operator.yielded in (
      wrote_more spaced done v c.loop-operator.invariant.0 (wrote_then c.put-space.ensures c.put_number-at.ensures),
      append_assoc done (v ∷ []) (members_left c.next.new.self) ∙ ap (λ vs. done ++ vs) (sym c.in-Some.ensures.steps) ∙ c.loop-operator.invariant.1,
    )
