use Rattle.std.proofs.Common.{◌≡◌, ◌++◌}
use Rattle.std.specs.List.{flat_map}
use Rattle.byte_fields.specs.Wrote.{Wrote}
use Rattle.sets.specs.Sets.{members}
use Rattle.sets.specs.Walks.{members_left}
use Rattle.pages.specs.Pages.{spaced}
use Rattle.pages.proofs.puts.put_operators.Given as goal

abbrev pub invariant-loop-operator : goal.invariant-loop-operator
invariant-loop-operator l =
    (Wrote l.initial.buffer l.from l.at (flat_map spaced l.yielded) l.buffer) × (l.yielded ++ members_left l.operator-iterator ≡ members l.mask)
