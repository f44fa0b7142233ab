use Rattle.std.proofs.Common.{◌≡◌, ◌+◌, ◌++◌, length}
use Rattle.std.specs.List.{flat_map}
use Rattle.sets.specs.Sets.{members}
use Rattle.sets.specs.Walks.{members_left}
use Rattle.pages.specs.Pages.{spaced}
use Rattle.pages.proofs.lengths.line_length.Given as goal

abbrev pub invariant-loop-operator : goal.invariant-loop-operator
invariant-loop-operator l =
    (l.length ≡ 2 + length (flat_map spaced l.yielded)) × (l.yielded ++ members_left l.operator-iterator ≡ members l.stage.mask)
