-- What is left of a walk over the operators of a set.
use Rattle.std.specs.Prelude.{ℕ, List}
use Rattle.sets.specs.Sets.{members}
use Rattle.sets.specs.declared.walks.Ascending.{Ascending}

abbrev pub members_left : Ascending → List ℕ
members_left w = members w.left
