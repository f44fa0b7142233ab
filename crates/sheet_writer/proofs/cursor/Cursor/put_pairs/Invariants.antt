use Rattle.std.proofs.Common.{◌≡◌, ◌++◌}
use Rattle.std.specs.List.{flat_map}
use Rattle.sets.specs.Sets.{members}
use Rattle.sets.specs.Walks.{members_left}
use Rattle.sheet_layout.specs.Written.{pair_bytes}
use Rattle.sheet_writer.specs.Cursors.{Puts}
use Rattle.sheet_writer.proofs.cursor.Cursor.put_pairs.Given as goal

abbrev pub invariant-loop-v : goal.invariant-loop-v
invariant-loop-v l =
    (Puts l.initial.self (flat_map (pair_bytes l.u) l.yielded) l.self) × (l.yielded ++ members_left l.v-iterator ≡ members l.set)
