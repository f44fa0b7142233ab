use Rattle.std.proofs.Common.{◌≡◌}
use Rattle.std.specs.Iterator.Adapters.{filter_source, filter_callee}
use Rattle.std.specs.Slice.Iter.{iter_rest}
use Rattle.ideals.proofs.Fronts.{SoFar}
use Rattle.ideals.proofs.append_above.Given as goal

abbrev pub invariant-loop-added : goal.invariant-loop-added
invariant-loop-added l =
    SoFar l.fn.table l.count l.v l.fn.needed (iter_rest (filter_source l.masks)) l.added l.free
    × (filter_callee l.masks ≡ filter_callee l.initial.masks) × (goal.iterator-loop-added).can_next l.masks × (goal.iterator-loop-added).is_finite l.masks
