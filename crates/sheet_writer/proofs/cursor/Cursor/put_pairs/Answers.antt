use Rattle.std.proofs.Common.{[], ◌∷◌, ◌++◌, ap, ◌∙◌, sym, append_assoc, arith}
use Rattle.sets.specs.Sets.{members}
use Rattle.sets.specs.Walks.{members_left}
use Rattle.sheet_layout.specs.Written.{pair_bytes}
use Rattle.sheet_writer.proofs.Puts.{more_room, more_step, member_small}
use Rattle.sheet_writer.proofs.cursor.Cursor.put_pairs.Goals as goal

pub overflow_cast-v : goal.overflow_cast-v
overflow_cast-v c = omega (arith, member_small c.loop-v.v-iterator.left c.in-Some.v (members_left c.next.new.self) c.in-Some.ensures.steps)

pub put-requires : goal.put-requires
put-requires c =
    more_room (pair_bytes c.args.u) c.loop-v.yielded c.loop-v.invariant.0 c.in-Some.v (members_left c.next.new.self) (members c.args.set)
    (ap (λ vs. c.loop-v.yielded ++ vs) (sym c.in-Some.ensures.steps) ∙ c.loop-v.invariant.1) c.requires

pub loop-v-preserved : goal.loop-v-preserved
loop-v-preserved c = (
  more_step (pair_bytes c.args.u) c.loop-v.yielded c.loop-v.invariant.0 c.in-Some.v c.put.ensures,
  append_assoc c.loop-v.yielded (c.in-Some.v ∷ []) (members_left c.next.new.self)
      ∙ ap (λ vs. c.loop-v.yielded ++ vs) (sym c.in-Some.ensures.steps) ∙ c.loop-v.invariant.1,
)
