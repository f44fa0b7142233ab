use Rattle.std.proofs.Common.{rules, ◌≡◌, length, sym, refl, ap, ◌∙◌, arith}
use Rattle.std.proofs.lemmas.Nat.{one_shl}
use Rattle.std.proofs.lemmas.List.{set-get_or}
use Rattle.std.specs.Iterator.Adapters.{filter_source}
use Rattle.std.specs.Slice.Iter.{iter_rest}
use Rattle.sets.specs.Sets.{inside}
use Rattle.ideals.proofs.Filtered.{next_some, next_none}
use Rattle.ideals.proofs.Fronts.{so_far_none, so_far_more, so_far_done, so_far_full}
use Rattle.ideals.proofs.append_above.Goals as goal

pub loop-added-init : goal.loop-added-init
loop-added-init c = (
  so_far_none c.args.table.now c.args.count c.args.v c.args.needed c.requires.fits (iter_rest (filter_source c.filter-masks.result)) c.split_at_mut-listed.result.1.now
      (ap iter_rest c.filter-masks.ensures.source ∙ c.iter.ensures.rest ∙ c.split_at_mut-listed.ensures.front) c.split_at_mut-listed.ensures.back c.requires.small,
  refl,
  search rules,
  search rules,
)

pub loop-added-preserved : goal.loop-added-preserved
loop-added-preserved c =
    let n = next_some _ (inside c.args.needed) _ (λ x b q k. search rules) c.loop-added.masks c.next.new.self c.in-Some.mask (c.loop-added.invariant.1 ∙ c.filter-masks.ensures.closure) c.in-Some.ensures.steps in
    (rw (one_shl c.args.v 64 c.requires.few) (so_far_more c.args.table.now c.args.count c.args.v c.args.needed c.requires.fits (iter_rest (filter_source c.loop-added.masks)) c.loop-added.added c.loop-added.free c.loop-added.invariant.0 c.in-Some.mask.now (iter_rest (filter_source c.next.new.self)) (omega arith) n.1), n.0 ∙ sym c.filter-masks.ensures.closure, search rules, search rules)

pub returns-in_default : goal.returns-in_default
returns-in_default c =
    let n = next_none _ (inside c.args.needed) _ (λ x b q k. search rules) c.loop-added.masks c.next.new.self (c.loop-added.invariant.1 ∙ c.filter-masks.ensures.closure) c.in_default.ensures.steps in
    let f = so_far_done c.args.table.now c.args.count c.args.v c.args.needed c.requires.fits (iter_rest (filter_source c.loop-added.masks)) c.loop-added.added c.loop-added.free c.loop-added.invariant.0 c.split_at_mut-listed.result.0.now c.split_at_mut-listed.ensures.front (omega (arith, c.split_at_mut-listed.ensures.back_len)) n in
    record { told = f.0; table = rw set-get_or f.1 }

pub returns-in-None : goal.returns-in-None
returns-in-None c =
    let n = next_none _ (inside c.args.needed) _ (λ x b q k. search rules) c.loop-added.masks c.next-2.new.self (c.loop-added.invariant.1 ∙ c.filter-masks.ensures.closure) c.in-None.ensures.steps in
    let all : length c.loop-added.free ≡ c.loop-added.added = omega arith in
    let f = so_far_done c.args.table.now c.args.count c.args.v c.args.needed c.requires.fits (iter_rest (filter_source c.loop-added.masks)) c.loop-added.added c.loop-added.free c.loop-added.invariant.0 c.split_at_mut-listed.result.0.now c.split_at_mut-listed.ensures.front (omega (arith, c.split_at_mut-listed.ensures.back_len)) n in
    record { told = rw all f.0; table = f.1 }

pub returns-in-Some-next : goal.returns-in-Some-next
returns-in-Some-next c =
    let n = next_some _ (inside c.args.needed) _ (λ x b q k. search rules) c.loop-added.masks c.next-2.new.self c.in-Some-next.field-0 (c.loop-added.invariant.1 ∙ c.filter-masks.ensures.closure) c.in-Some-next.ensures.steps in
    let f = so_far_full c.args.table.now c.args.count c.args.v c.args.needed c.requires.fits (iter_rest (filter_source c.loop-added.masks)) c.loop-added.added c.loop-added.free c.loop-added.invariant.0 c.split_at_mut-listed.result.0.now c.split_at_mut-listed.ensures.front (omega (arith, c.split_at_mut-listed.ensures.back_len)) _ _ n.1 in
    record { told = f.0; table = f.1 }
