use Rattle.std.proofs.Common.{length, take, Some, None, sym, ◌∙◌, arith}
use Rattle.std.proofs.lemmas.Bool.{ltb-true, ltb-false}
use Rattle.sheet.specs.Nets.{before, size}
use Rattle.sheet.specs.Views.{net}
use Rattle.ideals.proofs.Growing.{stands_none, stands_length, stands_small, stands_more, stands_full, stands_all, listed_room, listed_nowhere}
use Rattle.ideals.proofs.Listings.{listing}
use Rattle.ideals.proofs.list.Goals as goal

pub returns-in_err-first_mut : goal.returns-in_err-first_mut
returns-in_err-first_mut c =
    let n = net c.args.sheet.now in
    let f = listed_nowhere (before n) (size n) c.args.table.now c.min-most.result (omega (arith, c.min-most.ensures)) (omega (arith, ltb-false 0 (length (take c.min-most.result c.args.table.now)) (sym c.in_err-first_mut.ensures.item.0))) in
    record { told = c.from_residual.ensures ∙ f.0; table = f.1; means = listing n c.operators-operators.ensures.keeps }

pub loop-v-init : goal.loop-v-init
loop-v-init c = stands_none (before (net c.args.sheet.now)) (take c.min-most.result c.args.table.now) (ltb-true 0 (length (take c.min-most.result c.args.table.now)) (sym c.in_ok-first_mut.ensures.item.0))

pub append_above-requires : goal.append_above-requires
append_above-requires c =
    let t = take c.min-most.result c.args.table.now in
    let p = before (net c.args.sheet.now) in
    record {
      fits = omega (arith, c.loop-v.invariant.within, stands_length p t c.loop-v.v c.loop-v.count c.loop-v.room c.loop-v.invariant);
      few = omega (arith, c.operators-operators.ensures.value, c.operators-operators.ensures.keeps.few, c.loop-v-test.true);
      small = stands_small p t c.loop-v.v c.loop-v.count c.loop-v.room c.loop-v.invariant;
    }

pub loop-v-preserved : goal.loop-v-preserved
loop-v-preserved c =
    stands_more (before (net c.args.sheet.now)) (take c.min-most.result c.args.table.now) c.loop-v.v c.loop-v.count c.loop-v.room c.loop-v.invariant c.predecessors.result c.in_ok-count.count c.append_above.new.table c.predecessors.ensures.value (c.in_ok-count.ensures.told, c.in_ok-count.ensures.table)

pub returns-in_err-count : goal.returns-in_err-count
returns-in_err-count c =
    let n = net c.args.sheet.now in
    let t = c.args.table.now in
    let m = c.min-most.result in
    let full = stands_full (before n) (take m t) c.loop-v.v c.loop-v.count c.loop-v.room c.loop-v.invariant c.predecessors.result (size n) c.append_above.new.table (omega (arith, c.operators-operators.ensures.value, c.loop-v-test.true)) c.predecessors.ensures.value (c.in_err-count.ensures.told, c.in_err-count.ensures.table) in
    let f = listed_room (before n) (size n) t m (omega (arith, c.min-most.ensures)) None c.append_above.new.table full.0 full.1 in
    record { told = c.from_residual-in_err-count.ensures ∙ f.0; table = f.1; means = listing n c.operators-operators.ensures.keeps }

pub returns : goal.returns
returns c =
    let n = net c.args.sheet.now in
    let t = c.args.table.now in
    let m = c.min-most.result in
    let all = stands_all (before n) (take m t) c.loop-v.v c.loop-v.count c.loop-v.room c.loop-v.invariant (size n) (omega (arith, c.operators-operators.ensures.value)) in
    let f = listed_room (before n) (size n) t m (omega (arith, c.min-most.ensures)) (Some c.loop-v.count) c.loop-v.room all.0 all.1 in
    record { told = f.0; table = f.1; means = listing n c.operators-operators.ensures.keeps }
