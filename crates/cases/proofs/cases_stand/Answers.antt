use Rattle.std.proofs.Common.{refl, arith}
use Rattle.sets.specs.Sets.{has, gathered, upto}
use Rattle.ideals.specs.Ideals.{grown}
use Rattle.recurrence.proofs.Diamond.{peak_laws}
use Rattle.cases.specs.Cases.{cases, no_operator, no_device, room_enough, too_little_room, two_accelerators, one_of_each, least_sum, too_much_for_one, short_table, short_ratings, short_choices}
use Rattle.cases.proofs.Sheets.{empty_kept, single_kept, square_kept, line_laws}
use Rattle.cases.proofs.Rights.{right, all_of}
use Rattle.cases.proofs.cases_stand.Goals as goal

pub returns : goal.returns
unfolding has gathered upto grown
returns c =
    let one_device = single_kept 1 0 (omega arith) (omega arith) in
    let two_firsts = square_kept 2 0 (omega arith) (omega arith) in
    let r0 = right no_operator empty_kept peak_laws refl refl refl refl refl refl refl in
    let r1 = right no_device (single_kept 0 0 (omega arith) (omega arith)) peak_laws refl refl refl refl refl refl refl in
    let r2 = right room_enough one_device peak_laws refl refl refl refl refl refl refl in
    let r3 = right too_little_room one_device peak_laws refl refl refl refl refl refl refl in
    let r4 = right two_accelerators two_firsts peak_laws refl refl refl refl refl refl refl in
    let r5 = right one_of_each (square_kept 1 1 (omega arith) (omega arith)) peak_laws refl refl refl refl refl refl refl in
    let r6 = right least_sum two_firsts line_laws refl refl refl refl refl refl refl in
    let r7 = right too_much_for_one (square_kept 1 0 (omega arith) (omega arith)) peak_laws refl refl refl refl refl refl refl in
    let r8 = right short_table two_firsts peak_laws refl refl refl refl refl refl refl in
    let r9 = right short_ratings two_firsts peak_laws refl refl refl refl refl refl refl in
    let r10 = right short_choices two_firsts peak_laws refl refl refl refl refl refl refl in
    all_of cases (r0, (r1, (r2, (r3, (r4, (r5, (r6, (r7, (r8, (r9, (r10, record {})))))))))))
