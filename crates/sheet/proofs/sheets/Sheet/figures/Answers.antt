use Rattle.sets.specs.Sets.{has}
use Rattle.sheet.specs.declared.operators.Figure.TheVariants.{Acc, Cpu, Size, Link}
use Rattle.sheet.specs.Nets.{size}
use Rattle.sheet.specs.Figures.{feeds, leaves}
use Rattle.sheet.specs.Views.{net}
use Rattle.sheet.proofs.Fronts.{kept_by_sheet}
use Rattle.sheet.proofs.Charges.{members_inside, members_tested, charged_is, same_sums, charging}
use Rattle.sheet.proofs.sheets.Sheet.figures.Goals as goal

pub returns : goal.returns
returns c =
    let s = c.args.self.now in
    let m = c.args.mask in
    let set = c.intersection-inside.result in
    let few = (kept_by_sheet s).few in
    let inside = members_inside m c.all.result set (size (net s)) few c.all.ensures c.intersection-inside.ensures in
    let entering = members_tested (feeds (net s) m) c.feeding.result (size (net s)) few c.feeding.ensures in
    let leaving = members_tested (leaves (net s) m) c.leaving.result (size (net s)) few c.leaving.ensures in
    record {
      value = same_sums m
          (charged_is (net s) Acc (has m) set c.sum.result inside c.sum.ensures.value)
          (charged_is (net s) Cpu (has m) set c.sum-2.result inside c.sum-2.ensures.value)
          (charged_is (net s) Size (has m) set c.sum-3.result inside c.sum-3.ensures.value)
          (charged_is (net s) Link (feeds (net s) m) c.feeding.result c.sum-4.result entering c.sum-4.ensures.value)
          (charged_is (net s) Link (leaves (net s) m) c.leaving.result c.sum-5.result leaving c.sum-5.ensures.value);
      means = charging (net s) m;
    }
