use Rattle.std.proofs.Common.{sym}
use Rattle.sheet.specs.Views.{net}
use Rattle.pass_export.proofs.Moved.{moved}
use Rattle.pass_export.proofs.searches.search.Goals as goal

pub returns : goal.returns
returns c = record {
  limited = λ above. let none = rw above at c.in_ok-accelerator.ensures.refuses in cc;
  refuses = λ within wrong. absurd (wrong (sym c.in_ok-sheet.ensures.refuses));
  finds = λ within n laid. moved _ _ _ _ _ _ _ (net c.in_ok-sheet.sheet) n c.in_ok-accelerator.accelerator.limit c.args.limit (c.in_ok-sheet.ensures.accepts n laid) c.in_ok-accelerator.ensures.makes c.find.ensures;
}
