-- The text made of what was accepted is the report on the file.
use Rattle.std.proofs.Common.{◌≡◌, ℕ, List, Ok, sym, ap, ◌∙◌}
use Rattle.refusals.proofs.Tellings.{something}
use Rattle.sheet.specs.declared.sheets.Sheet.{Sheet}
use Rattle.sheet.specs.Views.{net}
use Rattle.device.specs.declared.accelerators.Accelerator.{Accelerator}
use Rattle.sheet_report.specs.Report.{described, Reported}
use Rattle.sheet_report.specs.Accepted.{Accepted}

pub reported_sheet : (M : ℕ) (f : List ℕ) (a : Accelerator) (s : Sheet) (t : List ℕ) → Accepted M f (Ok (a, s)) → t ≡ described a.limit (net s) → Reported M f t
reported_sheet M f a s t accepted is = record {
  limited = λ above. absurd (something _ _ (sym (accepted.limited above)));
  accepted = λ within n laid.
      let same = accepted.accepts within n laid in
      is ∙ ap (λ (l : ℕ). described l (net s)) same.0 ∙ ap (described M) same.1;
  refused = λ within x xs told. absurd (something x xs (sym (accepted.refuses within ∙ told)));
}
