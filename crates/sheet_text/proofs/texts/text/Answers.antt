use Rattle.sheet.specs.Views.{net}
use Rattle.sheet.proofs.Fronts.{kept_by_sheet}
use Rattle.sheet_text.proofs.RoundTrip.{text_again}
use Rattle.sheet_text.proofs.texts.text.Goals as goal

pub returns-clause-reads_back : goal.returns-clause-reads_back
returns-clause-reads_back c = text_again (net c.args.sheet.now) (kept_by_sheet c.args.sheet.now)
