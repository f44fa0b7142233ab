use Rattle.std.proofs.Common.{◌≡◌, length, [], ◌∙◌, rules}
use Rattle.refusals.specs.Told.{outcome}
use Rattle.refusals.proofs.Tellings.{nothing_ok}
use Rattle.pages.specs.Pages.{most_page}
use Rattle.planner.specs.Views.{state, kinds_in}
use Rattle.page_report.proofs.Telling.{page_fits}
use Rattle.page_report.proofs.split_pages.split_page.Goals as goal

pub unwrap-requires : goal.unwrap-requires
unwrap-requires c =
    let p = c.in-Ok.planner in
    let room : length c.args.buffer.now ≡ most_page = search rules in
    let fits : outcome c.page.result ≡ [] = c.page.ensures.refuses ∙ page_fits (state p).net (kinds_in p) (state p).standing (length c.args.buffer.now) c.in-Ok.ensures.stands.0 c.page.ensures.short room in
    search (rules, nothing_ok c.page.result fits)
