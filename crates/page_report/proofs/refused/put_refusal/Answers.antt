use Rattle.std.proofs.Common.{ℕ, List, codes, subst, rules}
use Rattle.byte_fields.specs.Wrote.{Wrote}
use Rattle.byte_fields.proofs.Wrote.{wrote_then}
use Rattle.pages.proofs.Parts.{has_page}
use Rattle.page_report.proofs.Telling.{refused_line}
use Rattle.page_report.proofs.refused.put_refusal.Goals as goal

pub returns : goal.returns
returns c =
    let text = c.format.result.now in
    let word : Wrote c.args.buffer.now 0 c.unwrap-at.result (codes "refused ") c.put.new.buffer = search rules in
    let number : Wrote c.put.new.buffer c.unwrap-at.result c.unwrap-at-2.result text c.put-2.new.buffer = search rules in
    let end : Wrote c.put-2.new.buffer c.unwrap-at-2.result c.unwrap.result (codes "\n") c.put-3.new.buffer = search rules in
    let line = refused_line c.args.refusal c.number.result text c.number.ensures c.format.ensures.text in
    has_page (subst (λ (bs : List ℕ). Wrote c.args.buffer.now 0 c.unwrap.result bs c.put-3.new.buffer) line (wrote_then word (wrote_then number end)))
