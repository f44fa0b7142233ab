use Rattle.std.proofs.Common.{ℕ, ◌≤◌, List, length, ap, subst, rules, arith}
use Rattle.std.proofs.lemmas.List.{length-drop}
use Rattle.byte_fields.specs.Wrote.{Wrote}
use Rattle.byte_fields.proofs.Wrote.{wrote_then}
use Rattle.split.specs.Problems.{net_of, kinds_of}
use Rattle.best_split.specs.Views.{stages_of}
use Rattle.pages.proofs.Parts.{page_is, page_short, has_page}
use Rattle.pages.proofs.writes.write_page.Goals as goal

pub returns-clause-answers : goal.returns-clause-answers
returns-clause-answers g c =
    let n = net_of c.args.problem.now in
    let e = kinds_of g.K.Kind.meaning g.L.Kind.meaning c.args.problem.now in
    let page = page_is n e (stages_of c.args.split.now) c.stages-stages.result.now c.pace-pace.result c.stages-stages.ensures c.pace-pace.ensures.value in
    has_page (subst (λ (bs : List ℕ). Wrote c.args.buffer.now 0 c.put_lines.result bs c.put_lines.new.buffer) page (wrote_then c.put_head-at.ensures c.put_lines.ensures))

pub returns-then-buffer-page_length-clause-short : goal.returns-then-buffer-page_length-clause-short
returns-then-buffer-page_length-clause-short g c =
    let split = c.args.split.now in
    let few : length c.stages-stages.result.now ≤ 16 = omega (arith, ap length c.stages-stages.ensures, length-drop split.first split.stages) in
    page_short (net_of c.args.problem.now) (kinds_of g.K.Kind.meaning g.L.Kind.meaning c.args.problem.now) (stages_of split) c.stages-stages.result.now c.pace-pace.result c.stages-stages.ensures c.pace-pace.ensures.value few (search rules)

pub returns-clause-short : goal.returns-clause-short
returns-clause-short g c =
    let split = c.args.split.now in
    let few : length c.stages-stages.result.now ≤ 16 = omega (arith, ap length c.stages-stages.ensures, length-drop split.first split.stages) in
    page_short (net_of c.args.problem.now) (kinds_of g.K.Kind.meaning g.L.Kind.meaning c.args.problem.now) (stages_of split) c.stages-stages.result.now c.pace-pace.result c.stages-stages.ensures c.pace-pace.ensures.value few (search rules)
