use Rattle.std.proofs.Common.{◌-◌, ◌∙◌, arith}
use Rattle.std.proofs.lemmas.List.{length-set}
use Rattle.best_split.specs.Traces.{stages_to}
use Rattle.best_split.specs.Tables.{setting_of, last_cell}
use Rattle.best_split.proofs.Leads.{back_more}
use Rattle.best_split.proofs.filled_tables.FilledTables.split.Goals as goal

pub loop-last-preserved : goal.loop-last-preserved
loop-last-preserved g c =
    let t = c.args.self.now in
    let e = setting_of t in
    let last = c.in-Some.last in
    let step = c.in-Some.ensures in
    let v = c.loop-last.invariant in (
      back_more (stages_to e (last_cell t)) (stages_to e c.loop-last.at) (stages_to e last.before) c.loop-last.stages c.loop-last.first last.stage
          (omega (arith, v.2, step.one_less)) (omega (arith, v.3, v.4)) v.0 step.are,
      (omega (arith, v.1.0, step.inner), omega (arith, v.1.1, step.first_less), omega (arith, v.1.2, step.second_less)),
      omega (arith, v.2, step.one_less),
      omega (arith, v.3),
      length-set c.loop-last.stages (c.loop-last.first - 1) last.stage ∙ v.4,
    )
