use Rattle.recurrence.proofs.Plans.{follows}
use Rattle.recurrence.proofs.choices_stand.Goals as goal

pub returns : goal.returns
returns g c ideals bottom ask =
    let s = c.args.scale.now in
    let law = g.met.S.Scale in
    follows (record { ideals = ideals; bottom = bottom; ask = ask; rules = g.S.Scale.rules s }) (record { total = law.total s; transitive = law.transitive s })
