use Rattle.std.proofs.Common.{◌/◌, ◌^◌, eqb, sym, ap, ◌∙◌}
use Rattle.std.proofs.lemmas.Nat.{and_mask}
use Rattle.std.proofs.lemmas.Bool.{le-ltb}
use Rattle.sets.specs.Sets.{has}
use Rattle.sets.proofs.Sets.{has_above}
use Rattle.sets.proofs.holds.Goals as goal

pub returns-then-v-lt64 : goal.returns-then-v-lt64
unfolding has
returns-then-v-lt64 c = ap (λ x. eqb x 1) (and_mask (c.args.mask / 2 ^ c.args.v) 1)

pub returns-else-v-lt64 : goal.returns-else-v-lt64
returns-else-v-lt64 c = le-ltb c.args.v 64 c.if-v-lt64.false ∙ sym (has_above 64 c.args.mask c.args.v c.ranges.mask.fits c.if-v-lt64.false)
