use Rattle.std.proofs.Common.{◌≡◌, ◌+◌, ◌≤◌, sym, ◌∙◌, inr, rules, arith}
use Rattle.std.proofs.lemmas.Grind.{common_steps}
use Rattle.device.specs.Views.{load_of}
use Rattle.cells.specs.Tables.{table}
use Rattle.cells.proofs.Stops.{shifted_part, shifted_stops}
use Rattle.cells.proofs.tables.Tables.shift.Goals as goal

pub loop-c-preserved : goal.loop-c-preserved
loop-c-preserved g c =
    record {
      same = search rules;
      turns = λ k. grind (arith, common_steps, c.offer.ensures.turns k, c.loop-c.invariant.turns k, c.loop-c.invariant.turns (c.args.from + c.loop-c.c), c.loop-c.invariant.turns (c.args.to + c.loop-c.c));
    }

pub returns-then-is_settled-clause-turns : goal.returns-then-is_settled-clause-turns
returns-then-is_settled-clause-turns g c bounded =
    let scale = c.args.scale.now in
    let s = g.S.Scale.rules scale in
    let law = g.met.S.Scale in
    shifted_stops s (law.total scale) (law.transitive scale) c.args.choice (load_of c.args.load.now) c.args.bound c.args.from c.args.to c.args.count c.loop-c.c (table s c.args.self.now) (table s c.loop-c.self) c.loop-c-test.true (sym c.is_settled.ensures ∙ c.if-is_settled.true) c.loop-c.invariant.turns bounded

pub returns-then-is_settled-clause-each : goal.returns-then-is_settled-clause-each
returns-then-is_settled-clause-each g c =
    let s = g.S.Scale.rules c.args.scale.now in
    let less : c.loop-c.c ≤ c.args.count = omega (arith, c.loop-c-test.true) in
    shifted_part s c.args.choice (load_of c.args.load.now) c.args.from c.args.to c.args.count c.loop-c.c (table s c.args.self.now) (table s c.loop-c.self) less c.loop-c.invariant.turns

pub returns-clause-each : goal.returns-clause-each
returns-clause-each g c k =
    let all : c.loop-c.c ≡ c.args.count = omega (arith, c.loop-c-test.false) in
    inr (rw all at (c.loop-c.invariant.turns k))
