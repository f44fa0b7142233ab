use Rattle.split.specs.Problems.{net_of, kinds_of}
use Rattle.split.proofs.Judging.{Judging}
use Rattle.split.proofs.problems.Problem.judge.Given as goal

abbrev pub invariant-loop-i : goal.invariant-loop-i
invariant-loop-i g l = Judging (net_of l.self) (kinds_of g.K.Kind.meaning g.L.Kind.meaning l.self) (g.S.Scale.rules l.scale) l.stages l.walk l.i l.rating
