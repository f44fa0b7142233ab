use Rattle.std.proofs.Common.{take}
use Rattle.sheet.specs.Nets.{before}
use Rattle.sheet.specs.Views.{net}
use Rattle.ideals.proofs.Growing.{Stands}
use Rattle.ideals.proofs.list.Given as goal

abbrev pub invariant-loop-v : goal.invariant-loop-v
invariant-loop-v l = Stands (before (net l.sheet)) (take l.most l.fn.table) l.v l.count l.room
