-- What an operator of a sheet says.
--   figures_in o      its figures
--   successors_in o   the set of the operators that it has an edge to
use Rattle.std.specs.Prelude.{ℕ}
use Rattle.sheet.specs.declared.operators.Operator.{Operator}
use Rattle.sheet.specs.declared.nodes.Node.{Node}

abbrev pub figures_in : Node → Operator
figures_in o = o.figures

abbrev pub successors_in : Node → ℕ
successors_in o = o.successors
