-- The plain values that a sheet and a record of figures stand for.
use Rattle.std.specs.Prelude.{map, take}
use Rattle.sheet.specs.declared.sheets.Sheet.{Sheet}
use Rattle.sheet.specs.declared.figures.StageFigures.{StageFigures}
use Rattle.sheet.specs.Nodes.{figures_in, successors_in}
use Rattle.sheet.specs.Nets.{Net}
use Rattle.sheet.specs.Figures.{Sums}

abbrev pub net : Sheet → Net
net s = record { rows = map figures_in (take s.operators s.nodes); successors = map successors_in (take s.operators s.nodes); k = s.counts.k; l = s.counts.l }

abbrev pub sums : StageFigures → Sums
sums f = record { mask = f.mask; acc = f.acc; cpu = f.cpu; size = f.size; incoming = f.incoming; outgoing = f.outgoing }
