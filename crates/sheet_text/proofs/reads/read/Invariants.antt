use Rattle.std.proofs.Common.{◌≡◌, Ok, map}
use Rattle.sheet.specs.Nets.{empty}
use Rattle.sheet.specs.Views.{net}
use Rattle.sheet_text.specs.Reading.{after_lines}
use Rattle.sheet_text.proofs.reads.read.Given as goal

abbrev pub invariant-loop-index : goal.invariant-loop-index
invariant-loop-index l = after_lines 1 empty (map (λ p. p.1.now) l.yielded) ≡ Ok (net l.sheet)
