use Rattle.std.proofs.Common.{sym, ◌∙◌, arith}
use Rattle.sheet.specs.Views.{net}
use Rattle.sheet_writer.proofs.Puts.{file_length_lem}
use Rattle.sheet_writer.proofs.file_length.Goals as goal

pub returns : goal.returns
returns c = omega (arith, c.operators.ensures.value, c.edges.ensures) ∙ sym (file_length_lem (net c.args.sheet.now))
