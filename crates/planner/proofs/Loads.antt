-- The sheet that is read from a file is that of the file's entries.
use Rattle.std.proofs.Common.{◌≡◌, ℕ, List}
use Rattle.sheet.specs.Nets.{Net}
use Rattle.sheet_layout.specs.Bodies.{net_of}
use Rattle.sheet_layout.specs.Layout.{LaidOut}
use Rattle.sheet_layout.specs.Laws.{LawsStand}

pub says_entries : LawsStand → (f : List ℕ) (n : Net) → LaidOut f n → n ≡ net_of f
says_entries laws f n said = (laws f (net_of f)).one n said ((laws f n).good ((laws f n).right said))
