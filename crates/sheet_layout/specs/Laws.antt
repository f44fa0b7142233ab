-- What holds of the layout of sheet files.
use Rattle.std.specs.Prelude.{◌≡◌, ℕ, List, []}
use Rattle.sheet.specs.Nets.{Net}
use Rattle.sheet.specs.Kept.{Kept}
use Rattle.sheet_layout.specs.Bodies.{file_refusal, net_of}
use Rattle.sheet_layout.specs.Layout.{LaidOut}
use Rattle.sheet_layout.specs.Written.{file_of}

pub record Laws (f : List ℕ) (n : Net) : Type 0 where
  -- a file with nothing wrong is laid out, as the sheet of its entries
  pub good : file_refusal f ≡ [] → LaidOut f (net_of f)
  -- a file that is laid out has nothing wrong, and says one sheet
  pub right : LaidOut f n → file_refusal f ≡ []
  pub one : (m : Net) → LaidOut f m → LaidOut f n → m ≡ n
  -- every sheet has a file
  pub written : Kept n → LaidOut (file_of n) n

abbrev pub LawsStand : Type 0
LawsStand = (f : List ℕ) (n : Net) → Laws f n
