-- What the text of a sheet file is.
use Rattle.std.specs.Prelude.{◌≡◌, ℕ, List, ◌∷◌, ◌++◌, codes, Ok}
use Rattle.sheet.specs.Nets.{Net}
use Rattle.sheet_layout.specs.Bodies.{file_refusal}
use Rattle.sheet_layout.specs.Layout.{LaidOut}
use Rattle.sheet_text.specs.Causes.{refused_text}
use Rattle.sheet_text.specs.Reading.{sheet_of}
use Rattle.sheet_text.specs.Texts.{text_of}

-- t is the text of the file f
pub record Describes (f t : List ℕ) : Type 0 where
  -- of a file that is laid out by the rules the text of its sheet, which says that sheet
  pub accepted : (n : Net) → LaidOut f n → (t ≡ text_of n) × (sheet_of t ≡ Ok n)
  -- of any other file what is refused
  pub refused : (x : ℕ) (xs : List ℕ) → file_refusal f ≡ x ∷ xs → t ≡ refused_text (x ∷ xs) ++ codes "\n"
