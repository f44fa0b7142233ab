-- By which number, and which values after it, each refusal is told.
--   told r         the number of a refusal, then its values
--   told_reason r  the number of what is wrong with an entry of a file's body
--   section_number s  the number by which a file names a section
--   outcome r      what a result tells: nothing where there is an answer
--   spelled ts     the text of what is told: its numbers, with one space between two
use Rattle.std.specs.Prelude.{ℕ, List, [], ◌∷◌, ◌++◌, Ok, Err, decimal, Result}
use Rattle.std.specs.List.{flat_map}
use Rattle.refusals.specs.declared.Reason.{Reason}
use Rattle.refusals.specs.declared.Reason.TheVariants as reasons
use Rattle.refusals.specs.declared.Section.{Section}
use Rattle.refusals.specs.declared.Section.TheVariants as sections
use Rattle.refusals.specs.declared.Refusal.{Refusal}
use Rattle.refusals.specs.declared.Refusal.TheVariants.{AboveLimit, SheetFull, NoOperator, NotUpward, EdgeExists, CountAboveLimit, TooManyIdeals, TooFewCells, NoLawfulSplit, NoSplit, NoStage, NotASheetFile, ContentsEntry, BodyEntry, BufferTooShort}

abbrev pub told_reason : Reason → ℕ
told_reason reasons.AboveLimit = 1
told_reason reasons.NoOperator = 3
told_reason reasons.NotUpward = 4
told_reason reasons.NotAscending = 5
told_reason reasons.CountAboveLimit = 6

abbrev pub section_number : Section → ℕ
section_number sections.Operators = 1
section_number sections.Edges = 2
section_number sections.Counts = 3

abbrev pub told : Refusal → List ℕ
told AboveLimit = 1 ∷ []
told SheetFull = 2 ∷ []
told NoOperator = 3 ∷ []
told NotUpward = 4 ∷ []
told EdgeExists = 5 ∷ []
told CountAboveLimit = 6 ∷ []
told TooManyIdeals = 7 ∷ []
told TooFewCells = 8 ∷ []
told NoLawfulSplit = 9 ∷ []
told NoSplit = 10 ∷ []
told NoStage = 11 ∷ []
told NotASheetFile = 12 ∷ []
told (ContentsEntry index) = 13 ∷ index ∷ []
told (BodyEntry section entry reason) = 14 ∷ section ∷ entry ∷ told_reason reason ∷ []
told BufferTooShort = 15 ∷ []

abbrev pub outcome : {X : Type 0} → Result X Refusal → List ℕ
outcome (Ok x) = []
outcome (Err e) = told e

abbrev pub spelled : List ℕ → List ℕ
spelled [] = []
spelled (x ∷ xs) = decimal x ++ flat_map (λ v. 32 ∷ decimal v) xs
