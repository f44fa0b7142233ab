-- A refusal tells something, so that a result tells nothing exactly if it is an answer.
use Rattle.std.proofs.Common.{◌≡◌, ℕ, true, List, [], ◌∷◌, is_ok, Ok, Err, Result, refl, arith}
use Rattle.refusals.specs.declared.Refusal.{Refusal}
use Rattle.refusals.specs.declared.Refusal.TheVariants.{AboveLimit, SheetFull, NoOperator, NotUpward, EdgeExists, CountAboveLimit, TooManyIdeals, TooFewCells, NoLawfulSplit, NoSplit, NoStage, NotASheetFile, ContentsEntry, BodyEntry, BufferTooShort}
use Rattle.refusals.specs.Told.{told, outcome}

pub something : (x : ℕ) (r : List ℕ) → x ∷ r ≡ [] → ⊥
something x r e = let z : ◌≡◌ {A = ℕ} 0 1 = cc in omega arith

pub told_something : (e : Refusal) → told e ≡ [] → ⊥
told_something AboveLimit h = something _ _ h
told_something SheetFull h = something _ _ h
told_something NoOperator h = something _ _ h
told_something NotUpward h = something _ _ h
told_something EdgeExists h = something _ _ h
told_something CountAboveLimit h = something _ _ h
told_something TooManyIdeals h = something _ _ h
told_something TooFewCells h = something _ _ h
told_something NoLawfulSplit h = something _ _ h
told_something NoSplit h = something _ _ h
told_something NoStage h = something _ _ h
told_something NotASheetFile h = something _ _ h
told_something (ContentsEntry index) h = something _ _ h
told_something (BodyEntry section entry reason) h = something _ _ h
told_something BufferTooShort h = something _ _ h

pub nothing_ok : {X : Type 0} (r : Result X Refusal) → outcome r ≡ [] → is_ok r ≡ true
nothing_ok (Ok x) h = refl
nothing_ok (Err e) h = absurd (told_something e h)
