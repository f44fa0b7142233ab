-- What a caller in C reads of an answer.
--   granted             nothing is refused: zeros
--   refusal_told ts     a refusal by what is told of it, the number and its values
--   number_told ts v    the number v, or the refusal that is told and 0
--   number_of r, stage_of r, margin_of r    an answer, or the refusal and zeros
use Rattle.std.specs.Prelude.{ℕ, ℤ, pos, List, [], ◌∷◌, Result, Ok, Err, slice_index}
use Rattle.refusals.specs.declared.Refusal.{Refusal}
use Rattle.refusals.specs.Told.{told}
use Rattle.controller.specs.declared.refused.RefusalRecord.{RefusalRecord}
use Rattle.controller.specs.declared.answers.NumberRecord.{NumberRecord}
use Rattle.controller.specs.declared.answers.StageRecord.{StageRecord}
use Rattle.controller.specs.declared.answers.MarginRecord.{MarginRecord}

abbrev pub granted : RefusalRecord
granted = record { entry = 0; number = 0; section = 0; reason = 0 }

-- a number alone, with one value, or with three
abbrev pub refusal_told : List ℕ → RefusalRecord
refusal_told [] = granted
refusal_told (number ∷ []) = record { entry = 0; number = number; section = 0; reason = 0 }
refusal_told (number ∷ entry ∷ []) = record { entry = entry; number = number; section = 0; reason = 0 }
refusal_told (number ∷ section ∷ entry ∷ reasons) = record { entry = entry; number = number; section = section; reason = slice_index reasons 0 }

abbrev pub number_told : List ℕ → ℕ → NumberRecord
number_told [] v = record { refusal = granted; value = v }
number_told (x ∷ ts) v = record { refusal = refusal_told (x ∷ ts); value = 0 }

abbrev pub number_of : Result ℕ Refusal → NumberRecord
number_of (Ok v) = record { refusal = granted; value = v }
number_of (Err e) = record { refusal = refusal_told (told e); value = 0 }

-- the kind, the mask and the number of operators
abbrev pub stage_of : Result (ℕ × ℕ × ℕ) Refusal → StageRecord
stage_of (Ok s) = record { refusal = granted; mask = s.1; operators = s.2; kind = s.0 }
stage_of (Err e) = record { refusal = refusal_told (told e); mask = 0; operators = 0; kind = 0 }

abbrev pub margin_of : Result ℤ Refusal → MarginRecord
margin_of (Ok t) = record { refusal = granted; ticks = t }
margin_of (Err e) = record { refusal = refusal_told (told e); ticks = pos 0 }
