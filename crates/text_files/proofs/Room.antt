-- A buffer for any sheet file is long enough for the file of every sheet.
use Rattle.std.proofs.Common.{◌≡◌, ℕ, ◌≤◌, List, length, Result, Ok, Err, MatchResult, IsOk, refl, arith}
use Rattle.refusals.specs.declared.Refusal.{Refusal}
use Rattle.sheet.specs.Nets.{Net}
use Rattle.sheet.specs.Kept.{Kept}
use Rattle.sheet_layout.specs.Written.{file_of}
use Rattle.sheet_layout.proofs.Pairs.{edges_short}
use Rattle.sheet_layout.proofs.Written.{length_file}
use Rattle.sheet_writer.specs.Writes.{Writes, Keeps}
use Rattle.text_files.specs.Makes.{most_file}

file_short : (n : Net) → Kept n → length (file_of n) ≤ most_file
file_short n kept = omega (arith, length_file n, kept.few, edges_short n kept)

pub room_for_all : (n : Net) (kept : Kept n) (old new : List ℕ) → length old ≡ most_file → (r : Result ℕ Refusal) → MatchResult r (Writes n old new) (Keeps n old new) → IsOk r
room_for_all n kept old new room (Ok len) w = refl
room_for_all n kept old new room (Err e) k = absurd (omega (arith, file_short n kept, room, k.short))
