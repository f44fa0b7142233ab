-- What writing a sheet into a buffer does.
--   Writes n old new len   the file of n, len bytes long, stands at the front of the buffer
--   Keeps n old new e      the buffer is too short for the file of n, and stays as it is
use Rattle.std.specs.Prelude.{◌≡◌, ℕ, ◌<◌, List, [], length, take, drop}
use Rattle.refusals.specs.declared.Refusal.{Refusal}
use Rattle.refusals.specs.declared.Refusal.TheVariants.{BufferTooShort}
use Rattle.refusals.specs.Told.{told}
use Rattle.sheet.specs.Nets.{Net}
use Rattle.sheet_layout.specs.Bodies.{file_refusal}
use Rattle.sheet_layout.specs.Layout.{LaidOut}
use Rattle.sheet_layout.specs.Written.{file_of}

pub record Writes (n : Net) (old new : List ℕ) (len : ℕ) : Type 0 where
  -- the answer is the length of the file
  pub size : len ≡ length (file_of n)
  -- the front of the buffer is the file
  pub bytes : take len new ≡ file_of n
  -- past the file the buffer is as it was
  pub rest : drop len new ≡ drop len old
  -- the file is laid out by the rules, and says the sheet
  pub laid_out : LaidOut (take len new) n
  -- it says no other sheet
  pub reads_back : (m : Net) → LaidOut (take len new) m → m ≡ n
  -- nothing is told against it
  pub good : file_refusal (take len new) ≡ []

pub record Keeps (n : Net) (old new : List ℕ) (e : Refusal) : Type 0 where
  -- the refusal is that of a buffer that is too short
  pub told_so : told e ≡ told BufferTooShort
  -- the file is longer than the buffer
  pub short : length old < length (file_of n)
  -- the buffer is as it was
  pub same : new ≡ old
