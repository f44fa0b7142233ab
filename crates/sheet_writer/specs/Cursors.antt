-- What a cursor over a buffer has room for, and what putting bytes there does.
use Rattle.std.specs.Prelude.{◌≡◌, ℕ, ◌+◌, ◌≤◌, List, length}
use Rattle.byte_fields.specs.Wrote.{Wrote}
use Rattle.sheet_writer.specs.declared.cursor.Cursor.{Cursor}

abbrev pub Room : Cursor → List ℕ → Type 0
Room c bs = c.at + length bs ≤ length c.buffer.now

pub record Puts (old : Cursor) (bs : List ℕ) (new : Cursor) : Type 0 where
  pub wrote : Wrote old.buffer.now old.at new.at bs new.buffer.now
  -- it is the same buffer
  pub same : new.buffer.ghost_name ≡ old.buffer.ghost_name
