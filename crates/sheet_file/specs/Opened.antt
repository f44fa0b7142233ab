-- What a reader over a file holds.
--   PartAt f i b    the part b is the body of the contents entry i, with its place in the file
--   Opened f r      the reader r is over the file f and hands out its three bodies
use Rattle.std.specs.Prelude.{◌≡◌, ℕ, List}
use Rattle.sheet_file.specs.declared.readers.Part.{Part}
use Rattle.sheet_file.specs.declared.readers.Reader.{Reader}
use Rattle.sheet_layout.specs.Contents.{start, body}

abbrev pub PartAt : List ℕ → ℕ → Part → Type 0
PartAt f i b = (b.place ≡ start f i) × (b.bytes.now ≡ body f i)

pub record Opened (f : List ℕ) (r : Reader) : Type 0 where
  pub whole : r.file.now ≡ f
  pub operators : PartAt f 0 r.operators
  pub edges : PartAt f 1 r.edges
  pub counts : PartAt f 2 r.counts
