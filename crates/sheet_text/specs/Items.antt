-- What a line says, by its fields.
--   operator_of, edge_of, counts_of   the item that the numbers after its word say
--   said_by word numbers              the item that a word and the numbers after it say
--   item_of                           the item that fields say; nothing where there is no field
use Rattle.std.specs.Prelude.{ℕ, List, [], ◌∷◌, Option, Some, None, Result, Ok, Err, codes, if◌then◌else◌}
use Rattle.std.specs.Str.{bytes_eq}
use Rattle.sheet_text.specs.declared.causes.Slip.{Slip}
use Rattle.sheet_text.specs.declared.causes.Slip.TheVariants.{UnknownItem}
use Rattle.sheet_text.specs.declared.items.Item.{Item}
use Rattle.sheet_text.specs.declared.items.Item.TheVariants.{Operator, Edge, Counts}
use Rattle.sheet_text.specs.Numbers.{◌>>=◌, next_number, no_more}

unfoldable pub operator_of : List (List ℕ) → Result Item Slip
operator_of fs = do
  acc ← next_number fs
  cpu ← next_number acc.1
  size ← next_number cpu.1
  link ← next_number size.1
  end ← no_more link.1
  Ok (Operator (record { acc = acc.0; cpu = cpu.0; size = size.0; link = link.0 }))

unfoldable pub edge_of : List (List ℕ) → Result Item Slip
edge_of fs = do
  from ← next_number fs
  to ← next_number from.1
  end ← no_more to.1
  Ok (Edge from.0 to.0)

unfoldable pub counts_of : List (List ℕ) → Result Item Slip
counts_of fs = do
  k ← next_number fs
  l ← next_number k.1
  end ← no_more l.1
  Ok (Counts k.0 l.0)

abbrev pub said_by : List ℕ → List (List ℕ) → Result Item Slip
said_by word numbers =
    if bytes_eq word (codes "op") then operator_of numbers
    else (if bytes_eq word (codes "edge") then edge_of numbers
    else (if bytes_eq word (codes "count") then counts_of numbers
    else Err UnknownItem))

abbrev pub item_of : List (List ℕ) → Result (Option Item) Slip
item_of [] = Ok None
item_of (word ∷ numbers) = do
  item ← said_by word numbers
  Ok (Some item)
