-- The head of a sheet file: four letters, the number of contents entries, and the entries.
--   section_of f i, offset_of f i, length_of f i   the three fields of the contents entry with index i
--   dues               what is due of each entry: its section, the size of a body entry, the least and the greatest length, and whether it is the last
--   start f i          where the body of entry i is due: right after the contents, or right after the body before
--   body f i           the part of the file that entry i names
--   head_refusal f     what is told of a file that does not begin as a sheet file does
--   entries_refusal    what is told of the first wrong contents entry, from the index i on
use Rattle.std.specs.Prelude.{ℕ, zero, suc, ◌+◌, ◌*◌, ◌%◌, Bool, true, false, cond, ◌&&◌, List, [], ◌∷◌, length, take, drop, ◌==◌, nat_le, slice_index}
use Rattle.byte_fields.specs.Little.{field}
use Rattle.refusals.specs.declared.Section.TheVariants as sections
use Rattle.refusals.specs.declared.Refusal.TheVariants.{NotASheetFile, ContentsEntry}
use Rattle.refusals.specs.Told.{told, section_number}
use Rattle.sheet.specs.Changes.{unless, first}
use Rattle.sheet_layout.specs.declared.Due.{Due}

-- the letters WEFT
abbrev pub letters : List ℕ
letters = 87 ∷ 69 ∷ 70 ∷ 84 ∷ []

abbrev pub first_body : ℕ
first_body = 20

abbrev pub section_of : List ℕ → ℕ → ℕ
section_of f i = slice_index f (5 + 5 * i)

abbrev pub offset_of : List ℕ → ℕ → ℕ
offset_of f i = field f (6 + 5 * i) 2

abbrev pub length_of : List ℕ → ℕ → ℕ
length_of f i = field f (8 + 5 * i) 2

abbrev pub operators_due : Due
operators_due = record { section = sections.Operators; unit = 16; least = 0; most = 1024; last = false }

abbrev pub edges_due : Due
edges_due = record { section = sections.Edges; unit = 2; least = 0; most = 4032; last = false }

abbrev pub counts_due : Due
counts_due = record { section = sections.Counts; unit = 2; least = 2; most = 2; last = true }

abbrev pub dues : List Due
dues = operators_due ∷ edges_due ∷ counts_due ∷ []

abbrev pub start : List ℕ → ℕ → ℕ
start f zero = first_body
start f (suc i) = start f i + length_of f i

abbrev pub body : List ℕ → ℕ → List ℕ
body f i = take (length_of f i) (drop (start f i) f)

abbrev pub begins : List ℕ → Bool
begins f = slice_index f 0 == 87 && (slice_index f 1 == 69 && (slice_index f 2 == 70 && slice_index f 3 == 84))

-- long enough for its contents, with the letters and the number of contents entries
abbrev pub head_right : List ℕ → Bool
head_right f = nat_le first_body (length f) && (begins f && slice_index f 4 == 3)

abbrev pub head_refusal : List ℕ → List ℕ
head_refusal f = unless (head_right f) (told NotASheetFile)

-- a body ends within a file of n bytes, and the last one with it
abbrev pub ends_well : ℕ → ℕ → Bool → Bool
ends_well n end last = cond last (end == n) (nat_le end n)

-- an entry is as it is due, its body being due at the place from in a file of n bytes
abbrev pub admits : Due → ℕ → ℕ → ℕ → ℕ → ℕ → Bool
admits d section offset len from n =
    (section == section_number d.section)
    && (offset == from
    && (len % d.unit == 0
    && (nat_le d.least len
    && (nat_le len d.most
    && ends_well n (from + len) d.last))))

abbrev pub entry_right : List ℕ → ℕ → Due → Bool
entry_right f i d = admits d (section_of f i) (offset_of f i) (length_of f i) (start f i) (length f)

abbrev pub entries_refusal : List ℕ → ℕ → List Due → List ℕ
entries_refusal f i [] = []
entries_refusal f i (d ∷ ds) = first (unless (entry_right f i d) (told (ContentsEntry i))) (entries_refusal f (suc i) ds)

abbrev pub contents_refusal : List ℕ → List ℕ
contents_refusal f = first (head_refusal f) (entries_refusal f 0 dues)
