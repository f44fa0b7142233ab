-- The page of a split: its text, as bytes. Each line ends with one line feed, and a number is decimal without leading zeros.
--   spaced v                a space and a number
--   letter st               A for a stage of kind 1, else B
--   stage_line st           the letter of a stage, and each of its operators ascending, a space before each
--   head_line count pace    how many stages there are, and their pace
--   page_of n e ss          the head, and a line for each stage in their order
--   most_page               the most bytes of a page: 26 of the head, and 194 for each of 16 stages
--   page_refusal page room  what is told where a page is to go into so many bytes: that they are too few, or nothing
--   HasPage page old new len    the page, len bytes long, stands at the front of the buffer, and the rest is as it was
use Rattle.std.specs.Prelude.{◌≡◌, ℕ, cond, List, ◌++◌, length, take, drop, ◌==◌, codes, decimal, nat_le}
use Rattle.std.specs.List.{flat_map}
use Rattle.refusals.specs.declared.Refusal.TheVariants.{BufferTooShort}
use Rattle.refusals.specs.Told.{told}
use Rattle.sets.specs.Sets.{members}
use Rattle.sheet.specs.Changes.{unless}
use Rattle.sheet.specs.Nets.{Net}
use Rattle.split.specs.declared.stages.Stage.{Stage}
use Rattle.split.specs.Splits.{Kinds}
use Rattle.pages.specs.Paces.{pace_of}

abbrev pub spaced : ℕ → List ℕ
spaced v = codes " " ++ decimal v

abbrev pub letter : Stage → List ℕ
letter st = cond (st.kind == 1) (codes "A") (codes "B")

abbrev pub stage_line : Stage → List ℕ
stage_line st = letter st ++ (flat_map spaced (members st.mask) ++ codes "\n")

abbrev pub head_line : ℕ → ℕ → List ℕ
head_line count pace = codes "stages " ++ (decimal count ++ (codes " pace " ++ (decimal pace ++ codes "\n")))

abbrev pub page_of : Net → Kinds → List Stage → List ℕ
page_of n e ss = head_line (length ss) (pace_of n e ss) ++ flat_map stage_line ss

abbrev pub most_page : ℕ
most_page = 3130

abbrev pub page_refusal : List ℕ → ℕ → List ℕ
page_refusal page room = unless (nat_le (length page) room) (told BufferTooShort)

pub record HasPage (page old new : List ℕ) (len : ℕ) : Type 0 where
  -- the answer is the length of the page
  pub size : len ≡ length page
  -- the front of the buffer is the page
  pub bytes : take len new ≡ page
  -- past the page the buffer is as it was
  pub rest : drop len new ≡ drop len old
