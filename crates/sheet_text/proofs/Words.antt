-- A line that is spelled by words: they are its fields.
--   High b            a byte of a word: it is none of those that part fields, begin a comment or end a line
--   Word w            the bytes w are one field
--   spaced w vs       the words w and vs, a space between two
use Rattle.std.proofs.Common.{◌≡◌, ℕ, ◌<◌, ◌≤◌, false, ◌==◌, ◌||◌, List, [], ◌∷◌, ◌++◌, length, take, filter, ltb, refl, ap, ◌∙◌, arith}
use Rattle.std.specs.List.{All, AllByRecursion, slice_split, position_or_len}
use Rattle.std.proofs.ByRecursion.{All-append, All-weaker, All-get_or}
use Rattle.std.proofs.lemmas.Bool.{ne_eqb, or_from}
use Rattle.std.proofs.lemmas.List.{take_all}
use Rattle.std.proofs.lemmas.List.Splits.{slice_split_at}
use Rattle.std.proofs.lemmas.List.Sums.{position_or_len_is}
use Rattle.sheet_text.specs.Fields.{is_blank, said, fields}
use Rattle.sheet_text.specs.Reading.{lines}
use Rattle.sheet_text.proofs.Pieces.{kept, fields_whole}

abbrev pub High : ℕ → Type 0
High b = 48 ≤ b

pub record Word (w : List ℕ) : Type 0 where
  pub some : 0 < length w
  pub high : AllByRecursion High w

abbrev pub spaced : List ℕ → List (List ℕ) → List ℕ
spaced w [] = w
spaced w (v ∷ vs) = w ++ (32 ∷ spaced v vs)

not_blank : (b : ℕ) → High b → is_blank b ≡ false
not_blank b high = or_from (b == 32) (b == 9 || b == 13) (ne_eqb b 32 (λ e. omega (arith, e, high))) (or_from (b == 9) (b == 13) (ne_eqb b 9 (λ e. omega (arith, e, high))) (ne_eqb b 13 (λ e. omega (arith, e, high))))

by_index : (P : ℕ → Type 0) (bs : List ℕ) → AllByRecursion P bs → All P bs
by_index P bs all = λ i d within. All-get_or P bs i d within all

no_blank : (w : List ℕ) → Word w → All (λ b. is_blank b ≡ false) w
no_blank w word = by_index (λ b. is_blank b ≡ false) w (All-weaker High (λ b. is_blank b ≡ false) not_blank w word.high)

fields_then : (w bs : List ℕ) → Word w → fields (w ++ (32 ∷ bs)) ≡ w ∷ fields bs
unfolding fields
fields_then w bs word = ap (filter (λ f. ltb 0 (length f))) (slice_split_at is_blank w 32 bs (no_blank w word) refl) ∙ kept w (slice_split is_blank bs) word.some

pub fields_spaced : (w : List ℕ) (vs : List (List ℕ)) → Word w → AllByRecursion Word vs → fields (spaced w vs) ≡ w ∷ vs
fields_spaced w [] word all = fields_whole w word.some (no_blank w word)
fields_spaced w (v ∷ vs) word all = fields_then w (spaced v vs) word ∙ ap (λ fs. w ∷ fs) (fields_spaced v vs all.0 all.1)

-- ---- no byte of such a line begins a comment or ends it

abbrev pub Quiet : ℕ → Type 0
Quiet b = ((b == 35) ≡ false) × ((b == 10) ≡ false)

quiet_high : (b : ℕ) → High b → Quiet b
quiet_high b high = (ne_eqb b 35 (λ e. omega (arith, e, high)), ne_eqb b 10 (λ e. omega (arith, e, high)))

pub quiet_spaced : (w : List ℕ) (vs : List (List ℕ)) → Word w → AllByRecursion Word vs → AllByRecursion Quiet (spaced w vs)
quiet_spaced w [] word all = All-weaker High Quiet quiet_high w word.high
quiet_spaced w (v ∷ vs) word all = All-append Quiet w (32 ∷ spaced v vs) (All-weaker High Quiet quiet_high w word.high) ((refl, refl), quiet_spaced v vs all.0 all.1)

module _ (line : List ℕ) (quiet : AllByRecursion Quiet line) where
  pub said_whole : said line ≡ line
  said_whole =
      let end : position_or_len (λ b. b == 35) line ≡ length line = position_or_len_is (λ b. b == 35) line (length line) 0 (omega arith) (λ k within. (All-get_or Quiet line k 0 within quiet).0) (λ h. absurd (omega arith)) in
      ap (λ i. take i line) end ∙ take_all (length line) line (omega arith)

  pub lines_then : (rest : List ℕ) → lines (line ++ (10 ∷ rest)) ≡ line ∷ lines rest
  lines_then rest = slice_split_at (λ b. b == 10) line 10 rest (λ i d within. (All-get_or Quiet line i d within quiet).1) refl
