-- The contents of a file are right exactly if nothing is told of them.
--   RightEntry f i d   the contents entry with index i is as it is due, but for where its body ends
--   RightHead f        the letters, the entries, and the end of the last body are right
use Rattle.std.proofs.Common.{◌≡◌, ℕ, ◌+◌, ◌%◌, ◌<◌, ◌≤◌, true, List, [], ◌∷◌, length, get_or, take, sym, refl, ap, ◌∙◌, arith}
use Rattle.std.proofs.lemmas.List.{get_or-take}
use Rattle.std.proofs.lemmas.Bool.{eqb-true}
use Rattle.std.proofs.lemmas.Bool.Decides.{nat_tests}
use Rattle.refusals.specs.declared.Refusal.TheVariants.{ContentsEntry}
use Rattle.refusals.specs.Told.{told, section_number}
use Rattle.sheet.specs.Changes.{unless}
use Rattle.sheet_layout.specs.Contents.{letters, section_of, offset_of, length_of, operators_due, edges_due, counts_due, dues, start, begins, ends_well, entry_right, head_refusal, entries_refusal, contents_refusal}
use Rattle.sheet_layout.specs.declared.Due.{Due}
use Rattle.sheet_layout.proofs.Firsts.{unless_nothing, first_nothing}

-- ---- the letters

first_four : (f : List ℕ) → 4 ≤ length f → take 4 f ≡ get_or f 0 0 ∷ get_or f 1 0 ∷ get_or f 2 0 ∷ get_or f 3 0 ∷ []
first_four [] h = absurd (omega arith)
first_four (a ∷ []) h = absurd (omega arith)
first_four (a ∷ b ∷ []) h = absurd (omega arith)
first_four (a ∷ b ∷ c ∷ []) h = absurd (omega arith)
first_four (a ∷ b ∷ c ∷ d ∷ f) h = refl

pub begins_letters : (f : List ℕ) → 4 ≤ length f → begins f ≡ true → take 4 f ≡ letters
begins_letters f h e =
    let four : (get_or f 0 0 ≡ 87) × (get_or f 1 0 ≡ 69) × (get_or f 2 0 ≡ 70) × (get_or f 3 0 ≡ 84) = grind (arith, nat_tests) in
    first_four f h ∙ rw (four.0, four.1, four.2, four.3) refl

pub letters_begins : (f : List ℕ) → take 4 f ≡ letters → begins f ≡ true
letters_begins f e =
    let at : (i : ℕ) → i < 4 → get_or f i 0 ≡ get_or letters i 0 = λ i h. sym (get_or-take 4 f i 0 h) ∙ ap (λ (bs : List ℕ). get_or bs i 0) e in
    rw (at 0 (omega arith), at 1 (omega arith), at 2 (omega arith), at 3 (omega arith)) refl

-- ---- an entry

pub record RightEntry (f : List ℕ) (i : ℕ) (d : Due) : Type 0 where
  pub section : section_of f i ≡ section_number d.section
  pub offset : offset_of f i ≡ start f i
  pub whole : length_of f i % d.unit ≡ 0
  pub least : d.least ≤ length_of f i
  pub most : length_of f i ≤ d.most

module _ (f : List ℕ) (i : ℕ) (d : Due) where
  pub entry_facts : entry_right f i d ≡ true → RightEntry f i d × (ends_well (length f) (start f i + length_of f i) d.last ≡ true)
  entry_facts e = grind (arith, nat_tests)

  pub facts_entry : RightEntry f i d → ends_well (length f) (start f i + length_of f i) d.last ≡ true → entry_right f i d ≡ true
  facts_entry r e = grind (arith, nat_tests)

-- ---- the head and its three entries

pub record RightHead (f : List ℕ) : Type 0 where
  pub long : 20 ≤ length f
  pub begins : take 4 f ≡ letters
  pub entries : get_or f 4 0 ≡ 3
  pub operators : RightEntry f 0 operators_due
  pub edges : RightEntry f 1 edges_due
  pub counts : RightEntry f 2 counts_due
  pub ends : start f 2 + length_of f 2 ≡ length f

-- a head of which nothing is told
head_facts : (f : List ℕ) → head_refusal f ≡ [] → (20 ≤ length f) × (begins f ≡ true) × (get_or f 4 0 ≡ 3)
head_facts f h = grind (arith, nat_tests)

pub contents_right : (f : List ℕ) → contents_refusal f ≡ [] → RightHead f
contents_right f h =
    let parts = first_nothing (head_refusal f) (entries_refusal f 0 dues) h in
    let head = head_facts f parts.0 in
    let one = first_nothing (unless (entry_right f 0 operators_due) (told (ContentsEntry 0))) (entries_refusal f 1 (edges_due ∷ counts_due ∷ [])) parts.1 in
    let two = first_nothing (unless (entry_right f 1 edges_due) (told (ContentsEntry 1))) (entries_refusal f 2 (counts_due ∷ [])) one.1 in
    let three = first_nothing (unless (entry_right f 2 counts_due) (told (ContentsEntry 2))) [] two.1 in
    let last = entry_facts f 2 counts_due (unless_nothing (entry_right f 2 counts_due) (ContentsEntry 2) three.0) in
    record {
      long = head.0;
      begins = begins_letters f (omega arith) head.1;
      entries = head.2;
      operators = (entry_facts f 0 operators_due (unless_nothing (entry_right f 0 operators_due) (ContentsEntry 0) one.0)).0;
      edges = (entry_facts f 1 edges_due (unless_nothing (entry_right f 1 edges_due) (ContentsEntry 1) two.0)).0;
      counts = last.0;
      ends = eqb-true (start f 2 + length_of f 2) (length f) last.1;
    }

pub right_contents : (f : List ℕ) → RightHead f → contents_refusal f ≡ []
right_contents f r =
    let begins = letters_begins f r.begins in
    let one = facts_entry f 0 operators_due r.operators (grind (arith, nat_tests)) in
    let two = facts_entry f 1 edges_due r.edges (grind (arith, nat_tests)) in
    let three = facts_entry f 2 counts_due r.counts (grind (arith, nat_tests)) in
    grind (arith, nat_tests)
