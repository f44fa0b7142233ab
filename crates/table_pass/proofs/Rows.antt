-- The rows of the tables, one after the other, are as the recurrence has them.
use Rattle.std.proofs.Common.{◌≡◌, ℕ, zero, suc, ◌+◌, ◌-◌, ◌*◌, ◌<◌, ◌≤◌, Bool, true, false, cond, leb, ◌⊎◌, List, [], length, get_or, drop, Some, None, Option, sym, refl, ap, ◌∙◌, inl, inr, ⊎_elim, mul_assoc, add-mul, add-one, arith}
use Rattle.std.proofs.lemmas.List.{ext_get_or, get_or-drop, length-drop}
use Rattle.std.proofs.lemmas.Bool.{cases_eq, cond-true, le-leb, lt-leb, and_from, and_left, and_right}
use Rattle.device.specs.Loads.{PlainLoad}
use Rattle.refusals.specs.declared.Refusal.TheVariants.{TooFewCells}
use Rattle.refusals.specs.Told.{told}
use Rattle.sets.specs.Sets.{inside}
use Rattle.scale.specs.Rules.{Rules}
use Rattle.recurrence.specs.Table.{KindNumber, one, two, Candidate, Setting, lesser, offer, among, ideal, cut, best, via, pick, less_one, less_two, rating_of}
use Rattle.ideals.specs.Ideals.{most_ideals}
use Rattle.recurrence.proofs.Links.{best_via}
use Rattle.cells.specs.declared.choices.Choice.{Choice}
use Rattle.cells.specs.Cells.{Cell, no_choice, cell_at, clear_cell}
use Rattle.cells.specs.Rows.{width_of, place, row, both, Onto, row_fits, rows_fit}
use Rattle.cells.proofs.RowSteps.{line_le}
use Rattle.table_pass.specs.Filled.{shown, chosen, reached, or_start, cell, cells_of, cells_fit, fill_refusal, Passed, Filled}
use Rattle.table_pass.specs.Passes.{NoneInside}
use Rattle.table_pass.proofs.Offers.{lesser_none, both_is}

-- a place of a row lies in it
pub place_lt : (k l a b : ℕ) → a < k + 1 → b ≤ l → place l a b < width_of k l
place_lt k l a b h h' = omega (arith, line_le a (k + 1) (l + 1) h)

-- a cell of an earlier row stands before a later one
pub before_row : (i j k l a b : ℕ) → j < i → a < k + 1 → b ≤ l → j * width_of k l + place l a b < i * width_of k l
before_row i j k l a b lt h h' = omega (arith, line_le j i (width_of k l) lt, place_lt k l a b h h')

pub cell_is : (k l i a b : ℕ) → cell k l i a b ≡ i * width_of k l + place l a b
cell_is k l i a b = omega (arith, add-mul (i * (k + 1)) a (l + 1), mul_assoc i (k + 1) (l + 1))

pub cells_are : (k l n : ℕ) → cells_of k l n ≡ n * width_of k l
cells_are k l n = mul_assoc n (k + 1) (l + 1)

module _ {R : Type 0} (e : Setting R) (bottom : (a b : ℕ) → e.bottom a b ≡ true) (k l : ℕ) where
  abbrev Row : ℕ → (ℕ → ℕ → Cell R → Cell R) → (ℕ → Cell R) → (ℕ → Cell R) → Type 0
  Row i g t₀ t₁ = Onto l (k + 1) (i * width_of k l) g t₀ t₁

  -- one ideal more was offered to the row; t₀ is the table before the row was cleared
  pub row_more : (i j : ℕ) (x y : Option PlainLoad) (t₀ t₁ t₂ : ℕ → Cell R) → j < i → ((a b : ℕ) → cut e one a b i j ≡ x) → ((a b : ℕ) → cut e two a b i j ≡ y) → Filled e k l i t₀
      → Row i (reached e i j) t₀ t₁ → Row i (both e.rules j x y (row l (j * width_of k l) t₁)) t₁ t₂ → Row i (reached e i (j + 1)) t₀ t₂
  row_more i j x y t₀ t₁ t₂ lt ex ey filled p q = record {
    here = λ a b h h'.
        q.here a b h h'
        ∙ ap (λ z. both e.rules j x y (row l (j * width_of k l) t₁) a b z) (p.here a b h h')
        ∙ ap (λ z. both e.rules j z y (row l (j * width_of k l) t₁) a b (reached e i j a b (clear_cell e.rules))) (sym (ex a b))
        ∙ ap (λ z. both e.rules j (cut e one a b i j) z (row l (j * width_of k l) t₁) a b (reached e i j a b (clear_cell e.rules))) (sym (ey a b))
        ∙ both_is e bottom (k + 1) l j (row l (j * width_of k l) t₁) right (cut e one a b i j) (cut e two a b i j) a b (among e.rules (less_one e a b) (less_two e a b) (cut e one a b i) (cut e two a b i) j) h h'
        ∙ ap (λ n. reached e i n a b (clear_cell e.rules)) (sym (add-one j));
    below = λ c h. q.below c h ∙ p.below c h;
    above = λ c h. q.above c h ∙ p.above c h;
  }
    where
      right : (a b : ℕ) → a < k + 1 → b ≤ l → t₁ (j * width_of k l + place l a b) ≡ shown e.rules (pick e a b j)
      right a b h h' = p.below _ (before_row i j k l a b lt h h') ∙ filled j a b lt h h'

  -- ideals that do not lie inside offer nothing
  cut_none : (k : KindNumber) (a b i j : ℕ) → inside (ideal e j) (ideal e i) ≡ false → cut e k a b i j ≡ None
  cut_none k a b i j out = rw out refl

  offers_none : (j : ℕ) (k : KindNumber) (r : Option R) (x : Option PlainLoad) (y : Option (Candidate R)) → x ≡ None → lesser e.rules y (offer e.rules j k r x) ≡ y
  offers_none j k None x y none = lesser_none e.rules y
  offers_none j k (Some r) x y none = rw none (lesser_none e.rules y)

  skips : (i from : ℕ) (a b : ℕ) (n : ℕ) → NoneInside e.ideals (ideal e i) from (from + n)
      → among e.rules (less_one e a b) (less_two e a b) (cut e one a b i) (cut e two a b i) (from + n) ≡ among e.rules (less_one e a b) (less_two e a b) (cut e one a b i) (cut e two a b i) from
  skips i from a b zero out = let same : from + 0 ≡ from = omega arith in ap (among e.rules (less_one e a b) (less_two e a b) (cut e one a b i) (cut e two a b i)) same
  skips i from a b (suc n) out =
      let j : from + suc n ≡ suc (from + n) = omega arith in
      let last : inside (ideal e (from + n)) (ideal e i) ≡ false = out (from + n) (omega arith) (omega arith) in
      ap (among e.rules (less_one e a b) (less_two e a b) (cut e one a b i) (cut e two a b i)) j
      ∙ offers_none (from + n) two (less_two e a b (from + n)) (cut e two a b i (from + n)) _ (cut_none two a b i (from + n) last)
      ∙ offers_none (from + n) one (less_one e a b (from + n)) (cut e one a b i (from + n)) _ (cut_none one a b i (from + n) last)
      ∙ skips i from a b n (λ u h h'. out u h (omega arith))

  pub row_skips : (i from to : ℕ) (t₀ t₁ : ℕ → Cell R) → from ≤ to → NoneInside e.ideals (ideal e i) from to → Row i (reached e i from) t₀ t₁ → Row i (reached e i to) t₀ t₁
  row_skips i from to t₀ t₁ up out p =
      let n : to ≡ from + (to - from) = omega arith in
      record {
        here = λ a b h h'. p.here a b h h' ∙ ap (shown e.rules) (sym (skips i from a b (to - from) (λ u k k'. out u k (omega arith))) ∙ ap (among e.rules (less_one e a b) (less_two e a b) (cut e one a b i) (cut e two a b i)) (sym n));
        below = p.below;
        above = p.above;
      }

  pub filled_more : (i : ℕ) (t₁ t₂ : ℕ → Cell R) → Filled e k l i t₁ → Row i (reached e i i) t₁ t₂ → Filled e k l (i + 1) t₂
  filled_more i t₁ t₂ f o i' a b h m m' = ⊎_elim
      (λ q. rw q (o.here a b m m'))
      (λ ne. let lt : i' < i = omega arith in o.below _ (before_row i i' k l a b lt m m') ∙ f i' a b lt m m')
      (cases_eq i' i)

  pub beyond_more : (i : ℕ) (t₀ t₁ t₂ : ℕ → Cell R) → ((c : ℕ) → i * width_of k l ≤ c → t₁ c ≡ t₀ c) → Row i (reached e i i) t₁ t₂ → (c : ℕ) → (i + 1) * width_of k l ≤ c → t₂ c ≡ t₀ c
  beyond_more i t₀ t₁ t₂ f o c h = let m = add-mul i 1 (width_of k l) in o.above c (omega arith) ∙ f c (omega arith)

  rated : (c : Option (Candidate R)) → (shown e.rules c).rating ≡ or_start e.rules (rating_of c)
  rated None = refl
  rated (Some c) = refl

  pick_rating : (a b i : ℕ) → (shown e.rules (pick e a b i)).rating ≡ or_start e.rules (best e a b i)
  pick_rating a b i = step i ∙ ap (or_start e.rules) (sym (best_via e a b i))
    where
      at_bottom : or_start e.rules (via e (less_one e a b) (less_two e a b) a b 0) ≡ e.rules.start
      at_bottom = ap (λ t. or_start e.rules (cond t (Some e.rules.start) None)) (bottom a b)

      step : (i : ℕ) → (shown e.rules (pick e a b i)).rating ≡ or_start e.rules (via e (less_one e a b) (less_two e a b) a b i)
      step zero = sym at_bottom
      step (suc i) = rated (pick e a b (suc i))

  shown_choice : (c : Option (Candidate R)) → (shown e.rules c).choice ≡ chosen c
  shown_choice None = refl
  shown_choice (Some c) = refl

  module _ (rs rs' : List R) (cs cs' : List Choice) (lr : length rs' ≡ length rs) (lc : length cs' ≡ length cs) where
    abbrev n : ℕ
    n = cells_of k l (length e.ideals)

    rest : {X : Type 0} (d : X) (xs xs' : List X) → length xs' ≡ length xs → ((c : ℕ) → n ≤ c → get_or xs' c d ≡ get_or xs c d) → drop n xs' ≡ drop n xs
    rest d xs xs' same h = ext_get_or d (drop n xs') (drop n xs) (length-drop n xs' ∙ ap (λ m. m - n) same ∙ sym (length-drop n xs))
        (λ i _. get_or-drop n xs' i d ∙ h (n + i) (omega arith) ∙ sym (get_or-drop n xs i d))

    pub passed : Filled e k l (length e.ideals) (cell_at e.rules rs' cs') → ((c : ℕ) → length e.ideals * width_of k l ≤ c → cell_at e.rules rs' cs' c ≡ cell_at e.rules rs cs c) → Passed e k l rs cs rs' cs'
    passed f beyond = record {
      ratings = λ i a b h m m'. rw (cell_is k l i a b) (ap (λ z. z.rating) (f i a b h (omega arith) m') ∙ pick_rating a b i);
      choices = λ i a b h m m'. rw (cell_is k l i a b) (ap (λ z. z.choice) (f i a b h (omega arith) m') ∙ shown_choice (pick e a b i));
      more_ratings = rest e.rules.start rs rs' lr (λ c h. ap (λ z. z.rating) (beyond c (omega (arith, cells_are k l (length e.ideals)))));
      more_choices = rest no_choice cs cs' lc (λ c h. ap (λ z. z.choice) (beyond c (omega (arith, cells_are k l (length e.ideals)))));
    }

-- loads that are what a cut asks for, offered to the rows at these places
pub offered_cut : {R : Type 0} (s : Rules R) (j : ℕ) (x x' y y' : Option PlainLoad) (k l from from' to to' : ℕ) (t₀ t₁ : ℕ → Cell R) → from' ≡ from → to' ≡ to → x' ≡ x → y' ≡ y
    → Onto l (k + 1) to' (both s j x' y' (row l from' t₀)) t₀ t₁ → Onto l (k + 1) to (both s j x y (row l from t₀)) t₀ t₁
offered_cut s j x x' y y' k l from from' to to' t₀ t₁ ef et ex ey o = rw (← ef, ← et, ← ex, ← ey) o

-- the answer for a cut between an ideal and one that it lies in
pub cut_asked : (test : Bool) (answer load : Option PlainLoad) → test ≡ true → load ≡ answer → load ≡ cond test answer None
cut_asked test answer load h e = e ∙ sym (cond-true test answer None h)

pub row_fits_in : (i n to v lr lc : ℕ) → to ≡ i * v → i < n → n * v ≤ lr → n * v ≤ lc → row_fits to v lr lc ≡ true
row_fits_in i n to v lr lc e h fr fc =
    rw e (and_from _ _ (le-leb (i * v + v) lr (omega (arith, line_le i n v h))) (le-leb (i * v + v) lc (omega (arith, line_le i n v h))))

pub rows_fit_in : (i j n from to v lr lc : ℕ) → from ≡ j * v → to ≡ i * v → j < i → i < n → n * v ≤ lr → n * v ≤ lc → rows_fit from to v lr lc ≡ true
rows_fit_in i j n from to v lr lc ef et h h' fr fc =
    and_from _ _ (rw (ef, et) (le-leb (j * v + v) (i * v) (line_le j i v h))) (row_fits_in i n to v lr lc et h' fr fc)

-- ---- whether the cells fit, tested by rows of w cells for the counts k and l

module _ (k l n w lr lc : ℕ) (e : w ≡ width_of k l) where
  width_cells : n * w ≡ cells_of k l n
  width_cells = ap (λ z. n * z) e ∙ sym (cells_are k l n)

  pub cells_fit_so : n * w ≤ lr → n * w ≤ lc → cells_fit k l n lr lc ≡ true
  cells_fit_so fr fc =
      let q = width_cells in
      and_from _ _ (le-leb (cells_of k l n) lr (omega arith)) (le-leb (cells_of k l n) lc (omega arith))

  pub cells_fit_not : (lr < n * w) ⊎ ((n * w ≤ lr) × (lc < n * w)) → cells_fit k l n lr lc ≡ false
  cells_fit_not (inl h) =
      let q = width_cells in
      and_left (leb (cells_of k l n) lr) (leb (cells_of k l n) lc) (lt-leb (cells_of k l n) lr (omega arith))
  cells_fit_not (inr h) =
      let q = width_cells in
      and_right (leb (cells_of k l n) lr) _ (lt-leb (cells_of k l n) lc (omega (arith, h.1)))

  pub fill_granted : n ≤ most_ideals → n * w ≤ lr → n * w ≤ lc → fill_refusal k l n lr lc ≡ []
  fill_granted few fr fc = rw (le-leb n most_ideals few, cells_fit_so fr fc) refl

  pub fill_short : n ≤ most_ideals → (lr < n * w) ⊎ ((n * w ≤ lr) × (lc < n * w)) → fill_refusal k l n lr lc ≡ told TooFewCells
  fill_short few short = rw (le-leb n most_ideals few, cells_fit_not short) refl
