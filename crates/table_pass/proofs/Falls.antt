-- Rows that fall, as the pass goes on.
use Rattle.std.proofs.Common.{◌≡◌, ℕ, zero, suc, ◌+◌, ◌*◌, ◌<◌, ◌≤◌, true, false, sym, refl, ap, ◌∙◌, ⊎_elim, arith}
use Rattle.std.proofs.lemmas.Bool.{both_ways, cases_eq, ne_eqb}
use Rattle.scale.specs.Rules.{Rules}
use Rattle.cells.specs.Cells.{Cell, stands, clear_cell}
use Rattle.cells.specs.Rows.{width_of, by_first, row, clear, Onto}
use Rattle.cells.specs.Falls.{holds, Falls}
use Rattle.cells.proofs.Stops.{falls_like}
use Rattle.table_pass.proofs.Rows.{before_row}

module _ {R : Type 0} (s : Rules R) where
  -- nothing stands in a row that was cleared
  pub cleared_holds : (n l to : ℕ) (t u : ℕ → Cell R) → Onto l n to (clear s) t u → Falls s holds l n (row l to u)
  cleared_holds n l to t u done a b a' b' h k h' k' held = absurd (both_ways (holds (row l to u a b)) (ap holds (done.here a b (omega arith) (omega arith))) held)

  -- of a row past the first, what it gives to a later one is what stands there
  later_stands : (j : ℕ) (c : Cell R) → 0 < j → stands (by_first j) c ≡ holds c
  later_stands j c some = rw (ne_eqb j 0 (λ e. omega arith)) refl

  later_falls : (i : ℕ) (n l : ℕ) (cells : ℕ → ℕ → Cell R) → 0 < i → Falls s holds l n cells → Falls s (stands (by_first i)) l n cells
  later_falls i n l cells some falling a b a' b' h k h' k' stood =
      let there = falling a b a' b' h k h' k' (sym (later_stands i (cells a b) some) ∙ stood) in
      (later_stands i (cells a' b') some ∙ there.0, there.1)

  -- in the first row start stands throughout
  first_falls : ((r : R) → s.at_most r r ≡ true) → (n l : ℕ) (cells : ℕ → ℕ → Cell R) → ((a b : ℕ) → a < n → b ≤ l → cells a b ≡ clear_cell s) → Falls s (stands (by_first 0)) l n cells
  first_falls self n l cells is a b a' b' h k h' k' stood = rw (is a b (omega arith) (omega arith), is a' b' k k') (refl, self s.start)

  pub row_falls : ((r : R) → s.at_most r r ≡ true) → (i n l : ℕ) (cells : ℕ → ℕ → Cell R) → (i ≡ 0 → (a b : ℕ) → a < n → b ≤ l → cells a b ≡ clear_cell s) → Falls s holds l n cells → Falls s (stands (by_first i)) l n cells
  row_falls self zero n l cells is falling = first_falls self n l cells (is refl)
  row_falls self (suc i) n l cells is falling = later_falls (suc i) n l cells (omega arith) falling

  -- one row more falls, and those before are as they were
  pub fall_more : ((x y : R) → s.at_most x y ≡ false → s.at_most y x ≡ true) → ((x y z : R) → s.at_most x y ≡ true → s.at_most y z ≡ true → s.at_most x z ≡ true) → (i k l : ℕ) (t u : ℕ → Cell R)
      → ((j : ℕ) → j < i → Falls s (stands (by_first j)) l (k + 1) (row l (j * width_of k l) t)) → Falls s (stands (by_first i)) l (k + 1) (row l (i * width_of k l) u) → ((c : ℕ) → c < i * width_of k l → u c ≡ t c)
      → (j : ℕ) → j < i + 1 → Falls s (stands (by_first j)) l (k + 1) (row l (j * width_of k l) u)
  fall_more total transitive i k l t u before now same j h = ⊎_elim
      (λ q. rw q now)
      (λ ne. let less : j < i = omega arith in falls_like s total transitive (stands (by_first j)) l (k + 1) (row l (j * width_of k l) t) (row l (j * width_of k l) u) (λ a b m m'. same _ (before_row i j k l a b less m m')) (before j less))
      (cases_eq j i)
