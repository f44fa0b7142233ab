use Rattle.std.proofs.Common.{◌≡◌, ℕ, zero, suc, ◌+◌, ◌-◌, ◌*◌, ◌<◌, ◌≤◌, ◌⊎◌, Some, Option, sym, refl, ap, ◌∙◌, inl, inr, ⊎_elim, mul-le-mul_right, suc-mul, add-mul, arith}
use Rattle.std.proofs.lemmas.Bool.{cases_eq, cases_lt}
use Rattle.std.proofs.lemmas.Grind.{common_steps}
use Rattle.scale.specs.Rules.{Rules}
use Rattle.device.specs.Loads.{PlainLoad}
use Rattle.device.specs.declared.which_kinds.WhichKind.{WhichKind}
use Rattle.device.specs.declared.which_kinds.WhichKind.TheVariants.{First, Second}
use Rattle.cells.specs.declared.choices.Choice.{Choice}
use Rattle.cells.specs.declared.rows.Runs.{Runs}
use Rattle.cells.specs.Cells.{Cell, choice_of, offered, shifted}
use Rattle.cells.specs.Falls.{Within, PerhapsOn, PerhapsBoth}
use Rattle.cells.specs.Rows.{place, width_of, row, runs_of, tried, first, second, on, both, Onto}

-- a line of w ends before the n-th begins
pub line_le : (a n w : ℕ) → a < n → a * w + w ≤ n * w
line_le a n w h = let e = suc-mul a w in let m : suc a ≤ n = h in omega (arith, mul-le-mul_right w m, e)

-- how many lines of a row stand after r of the runs of a kind
abbrev pub lines_led : WhichKind → ℕ → ℕ
lines_led First r = r + 1
lines_led Second r = r

-- which is no line past the last
pub led_le : (w : WhichKind) (k l r : ℕ) (runs : Runs) → runs ≡ runs_of k l w → r < runs.count → lines_led w r ≤ k + 1
led_le First k l r runs led h = omega (arith, ap (λ v. v.count) led)
led_le Second k l r runs led h = omega (arith, ap (λ v. v.count) led)

-- a run ends within the row
pub run_le : (w : WhichKind) (k l r : ℕ) (runs : Runs) → runs ≡ runs_of k l w → r < runs.count → r * (l + 1) + runs.step + runs.cells ≤ width_of k l
run_le First k l r runs led h =
    let count : runs.count ≡ k = ap (λ v. v.count) led in
    let line = line_le r k (l + 1) (omega arith) in
    rw led (omega (arith, line, add-mul k 1 (l + 1)))
run_le Second k l r runs led h =
    let count : runs.count ≡ k + 1 = ap (λ v. v.count) led in
    let line = line_le r (k + 1) (l + 1) (omega arith) in
    rw led (omega arith)

-- after all runs all lines stand
pub lines_all : (w : WhichKind) (k l : ℕ) (runs : Runs) → runs ≡ runs_of k l w → lines_led w runs.count ≡ k + 1
lines_all First k l runs led = rw led refl
lines_all Second k l runs led = rw led refl

-- a cell is as it was, or as g makes it
abbrev Perhaps : {R : Type 0} → (ℕ → ℕ → Cell R → Cell R) → ℕ → ℕ → Cell R → Cell R → Type 0
Perhaps g a b c d = (d ≡ c) ⊎ (d ≡ g a b c)

module _ {R : Type 0} (s : Rules R) where
  -- a shifted table at the cell d of those that were offered to, below them and above them
  pub shifted_at : (by : Choice) (x : PlainLoad) (f t n : ℕ) (table : ℕ → Cell R) (k d : ℕ) → k ≡ t + d → d < n → shifted s by x f t n table k ≡ offered s by x (table (f + d)) (table k)
  shifted_at by x f t n table k d e h = grind (arith, common_steps)

  pub shifted_under : (by : Choice) (x : PlainLoad) (f t n : ℕ) (table : ℕ → Cell R) (k : ℕ) → k < t → shifted s by x f t n table k ≡ table k
  shifted_under by x f t n table k h = grind (arith, common_steps)

  pub shifted_over : (by : Choice) (x : PlainLoad) (f t n : ℕ) (table : ℕ → Cell R) (k : ℕ) → t + n ≤ k → shifted s by x f t n table k ≡ table k
  shifted_over by x f t n table k h = grind (arith, common_steps)

  -- a run: in line n g leaves the cells before the first, and offers to each of the others one cell of those from `from` on
  record Run (g : ℕ → ℕ → Cell R → Cell R) (by : Choice) (x : PlainLoad) (from to n l skip cells : ℕ) (t₀ : ℕ → Cell R) : Type 0 where
    pub wide : skip + cells ≡ l + 1
    pub fit : from + cells ≤ to
    pub left : (b : ℕ) (c : Cell R) → b < skip → g n b c ≡ c
    pub offers : (d : ℕ) (c : Cell R) → d < cells → g n (skip + d) c ≡ offered s by x (t₀ (from + d)) c

  module _ (g : ℕ → ℕ → Cell R → Cell R) (by : Choice) (x : PlainLoad) (from to n l skip cells : ℕ) (t₀ t₁ : ℕ → Cell R) (run : Run g by x from to n l skip cells t₀) where
    abbrev shifts : ℕ → Cell R
    shifts = shifted s by x from (to + n * (l + 1) + skip) cells t₁

    -- what the run makes of a cell of its line, where that line and the other row are as they were
    run_at : (b : ℕ) → b ≤ l → t₁ (to + place l n b) ≡ t₀ (to + place l n b) → ((c : ℕ) → c < to → t₁ c ≡ t₀ c) → shifts (to + place l n b) ≡ g n b (t₀ (to + place l n b))
    run_at b h there below = ⊎_elim
        (λ q. shifted_under by x from _ cells t₁ _ (omega arith) ∙ there ∙ sym (run.left b (t₀ (to + place l n b)) q))
        (λ q. on_from (b - skip) (omega arith) (omega (arith, run.wide)))
        (cases_lt b skip)
      where
        on_from : (d : ℕ) → b ≡ skip + d → d < cells → shifts (to + place l n b) ≡ g n b (t₀ (to + place l n b))
        on_from d q h' =
            shifted_at by x from (to + n * (l + 1) + skip) cells t₁ (to + place l n b) d (omega arith) h'
            ∙ ap (λ f. offered s by x f (t₁ (to + place l n b))) (below (from + d) (omega (arith, run.fit)))
            ∙ ap (offered s by x (t₀ (from + d))) there
            ∙ sym (run.offers d (t₀ (to + place l n b)) h')
            ∙ ap (λ i. g n i (t₀ (to + place l n b))) (sym q)

    -- no cell outside its line changes
    run_under : (c : ℕ) → c < to + n * (l + 1) → shifts c ≡ t₁ c
    run_under c h = shifted_under by x from _ cells t₁ c (omega arith)

    run_over : (c : ℕ) → to + (n + 1) * (l + 1) ≤ c → shifts c ≡ t₁ c
    run_over c h = shifted_over by x from _ cells t₁ c (omega (arith, add-mul n 1 (l + 1), run.wide))

    -- a table whose first n lines stand has the line n as well
    onto_line : (t₂ : ℕ → Cell R) → Onto l n to g t₀ t₁ → ((c : ℕ) → t₂ c ≡ shifts c) → Onto l (n + 1) to g t₀ t₂
    onto_line t₂ o e = record {
      here = λ a b h h'. ⊎_elim (λ q. rw q (e _ ∙ run_at b h' (o.above _ (omega arith)) o.below)) (λ ne. before a b (omega arith) h') (cases_eq a n);
      below = λ c h. e c ∙ run_under c (omega arith) ∙ o.below c h;
      above = λ c h. e c ∙ run_over c h ∙ o.above c (omega (arith, add-mul n 1 (l + 1)));
    } where
      before : (a b : ℕ) → a < n → b ≤ l → t₂ (to + place l a b) ≡ g a b (t₀ (to + place l a b))
      before a b h h' = e _ ∙ run_under _ (omega (arith, line_le a n (l + 1) h)) ∙ o.here a b h h'

    -- so it is where some cells are left out
    within_line : (t₂ : ℕ → Cell R) → Within l n to (Perhaps g) t₀ t₁ → ((c : ℕ) → (t₂ c ≡ t₁ c) ⊎ (t₂ c ≡ shifts c)) → Within l (n + 1) to (Perhaps g) t₀ t₂
    within_line t₂ o e = record {
      here = λ a b h h'. ⊎_elim (λ q. rw q (at b h')) (λ ne. before a b (omega arith) h') (cases_eq a n);
      below = λ c h. same c (run_under c (omega arith)) ∙ o.below c h;
      above = λ c h. same c (run_over c h) ∙ o.above c (omega (arith, add-mul n 1 (l + 1)));
    } where
      same : (c : ℕ) → shifts c ≡ t₁ c → t₂ c ≡ t₁ c
      same c h = ⊎_elim (λ q. q) (λ q. q ∙ h) (e c)

      at : (b : ℕ) → b ≤ l → Perhaps g n b (t₀ (to + place l n b)) (t₂ (to + place l n b))
      at b h =
          let there = o.above (to + place l n b) (omega arith) in
          ⊎_elim (λ q. inl (q ∙ there)) (λ q. inr (q ∙ run_at b h there o.below)) (e (to + place l n b))

      before : (a b : ℕ) → a < n → b ≤ l → Perhaps g a b (t₀ (to + place l a b)) (t₂ (to + place l a b))
      before a b h h' =
          let q = same (to + place l a b) (run_under _ (omega (arith, line_le a n (l + 1) h))) in
          ⊎_elim (λ p. inl (q ∙ p)) (λ p. inr (q ∙ p)) (o.here a b h h')

  -- the runs of a kind
  run_first : (j : ℕ) (x : PlainLoad) (from to k l r : ℕ) (t₀ : ℕ → Cell R) → r < k → from + width_of k l ≤ to → Run (first s j (Some x) (row l from t₀)) (choice_of j First) x (from + r * (l + 1)) to (r + 1) l 0 (l + 1) t₀
  run_first j x from to k l r t₀ h fit =
      let line = line_le r k (l + 1) h in
      record {
        wide = omega arith;
        fit = omega (arith, add-mul k 1 (l + 1));
        left = λ b c h'. absurd (omega arith);
        offers = λ d c h'.
            let a : r + 1 ≡ suc r = omega arith in
            let b : 0 + d ≡ d = omega arith in
            let f : from + r * (l + 1) + d ≡ from + place l r d = omega arith in
            rw (a, b, f) refl;
      }

  run_second : (j : ℕ) (x : PlainLoad) (from to k l r : ℕ) (t₀ : ℕ → Cell R) → r < k + 1 → from + width_of k l ≤ to → Run (second s j (Some x) (row l from t₀)) (choice_of j Second) x (from + r * (l + 1)) to r l 1 l t₀
  run_second j x from to k l r t₀ h fit =
      let line = line_le r (k + 1) (l + 1) h in
      record {
        wide = omega arith;
        fit = omega arith;
        left = λ b c h'. let none : b ≡ 0 = omega arith in rw none refl;
        offers = λ d c h'.
            let b : 1 + d ≡ suc d = omega arith in
            let f : from + r * (l + 1) + d ≡ from + place l r d = omega arith in
            rw (b, f) refl;
      }

  -- the run of the first kind begins with the next line
  next_line : (j : ℕ) (x : PlainLoad) (from to l r : ℕ) (t : ℕ → Cell R) (c : ℕ) → shifted s (choice_of j First) x (from + r * (l + 1)) (to + r * (l + 1) + (l + 1)) (l + 1) t c ≡ shifted s (choice_of j First) x (from + r * (l + 1)) (to + (r + 1) * (l + 1) + 0) (l + 1) t c
  next_line j x from to l r t c =
      let next : to + r * (l + 1) + (l + 1) ≡ to + (r + 1) * (l + 1) + 0 = omega (arith, add-mul r 1 (l + 1)) in
      ap (λ i. shifted s (choice_of j First) x (from + r * (l + 1)) i (l + 1) t c) next

  -- one run more of a kind
  pub onto_more : (w : WhichKind) (j : ℕ) (o : Option PlainLoad) (x : PlainLoad) (from to k l r : ℕ) (runs : Runs) (t₀ t₁ t₂ : ℕ → Cell R) → o ≡ Some x → runs ≡ runs_of k l w → r < runs.count → from + width_of k l ≤ to → Onto l (lines_led w r) to (on s w j o (row l from t₀)) t₀ t₁ → ((c : ℕ) → t₂ c ≡ shifted s (choice_of j w) x (from + r * (l + 1)) (to + r * (l + 1) + runs.step) runs.cells t₁ c) → Onto l (lines_led w (r + 1)) to (on s w j o (row l from t₀)) t₀ t₂
  onto_more First j o x from to k l r runs t₀ t₁ t₂ is led h fit done e =
      rw is (onto_line (first s j (Some x) (row l from t₀)) (choice_of j First) x (from + r * (l + 1)) to (r + 1) l 0 (l + 1) t₀ t₁ (run_first j x from to k l r t₀ (omega (arith, ap (λ v. v.count) led)) fit) t₂ (rw is at done)
      (λ c. (rw led at e) c ∙ next_line j x from to l r t₁ c))
  onto_more Second j o x from to k l r runs t₀ t₁ t₂ is led h fit done e =
      rw is (onto_line (second s j (Some x) (row l from t₀)) (choice_of j Second) x (from + r * (l + 1)) to r l 1 l t₀ t₁ (run_second j x from to k l r t₀ (omega (arith, ap (λ v. v.count) led)) fit) t₂ (rw is at done) (rw led at e))

  pub within_more : (w : WhichKind) (j : ℕ) (o : Option PlainLoad) (x : PlainLoad) (from to k l r : ℕ) (runs : Runs) (t₀ t₁ t₂ : ℕ → Cell R) → o ≡ Some x → runs ≡ runs_of k l w → r < runs.count → from + width_of k l ≤ to → Within l (lines_led w r) to (PerhapsOn s w j o (row l from t₀)) t₀ t₁ → ((c : ℕ) → (t₂ c ≡ t₁ c) ⊎ (t₂ c ≡ shifted s (choice_of j w) x (from + r * (l + 1)) (to + r * (l + 1) + runs.step) runs.cells t₁ c)) → Within l (lines_led w (r + 1)) to (PerhapsOn s w j o (row l from t₀)) t₀ t₂
  within_more First j o x from to k l r runs t₀ t₁ t₂ is led h fit done e =
      rw is (within_line (first s j (Some x) (row l from t₀)) (choice_of j First) x (from + r * (l + 1)) to (r + 1) l 0 (l + 1) t₀ t₁ (run_first j x from to k l r t₀ (omega (arith, ap (λ v. v.count) led)) fit) t₂ (rw is at done)
      (λ c. ⊎_elim (λ q. inl q) (λ q. inr (q ∙ next_line j x from to l r t₁ c)) ((rw led at e) c)))
  within_more Second j o x from to k l r runs t₀ t₁ t₂ is led h fit done e =
      rw is (within_line (second s j (Some x) (row l from t₀)) (choice_of j Second) x (from + r * (l + 1)) to r l 1 l t₀ t₁ (run_second j x from to k l r t₀ (omega (arith, ap (λ v. v.count) led)) fit) t₂ (rw is at done) (rw led at e))

  -- where g leaves the cells of the lines from n on, all lines stand once the first n do
  pub onto_rest : (g : ℕ → ℕ → Cell R → Cell R) (n m l to : ℕ) (t₀ t₁ : ℕ → Cell R) → n ≤ m → ((a b : ℕ) → n ≤ a → a < m → b ≤ l → g a b (t₀ (to + place l a b)) ≡ t₀ (to + place l a b)) → Onto l n to g t₀ t₁ → Onto l m to g t₀ t₁
  onto_rest g n m l to t₀ t₁ up stays o = record {
    here = λ a b h h'. ⊎_elim (λ q. o.here a b q h') (λ q. o.above _ (past a b q) ∙ sym (stays a b q h h')) (cases_lt a n);
    below = o.below;
    above = λ c h. o.above c (omega (arith, mul-le-mul_right (l + 1) up));
  } where
    past : (a b : ℕ) → n ≤ a → to + n * (l + 1) ≤ to + place l a b
    past a b h = omega (arith, mul-le-mul_right (l + 1) h)

  second_same : (j : ℕ) (y : Option PlainLoad) (p q : ℕ → ℕ → Cell R) (a b : ℕ) (c : Cell R) → ((b' : ℕ) → b' < b → p a b' ≡ q a b') → second s j y p a b c ≡ second s j y q a b c
  second_same j y p q a zero c h = refl
  second_same j y p q a (suc b) c h = ap (λ z. tried s (choice_of j Second) y z c) (h b (omega arith))

  -- one kind after the other
  pub onto_both : (j : ℕ) (x y : Option PlainLoad) (from to n l : ℕ) (t₀ t₁ t₂ : ℕ → Cell R) → from + n * (l + 1) ≤ to → Onto l n to (first s j x (row l from t₀)) t₀ t₁ → Onto l n to (second s j y (row l from t₁)) t₁ t₂ → Onto l n to (both s j x y (row l from t₀)) t₀ t₂
  onto_both j x y from to n l t₀ t₁ t₂ fit o p = record {
    here = λ a b h h'.
        p.here a b h h'
        ∙ second_same j y (row l from t₁) (row l from t₀) a b (t₁ (to + place l a b)) (λ b' q. o.below _ (omega (arith, line_le a n (l + 1) h)))
        ∙ ap (λ z. second s j y (row l from t₀) a b z) (o.here a b h h');
    below = λ c h. p.below c h ∙ o.below c h;
    above = λ c h. p.above c h ∙ o.above c h;
  }

  pub within_both : (j : ℕ) (x y : Option PlainLoad) (from to n l : ℕ) (t₀ t₁ t₂ : ℕ → Cell R) → from + n * (l + 1) ≤ to → Within l n to (PerhapsOn s First j x (row l from t₀)) t₀ t₁ → Within l n to (PerhapsOn s Second j y (row l from t₁)) t₁ t₂ → Within l n to (PerhapsBoth s j x y (row l from t₀)) t₀ t₂
  within_both j x y from to n l t₀ t₁ t₂ fit o p = record {
    here = λ a b h h'.
        ⊎_elim
        (λ q. ⊎_elim (λ r. inl (inl (q ∙ r))) (λ r. inl (inr (q ∙ r))) (o.here a b h h'))
        (λ q.
        let second_is = q ∙ second_same j y (row l from t₁) (row l from t₀) a b (t₁ (to + place l a b)) (λ b' m. o.below _ (omega (arith, line_le a n (l + 1) h))) in
        ⊎_elim
        (λ r. inr (inl (second_is ∙ ap (second s j y (row l from t₀) a b) r)))
        (λ r. inr (inr (second_is ∙ ap (second s j y (row l from t₀) a b) r)))
        (o.here a b h h'))
        (p.here a b h h');
    below = λ c h. p.below c h ∙ o.below c h;
    above = λ c h. p.above c h ∙ o.above c h;
  }
