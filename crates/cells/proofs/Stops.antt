-- Where offers may stop: the rest of a line, or of a row, stays as it is.
use Rattle.std.proofs.Common.{◌≡◌, ℕ, zero, suc, ◌+◌, ◌-◌, ◌*◌, ◌<◌, ◌≤◌, Bool, true, false, not, ◌&&◌, Some, None, Option, ◌⊎◌, sym, refl, ap, ◌∙◌, subst, inl, inr, ⊎_elim, suc-mul, add-mul, mul-le-mul_right, arith}
use Rattle.std.specs.Prelude.{◌==◌}
use Rattle.std.proofs.lemmas.Bool.{cases_lt, ne_eqb, or_parts}
use Rattle.device.specs.Loads.{PlainLoad, Fair}
use Rattle.device.specs.Views.{load_of, answered}
use Rattle.device.specs.declared.loads.Load.{Load}
use Rattle.device.specs.declared.which_kinds.WhichKind.{WhichKind}
use Rattle.device.specs.declared.which_kinds.WhichKind.TheVariants.{First, Second}
use Rattle.scale.specs.Rules.{Rules}
use Rattle.cells.specs.declared.choices.Choice.{Choice}
use Rattle.cells.specs.declared.rows.Runs.{Runs}
use Rattle.cells.specs.Cells.{Cell, choice_of, stands, offered, shifted}
use Rattle.cells.specs.Rows.{place, width_of, row, by_first, runs_of, first, second, on, both, Onto}
use Rattle.cells.specs.Falls.{holds, leads_on, candidate, settled, Falls, BothFall, Within, PerhapsOn, Bounded}
use Rattle.cells.proofs.Falls.{AtLeast, settled_then, settled_kept, candidate_bounds, nothing_kept, no_worse_then, no_worse_offered, no_worse_both}
use Rattle.cells.proofs.RowSteps.{line_le, lines_led, shifted_at, shifted_under, shifted_over}

-- where the last cell that leads on stands
abbrev pub last_of : ℕ → ℕ → Runs → ℕ
last_of from l runs = from + (runs.count - 1) * (l + 1) + runs.cells - 1

-- ... is that of the most devices with which a stage of the kind leads on
last_first : (from k l : ℕ) (runs : Runs) → runs ≡ runs_of k l First → 0 < k → last_of from l runs ≡ from + place l (k - 1) l
last_first from k l runs led some = rw led (omega arith)

last_second : (from k l : ℕ) (runs : Runs) → runs ≡ runs_of k l Second → 0 < l → last_of from l runs ≡ from + place l k (l - 1)
last_second from k l runs led some = rw led (let n : (k + 1) - 1 ≡ k = omega arith in rw n (omega arith))

-- the first cell of a run stands past the lines before
pub first_past : (w : WhichKind) (k l r to : ℕ) (runs : Runs) → runs ≡ runs_of k l w → to + lines_led w r * (l + 1) ≤ to + r * (l + 1) + runs.step
first_past First k l r to runs led = omega (arith, ap (λ v. v.step) led, add-mul r 1 (l + 1))
first_past Second k l r to runs led = omega (arith, ap (λ v. v.step) led)

module _ {R : Type 0} (s : Rules R) where
  -- the first c of n offers make of each cell what all make of it, or leave it
  pub shifted_part : (by : Choice) (x : PlainLoad) (f t n c : ℕ) (t₀ t₁ : ℕ → Cell R) → c ≤ n → ((k : ℕ) → t₁ k ≡ shifted s by x f t c t₀ k) → (k : ℕ) → (t₁ k ≡ t₀ k) ⊎ (t₁ k ≡ shifted s by x f t n t₀ k)
  shifted_part by x f t n c t₀ t₁ within e k = ⊎_elim
      (λ q. inl (e k ∙ shifted_under s by x f t c t₀ k q))
      (λ q. ⊎_elim
      (λ p. inr (e k ∙ shifted_at s by x f t c t₀ k (k - t) (omega arith) (omega arith) ∙ sym (shifted_at s by x f t n t₀ k (k - t) (omega arith) (omega arith))))
      (λ p. inl (e k ∙ shifted_over s by x f t c t₀ k p))
      (cases_lt k (t + c)))
      (cases_lt k t)

  -- a row that no offer changes
  pub onto_same : (g : ℕ → ℕ → Cell R → Cell R) (n l to : ℕ) (t : ℕ → Cell R) → ((a b : ℕ) → a < n → b ≤ l → g a b (t (to + place l a b)) ≡ t (to + place l a b)) → Onto l n to g t t
  onto_same g n l to t same = record { here = λ a b h h'. sym (same a b h h'); below = λ c h. refl; above = λ c h. refl }

  -- before any run of a kind
  pub within_none : (w : WhichKind) (j : ℕ) (o : Option PlainLoad) (l to : ℕ) (from : ℕ → ℕ → Cell R) (t : ℕ → Cell R) → Within l (lines_led w 0) to (PerhapsOn s w j o from) t t
  within_none w j o l to from t = record { here = λ a b h h'. inl refl; below = λ c h. refl; above = λ c h. refl }

  -- the lines from n on may be as they were
  pub within_rest : (w : WhichKind) (j : ℕ) (o : Option PlainLoad) (n m l to : ℕ) (from : ℕ → ℕ → Cell R) (t₀ t₁ : ℕ → Cell R) → n ≤ m → Within l n to (PerhapsOn s w j o from) t₀ t₁ → Within l m to (PerhapsOn s w j o from) t₀ t₁
  within_rest w j o n m l to from t₀ t₁ up p = record {
    here = λ a b h h'. ⊎_elim (λ q. p.here a b q h') (λ q. inl (p.above _ (omega (arith, mul-le-mul_right (l + 1) q)))) (cases_lt a n);
    below = p.below;
    above = λ c h. p.above c (omega (arith, mul-le-mul_right (l + 1) up));
  }

  -- each offer of the kind leaves its cell
  abbrev Leaves : WhichKind → ℕ → PlainLoad → ℕ → ℕ → ℕ → ℕ → ℕ → (ℕ → Cell R) → Type 0
  Leaves w j x from to k l n t = (a b : ℕ) → n ≤ a → a < k + 1 → b ≤ l → on s w j (Some x) (row l from t) a b (t (to + place l a b)) ≡ t (to + place l a b)

  module _ (total : (x y : R) → s.at_most x y ≡ false → s.at_most y x ≡ true) (transitive : (x y z : R) → s.at_most x y ≡ true → s.at_most y z ≡ true → s.at_most x z ≡ true) where
    -- after a settled cell of a line no offer changes a cell
    pub shifted_stops : (by : Choice) (x : PlainLoad) (r : R) (f t n c : ℕ) (t₀ t₁ : ℕ → Cell R) → c < n → settled s r (t₁ (t + c)) ≡ true → ((k : ℕ) → t₁ k ≡ shifted s by x f t c t₀ k) → Bounded s by x r f t n t₀ → (k : ℕ) → t₁ k ≡ shifted s by x f t n t₀ k
    shifted_stops by x r f t n c t₀ t₁ less stop e bounded k = ⊎_elim
        (λ q. e k ∙ shifted_under s by x f t c t₀ k q ∙ sym (shifted_under s by x f t n t₀ k q))
        (λ q. ⊎_elim (λ p. at (k - t) (omega arith) (omega arith)) (λ p. e k ∙ shifted_over s by x f t c t₀ k (omega arith) ∙ sym (shifted_over s by x f t n t₀ k p)) (cases_lt k (t + n)))
        (cases_lt k t)
      where
        stop₀ : settled s r (t₀ (t + c)) ≡ true
        stop₀ = sym (ap (settled s r) (e (t + c) ∙ shifted_over s by x f t c t₀ (t + c) (omega arith))) ∙ stop

        at : (d : ℕ) → k ≡ t + d → d < n → t₁ k ≡ shifted s by x f t n t₀ k
        at d q h = ⊎_elim
            (λ p. e k ∙ shifted_at s by x f t c t₀ k d q p ∙ sym (shifted_at s by x f t n t₀ k d q h))
            (λ p.
            e k ∙ shifted_over s by x f t c t₀ k (omega arith)
            ∙ sym (settled_kept s total transitive by x r (t₀ (f + d)) (t₀ k) (bounded.offers d h) (ap (λ i. settled s r (t₀ i)) q ∙ settled_then s total transitive r (t₀ (t + c)) (t₀ (t + d)) stop₀ (bounded.falls c d p h)))
            ∙ sym (shifted_at s by x f t n t₀ k d q h))
            (cases_lt d c)

    module _ (j : ℕ) (x : PlainLoad) (from to k l : ℕ) (runs : Runs) (t : ℕ → Cell R) (falls : BothFall s k l j from to t) where
      -- where the last cell that leads on holds nothing, none does
      pub vain : (w : WhichKind) → runs ≡ runs_of k l w → candidate s (choice_of j w) x (t (last_of from l runs)) ≡ None → Leaves w j x from to k l 0 t
      vain First led none zero b n h h' = refl
      vain First led none (suc a) b n h h' =
          let last = last_first from k l runs led (omega arith) in
          nothing_kept s total transitive (choice_of j First) x (t (from + place l a b)) (t (from + place l (k - 1) l)) (t (to + place l (suc a) b)) (rw last at none) (falls.0 a b (k - 1) l (omega arith) (omega arith) (omega arith) (omega arith))
      vain Second led none a zero n h h' = refl
      vain Second led none a (suc b) n h h' =
          let last = last_second from k l runs led (omega arith) in
          nothing_kept s total transitive (choice_of j Second) x (t (from + place l a b)) (t (from + place l k (l - 1))) (t (to + place l a (suc b))) (rw last at none) (falls.0 a b k (l - 1) (omega arith) (omega arith) (omega arith) (omega arith))

      module _ (monotone : (y z : R) → s.at_most y z ≡ true → s.at_most (s.joined y x) (s.joined z x) ≡ true) (bound : R) where
        -- no cell that leads on gives less than the last one
        pub leads : (w : WhichKind) → runs ≡ runs_of k l w → candidate s (choice_of j w) x (t (last_of from l runs)) ≡ Some bound → (r d : ℕ) → r < runs.count → d < runs.cells → AtLeast s total transitive (choice_of j w) x bound (t (from + place l r d))
        leads First led is r d h h' =
            let count : runs.count ≡ k = ap (λ v. v.count) led in
            let cells : runs.cells ≡ l + 1 = ap (λ v. v.cells) led in
            let last = last_first from k l runs led (omega arith) in
            candidate_bounds s total transitive (choice_of j First) x monotone bound (t (from + place l r d)) (t (from + place l (k - 1) l)) (rw last at is) (falls.0 r d (k - 1) l (omega arith) (omega arith) (omega arith) (omega arith))
        leads Second led is r d h h' =
            let count : runs.count ≡ k + 1 = ap (λ v. v.count) led in
            let cells : runs.cells ≡ l = ap (λ v. v.cells) led in
            let last = last_second from k l runs led (omega arith) in
            candidate_bounds s total transitive (choice_of j Second) x monotone bound (t (from + place l r d)) (t (from + place l k (l - 1))) (rw last at is) (falls.0 r d k (l - 1) (omega arith) (omega arith) (omega arith) (omega arith))

        -- so the cells of a run are bounded, as long as no run wrote into its line
        pub bounded_run : (w : WhichKind) → runs ≡ runs_of k l w → from + width_of k l ≤ to → candidate s (choice_of j w) x (t (last_of from l runs)) ≡ Some bound → (r : ℕ) → r < runs.count → (g : ℕ → ℕ → Cell R → Cell R) (t₁ : ℕ → Cell R) → Onto l (lines_led w r) to g t t₁
            → Bounded s (choice_of j w) x bound (from + r * (l + 1)) (to + r * (l + 1) + runs.step) runs.cells t₁
        bounded_run First led fit is r h g t₁ o = record {
          offers = λ d h'. rw (same d h') (leads First led is r d h h');
          falls = λ d e up h'. rw (there d (omega arith), there e h') (falls.1 (r + 1) d (r + 1) e (omega arith) (omega (arith, ap (λ v. v.count) led)) up (omega (arith, ap (λ v. v.cells) led)));
        }
          where
            same : (d : ℕ) → d < runs.cells → t₁ (from + r * (l + 1) + d) ≡ t (from + place l r d)
            same d h' =
                let line = line_le r k (l + 1) (omega (arith, ap (λ v. v.count) led)) in
                let at : from + r * (l + 1) + d ≡ from + place l r d = omega arith in
                ap t₁ at ∙ o.below (from + place l r d) (omega (arith, ap (λ v. v.cells) led, add-mul k 1 (l + 1)))

            there : (d : ℕ) → d < runs.cells → t₁ (to + r * (l + 1) + runs.step + d) ≡ t (to + place l (r + 1) d)
            there d h' =
                let at : to + r * (l + 1) + runs.step + d ≡ to + place l (r + 1) d = omega (arith, ap (λ v. v.step) led, add-mul r 1 (l + 1)) in
                ap t₁ at ∙ o.above (to + place l (r + 1) d) (omega arith)
        bounded_run Second led fit is r h g t₁ o = record {
          offers = λ d h'. rw (same d h') (leads Second led is r d h h');
          falls = λ d e up h'. rw (there d (omega arith), there e h') (falls.1 r (1 + d) r (1 + e) (omega arith) (omega (arith, ap (λ v. v.count) led)) (omega arith) (omega (arith, ap (λ v. v.cells) led)));
        }
          where
            same : (d : ℕ) → d < runs.cells → t₁ (from + r * (l + 1) + d) ≡ t (from + place l r d)
            same d h' =
                let line = line_le r (k + 1) (l + 1) (omega (arith, ap (λ v. v.count) led)) in
                let at : from + r * (l + 1) + d ≡ from + place l r d = omega arith in
                ap t₁ at ∙ o.below (from + place l r d) (omega (arith, ap (λ v. v.cells) led))

            there : (d : ℕ) → d < runs.cells → t₁ (to + r * (l + 1) + runs.step + d) ≡ t (to + place l r (1 + d))
            there d h' =
                let at : to + r * (l + 1) + runs.step + d ≡ to + place l r (1 + d) = omega (arith, ap (λ v. v.step) led) in
                ap t₁ at ∙ o.above (to + place l r (1 + d)) (omega arith)

        -- from a line on whose first cell is settled no offer changes a cell
        pub stays : (w : WhichKind) → runs ≡ runs_of k l w → candidate s (choice_of j w) x (t (last_of from l runs)) ≡ Some bound → (r : ℕ) → r < runs.count → 0 < runs.cells → settled s bound (t (to + r * (l + 1) + runs.step)) ≡ true → Leaves w j x from to k l (lines_led w r) t
        stays First led is r h some stop zero b n h' h'' = refl
        stays First led is r h some stop (suc a) b n h' h'' =
            let count : runs.count ≡ k = ap (λ v. v.count) led in
            let cells : runs.cells ≡ l + 1 = ap (λ v. v.cells) led in
            let step : runs.step ≡ l + 1 = ap (λ v. v.step) led in
            let at : to + r * (l + 1) + runs.step ≡ to + place l (suc r) 0 = omega (arith, suc-mul r (l + 1)) in
            settled_kept s total transitive (choice_of j First) x bound (t (from + place l a b)) (t (to + place l (suc a) b)) (leads First led is a b (omega arith) (omega arith))
            (settled_then s total transitive bound (t (to + place l (suc r) 0)) (t (to + place l (suc a) b)) (rw at at stop) (falls.1 (suc r) 0 (suc a) b (omega arith) (omega arith) (omega arith) h''))
        stays Second led is r h some stop a zero n h' h'' = refl
        stays Second led is r h some stop a (suc b) n h' h'' =
            let count : runs.count ≡ k + 1 = ap (λ v. v.count) led in
            let cells : runs.cells ≡ l = ap (λ v. v.cells) led in
            let step : runs.step ≡ 1 = ap (λ v. v.step) led in
            let at : to + r * (l + 1) + runs.step ≡ to + place l r 1 = omega arith in
            settled_kept s total transitive (choice_of j Second) x bound (t (from + place l a b)) (t (to + place l a (suc b))) (leads Second led is a b (omega arith) (omega arith))
            (settled_then s total transitive bound (t (to + place l r 1)) (t (to + place l a (suc b))) (rw at at stop) (falls.1 r 1 a (suc b) (omega arith) (omega arith) (omega arith) h''))

    -- offers with one kind leave a row in which no cell is worse than one with no more devices
    module _ (j : ℕ) (x : PlainLoad) (monotone : (y z : R) → s.at_most y z ≡ true → s.at_most (s.joined y x) (s.joined z x) ≡ true) (l n : ℕ) (from cells : ℕ → ℕ → Cell R) (leading : Falls s (stands (by_first j)) l n from) (falling : Falls s holds l n cells) where
      pub falls_on : (w : WhichKind) → Falls s holds l n (λ a b. on s w j (Some x) from a b (cells a b))
      falls_on First zero b zero b' h k h' k' = falling 0 b 0 b' h k h' k'
      falls_on First zero b (suc a') b' h k h' k' =
          no_worse_then s total transitive holds (cells 0 b) (cells (suc a') b') (offered s (choice_of j First) x (from a' b') (cells (suc a') b')) (falling 0 b (suc a') b' h k h' k') (no_worse_offered s total transitive (choice_of j First) x refl (from a' b') (cells (suc a') b'))
      falls_on First (suc a) b zero b' h k h' k' = absurd (omega arith)
      falls_on First (suc a) b (suc a') b' h k h' k' =
          no_worse_both s total transitive (choice_of j First) x refl monotone (from a b) (from a' b') (cells (suc a) b) (cells (suc a') b') (leading a b a' b' (omega arith) (omega arith) h' k') (falling (suc a) b (suc a') b' h k h' k')
      falls_on Second a zero a' zero h k h' k' = falling a 0 a' 0 h k h' k'
      falls_on Second a zero a' (suc b') h k h' k' =
          no_worse_then s total transitive holds (cells a 0) (cells a' (suc b')) (offered s (choice_of j Second) x (from a' b') (cells a' (suc b'))) (falling a 0 a' (suc b') h k h' k') (no_worse_offered s total transitive (choice_of j Second) x refl (from a' b') (cells a' (suc b')))
      falls_on Second a (suc b) a' zero h k h' k' = absurd (omega arith)
      falls_on Second a (suc b) a' (suc b') h k h' k' =
          no_worse_both s total transitive (choice_of j Second) x refl monotone (from a b) (from a' b') (cells a (suc b)) (cells a' (suc b')) (leading a b a' b' h k (omega arith) (omega arith)) (falling a (suc b) a' (suc b') h k h' k')

    same_none : (w : WhichKind) (j : ℕ) (from : ℕ → ℕ → Cell R) (a b : ℕ) (c : Cell R) → on s w j None from a b c ≡ c
    same_none First j from zero b c = refl
    same_none First j from (suc a) b c = refl
    same_none Second j from a zero c = refl
    same_none Second j from a (suc b) c = refl

    -- where neither kind leads on from a row, no offer of it changes a cell
    module _ (j from to k l : ℕ) (t : ℕ → Cell R) (falls : BothFall s k l j from to t) (none : leads_on k l j (row l from t) ≡ false) where
      neither : ((not (k == 0) && stands (by_first j) (row l from t (k - 1) l)) ≡ false) × ((not (l == 0) && stands (by_first j) (row l from t k (l - 1))) ≡ false)
      neither = or_parts (not (k == 0) && stands (by_first j) (row l from t (k - 1) l)) (not (l == 0) && stands (by_first j) (row l from t k (l - 1))) none

      idle_on : (w : WhichKind) (o : Option PlainLoad) (a b : ℕ) → a < k + 1 → b ≤ l → on s w j o (row l from t) a b (t (to + place l a b)) ≡ t (to + place l a b)
      idle_on w None a b h h' = same_none w j (row l from t) a b (t (to + place l a b))
      idle_on First (Some x) zero b h h' = refl
      idle_on First (Some x) (suc a) b h h' =
          let last : stands (choice_of j First) (t (from + place l (k - 1) l)) ≡ false = rw (ne_eqb k 0 (λ e. omega arith)) at neither.0 in
          nothing_kept s total transitive (choice_of j First) x (t (from + place l a b)) (t (from + place l (k - 1) l)) (t (to + place l (suc a) b)) (rw last refl) (falls.0 a b (k - 1) l (omega arith) (omega arith) (omega arith) (omega arith))
      idle_on Second (Some x) a zero h h' = refl
      idle_on Second (Some x) a (suc b) h h' =
          let last : stands (choice_of j Second) (t (from + place l k (l - 1))) ≡ false = rw (ne_eqb l 0 (λ e. omega arith)) at neither.1 in
          nothing_kept s total transitive (choice_of j Second) x (t (from + place l a b)) (t (from + place l k (l - 1))) (t (to + place l a (suc b))) (rw last refl) (falls.0 a b k (l - 1) (omega arith) (omega arith) (omega arith) (omega arith))

      pub idle : (x y : Option PlainLoad) → Onto l (k + 1) to (both s j x y (row l from t)) t t
      idle x y = onto_same (both s j x y (row l from t)) (k + 1) l to t (λ a b h h'. ap (second s j y (row l from t) a b) (idle_on First x a b h h') ∙ idle_on Second y a b h h')

    -- joining a load of these keeps the order
    abbrev pub Steady : Option PlainLoad → Type 0
    Steady o = (x : PlainLoad) → o ≡ Some x → (y z : R) → s.at_most y z ≡ true → s.at_most (s.joined y x) (s.joined z x) ≡ true

    falls_asked : (w : WhichKind) (j : ℕ) (o : Option PlainLoad) → Steady o → (l n : ℕ) (from cells : ℕ → ℕ → Cell R) → Falls s (stands (by_first j)) l n from → Falls s holds l n cells → Falls s holds l n (λ a b. on s w j o from a b (cells a b))
    falls_asked w j None steady l n from cells leading falling = λ a b a' b' h k h' k'. rw (same_none w j from a b (cells a b), same_none w j from a' b' (cells a' b')) (falling a b a' b' h k h' k')
    falls_asked w j (Some x) steady l n from cells leading falling = falls_on j x (steady x refl) l n from cells leading falling w

    -- rows that are as these are fall as these do
    pub falls_like : (p : Cell R → Bool) (l n : ℕ) (cells like : ℕ → ℕ → Cell R) → ((a b : ℕ) → a < n → b ≤ l → like a b ≡ cells a b) → Falls s p l n cells → Falls s p l n like
    falls_like p l n cells like same falling a b a' b' h k h' k' = rw (same a b (omega arith) (omega arith), same a' b' k k') (falling a b a' b' h k h' k')

    -- after the offers with one kind, and after those with both
    pub fall_then : (w : WhichKind) (j : ℕ) (o : Option PlainLoad) → Steady o → (from to k l : ℕ) (t u : ℕ → Cell R) → from + width_of k l ≤ to → BothFall s k l j from to t → Onto l (k + 1) to (on s w j o (row l from t)) t u → BothFall s k l j from to u
    fall_then w j o steady from to k l t u apart falls done = (
      falls_like (stands (by_first j)) l (k + 1) (row l from t) (row l from u) (λ a b h h'. done.below _ (omega (arith, line_le a (k + 1) (l + 1) h))) falls.0,
      falls_like holds l (k + 1) (λ a b. on s w j o (row l from t) a b (row l to t a b)) (row l to u) done.here (falls_asked w j o steady l (k + 1) (row l from t) (row l to t) falls.0 falls.1),
    )

    pub falls_both : (j : ℕ) (x y : Option PlainLoad) → Steady x → Steady y → (from to k l : ℕ) (t u : ℕ → Cell R) → BothFall s k l j from to t → Onto l (k + 1) to (both s j x y (row l from t)) t u → Falls s holds l (k + 1) (row l to u)
    falls_both j x y steady steady' from to k l t u falls done =
        falls_like holds l (k + 1) (λ a b. both s j x y (row l from t) a b (row l to t a b)) (row l to u) done.here
        (falls_asked Second j y steady' l (k + 1) (row l from t) (λ a b. first s j x (row l from t) a b (row l to t a b)) falls.0
        (falls_asked First j x steady l (k + 1) (row l from t) (row l to t) falls.0 falls.1))

-- what a kind answers is fair
pub fair_answered : (o : Option Load) (x : PlainLoad) → answered o ≡ Some x → Fair x
fair_answered None x is = absurd cc
fair_answered (Some load) x is = let same : load_of load ≡ x = cc in subst Fair same load.fair
