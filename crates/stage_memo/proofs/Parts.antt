-- Sums over the operators that pass a test, taken apart.
use Rattle.std.proofs.Common.{◌≡◌, ℕ, ◌+◌, ◌<◌, Bool, true, false, cond, ◌&&◌, ◌||◌, eqb, List, [], ◌∷◌, sum_by, filter, sym, refl, ap, ◌∙◌, inl, inr, arith}
use Rattle.std.proofs.lemmas.List.Sums.{sum_by-cons}
use Rattle.std.proofs.lemmas.List.{get_or_past}
use Rattle.std.proofs.lemmas.Bool.{cases_lt, eq-eqb, ne_eqb}
use Rattle.sets.specs.Sets.{upto}
use Rattle.sets.proofs.Sets.{and_true, and_false}
use Rattle.sets.proofs.Members.{kept_same, kept_none, kept_first}
use Rattle.sheet.specs.declared.operators.Figure.{Figure}
use Rattle.sheet.specs.declared.operators.Figure.TheVariants.{Acc, Cpu, Size, Link}
use Rattle.sheet.specs.Rules.{blank}
use Rattle.sheet.specs.Nets.{Net, size, row}
use Rattle.sheet.specs.Figures.{figure_of, charged}

-- over the operators that pass either of two tests, none of which passes both
module _ (f : ℕ → ℕ) (p q r : ℕ → Bool) (is : (u : ℕ) → p u ≡ (q u || r u)) (apart : (u : ℕ) → (q u && r u) ≡ false) where
  step : (x : ℕ) (xs : List ℕ) → sum_by f (filter p xs) ≡ sum_by f (filter q xs) + sum_by f (filter r xs) → sum_by f (filter p (x ∷ xs)) ≡ sum_by f (filter q (x ∷ xs)) + sum_by f (filter r (x ∷ xs))
  step x xs rest = grind (arith, is x, apart x, sum_by-cons f x)

  sum_apart : (xs : List ℕ) → sum_by f (filter p xs) ≡ sum_by f (filter q xs) + sum_by f (filter r xs)
  sum_apart [] = refl
  sum_apart (x ∷ xs) = step x xs (sum_apart xs)

sum_single : (f : ℕ → ℕ) (v k : ℕ) → v < k → sum_by f (filter (λ u. eqb u v) (upto k)) ≡ f v
sum_single f v k near =
    let none : filter (λ (u : ℕ). false) (upto k) ≡ [] = kept_none (λ u. false) k (λ u h. refl) in
    let first = kept_first (λ u. eqb u v) (λ u. false) v k near (eq-eqb v v refl) (λ u h. ne_eqb u v (λ e. omega arith)) (λ u. grind arith) in
    ap (sum_by f) (first ∙ ap (λ (xs : List ℕ). v ∷ xs) none) ∙ sum_by-cons f v [] ∙ omega arith

figure_blank : (w : Figure) → figure_of w blank ≡ 0
figure_blank Acc = refl
figure_blank Cpu = refl
figure_blank Size = refl
figure_blank Link = refl

module _ (n : Net) (w : Figure) where
  pub charged_apart : (p q r : ℕ → Bool) → ((u : ℕ) → p u ≡ (q u || r u)) → ((u : ℕ) → (q u && r u) ≡ false) → charged n w p ≡ charged n w q + charged n w r
  charged_apart p q r is apart = sum_apart (λ v. figure_of w (row n v)) p q r is apart (upto (size n))

  charged_same : (p q : ℕ → Bool) → ((u : ℕ) → p u ≡ q u) → charged n w p ≡ charged n w q
  charged_same p q same = ap (sum_by (λ v. figure_of w (row n v))) (kept_same p q (size n) (λ u h. same u))

  pub charged_none : (p : ℕ → Bool) → ((u : ℕ) → p u ≡ false) → charged n w p ≡ 0
  charged_none p none = ap (sum_by (λ v. figure_of w (row n v))) (kept_none p (size n) (λ u h. none u))

  -- over one number: nothing where there is no operator
  pub charged_single : (v : ℕ) → charged n w (λ u. eqb u v) ≡ figure_of w (row n v)
  charged_single v = elim (cases_lt v (size n)) [
    | inl near ↦ sum_single (λ u. figure_of w (row n u)) v (size n) near
    | inr far ↦
        ap (sum_by (λ u. figure_of w (row n u))) (kept_none (λ u. eqb u v) (size n) (λ u h. ne_eqb u v (λ e. omega arith)))
        ∙ sym (ap (figure_of w) (get_or_past n.rows v blank far) ∙ figure_blank w)
  ]

  -- over one number where it is charged at all
  pub charged_one : (v : ℕ) (b : Bool) → charged n w (λ u. eqb u v && b) ≡ cond b (figure_of w (row n v)) 0
  charged_one v true = charged_same (λ u. eqb u v && true) (λ u. eqb u v) (λ u. and_true (eqb u v)) ∙ charged_single v
  charged_one v false = charged_none (λ u. eqb u v && false) (λ u. and_false (eqb u v))
