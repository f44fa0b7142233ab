-- What a filter over a slice yields next.
use Rattle.std.proofs.Common.{◌≡◌, ℕ, Bool, true, false, cond, List, [], ◌∷◌, length, Some, None, filter, Bor, Iter, sym, refl, ap, ◌∙◌, subst, arith}
use denote.Param.Members.{Mut}
use Rattle.std.specs.declared.iter.Filter.{Filter}
use Rattle.std.specs.Iterator.{Yields}
use Rattle.std.specs.Iterator.Adapters.{filter_source, filter_callee, filter_steps}
use Rattle.std.specs.Slice.Iter.{iter_rest, iter_steps}
use Rattle.std.specs.Fn.{CalledAt}
use Rattle.std.specs.List.{FoldsTo}

-- what the filter f still yields, where its test is `test`
module _ {F : Type 0} (g : Mut F (Bor (Bor ℕ) × Unit {0}) Bool) (test : ℕ → Bool) (f : F) (answers : (x : Bor ℕ) (b : Bool) (q : F) → CalledAt g f x b q → (q ≡ f) × (b ≡ test x.now)) where
  step : (x : ℕ) (xs : List ℕ) (b : Bool) → b ≡ test x → filter test (x ∷ xs) ≡ cond b (x ∷ filter test xs) (filter test xs)
  step x xs b is = ap (λ (c : Bool). cond c (x ∷ filter test xs) (filter test xs)) (sym is)

  passed : (xs : List (Bor ℕ)) (s t : Iter ℕ) (p q : F) → p ≡ f → Yields iter_steps s xs t → FoldsTo (λ p x q. CalledAt g p x false q) p xs q → (q ≡ f) × (filter test (iter_rest s) ≡ filter test (iter_rest t))
  passed [] s t p q same y c = (sym c ∙ same, ap (λ (u : Iter ℕ). filter test (iter_rest u)) y)
  passed (x ∷ xs) s t p q same y c =
      let a = answers x false c.0 (subst (λ (u : F). CalledAt g u x false c.0) same c.1) in
      let rest = passed xs y.0 t c.0 q a.0 y.2 c.2 in
      (rest.0, ap (filter test) y.1 ∙ step x.now (iter_rest y.0) false a.1 ∙ rest.1)

  pub next_some : (s t : Filter (Iter ℕ) F) (x : Bor ℕ) → filter_callee s ≡ f → filter_steps iter_steps g s (Some x) t
      → (filter_callee t ≡ f) × (filter test (iter_rest (filter_source s)) ≡ x.now ∷ filter test (iter_rest (filter_source t)))
  next_some s t x same p =
      let before = passed p.0 (filter_source s) p.2.0 (filter_callee s) p.1 same p.2.1 p.3 in
      let a = answers x true (filter_callee t) (subst (λ (u : F). CalledAt g u x true (filter_callee t)) before.0 p.4) in
      (a.0, before.1 ∙ ap (filter test) p.2.2 ∙ step x.now (iter_rest (filter_source t)) true a.1)

  pub next_none : (s t : Filter (Iter ℕ) F) → filter_callee s ≡ f → filter_steps iter_steps g s None t → filter test (iter_rest (filter_source s)) ≡ []
  next_none s t same p = (passed p.0 (filter_source s) p.2.0 (filter_callee s) p.1 same p.2.1 p.3).1 ∙ ap (filter test) (empty (iter_rest p.2.0) p.2.2.0)
    where
      empty : (xs : List ℕ) → length xs ≡ 0 → xs ≡ []
      empty [] h = refl
      empty (x ∷ xs) h = absurd (omega arith)
