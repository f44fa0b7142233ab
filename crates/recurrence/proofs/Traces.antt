-- The stages read back from a cell are those of the cell that its pick comes from, and one more; there are no more than devices.
use Rattle.std.proofs.Common.{◌≡◌, ℕ, zero, suc, ◌+◌, ◌≤◌, [], ◌∷◌, ◌++◌, length, Some, None, Option, refl, ap, ◌∙◌, arith, length-append}
use Rattle.recurrence.specs.Table.{KindNumber, Candidate, Setting, pick}
use Rattle.recurrence.specs.Stages.{by_kind, stage_of, traced, stages}
use Rattle.recurrence.specs.Chosen.{Spends, first, second}
use Rattle.recurrence.proofs.Links.{fewer_one, fewer_two, stages_via}
use Rattle.recurrence.proofs.Choices.{picked}

-- what holds of the counts a and b wherever it holds of those with one device less
module _ (P : ℕ → ℕ → Type 0) where
  abbrev Less : ℕ → ℕ → Type 0
  Less a b = (k : KindNumber) (a' b' : ℕ) → Spends k a' b' a b → P a' b'

  less_none : Less zero zero
  less_none k a b d = elim d [ ]

  less_first : (a : ℕ) → P a zero → Less (suc a) zero
  less_first a h k a' b' first = h

  less_second : (b : ℕ) → P zero b → Less zero (suc b)
  less_second b h k a' b' second = h

  less_both : (a b : ℕ) → P a (suc b) → P (suc a) b → Less (suc a) (suc b)
  less_both a b h g k a' b' first = h
  less_both a b h g k a' b' second = g

  pub by_counts : ((a b : ℕ) → ((k : KindNumber) (a' b' : ℕ) → Spends k a' b' a b → P a' b') → P a b) → (a b : ℕ) → P a b
  by_counts step zero zero = step zero zero less_none
  by_counts step zero (suc b) = step zero (suc b) (less_second b (by_counts step zero b))
  by_counts step (suc a) zero = step (suc a) zero (less_first a (by_counts step a zero))
  by_counts step (suc a) (suc b) = step (suc a) (suc b) (less_both a b (by_counts step a (suc b)) (by_counts step (suc a) b))

module _ {R : Type 0} (e : Setting R) where
  pub stages_none : (a b i : ℕ) → pick e a b i ≡ None → stages e a b i ≡ []
  stages_none a b i h = stages_via e a b i ∙ ap (traced e (fewer_one e a b) (fewer_two e a b) i) h

  pub stages_more : {k : KindNumber} {a b a' b' : ℕ} → Spends k a b a' b' → (i : ℕ) (c : Candidate R) → pick e a' b' i ≡ Some c → c.kind ≡ k → stages e a' b' i ≡ stages e a b c.origin ++ (stage_of e i c ∷ [])
  stages_more (first {a = a} {b = b}) i c h same =
      stages_via e (suc a) b i ∙ ap (traced e (fewer_one e (suc a) b) (fewer_two e (suc a) b) i) h
      ∙ ap (λ (k : KindNumber). by_kind k (stages e a b c.origin) (fewer_two e (suc a) b c.origin) ++ (stage_of e i c ∷ [])) same
  stages_more (second {a = a} {b = b}) i c h same =
      stages_via e a (suc b) i ∙ ap (traced e (fewer_one e a (suc b)) (fewer_two e a (suc b)) i) h
      ∙ ap (λ (k : KindNumber). by_kind k (fewer_one e a (suc b) c.origin) (stages e a b c.origin) ++ (stage_of e i c ∷ [])) same

  one_more : {k : KindNumber} {a b a' b' : ℕ} → Spends k a b a' b' → (n : ℕ) → n ≤ a + b → n + 1 ≤ a' + b'
  one_more first n h = omega arith
  one_more second n h = omega arith

  few_picked : (a b : ℕ) → ((k : KindNumber) (a' b' : ℕ) → Spends k a' b' a b → (i : ℕ) → length (stages e a' b' i) ≤ a' + b') → (i : ℕ) (o : Option (Candidate R)) → pick e a b i ≡ o → length (stages e a b i) ≤ a + b
  few_picked a b less i None h = omega (arith, ap length (stages_none a b i h))
  few_picked a b less i (Some c) h =
      let t = (picked e a b i c h).joins in
      let before = stages e t.0 t.1 c.origin in
      let more = one_more t.4 (length before) (less c.kind t.0 t.1 t.4 c.origin) in
      omega (arith, ap length (stages_more t.4 i c h refl), length-append before (stage_of e i c ∷ []))

  pub few_stages : (a b i : ℕ) → length (stages e a b i) ≤ a + b
  few_stages = by_counts (λ a b. (i : ℕ) → length (stages e a b i) ≤ a + b) (λ a b less i. few_picked a b less i (pick e a b i) refl)
