-- No way to a cell rates lower than the cell, and the stages read back from a cell are a way to it.
--   Listed ms V           ms ascends from the empty set and holds just the sets that are V
--   Reached ss a b p r    a way: the stages ss, with at most a and b devices, make up the set p and rate r; each set on the way is V
use Rattle.std.proofs.Common.{◌≡◌, ℕ, zero, suc, ◌-◌, ◌<◌, true, List, [], ◌∷◌, ◌++◌, length, get_or, Some, None, Option, sym, refl, ap, ◌∙◌, subst, inl, inr, arith}
use Rattle.std.proofs.lemmas.Bool.{cases_lt, cond-true}
use Rattle.sets.specs.Sets.{inside, either}
use Rattle.device.specs.Loads.{PlainLoad, Fair}
use Rattle.split.specs.declared.stages.Stage.{Stage}
use Rattle.recurrence.specs.Table.{KindNumber, number, Candidate, Setting, ideal, rating_of, best, pick}
use Rattle.recurrence.specs.Stages.{stage_of, stages}
use Rattle.recurrence.specs.Chosen.{Spends}
use Rattle.recurrence.specs.Laws.{Laws}
use Rattle.recurrence.proofs.Options.{some_same, none_some, cond_some}
use Rattle.recurrence.proofs.Links.{best_via}
use Rattle.recurrence.proofs.Least.{at_most_self}
use Rattle.recurrence.proofs.Choices.{picked, best_under}
use Rattle.recurrence.proofs.Traces.{by_counts, stages_none, stages_more}
use Rattle.recurrence.proofs.Cuts.{Apart, either_adds, either_holds, cut_apart, cut_either}

pub record Listed (ms : List ℕ) (V : ℕ → Type 0) : Type 0 where
  pub some : 0 < length ms
  pub first : get_or ms 0 0 ≡ 0
  pub rises : (i j : ℕ) → i < j → j < length ms → get_or ms i 0 < get_or ms j 0
  pub valid : (i : ℕ) → i < length ms → V (get_or ms i 0)
  pub place : (m : ℕ) → V m → (i : ℕ) × (i < length ms) × (get_or ms i 0 ≡ m)

-- a larger mask has a higher index
higher : (ms : List ℕ) (V : ℕ → Type 0) → Listed ms V → (j i : ℕ) → j < length ms → get_or ms j 0 < get_or ms i 0 → j < i
higher ms V listed j i h less = elim (cases_lt j i) [
  | inl k ↦ k
  | inr k ↦ elim (cases_lt i j) [
    | inl l ↦ let rise = listed.rises i j l h in absurd (omega arith)
    | inr l ↦ let same : j ≡ i = omega arith in let even : get_or ms j 0 ≡ get_or ms i 0 = ap (λ (z : ℕ). get_or ms z 0) same in absurd (omega arith)
  ]
]

module _ {R : Type 0} (e : Setting R) (V : ℕ → Type 0) where
  pub data Reached : List Stage → ℕ → ℕ → ℕ → R → Type 0 where
    started : (a b : ℕ) → e.bottom a b ≡ true → Reached [] a b 0 e.rules.start
    more : {ss : List Stage} {a b p a' b' : ℕ} {r : R} (k : KindNumber) (m : ℕ) (x : PlainLoad) → Reached ss a b p r → Spends k a b a' b' → 0 < m → Apart m p → V (either p m) → e.ask k a' b' m ≡ Some x
        → Reached (ss ++ (record { mask = m; kind = number k } ∷ [])) a' b' (either p m) (e.rules.joined r x)

module _ {R : Type 0} (e : Setting R) (V : ℕ → Type 0) (listed : Listed e.ideals V) where
  -- ---- no way rates lower than its cell

  module _ (laws : Laws e.rules) (fair : (k : KindNumber) (a b m : ℕ) (x : PlainLoad) → e.ask k a b m ≡ Some x → Fair x) where
    -- the stage between the ideals p and p with m
    between : (p m j i : ℕ) → j < length e.ideals → ideal e j ≡ p → ideal e i ≡ either p m → 0 < m → Apart m p → (j < i) × (inside (ideal e j) (ideal e i) ≡ true) × (ideal e i - ideal e j ≡ m)
    between p m j i near from to some apart =
        let adds = either_adds p m apart in (
          higher e.ideals V listed j i near (omega arith),
          subst (λ (z : ℕ). inside z (ideal e i) ≡ true) (sym from) (subst (λ (z : ℕ). inside p z ≡ true) (sym to) (either_holds p m)),
          omega arith,
        )

    pub bound : {ss : List Stage} {a b p : ℕ} {r : R} → Reached e V ss a b p r → (i : ℕ) × (t : R) × (i < length e.ideals) × (ideal e i ≡ p) × (best e a b i ≡ Some t) × (e.rules.at_most t r ≡ true)
    bound (started a b bottom) =
        let start = e.rules.start in
        (0, start, listed.some, listed.first, best_via e a b 0 ∙ cond-true (e.bottom a b) (Some start) None bottom, at_most_self e.rules laws.ordered start)
    bound (more {a = a} {b = b} {p = p} {a' = a'} {b' = b'} {r = r} k m x way spends some apart valid asked) =
        let before = bound way in
        let j = before.0 in
        let t = before.1 in
        let here = listed.place (either p m) valid in
        let i = here.0 in
        let cut = between p m j i before.2 before.3 here.2 some apart in
        let d : Candidate R = record { rating = e.rules.joined t x; origin = j; kind = k } in
        let under = best_under e laws.ordered a' b' i d (record {
          before = cut.0;
          within = cut.1;
          joins = (a, b, t, x, spends, before.4, ap (e.ask k a' b') cut.2 ∙ asked, refl);
        }) in
        (i, under.0, here.1, here.2, under.1, laws.ordered.transitive under.0 (e.rules.joined t x) (e.rules.joined r x) under.2 (laws.monotone t r x (fair k a' b' m x asked) before.5))

  -- ---- the stages read back are a way

  abbrev HasWay : ℕ → ℕ → Type 0
  HasWay a b = (i : ℕ) (r : R) → i < length e.ideals → best e a b i ≡ Some r → Reached e V (stages e a b i) a b (ideal e i) r

  way_none : (a b : ℕ) (r : R) → best e a b 0 ≡ Some r → Reached e V (stages e a b 0) a b (ideal e 0) r
  way_none a b r h =
      let t = cond_some (e.bottom a b) (Some e.rules.start) r (sym (best_via e a b 0) ∙ h) in
      subst (λ (ss : List Stage). Reached e V ss a b (ideal e 0) r) (sym (stages_none e a b 0 refl))
      (subst (λ (p : ℕ). Reached e V [] a b p r) (sym listed.first)
      (subst (λ (z : R). Reached e V [] a b 0 z) (some_same t.1) (started a b t.0)))

  way_more : (a b : ℕ) → ((k : KindNumber) (a' b' : ℕ) → Spends k a' b' a b → HasWay a' b') → (i : ℕ) (c : Candidate R) → i < length e.ideals → pick e a b i ≡ Some c → Reached e V (stages e a b i) a b (ideal e i) c.rating
  way_more a b less i c near h =
      let offered = picked e a b i c h in
      let parts = offered.joins in
      let spends = parts.4 in
      let j = c.origin in
      let rise = listed.rises j i offered.before near in
      let m : ℕ = ideal e i - ideal e j in
      let some : 0 < m = omega arith in
      let whole : either (ideal e j) m ≡ ideal e i = cut_either (ideal e j) (ideal e i) offered.within in
      let before = less c.kind parts.0 parts.1 spends j parts.2 (omega (arith, offered.before)) parts.5 in
      let way = more c.kind m parts.3 before spends some (cut_apart (ideal e j) (ideal e i) offered.within) (subst V (sym whole) (listed.valid i near)) parts.6 in
      let all = stages e parts.0 parts.1 j ++ (stage_of e i c ∷ []) in
      subst (λ (ss : List Stage). Reached e V ss a b (ideal e i) c.rating) (sym (stages_more e spends i c h refl))
      (subst (λ (z : R). Reached e V all a b (ideal e i) z) (sym parts.7)
      (subst (λ (p : ℕ). Reached e V all a b p (e.rules.joined parts.2 parts.3)) whole way))

  way_picked : (a b : ℕ) → ((k : KindNumber) (a' b' : ℕ) → Spends k a' b' a b → HasWay a' b') → (i : ℕ) (r : R) → i < length e.ideals → (o : Option (Candidate R)) → pick e a b i ≡ o → rating_of o ≡ Some r → Reached e V (stages e a b i) a b (ideal e i) r
  way_picked a b less i r near None h rated = absurd (none_some rated)
  way_picked a b less i r near (Some c) h rated = subst (λ (z : R). Reached e V (stages e a b i) a b (ideal e i) z) (some_same rated) (way_more a b less i c near h)

  way_step : (a b : ℕ) → ((k : KindNumber) (a' b' : ℕ) → Spends k a' b' a b → HasWay a' b') → HasWay a b
  way_step a b less zero r near h = way_none a b r h
  way_step a b less (suc i) r near h = way_picked a b less (suc i) r near (pick e a b (suc i)) refl (sym (best_via e a b (suc i)) ∙ h)

  pub achieved : (a b i : ℕ) (r : R) → i < length e.ideals → best e a b i ≡ Some r → Reached e V (stages e a b i) a b (ideal e i) r
  achieved = by_counts HasWay way_step
