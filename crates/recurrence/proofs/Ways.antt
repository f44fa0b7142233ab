-- A lawful split is a way to the set of all operators, and each such way is a lawful split.
use Rattle.std.proofs.Common.{◌≡◌, ℕ, zero, suc, ◌+◌, ◌-◌, ◌<◌, ◌≤◌, cond, eqb, ◌⊎◌, List, [], ◌∷◌, ◌++◌, is_some, Some, sym, refl, ap, ◌∙◌, subst, inl, inr, append_assoc, append-nil, arith}
use Rattle.std.proofs.lemmas.Bool.{both_ways, cases_lt, or_right}
use Rattle.sets.specs.Sets.{has, In, either, full}
use Rattle.sets.proofs.Sets.{has_none, has_or, some_in}
use Rattle.sheet.specs.Nets.{Net, size}
use Rattle.sheet.specs.Kept.{Kept}
use Rattle.device.specs.Loads.{PlainLoad}
use Rattle.scale.specs.Rules.{Rules}
use Rattle.split.specs.declared.stages.Stage.{Stage}
use Rattle.split.specs.Splits.{Kinds, Lawful, asked, used, rate_from, rate}
use Rattle.split.specs.Breaches.{nowhere, walked}
use Rattle.split.proofs.Nexts.{Next}
use Rattle.split.proofs.Rests.{Walking, Rest, rest_none, none_rest, rest_next, rest_more, more_rest, used_cons}
use Rattle.split.proofs.Rated.{some_value, rate_step}
use Rattle.split.proofs.Verdicts.{no_breach_rest, rest_no_breach, no_breach_lawful, lawful_no_breach}
use Rattle.ideals.specs.Ideals.{Ideal}
use Rattle.recurrence.specs.Table.{KindNumber, one, two, number}
use Rattle.recurrence.specs.Chosen.{Spends, first, second}
use Rattle.recurrence.specs.Planned.{setting}
use Rattle.recurrence.proofs.Options.{some_same, none_some}
use Rattle.recurrence.proofs.Reach.{Reached, started, more}

in_some : (m v : ℕ) → In v m → 0 < m
in_some m v h = elim (cases_lt 0 m) [
  | inl k ↦ k
  | inr k ↦ let none : m ≡ 0 = omega arith in absurd (both_ways (has 0 v) (has_none v) (subst (λ (x : ℕ). In v x) none h))
]

-- how many stages are of kind k, where the first is of kind j
used_by : (k j : ℕ) (p : Stage) (ss : List Stage) → p.kind ≡ j → used k (p ∷ ss) ≡ cond (eqb j k) 1 0 + used k ss
used_by k j p ss h = subst (λ (x : ℕ). used k (p ∷ ss) ≡ cond (eqb x k) 1 0 + used k ss) h (used_cons k p ss)

module _ (n : Net) (e : Kinds) where
  asked_kind : (k m : ℕ) (x : PlainLoad) → asked n e k m ≡ Some x → (k ≡ 1) ⊎ (k ≡ 2)
  asked_kind zero m x h = absurd (none_some h)
  asked_kind (suc zero) m x h = inl refl
  asked_kind (suc (suc zero)) m x h = inr refl
  asked_kind (suc (suc (suc k))) m x h = absurd (none_some h)

  lawful_rest : (ss : List Stage) → Lawful n e ss → Rest n e nowhere ss
  lawful_rest ss d = no_breach_rest n e nowhere 0 ss (omega arith) (omega arith) (lawful_no_breach n e ss d)

  rest_lawful : (ss : List Stage) → Rest n e nowhere ss → Lawful n e ss
  rest_lawful ss d = no_breach_lawful n e ss (rest_no_breach n e nowhere 0 ss d)

  -- the stages before make up an ideal
  rest_ideal : Kept n → (w : Walking) (ss : List Stage) → Rest n e w ss → Ideal n w.placed
  rest_ideal kept w ss d = record {
    only = d.known;
    closed = λ u v edge h. elim (d.everywhere u (omega (arith, kept.upward u v edge, kept.masks))) [
      | inl k ↦ k
      | inr t ↦ absurd (d.outward u v t.0 edge t.1 h)
    ];
  }

module _ {R : Type 0} (n : Net) (e : Kinds) (s : Rules R) where
  abbrev pub Way : List Stage → ℕ → ℕ → ℕ → R → Type 0
  Way = Reached (setting n e s) (Ideal n)

  -- ---- from a lawful split to a way

  -- the stages ss are left after those done, which end at a and b devices
  reach : Kept n → (ss all done : List Stage) (w : Walking) (a b : ℕ) (r t : R) → done ++ ss ≡ all → a + used 1 ss ≡ n.k → b + used 2 ss ≡ n.l
      → Way done a b w.placed r → Rest n e w ss → rate_from n e s r ss ≡ Some t → Way all n.k n.l (full (size n)) t
  reach kept [] all done w a b r t whole first-all second-all way d rated =
      let done_all : done ≡ all = sym (append-nil done) ∙ whole in
      let first_is : a ≡ n.k = omega arith in
      let second_is : b ≡ n.l = omega arith in
      subst (λ (z : List Stage). Way z n.k n.l (full (size n)) t) done_all
      (subst (λ (z : ℕ). Way done z n.l (full (size n)) t) first_is
      (subst (λ (z : ℕ). Way done a z (full (size n)) t) second_is
      (subst (λ (z : ℕ). Way done a b z t) (rest_none n e w d)
      (subst (λ (z : R). Way done a b w.placed z) (some_same rated) way))))
  reach kept (p ∷ ss) all done w a b r t whole first-all second-all way d rated =
      let next = rest_next n e w p ss d in
      let left = rest_more n e w p ss d in
      let load = some_value (asked n e p.kind p.mask) next.fits in
      let x = load.0 in
      let joined = s.joined r x in
      let onward = sym (rate_step n e s r p ss x load.1) ∙ rated in
      let whole-on : (done ++ (p ∷ [])) ++ ss ≡ all = append_assoc done (p ∷ []) ss ∙ whole in
      let on : (k : KindNumber) (a' b' : ℕ) → p.kind ≡ number k → Spends k a b a' b' → Way (done ++ (p ∷ [])) a' b' (either w.placed p.mask) joined
      = λ k a' b' same spends.
      subst (λ (z : ℕ). Way (done ++ (record { mask = p.mask; kind = z } ∷ [])) a' b' (either w.placed p.mask) joined) (sym same)
      (more k p.mask x way spends (in_some p.mask next.filled.0 next.filled.1) next.apart (rest_ideal n e kept (walked w p) ss left) (subst (λ (z : ℕ). asked n e z p.mask ≡ Some x) same load.1)) in
      elim (asked_kind n e p.kind p.mask x load.1) [
        | inl is ↦ reach kept ss all (done ++ (p ∷ [])) (walked w p) (suc a) b joined t whole-on (omega (arith, used_by 1 1 p ss is)) (omega (arith, used_by 2 1 p ss is)) (on one (suc a) b is first) left onward
        | inr is ↦ reach kept ss all (done ++ (p ∷ [])) (walked w p) a (suc b) joined t whole-on (omega (arith, used_by 1 2 p ss is)) (omega (arith, used_by 2 2 p ss is)) (on two a (suc b) is second) left onward
      ]

  pub lawful_reached : Kept n → (ss : List Stage) (t : R) → Lawful n e ss → rate n e s ss ≡ Some t → Way ss n.k n.l (full (size n)) t
  lawful_reached kept ss t d rated =
      let few_first = d.few_first in
      let few_second = d.few_second in
      let a = n.k - used 1 ss in
      let b = n.l - used 2 ss in
      reach kept ss ss [] nowhere a b s.start t refl (omega arith) (omega arith) (started a b refl) (lawful_rest n e ss d) rated

  -- ---- from a way to a lawful split

  -- what may be left after a way
  record Passed (ss : List Stage) (a b p : ℕ) (r : R) : Type 0 where
    walk : Walking
    placed : walk.placed ≡ p
    ideal : Ideal n p
    few_first : walk.first ≤ a
    few_second : walk.second ≤ b
    left : (rest : List Stage) → Rest n e walk rest → Rest n e nowhere (ss ++ rest)
    rates : (rest : List Stage) → rate n e s (ss ++ rest) ≡ rate_from n e s r rest

  spends_le : {k : KindNumber} {a b a' b' : ℕ} → Spends k a b a' b' → (a ≤ a') × (b ≤ b')
  spends_le first = (omega arith, omega arith)
  spends_le second = (omega arith, omega arith)

  spends_first : {k : KindNumber} {a b a' b' : ℕ} → Spends k a b a' b' → number k ≡ 1 → a < a'
  spends_first first h = omega arith
  spends_first second h = absurd (omega arith)

  spends_second : {k : KindNumber} {a b a' b' : ℕ} → Spends k a b a' b' → number k ≡ 2 → b < b'
  spends_second first h = absurd (omega arith)
  spends_second second h = omega arith

  still_few : {k : KindNumber} {a b a' b' : ℕ} → Spends k a b a' b' → (f g : ℕ) → f ≤ a → g ≤ b → (f + cond (eqb (number k) 1) 1 0 ≤ a') × (g + cond (eqb (number k) 2) 1 0 ≤ b')
  still_few first f g h l = (omega arith, omega arith)
  still_few second f g h l = (omega arith, omega arith)

  pass : {ss : List Stage} {a b p : ℕ} {r : R} → Way ss a b p r → a ≤ n.k → b ≤ n.l → Passed ss a b p r
  pass (started a b bottom) la lb = record {
    walk = nowhere;
    placed = refl;
    ideal = record { only = λ v h. absurd (both_ways (has 0 v) (has_none v) h); closed = λ u v edge h. absurd (both_ways (has 0 v) (has_none v) h) };
    few_first = omega arith;
    few_second = omega arith;
    left = λ rest d. d;
    rates = λ rest. refl;
  }
  pass (more {ss = ss} {a = a} {b = b} {p = p} {a' = a'} {b' = b'} {r = r} k m x way spends some apart valid fits) la lb =
      let le = spends_le spends in
      let before = pass way (omega (arith, le.0)) (omega (arith, le.1)) in
      let w = before.walk in
      let few_first = before.few_first in
      let few_second = before.few_second in
      let stage : Stage = record { mask = m; kind = number k } in
      let in-before : (v : ℕ) → In v w.placed → In v p = λ v h. subst (λ (z : ℕ). In v z) before.placed h in
      let next : Next n e w stage = record {
        filled = some_in m some;
        only = λ v h. valid.only v (has_or p m v ∙ or_right (has p v) (has m v) h);
        apart = λ v h g. apart v h (in-before v g);
        outward = λ u v edge h g. apart u h (before.ideal.closed u v edge (in-before v g));
        fits = ap is_some fits;
        few_first = λ is. omega (arith, spends_first spends is);
        few_second = λ is. omega (arith, spends_second spends is);
      } in
      let few = still_few spends w.first w.second few_first few_second in
      record {
        walk = walked w stage;
        placed = ap (λ (z : ℕ). either z m) before.placed;
        ideal = valid;
        few_first = few.0;
        few_second = few.1;
        left = λ rest d. subst (Rest n e nowhere) (sym (append_assoc ss (stage ∷ []) rest)) (before.left (stage ∷ rest) (more_rest n e w stage rest next d));
        rates = λ rest. ap (rate n e s) (append_assoc ss (stage ∷ []) rest) ∙ before.rates (stage ∷ rest) ∙ rate_step n e s r stage rest x fits;
      }

  pub reached_lawful : (ss : List Stage) (r : R) → Way ss n.k n.l (full (size n)) r → Lawful n e ss × (rate n e s ss ≡ Some r)
  reached_lawful ss r way =
      let t = pass way (omega arith) (omega arith) in
      let none = none_rest n e t.walk t.placed t.few_first t.few_second in
      (rest_lawful n e ss (subst (Rest n e nowhere) (append-nil ss) (t.left [] none)), ap (rate n e s) (sym (append-nil ss)) ∙ t.rates [])
