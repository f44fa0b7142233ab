-- What is left of a lawful split after a walk over its first stages.
use Rattle.std.proofs.Common.{◌≡◌, ℕ, zero, suc, ◌+◌, ◌<◌, ◌≤◌, true, cond, eqb, ◌⊎◌, List, [], ◌∷◌, length, is_some, sym, refl, ap, subst, inl, inr, arith}
use Rattle.std.specs.Cmp.{both_ways as same_answers}
use Rattle.std.proofs.lemmas.Bool.Decides.{nat_tests}
use Rattle.std.proofs.lemmas.Grind.{common_steps}
use Rattle.sets.specs.Sets.{has, In, either, full}
use Rattle.sets.proofs.Sets.{has_or, has_full, same_sets}
use Rattle.sheet.specs.Nets.{Net, size, Edge}
use Rattle.split.specs.declared.stages.Stage.{Stage}
use Rattle.split.specs.Splits.{Kinds, asked, stage_at, At, used}
use Rattle.split.specs.declared.walks.Walk.{Walk}
use Rattle.split.specs.Breaches.{walked}
use Rattle.split.proofs.Nexts.{Next}

-- a walk, under a name for the crates above
abbrev pub Walking : Type 0
Walking = Walk

-- the stages before make up the set placed, and use as many devices as the walk says
pub record Rest (n : Net) (e : Kinds) (w : Walk) (ss : List Stage) : Type 0 where
  pub known : (v : ℕ) → In v w.placed → v < size n
  pub everywhere : (v : ℕ) → v < size n → In v w.placed ⊎ ((i : ℕ) × At ss i v)
  pub once : (i j v : ℕ) → At ss i v → At ss j v → i ≡ j
  pub only : (i v : ℕ) → At ss i v → v < size n
  pub filled : (i : ℕ) → i < length ss → (v : ℕ) × At ss i v
  pub apart : (i v : ℕ) → At ss i v → In v w.placed → ⊥
  pub outward : (u v i : ℕ) → Edge n u v → At ss i u → In v w.placed → ⊥
  pub forward : (u v i j : ℕ) → Edge n u v → At ss i u → At ss j v → i ≤ j
  pub fits : (i : ℕ) → i < length ss → is_some (asked n e (stage_at ss i).kind (stage_at ss i).mask) ≡ true
  pub few_first : w.first + used 1 ss ≤ n.k
  pub few_second : w.second + used 2 ss ≤ n.l

-- ---- members, places and counts

in_either : (s t v : ℕ) → In v (either s t) → In v s ⊎ In v t
in_either s t v h = grind (arith, has_or)

either_left : (s t v : ℕ) → In v s → In v (either s t)
either_left s t v h = grind (arith, has_or)

either_right : (s t v : ℕ) → In v t → In v (either s t)
either_right s t v h = grind (arith, has_or)

in_full : (k v : ℕ) → v < k → In v (full k)
in_full k v h = grind (arith, nat_tests, has_full)

full_in : (k v : ℕ) → In v (full k) → v < k
full_in k v h = grind (arith, nat_tests, has_full)

same_members : (s t : ℕ) → ((v : ℕ) → In v s → In v t) → ((v : ℕ) → In v t → In v s) → s ≡ t
same_members s t f g = same_sets s t (λ v. same_answers (has s v) (has t v) (f v) (g v))

pub used_cons : (k : ℕ) (s : Stage) (ss : List Stage) → used k (s ∷ ss) ≡ cond (eqb s.kind k) 1 0 + used k ss
used_cons k s ss = grind (arith, common_steps)

used_some : (k : ℕ) (s : Stage) (ss : List Stage) → s.kind ≡ k → 0 < used k (s ∷ ss)
used_some k s ss h = grind (arith, nat_tests)

module _ (s : Stage) (ss : List Stage) where
  at_first : (v : ℕ) → In v s.mask → At (s ∷ ss) 0 v
  at_first v h = (omega arith, h)

  at_later : (i v : ℕ) → At ss i v → At (s ∷ ss) (suc i) v
  at_later i v h = (omega (arith, h.0), h.1)

  at_rest : (i v : ℕ) → At (s ∷ ss) (suc i) v → At ss i v
  at_rest i v h = (omega (arith, h.0), h.1)

-- ---- no stage is left

module _ (n : Net) (e : Kinds) (w : Walk) where
  pub rest_none : Rest n e w [] → w.placed ≡ full (size n)
  rest_none d = same_members w.placed (full (size n))
      (λ v h. in_full (size n) v (d.known v h))
      (λ v h. elim (d.everywhere v (full_in (size n) v h)) [ inl k ↦ k | inr t ↦ let l : t.0 < 0 = t.1.0 in absurd (omega arith) ])

  pub none_rest : w.placed ≡ full (size n) → w.first ≤ n.k → w.second ≤ n.l → Rest n e w []
  none_rest all first second = record {
    known = λ v h. full_in (size n) v (subst (λ (m : ℕ). In v m) all h);
    everywhere = λ v h. inl (subst (λ (m : ℕ). In v m) (sym all) (in_full (size n) v h));
    once = λ i j v h. absurd (omega (arith, h.0));
    only = λ i v h. absurd (omega (arith, h.0));
    filled = λ i h. absurd (omega (arith, h));
    apart = λ i v h. absurd (omega (arith, h.0));
    outward = λ u v i f h. absurd (omega (arith, h.0));
    forward = λ u v i j f h. absurd (omega (arith, h.0));
    fits = λ i h. absurd (omega (arith, h));
    few_first = omega arith;
    few_second = omega arith;
  }

-- ---- one stage more

module _ (n : Net) (e : Kinds) (w : Walk) (s : Stage) (ss : List Stage) where
  pub rest_next : Rest n e w (s ∷ ss) → Next n e w s
  rest_next d =
      let some = d.filled 0 (omega arith) in
      let first = d.few_first in
      let second = d.few_second in
      record {
        filled = (some.0, some.1.1);
        only = λ v h. d.only 0 v (at_first s ss v h);
        apart = λ v h. d.apart 0 v (at_first s ss v h);
        outward = λ u v f h. d.outward u v 0 f (at_first s ss u h);
        fits = d.fits 0 (omega arith);
        few_first = λ k. omega (arith, used_some 1 s ss k);
        few_second = λ k. omega (arith, used_some 2 s ss k);
      }

  place_of : (v i : ℕ) → At (s ∷ ss) i v → In v (walked w s).placed ⊎ ((j : ℕ) × At ss j v)
  place_of v zero h = inl (either_right w.placed s.mask v h.1)
  place_of v (suc i) h = inr (i, at_rest s ss i v h)

  pub rest_more : Rest n e w (s ∷ ss) → Rest n e (walked w s) ss
  rest_more d =
      let first = d.few_first in
      let second = d.few_second in
      record {
        known = λ v h. elim (in_either w.placed s.mask v h) [ inl k ↦ d.known v k | inr k ↦ d.only 0 v (at_first s ss v k) ];
        everywhere = λ v h. elim (d.everywhere v h) [ inl k ↦ inl (either_left w.placed s.mask v k) | inr t ↦ place_of v t.0 t.1 ];
        once = λ i j v h k. let q = d.once (suc i) (suc j) v (at_later s ss i v h) (at_later s ss j v k) in omega arith;
        only = λ i v h. d.only (suc i) v (at_later s ss i v h);
        filled = λ i h. let t = d.filled (suc i) (omega arith) in (t.0, at_rest s ss i t.0 t.1);
        apart = λ i v h k. elim (in_either w.placed s.mask v k) [
          | inl a ↦ d.apart (suc i) v (at_later s ss i v h) a
          | inr a ↦ let q = d.once 0 (suc i) v (at_first s ss v a) (at_later s ss i v h) in omega arith
        ];
        outward = λ u v i f h k. elim (in_either w.placed s.mask v k) [
          | inl a ↦ d.outward u v (suc i) f (at_later s ss i u h) a
          | inr a ↦ let q = d.forward u v (suc i) 0 f (at_later s ss i u h) (at_first s ss v a) in omega arith
        ];
        forward = λ u v i j f h k. let q = d.forward u v (suc i) (suc j) f (at_later s ss i u h) (at_later s ss j v k) in omega arith;
        fits = λ i h. d.fits (suc i) (omega arith);
        few_first = omega (arith, used_cons 1 s ss);
        few_second = omega (arith, used_cons 2 s ss);
      }

  module _ (next : Next n e w s) (d : Rest n e (walked w s) ss) where
    placed_left : (v : ℕ) → In v w.placed → In v (walked w s).placed
    placed_left v h = either_left w.placed s.mask v h

    placed_right : (v : ℕ) → In v s.mask → In v (walked w s).placed
    placed_right v h = either_right w.placed s.mask v h

    more_everywhere : (v : ℕ) → In v (walked w s).placed ⊎ ((i : ℕ) × At ss i v) → In v w.placed ⊎ ((i : ℕ) × At (s ∷ ss) i v)
    more_everywhere v (inl h) = elim (in_either w.placed s.mask v h) [ inl k ↦ inl k | inr k ↦ inr (0, at_first s ss v k) ]
    more_everywhere v (inr t) = inr (suc t.0, at_later s ss t.0 v t.1)

    more_once : (i j v : ℕ) → At (s ∷ ss) i v → At (s ∷ ss) j v → i ≡ j
    more_once zero zero v h k = refl
    more_once zero (suc j) v h k = absurd (d.apart j v (at_rest s ss j v k) (placed_right v h.1))
    more_once (suc i) zero v h k = absurd (d.apart i v (at_rest s ss i v h) (placed_right v k.1))
    more_once (suc i) (suc j) v h k = ap suc (d.once i j v (at_rest s ss i v h) (at_rest s ss j v k))

    more_only : (i v : ℕ) → At (s ∷ ss) i v → v < size n
    more_only zero v h = next.only v h.1
    more_only (suc i) v h = d.only i v (at_rest s ss i v h)

    more_filled : (i : ℕ) → i < length (s ∷ ss) → (v : ℕ) × At (s ∷ ss) i v
    more_filled zero h = (next.filled.0, at_first s ss next.filled.0 next.filled.1)
    more_filled (suc i) h = let t = d.filled i (omega arith) in (t.0, at_later s ss i t.0 t.1)

    more_apart : (i v : ℕ) → At (s ∷ ss) i v → In v w.placed → ⊥
    more_apart zero v h k = next.apart v h.1 k
    more_apart (suc i) v h k = d.apart i v (at_rest s ss i v h) (placed_left v k)

    more_outward : (u v i : ℕ) → Edge n u v → At (s ∷ ss) i u → In v w.placed → ⊥
    more_outward u v zero f h k = next.outward u v f h.1 k
    more_outward u v (suc i) f h k = d.outward u v i f (at_rest s ss i u h) (placed_left v k)

    more_forward : (u v i j : ℕ) → Edge n u v → At (s ∷ ss) i u → At (s ∷ ss) j v → i ≤ j
    more_forward u v zero j f h k = omega arith
    more_forward u v (suc i) zero f h k = absurd (d.outward u v i f (at_rest s ss i u h) (placed_right v k.1))
    more_forward u v (suc i) (suc j) f h k = let q = d.forward u v i j f (at_rest s ss i u h) (at_rest s ss j v k) in omega arith

    more_fits : (i : ℕ) → i < length (s ∷ ss) → is_some (asked n e (stage_at (s ∷ ss) i).kind (stage_at (s ∷ ss) i).mask) ≡ true
    more_fits zero h = next.fits
    more_fits (suc i) h = d.fits i (omega arith)

    pub more_rest : Rest n e w (s ∷ ss)
    more_rest =
        let first = d.few_first in
        let second = d.few_second in
        record {
          known = λ v h. d.known v (placed_left v h);
          everywhere = λ v h. more_everywhere v (d.everywhere v h);
          once = more_once;
          only = more_only;
          filled = more_filled;
          apart = more_apart;
          outward = more_outward;
          forward = more_forward;
          fits = more_fits;
          few_first = omega (arith, used_cons 1 s ss);
          few_second = omega (arith, used_cons 2 s ss);
        }
