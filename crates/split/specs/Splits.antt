-- Splits, when they are lawful, what they rate, and when one is a least one. A split is a list of stages, in their order.
--   Kinds            what the two device kinds answer for a stage's figures
--   asked n e k m    what kind k answers for the set m as a stage: nothing for a kind other than 1 and 2
--   At ss i v        operator v is in stage i
--   used k ss        how many stages are of kind k
--   Lawful n e ss    the stages hold each operator once and nothing else, no edge leads back, each stage fits, and there are devices enough
--   rate n e s ss    the loads joined to start, first stage first; nothing where a stage does not fit
--   Least            lawful, with this rating, and no lawful split rates lower
use Rattle.std.specs.Prelude.{◌≡◌, ℕ, zero, suc, ◌<◌, ◌≤◌, true, List, [], ◌∷◌, length, is_some, Some, None, filter, Option, nat_eq, slice_index_or}
use Rattle.sets.specs.Sets.{In}
use Rattle.sheet.specs.Nets.{Net, size, Edge}
use Rattle.sheet.specs.Figures.{Sums, figures_of}
use Rattle.device.specs.Loads.{PlainLoad}
use Rattle.scale.specs.Rules.{Rules}
use Rattle.split.specs.declared.stages.Stage.{Stage}

pub record Kinds : Type 0 where
  pub first : Sums → Option PlainLoad
  pub second : Sums → Option PlainLoad

abbrev pub kinds : (Sums → Option PlainLoad) → (Sums → Option PlainLoad) → Kinds
kinds first second = record { first = first; second = second }

abbrev pub asked : Net → Kinds → ℕ → ℕ → Option PlainLoad
asked n e zero m = None
asked n e (suc zero) m = e.first (figures_of n m)
asked n e (suc (suc zero)) m = e.second (figures_of n m)
asked n e (suc (suc (suc k))) m = None

abbrev pub stage_at : List Stage → ℕ → Stage
stage_at ss i = slice_index_or ss i (record { mask = 0; kind = 0 })

abbrev pub At : List Stage → ℕ → ℕ → Type 0
At ss i v = (i < length ss) × In v (stage_at ss i).mask

abbrev pub used : ℕ → List Stage → ℕ
used k ss = length (filter (λ s. nat_eq s.kind k) ss)

pub record Lawful (n : Net) (e : Kinds) (ss : List Stage) : Type 0 where
  -- each operator is in exactly one stage, and nothing else is in any
  pub everywhere : (v : ℕ) → v < size n → (i : ℕ) × At ss i v
  pub once : (i j v : ℕ) → At ss i v → At ss j v → i ≡ j
  pub only : (i v : ℕ) → At ss i v → v < size n
  -- no stage is empty
  pub filled : (i : ℕ) → i < length ss → (v : ℕ) × At ss i v
  -- no edge leads back to an earlier stage
  pub forward : (u v i j : ℕ) → Edge n u v → At ss i u → At ss j v → i ≤ j
  -- each stage's kind, 1 or 2, answers its figures with a load
  pub fits : (i : ℕ) → i < length ss → is_some (asked n e (stage_at ss i).kind (stage_at ss i).mask) ≡ true
  -- there are devices enough
  pub few_first : used 1 ss ≤ n.k
  pub few_second : used 2 ss ≤ n.l

abbrev pub and_then : {A B : Type 0} → Option A → (A → Option B) → Option B
and_then None f = None
and_then (Some x) f = f x

abbrev pub rate_from : {R : Type 0} → Net → Kinds → Rules R → R → List Stage → Option R
rate_from n e s r [] = Some r
rate_from n e s r (p ∷ ss) = and_then (asked n e p.kind p.mask) (λ x. rate_from n e s (s.joined r x) ss)

abbrev pub rate : {R : Type 0} → Net → Kinds → Rules R → List Stage → Option R
rate n e s ss = rate_from n e s s.start ss

pub record Least {R : Type 0} (n : Net) (e : Kinds) (s : Rules R) (ss : List Stage) (r : R) : Type 0 where
  pub lawful : Lawful n e ss
  pub rated : rate n e s ss ≡ Some r
  pub least : (other : List Stage) (q : R) → Lawful n e other → rate n e s other ≡ Some q → s.at_most r q ≡ true
