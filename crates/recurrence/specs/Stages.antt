-- The stages that the choices of the recurrence lead to, read back from a cell, first stage first.
--   stages a b i   the stages of ideal i with at most a devices of kind 1 and b of kind 2
use Rattle.std.specs.Prelude.{ℕ, zero, suc, ◌-◌, List, [], ◌∷◌, ◌++◌, Some, None, Option}
use Rattle.split.specs.declared.stages.Stage.{Stage}
use Rattle.recurrence.specs.Table.{KindNumber, one, two, number, Candidate, Setting, ideal, pick}

abbrev pub no_stages : ℕ → List Stage
no_stages i = []

-- x for kind 1, y for kind 2
abbrev pub by_kind : {X : Type 0} → KindNumber → X → X → X
by_kind one x y = x
by_kind two x y = y

module _ {R : Type 0} (e : Setting R) where
  -- the stage of a candidate for ideal i
  abbrev pub stage_of : ℕ → Candidate R → Stage
  stage_of i c = record { mask = ideal e i - ideal e c.origin; kind = number c.kind }

  -- p and q give the stages with one device of kind 1 or 2 less
  abbrev pub traced : (ℕ → List Stage) → (ℕ → List Stage) → ℕ → Option (Candidate R) → List Stage
  traced p q i None = []
  traced p q i (Some c) = by_kind c.kind (p c.origin) (q c.origin) ++ (stage_of i c ∷ [])

  abbrev pub stages : ℕ → ℕ → ℕ → List Stage
  stages zero zero i = traced no_stages no_stages i (pick e zero zero i)
  stages zero (suc b) i = traced no_stages (stages zero b) i (pick e zero (suc b) i)
  stages (suc a) zero i = traced (stages a zero) no_stages i (pick e (suc a) zero i)
  stages (suc a) (suc b) i = traced (stages a (suc b)) (stages (suc a) b) i (pick e (suc a) (suc b) i)
