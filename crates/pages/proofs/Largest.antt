-- The pace of a split is the largest ticks among its stages.
use Rattle.std.proofs.Common.{◌≡◌, ℕ, zero, suc, ◌+◌, ◌<◌, ◌≤◌, max, List, [], ◌∷◌, ◌++◌, length, take, refl, ap, ◌∙◌, arith, inl, inr}
use Rattle.std.proofs.lemmas.Bool.{cases_lt}
use Rattle.std.proofs.lemmas.List.{take_more}
use Rattle.sheet.specs.Nets.{Net}
use Rattle.split.specs.declared.stages.Stage.{Stage}
use Rattle.split.specs.Splits.{Kinds, stage_at}
use Rattle.pages.specs.Paces.{ticks_in, pace_of, IsPace}

module _ (n : Net) (e : Kinds) where
  pace_then : (ss : List Stage) (st : Stage) → pace_of n e (ss ++ (st ∷ [])) ≡ max (pace_of n e ss) (ticks_in n e st)
  pace_then [] st = omega arith
  pace_then (s ∷ ss) st = omega (arith, pace_then ss st)

  -- with one stage more
  pub pace_more : (ss : List Stage) (i : ℕ) → i < length ss → pace_of n e (take (i + 1) ss) ≡ max (pace_of n e (take i ss)) (ticks_in n e (stage_at ss i))
  pace_more ss i h = ap (pace_of n e) (take_more ss i (record { mask = 0; kind = 0 }) h) ∙ pace_then (take i ss) (stage_at ss i)

  above : (ss : List Stage) (i : ℕ) → i < length ss → ticks_in n e (stage_at ss i) ≤ pace_of n e ss
  above [] i h = absurd (omega arith)
  above (s ∷ ss) zero h = omega arith
  above (s ∷ ss) (suc i) h = omega (arith, above ss i (omega arith))

  reached : (ss : List Stage) → 0 < length ss → (i : ℕ) × (i < length ss) × (ticks_in n e (stage_at ss i) ≡ pace_of n e ss)
  reached [] h = absurd (omega arith)
  reached (s ∷ []) h = (0, omega arith, omega arith)
  reached (s ∷ t ∷ ss) h =
      let r = reached (t ∷ ss) (omega arith) in
      elim (cases_lt (ticks_in n e s) (pace_of n e (t ∷ ss))) [
        | inl less ↦ (suc r.0, omega (arith, r.1), omega (arith, r.2))
        | inr most ↦ (0, omega arith, omega arith)
      ]

  none : (ss : List Stage) → length ss ≡ 0 → pace_of n e ss ≡ 0
  none [] h = refl
  none (s ∷ ss) h = absurd (omega arith)

  pub pace_largest : (ss : List Stage) → IsPace n e ss (pace_of n e ss)
  pace_largest ss = record { above = above ss; reached = reached ss; none = none ss }
