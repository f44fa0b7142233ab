-- The first rule that a list of stages breaks, stage by stage.
--   told_breach b            the number of a breach, then the index of the stage
--   back n m placed          an edge leads from the set m into the set placed
--   device_breach n w i k    whether a device of kind k is left after a walk w
--   stage_breach n e w i s   what stage s, with index i, breaks after a walk w over the stages before it
--   breach n e ss            what a list of stages breaks, nothing where it is lawful
use Rattle.std.specs.Prelude.{ℕ, zero, suc, ◌+◌, Bool, cond, not, ◌&&◌, List, [], ◌∷◌, is_some, Ok, Err, Result, ◌==◌, nat_lt}
use Rattle.sets.specs.Sets.{has, inside, meeting, either, full, gathered}
use Rattle.sheet.specs.Nets.{Net, size, after}
use Rattle.sheet.specs.Changes.{unless, first}
use Rattle.split.specs.declared.stages.Stage.{Stage}
use Rattle.split.specs.declared.walks.Walk.{Walk}
use Rattle.split.specs.declared.stages.Breach.{Breach}
use Rattle.split.specs.declared.stages.Breach.TheVariants.{EmptyStage, ForeignOperator, RepeatedOperator, EdgeBack, DoesNotFit, TooManyOfFirst, TooManyOfSecond, MissingOperator}
use Rattle.split.specs.Splits.{Kinds, asked}

abbrev pub told_breach : Breach → List ℕ
told_breach (EmptyStage i) = 1 ∷ i ∷ []
told_breach (ForeignOperator i) = 2 ∷ i ∷ []
told_breach (RepeatedOperator i) = 3 ∷ i ∷ []
told_breach (EdgeBack i) = 4 ∷ i ∷ []
told_breach (DoesNotFit i) = 5 ∷ i ∷ []
told_breach (TooManyOfFirst i) = 6 ∷ i ∷ []
told_breach (TooManyOfSecond i) = 7 ∷ i ∷ []
told_breach MissingOperator = 8 ∷ []

abbrev pub breached : {X : Type 0} → Result X Breach → List ℕ
breached (Ok x) = []
breached (Err b) = told_breach b

abbrev pub back : Net → ℕ → ℕ → Bool
back n m placed = not (gathered (λ u. has m u && meeting (after n u) placed) (size n) == 0)

abbrev pub device_breach : Net → Walk → ℕ → ℕ → List ℕ
device_breach n w i zero = []
device_breach n w i (suc zero) = unless (nat_lt w.first n.k) (told_breach (TooManyOfFirst i))
device_breach n w i (suc (suc zero)) = unless (nat_lt w.second n.l) (told_breach (TooManyOfSecond i))
device_breach n w i (suc (suc (suc k))) = []

abbrev pub stage_breach : Net → Kinds → Walk → ℕ → Stage → List ℕ
stage_breach n e w i s =
    first (unless (not (s.mask == 0)) (told_breach (EmptyStage i)))
    (first (unless (inside s.mask (full (size n))) (told_breach (ForeignOperator i)))
    (first (unless (not (meeting s.mask w.placed)) (told_breach (RepeatedOperator i)))
    (first (unless (not (back n s.mask w.placed)) (told_breach (EdgeBack i)))
    (first (unless (is_some (asked n e s.kind s.mask)) (told_breach (DoesNotFit i)))
    (device_breach n w i s.kind)))))

-- the walk after one stage more
abbrev pub walked : Walk → Stage → Walk
walked w s = record {
  placed = either w.placed s.mask;
  first = w.first + cond (s.kind == 1) 1 0;
  second = w.second + cond (s.kind == 2) 1 0;
}

abbrev pub breach_from : Net → Kinds → Walk → ℕ → List Stage → List ℕ
breach_from n e w i [] = unless (w.placed == full (size n)) (told_breach MissingOperator)
breach_from n e w i (s ∷ ss) = first (stage_breach n e w i s) (breach_from n e (walked w s) (suc i) ss)

abbrev pub nowhere : Walk
nowhere = record { placed = 0; first = 0; second = 0 }

abbrev pub breach : Net → Kinds → List Stage → List ℕ
breach n e ss = breach_from n e nowhere 0 ss
