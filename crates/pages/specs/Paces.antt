-- The pace of a split: the largest ticks among its stages.
--   ticks_in n e st    the ticks that the kind of a stage answers for its operators; 0 where it answers nothing
--   pace_of n e ss     the largest of them; 0 without stages
--   IsPace n e ss p    no stage has more ticks than p, and a stage has just p, or there is no stage and p is 0
use Rattle.std.specs.Prelude.{◌≡◌, ℕ, ◌<◌, ◌≤◌, max, List, [], ◌∷◌, length, Some, None, Option}
use Rattle.sheet.specs.Nets.{Net}
use Rattle.device.specs.Loads.{PlainLoad}
use Rattle.split.specs.declared.stages.Stage.{Stage}
use Rattle.split.specs.Splits.{Kinds, asked, stage_at}

abbrev pub ticks_of : Option PlainLoad → ℕ
ticks_of None = 0
ticks_of (Some x) = x.ticks

abbrev pub ticks_in : Net → Kinds → Stage → ℕ
ticks_in n e st = ticks_of (asked n e st.kind st.mask)

abbrev pub pace_of : Net → Kinds → List Stage → ℕ
pace_of n e [] = 0
pace_of n e (st ∷ ss) = max (ticks_in n e st) (pace_of n e ss)

pub record IsPace (n : Net) (e : Kinds) (ss : List Stage) (p : ℕ) : Type 0 where
  pub above : (i : ℕ) → i < length ss → ticks_in n e (stage_at ss i) ≤ p
  pub reached : 0 < length ss → (i : ℕ) × (i < length ss) × (ticks_in n e (stage_at ss i) ≡ p)
  pub none : length ss ≡ 0 → p ≡ 0
