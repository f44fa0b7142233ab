-- The lines on the ideals and the least splits of a sheet, as bytes. Each line ends with one line feed.
--   stage_text s            a stage: A where it is of kind 1, else B, and its operators
--   stages_text ss          the stages of a split, first to last, or that there are none
--   split_text t o ss       a split's rating, which t spells, and its stages ss, or that there is none
--   least_line name t n e s the rating and the stages that the recurrence finds on the scale s, which has this name
--   devices M               the first kind an accelerator with the limit M, the second a processor
--   least_lines M n         a line for each scale
--   counted_lines M n c     how many ideals there are, and the least splits; of too many ideals nothing but that
--   plan_lines M n          those of the sheet n
--   Counted n c             so many ideals has n, and no more than a table takes
--   Spells f t              t spells what f displays
--   FindsLeast n e s o      o is a least split, or there is no lawful one
--   PlansLeast M n          what the lines of the least splits tell: each split is a least one, and there is none exactly where there is no lawful one
use Rattle.std.specs.Prelude.{◌≡◌, ℕ, cond, List, [], ◌∷◌, ◌++◌, length, ◌==◌, is_some, true, Some, None, Option, IfSome, MatchOption, codes, decimal}
use Rattle.std.specs.List.{flat_map}
use Rattle.sets.specs.Sets.{members}
use Rattle.sheet.specs.Nets.{Net}
use Rattle.device.specs.Loads.{accelerated, processed}
use Rattle.scale.specs.Rules.{Rules}
use Rattle.scale.specs.Scales.{peak, line, pair}
use Rattle.scale.specs.Spelled.{spelled_pair}
use Rattle.split.specs.declared.stages.Stage.{Stage}
use Rattle.split.specs.Splits.{Kinds, kinds, Lawful, Least}
use Rattle.ideals.specs.Ideals.{ideals, most_ideals, fitting}
use Rattle.recurrence.specs.Planned.{best_of, split_of, Planned}
use Rattle.best_split.specs.declared.finds.Found.{Found}
use Rattle.best_split.specs.Views.{stages_of}
use Rattle.sheet_report.specs.Listed.{listed}

abbrev pub stage_text : Stage → List ℕ
stage_text s = cond (s.kind == 1) (codes "A") (codes "B") ++ listed (members s.mask)

abbrev pub next_stage : Stage → List ℕ
next_stage s = codes "; " ++ stage_text s

abbrev pub stages_text : List Stage → List ℕ
stages_text [] = codes "no stages"
stages_text (s ∷ ss) = stage_text s ++ flat_map next_stage ss

module _ {R : Type 0} where
  abbrev pub split_text : (R → List ℕ) → Option R → List Stage → List ℕ
  split_text spell None ss = codes "none"
  split_text spell (Some r) ss = spell r ++ (codes ": " ++ stages_text ss)

  abbrev pub least_line : List ℕ → (R → List ℕ) → Net → Kinds → Rules R → List ℕ
  least_line name spell n e s =
      codes "least " ++ (name ++ (codes " " ++ (split_text spell (best_of n e s) (split_of n e s) ++ codes "\n")))

  abbrev pub Spells : (R → Option (List ℕ)) → (R → List ℕ) → Type 0
  Spells output spell = (r : R) → output r ≡ Some (spell r)

  pub record FindsLeast (n : Net) (e : Kinds) (s : Rules R) (o : Option (Found R)) : Type 0 where
    -- it is what the recurrence finds
    pub found : MatchOption o (best_of n e s ≡ None) (λ f. (best_of n e s ≡ Some f.rating) × (stages_of f.split ≡ split_of n e s))
    -- which is a least split, and there is none only where there is no lawful one
    pub least : IfSome o (λ f. Least n e s (stages_of f.split) f.rating)
    pub granted : (ss : List Stage) → Lawful n e ss → is_some o ≡ true

abbrev pub devices : ℕ → Kinds
devices M = kinds (accelerated M) processed

abbrev pub least_lines : ℕ → Net → List ℕ
least_lines M n =
    least_line (codes "peak") decimal n (devices M) peak
    ++ (least_line (codes "line") decimal n (devices M) line
    ++ least_line (codes "pair") spelled_pair n (devices M) pair)

abbrev pub counted_lines : ℕ → Net → Option ℕ → List ℕ
counted_lines M n None = codes "ideals more than " ++ (decimal most_ideals ++ codes "\n")
counted_lines M n (Some c) = codes "ideals " ++ (decimal c ++ (codes "\n" ++ least_lines M n))

abbrev pub plan_lines : ℕ → Net → List ℕ
plan_lines M n = counted_lines M n (fitting most_ideals (length (ideals n)))

abbrev pub Counted : Net → ℕ → Type 0
Counted n c = Some c ≡ fitting most_ideals (length (ideals n))

pub record PlansLeast (M : ℕ) (n : Net) : Type 0 where
  pub peak : Planned n (devices M) peak
  pub line : Planned n (devices M) line
  pub pair : Planned n (devices M) pair
