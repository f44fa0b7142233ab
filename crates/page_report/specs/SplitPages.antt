-- The page of the split of a sheet file, or the line of what is refused, as bytes.
--   devices            the first kind an accelerator with the limit 1,000,000, the second a processor
--   planning n         what is told of planning the sheet n on the scale peak, with room for 512 ideals and 4,096 cells
--   found n            the stages that are found
--   split_refusal f    what is told of the first thing that is refused: the file f, then planning its sheet
--   split_text f       the page of the split that is found for the sheet of the file f
--   unless_refused ts page   the page where nothing is told, else one line with the refusal's number
--   page_or_refusal f  what is printed for the file f
--   refused_in x       what is told of a step, nothing where it is granted
--   Means f            what a page and the refusals say of the sheet of the file f
use Rattle.std.specs.Prelude.{◌≡◌, ℕ, List, [], ◌∷◌, ◌++◌, codes, decimal, Option, None, Some, Result}
use Rattle.refusals.specs.declared.Refusal.{Refusal}
use Rattle.refusals.specs.declared.Refusal.TheVariants.{NoLawfulSplit}
use Rattle.refusals.specs.Told.{told, outcome}
use Rattle.sheet.specs.Changes.{first}
use Rattle.sheet.specs.Nets.{Net}
use Rattle.sheet_layout.specs.Bodies.{file_refusal, net_of}
use Rattle.sheet_layout.specs.Layout.{LaidOut}
use Rattle.device.specs.Loads.{accelerated, processed}
use Rattle.scale.specs.Scales.{peak}
use Rattle.split.specs.declared.stages.Stage.{Stage}
use Rattle.split.specs.Splits.{Kinds, kinds, Lawful, Least}
use Rattle.recurrence.specs.Planned.{split_of}
use Rattle.best_split.specs.Finds.{find_refusal}
use Rattle.pages.specs.Pages.{page_of}
use Rattle.planner.specs.declared.calls.Step.{Step}
use Rattle.planner.specs.declared.calls.Granted.{Granted}

abbrev pub devices : Kinds
devices = kinds (accelerated 1000000) processed

abbrev pub planning : Net → List ℕ
planning n = find_refusal n devices peak 512 4096 4096

abbrev pub found : Net → List Stage
found n = split_of n devices peak

abbrev pub split_refusal : List ℕ → List ℕ
split_refusal f = first (file_refusal f) (planning (net_of f))

abbrev pub split_text : List ℕ → List ℕ
split_text f = page_of (net_of f) devices (found (net_of f))

abbrev pub unless_refused : List ℕ → List ℕ → List ℕ
unless_refused [] page = page
unless_refused (number ∷ values) page = codes "refused " ++ (decimal number ++ codes "\n")

abbrev pub page_or_refusal : List ℕ → List ℕ
page_or_refusal f = unless_refused (split_refusal f) (split_text f)

module _ {R : Type 0} where
  abbrev pub told_in : Option (Result (Granted R) Refusal) → List ℕ
  told_in None = []
  told_in (Some r) = outcome r

  abbrev pub refused_in : Step R → List ℕ
  refused_in x = told_in x.answer

pub record Means (f : List ℕ) : Type 0 where
  -- the file is accepted exactly if it is laid out by the format, and says one sheet
  pub good : file_refusal f ≡ [] → LaidOut f (net_of f)
  pub right : (n : Net) → LaidOut f n → (file_refusal f ≡ []) × (net_of f ≡ n)
  -- a page is that of a lawful split, and no lawful split rates lower
  pub least : split_refusal f ≡ [] → (r : ℕ) × Least (net_of f) devices peak (found (net_of f)) r
  -- no lawful split is told only where there is none
  pub none : file_refusal f ≡ [] → planning (net_of f) ≡ told NoLawfulSplit → (ss : List Stage) → Lawful (net_of f) devices ss → ⊥
