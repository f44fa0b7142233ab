-- How the outcome of a search is told to a caller of another language.
--   stage_of p       the stage that a record is
--   stages_in a      the stages of an answer
--   no_stages n      what stands at n places of no stage
--   Tells r a        the answer a tells the result r: the number of its refusal and nothing else, or 0 and all that was found; no other stage is told
use Rattle.std.specs.Prelude.{◌≡◌, ℕ, ◌-◌, List, map, take, drop, replicate, slice_index, Result, Ok, Err}
use Rattle.refusals.specs.declared.Refusal.{Refusal}
use Rattle.refusals.specs.Told.{told}
use Rattle.split.specs.declared.stages.Stage.{Stage}
use Rattle.best_split.specs.declared.finds.Found.{Found}
use Rattle.best_split.specs.Views.{stages_of}
use Rattle.pass_export.specs.declared.answers.Answer.{Answer}
use Rattle.pass_export.specs.declared.answers.StageRecord.{StageRecord}

abbrev pub stage_of : StageRecord → Stage
stage_of p = record { mask = p.mask; kind = p.kind }

abbrev pub stages_in : Answer → List Stage
stages_in a = take a.count (map stage_of a.stages)

abbrev pub no_stages : ℕ → List Stage
no_stages n = replicate n (record { mask = 0; kind = 0 })

pub record TellsFound (f : Found ℕ) (a : Answer) : Type 0 where
  pub granted : a.refusal ≡ 0
  pub rating : a.rating ≡ f.rating
  pub ideals : a.ideals ≡ f.ideals
  pub stages : stages_in a ≡ stages_of f.split
  pub others : drop a.count (map stage_of a.stages) ≡ no_stages (16 - a.count)

pub record TellsRefused (e : Refusal) (a : Answer) : Type 0 where
  pub refused : a.refusal ≡ slice_index (told e) 0
  pub rating : a.rating ≡ 0
  pub ideals : a.ideals ≡ 0
  pub count : a.count ≡ 0
  pub others : map stage_of a.stages ≡ no_stages 16

abbrev pub Tells : Result (Found ℕ) Refusal → Answer → Type 0
Tells (Ok f) a = TellsFound f a
Tells (Err e) a = TellsRefused e a
