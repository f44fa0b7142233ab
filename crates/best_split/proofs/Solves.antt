-- What is left where a split is found.
use Rattle.std.proofs.Common.{◌≡◌, ℕ, ◌≤◌, Bool, true, false, List, [], length, is_some, Some, Ok, sym, refl, ap, ◌∙◌}
use Rattle.std.proofs.lemmas.Bool.{le-leb, both_ways}
use Rattle.refusals.specs.declared.Refusal.TheVariants.{TooFewCells, NoLawfulSplit}
use Rattle.refusals.specs.declared.Refusal.{Refusal}
use Rattle.refusals.specs.Told.{told}
use Rattle.refusals.proofs.Tellings.{told_something}
use Rattle.sheet.specs.Changes.{unless, first}
use Rattle.ideals.specs.Ideals.{most_ideals}
use Rattle.recurrence.specs.Table.{Setting, best}
use Rattle.recurrence.specs.Stages.{stages}
use Rattle.cells.specs.declared.choices.Choice.{Choice}
use Rattle.table_pass.specs.Filled.{cells_fit, fill_refusal, Passed}
use Rattle.best_split.specs.declared.finds.Found.{Found}
use Rattle.best_split.specs.Views.{stages_of}
use Rattle.best_split.specs.Finds.{fit, last, Solves}

-- of few ideals only the cells are tested
fit_by_refusal : (n k l lr lc : ℕ) → n ≤ most_ideals → fill_refusal k l n lr lc ≡ unless (cells_fit k l n lr lc) (told TooFewCells)
fit_by_refusal n k l lr lc few = rw (le-leb n most_ideals few) refl

unless_nothing : (b : Bool) (e : Refusal) → unless b (told e) ≡ [] → b ≡ true
unless_nothing true e h = refl
unless_nothing false e h = absurd (told_something e h)

pub fit_granted : (n k l lr lc : ℕ) → n ≤ most_ideals → [] ≡ fill_refusal k l n lr lc → cells_fit k l n lr lc ≡ true
fit_granted n k l lr lc few h = unless_nothing (cells_fit k l n lr lc) TooFewCells (sym (h ∙ fit_by_refusal n k l lr lc few))

module _ {R : Type 0} (e : Setting R) (k l : ℕ) (rs rs' : List R) (cs cs' : List Choice) (fits : fit e k l rs cs rs' cs' ≡ true) (p : Passed e k l rs cs rs' cs') where
  pub solves_some : (f : Found R) → Some f.rating ≡ best e k l (last e k l rs cs rs' cs') → stages_of f.split ≡ stages e k l (last e k l rs cs rs' cs') → f.ideals ≡ length e.ideals → Solves e k l rs cs rs' cs' (Ok f)
  solves_some f q s n = record {
    refuses =
        ap (λ o. unless (is_some o) (told NoLawfulSplit)) q
        ∙ ap (λ t. first (unless t (told TooFewCells)) (unless (is_some (best e k l (last e k l rs cs rs' cs'))) (told NoLawfulSplit))) (sym fits);
    keeps = λ t. absurd (both_ways (fit e k l rs cs rs' cs') t fits);
    fills = λ _. p;
    answers = (sym q, s, n);
  }
