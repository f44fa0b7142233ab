-- What is found in tables that are made for just the ideals and cells that there are.
use Rattle.std.proofs.Common.{◌≡◌, ℕ, ◌≤◌, Bool, true, false, leb, ◌&&◌, List, length, is_some, Some, None, Ok, Err, Option, Result, refl, ap, arith}
use Rattle.std.proofs.lemmas.Bool.{le-leb}
use Rattle.std.proofs.lemmas.Bool.Decides.{nat_tests}
use Rattle.std.specs.Result.{result_ok}
use Rattle.refusals.specs.declared.Refusal.{Refusal}
use Rattle.refusals.specs.declared.Refusal.TheVariants.{TooManyIdeals, TooFewCells, NoLawfulSplit}
use Rattle.refusals.specs.Told.{told}
use Rattle.refusals.proofs.Tellings.{told_something}
use Rattle.sheet.specs.Nets.{Net}
use Rattle.scale.specs.Rules.{Rules}
use Rattle.split.specs.Splits.{Kinds}
use Rattle.sheet.specs.Changes.{unless, first}
use Rattle.ideals.specs.Ideals.{ideals, most_ideals, room}
use Rattle.recurrence.specs.Planned.{best_of}
use Rattle.cells.specs.declared.choices.Choice.{Choice}
use Rattle.table_pass.specs.Filled.{cells_of, cells_fit}
use Rattle.best_split.specs.declared.finds.Found.{Found}
use Rattle.best_split.specs.Finds.{tables_suffice, Finds}
use Rattle.sheet_report.specs.Plans.{Counted, FindsLeast}

-- tables that are made for so many ideals suffice
pub made_suffice : (n : Net) (c lm lr lc : ℕ) → Counted n c → lm ≡ c → lr ≡ cells_of n.k n.l c → lc ≡ cells_of n.k n.l c → tables_suffice n lm lr lc ≡ true
made_suffice n c lm lr lc counted masks ratings choices =
    let count : (c ≡ length (ideals n)) × (length (ideals n) ≤ most_ideals) = grind (arith, nat_tests) in
    let few : length (ideals n) ≤ room lm = omega (arith, count.0, count.1, masks) in
    let rated : cells_of n.k n.l (length (ideals n)) ≤ lr = omega (arith, ratings, ap (cells_of n.k n.l) count.0) in
    let chosen : cells_of n.k n.l (length (ideals n)) ≤ lc = omega (arith, choices, ap (cells_of n.k n.l) count.0) in
    rw (le-leb (length (ideals n)) (room lm) few, le-leb _ _ rated, le-leb _ _ chosen) refl

only_none : {R : Type 0} (few fit : Bool) (o : Option R) (e : Refusal) → (few && fit) ≡ true
    → told e ≡ first (unless few (told TooManyIdeals)) (first (unless fit (told TooFewCells)) (unless (is_some o) (told NoLawfulSplit))) → o ≡ None
only_none true true (Some r) e h q = absurd (told_something e q)
only_none true true None e h q = refl
only_none true false o e h q = absurd (cc)
only_none false fit o e h q = absurd (cc)

module _ {R : Type 0} (n : Net) (e : Kinds) (s : Rules R) (ms ms' : List ℕ) (rs : List R) (cs : List Choice) (rs' : List R) (cs' : List Choice) where
  pub found_least : (r : Result (Found R) Refusal) → tables_suffice n (length ms) (length rs) (length cs) ≡ true → Finds n e s ms ms' rs cs rs' cs' r → FindsLeast n e s (result_ok r)
  found_least (Ok f) suffice finds = record {
    found = (finds.answers.0, finds.answers.1);
    least = finds.least;
    granted = λ ss lawful. refl;
  }
  found_least (Err x) suffice finds = record {
    found = only_none (leb (length (ideals n)) (room (length ms))) (cells_fit n.k n.l (length (ideals n)) (length rs) (length cs)) (best_of n e s) x suffice finds.refuses;
    least = tt;
    granted = finds.granted suffice;
  }
