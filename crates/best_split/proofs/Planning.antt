-- What is solved over the front of the table is solved over all ideals, and is a least split.
use Rattle.std.proofs.Common.{◌≡◌, ℕ, ◌-◌, ◌≤◌, Bool, true, false, cond, ◌&&◌, leb, List, [], length, take, drop, is_some, IfOk, Some, None, Ok, Err, Option, Result, sym, refl, ap, ◌∙◌, subst, arith}
use Rattle.std.proofs.lemmas.List.{take_at, take_all}
use Rattle.std.proofs.lemmas.Bool.{and_parts, le-leb, leb-true}
use Rattle.refusals.specs.declared.Refusal.{Refusal}
use Rattle.refusals.specs.declared.Refusal.TheVariants.{TooManyIdeals, TooFewCells, NoLawfulSplit}
use Rattle.refusals.specs.Told.{told, outcome}
use Rattle.refusals.proofs.Tellings.{nothing_ok}
use Rattle.sheet.specs.Nets.{Net}
use Rattle.sheet.specs.Changes.{unless, first}
use Rattle.scale.specs.Rules.{Rules}
use Rattle.split.specs.declared.stages.Stage.{Stage}
use Rattle.split.specs.Splits.{Kinds, Least}
use Rattle.ideals.specs.Ideals.{ideals, room, over, fitting}
use Rattle.recurrence.specs.Planned.{setting_over, setting, best_of, split_of, Planned}
use Rattle.cells.specs.declared.choices.Choice.{Choice}
use Rattle.best_split.specs.declared.finds.Found.{Found}
use Rattle.best_split.specs.Views.{stages_of}
use Rattle.table_pass.specs.Filled.{cells_fit}
use Rattle.best_split.specs.Finds.{Solves, Finds}

count_is : (most n m : ℕ) → Some m ≡ fitting most n → (m ≡ n) × (n ≤ most)
count_is most n m e = go (leb n most) refl e
  where
    go : (b : Bool) → leb n most ≡ b → Some m ≡ cond b (Some n) None → (m ≡ n) × (n ≤ most)
    go true q h = (cc, leb-true n most q)
    go false q h = let z : ◌≡◌ {A = ℕ} 0 1 = cc in absurd (omega arith)

-- the front of the table is the whole list
pub front_is : (all t table : List ℕ) (most n : ℕ) → Some n ≡ fitting most (length all) → table ≡ over (take most all) t → (take (n - 0) table ≡ all) × (length all ≤ most)
front_is all t table most n e q =
    let count = count_is most (length all) n e in
    let z : n - 0 ≡ length all = omega (arith, count.0) in
    (ap (λ m. take m table) z ∙ ap (take (length all)) (q ∙ ap (λ y. over y t) (take_all most all count.1)) ∙ take_at all (drop (length all) t) (length all) refl, count.1)

-- ---- which check it was

abbrev three : Bool → Bool → Bool → List ℕ
three few fit some = first (unless few (told TooManyIdeals)) (first (unless fit (told TooFewCells)) (unless some (told NoLawfulSplit)))

three_none : (few fit some : Bool) → three few fit some ≡ told NoLawfulSplit → some ≡ false
three_none true true true h = let z : ◌≡◌ {A = ℕ} 0 1 = cc in absurd (omega arith)
three_none true true false h = refl
three_none true false some h = let z : ◌≡◌ {A = ℕ} 8 9 = cc in absurd (omega arith)
three_none false fit some h = let z : ◌≡◌ {A = ℕ} 7 9 = cc in absurd (omega arith)

three_granted : (few fit some : Bool) → (few && fit) ≡ true → some ≡ true → three few fit some ≡ []
three_granted few fit some h k = let both = and_parts few fit h in rw (both.0, both.1, k) refl

no_rating : {R : Type 0} (o : Option R) → is_some o ≡ false → o ≡ None
no_rating None h = refl
no_rating (Some r) h = let z : ◌≡◌ {A = ℕ} 0 1 = ap (λ t. cond t 1 0) (sym h) in absurd (omega arith)

module _ {R : Type 0} (n : Net) (e : Kinds) (s : Rules R) (planned : Planned n e s) (ms ms' : List ℕ) (rs rs' : List R) (cs cs' : List Choice) where
  abbrev few : Bool
  few = leb (length (ideals n)) (room (length ms))

  abbrev fit : Bool
  fit = cells_fit n.k n.l (length (ideals n)) (length rs) (length cs)

  least_of : (r : Result (Found R) Refusal) → IfOk r (λ f. (best_of n e s ≡ Some f.rating) × (stages_of f.split ≡ split_of n e s) × (f.ideals ≡ length (ideals n)))
      → IfOk r (λ f. Least n e s (stages_of f.split) f.rating)
  least_of (Ok f) h = subst (λ (ss : List Stage). Least n e s ss f.rating) (sym h.1) (planned.least f.rating h.0)
  least_of (Err x) h = tt

  finds_solved : (r : Result (Found R) Refusal) → few ≡ true → ms' ≡ over (take (room (length ms)) (ideals n)) ms → Solves (setting n e s) n.k n.l rs cs rs' cs' r → Finds n e s ms ms' rs cs rs' cs' r
  finds_solved r fits listed d =
      let refuses : outcome r ≡ three few fit (is_some (best_of n e s)) = d.refuses ∙ ap (λ t. three t fit (is_some (best_of n e s))) (sym fits) in
      record {
        refuses = refuses;
        lists = listed;
        keeps = λ h. d.keeps (sym (ap (λ t. t && fit) fits) ∙ h);
        fills = λ h. d.fills (and_parts few fit h).1;
        answers = d.answers;
        least = least_of r d.answers;
        granted = λ h ss lawful. nothing_ok r (refuses ∙ three_granted few fit (is_some (best_of n e s)) h (planned.found ss lawful));
        none = λ h. planned.none (no_rating (best_of n e s) (three_none few fit (is_some (best_of n e s)) (sym refuses ∙ h)));
      }

  -- solved over a part of the table that is the list of all ideals
  pub finds_front : (r : Result (Found R) Refusal) (count : ℕ) → Some count ≡ fitting (room (length ms)) (length (ideals n)) → ms' ≡ over (take (room (length ms)) (ideals n)) ms
      → Solves (setting_over (take (count - 0) ms') n e s) n.k n.l rs cs rs' cs' r → Finds n e s ms ms' rs cs rs' cs' r
  finds_front r count told listed d =
      let front = front_is (ideals n) ms ms' (room (length ms)) count told listed in
      finds_solved r (le-leb (length (ideals n)) (room (length ms)) front.1) listed
      (subst (λ (xs : List ℕ). Solves (setting_over xs n e s) n.k n.l rs cs rs' cs' r) front.0 d)
