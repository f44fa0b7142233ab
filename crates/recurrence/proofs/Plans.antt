-- The last cell holds a least rating, the stages read back from it are a least split, and both are there exactly if a lawful split is.
use Rattle.std.proofs.Common.{◌≡◌, ℕ, ◌<◌, true, List, length, get_or, is_some, Some, sym, ap, ◌∙◌, subst, inl, inr, arith}
use Rattle.std.proofs.lemmas.Bool.{cases_lt}
use Rattle.sets.specs.Sets.{full}
use Rattle.sheet.specs.Nets.{Net, size}
use Rattle.sheet.specs.Kept.{Kept}
use Rattle.scale.specs.Rules.{Rules}
use Rattle.split.specs.declared.stages.Stage.{Stage}
use Rattle.split.specs.Splits.{Kinds, Lawful, rate}
use Rattle.split.proofs.Rated.{some_value, lawful_rated}
use Rattle.ideals.specs.Ideals.{Ideal, ideals}
use Rattle.ideals.proofs.Listings.{listing}
use Rattle.recurrence.specs.Table.{best, number}
use Rattle.recurrence.specs.Planned.{setting, top, best_of, split_of, Planned}
use Rattle.recurrence.specs.Laws.{Laws, Answers}
use Rattle.recurrence.proofs.Options.{some_same, none_some}
use Rattle.recurrence.proofs.Reach.{Listed, bound, achieved}
use Rattle.recurrence.proofs.Ways.{Way, lawful_reached, reached_lawful}
pub use Rattle.recurrence.proofs.Links.{best_via, fewer_one, fewer_two, stages_via}
pub use Rattle.recurrence.proofs.Choices.{picked, follows}
pub use Rattle.recurrence.proofs.Traces.{stages_none, stages_more, few_stages}
pub use Rattle.recurrence.proofs.Figures.{small_figures, kinds_answer}

module _ (n : Net) (kept : Kept n) where
  listed : Listed (ideals n) (Ideal n)
  listed =
      let all = listing n kept in
      record { some = all.some; first = all.first; rises = all.rises; valid = all.valid; place = all.complete }

  -- the set of all operators stands at the top only
  whole_top : (i : ℕ) → i < length (ideals n) → get_or (ideals n) i 0 ≡ full (size n) → i ≡ top n
  whole_top i near whole = elim (cases_lt i (top n)) [
    | inl below ↦
        let rise = (listing n kept).rises i (top n) below (omega arith) in
        absurd (omega (arith, rise, (listing n kept).last, whole))
    | inr above ↦ omega arith
  ]

module _ {R : Type 0} (n : Net) (e : Kinds) (s : Rules R) (kept : Kept n) where
  -- the stages read back are a lawful split with the best rating
  found : (r : R) → best_of n e s ≡ Some r → Lawful n e (split_of n e s) × (rate n e s (split_of n e s) ≡ Some r)
  found r h =
      let near : top n < length (ideals n) = omega (arith, (listing n kept).some) in
      reached_lawful n e s (split_of n e s) r
      (subst (λ (m : ℕ). Way n e s (split_of n e s) n.k n.l m r) (listing n kept).last (achieved (setting n e s) (Ideal n) (listed n kept) n.k n.l (top n) r near h))

  module _ (answers : Answers n e) (laws : Laws s) where
    -- no lawful split rates lower than the last cell, which is there if one is
    under : (ss : List Stage) (q : R) → Lawful n e ss → rate n e s ss ≡ Some q → (r : R) × (best_of n e s ≡ Some r) × (s.at_most r q ≡ true)
    under ss q lawful rated =
        let t = bound (setting n e s) (Ideal n) (listed n kept) laws (λ k a b m x h. answers (number k) m x h) (lawful_reached n e s kept ss q lawful rated) in
        (t.1, subst (λ (i : ℕ). best (setting n e s) n.k n.l i ≡ Some t.1) (whole_top n kept t.0 t.2 t.3) t.4, t.5)

    rated_best : (ss : List Stage) → Lawful n e ss → (r : R) × (best_of n e s ≡ Some r)
    rated_best ss lawful =
        let q = some_value (rate n e s ss) (lawful_rated n e s s.start ss lawful.fits) in
        let t = under ss q.0 lawful q.1 in
        (t.0, t.1)

    pub planned : Planned n e s
    planned = record {
      found = λ ss lawful. ap is_some (rated_best ss lawful).1;
      none = λ h ss lawful. none_some (sym h ∙ (rated_best ss lawful).1);
      least = λ r h. record {
        lawful = (found r h).0;
        rated = (found r h).1;
        least = λ other q lawful rated.
            let t = under other q lawful rated in
            subst (λ (z : R). s.at_most z q ≡ true) (some_same (sym t.1 ∙ h)) t.2;
      };
    }
