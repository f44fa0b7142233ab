-- The list of the ideals of a sheet's network.
use Rattle.std.proofs.Common.{◌≡◌, ℕ, ◌-◌, ◌^◌, ◌<◌, List, ◌++◌, length, get_or, sym, ap, ◌∙◌, inl, inr, arith}
use Rattle.std.proofs.lemmas.List.Elements.{All-get_or}
use Rattle.std.proofs.lemmas.Bool.{cases_lt}
use Rattle.sets.specs.Sets.{In, full}
use Rattle.sheet.specs.Nets.{Net, size, Edge, before}
use Rattle.sheet.specs.Kept.{Kept}
use Rattle.sheet.proofs.Charges.{before_means}
use Rattle.ideals.specs.Ideals.{ideals}
use Rattle.ideals.specs.Listing.{Listing}
use Rattle.ideals.proofs.Growing.{grown_none, grown_small, grown_whole, grown_some}
use Rattle.ideals.proofs.Members.{Closed, grown_closed, closed_listed, full_closed, grown_ascends}

module _ (n : Net) (kept : Kept n) where
  edge_from : (u v : ℕ) → In u (before n v) → Edge n u v
  edge_from u v h = sym (before_means n v u (omega (arith, kept.masks))) ∙ h

  from_edge : (u v : ℕ) → Edge n u v → In u (before n v)
  from_edge u v h = before_means n v u (omega (arith, kept.masks)) ∙ h

  upward : (u v : ℕ) → In u (before n v) → u < v
  upward u v h = (kept.upward u v (edge_from u v h)).0

  at_first : get_or (ideals n) 0 0 ≡ 0
  at_first =
      let f = grown_whole (before n) 0 (size n) (omega arith) in
      ap (λ (z : List ℕ). get_or z 0 0) (f.1 ∙ ap (λ (z : List ℕ). z ++ f.0) (grown_none (before n)))

  -- the set of all operators is listed, and nothing that is listed is above it
  at_last : get_or (ideals n) (length (ideals n) - 1) 0 ≡ full (size n)
  at_last =
      let some = grown_some (before n) (size n) in
      let f = closed_listed (before n) upward (size n) (full (size n)) (full_closed (before n) upward (size n)) in
      elim (cases_lt f.0 (length (ideals n) - 1)) [
        | inl h ↦
            let above = grown_ascends (before n) (size n) f.0 (length (ideals n) - 1) 0 h (omega arith) in
            let below = All-get_or (λ x. x < 2 ^ size n) (ideals n) (length (ideals n) - 1) 0 (omega arith) (grown_small (before n) (size n)) in
            absurd (omega (arith, above, below, f.2))
        | inr h ↦ let same : length (ideals n) - 1 ≡ f.0 = omega (arith, f.1, h) in ap (λ (i : ℕ). get_or (ideals n) i 0) same ∙ f.2
      ]

  pub listing : Listing n
  listing = record {
    some = grown_some (before n) (size n);
    first = at_first;
    last = at_last;
    rises = λ i j h l. grown_ascends (before n) (size n) i j 0 h l;
    valid = λ i h.
        let d = All-get_or (Closed (before n) (size n)) (ideals n) i 0 h (grown_closed (before n) upward (size n)) in
        record { only = d.only; closed = λ u v e m. d.closed u v (from_edge u v e) m };
    complete = λ m d. closed_listed (before n) upward (size n) m (record { only = d.only; closed = λ u v e h. d.closed u v (edge_from u v e) h });
  }
