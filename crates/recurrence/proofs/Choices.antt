-- Each pick is a candidate in the words of the rule, and the recurrence follows the rule.
use Rattle.std.proofs.Common.{◌≡◌, ℕ, zero, suc, ◌-◌, true, Some, None, Option, sym, refl, ap, ◌∙◌, subst, arith}
use Rattle.std.proofs.lemmas.Bool.{cond-true}
use Rattle.sets.specs.Sets.{inside}
use Rattle.recurrence.specs.Table.{KindNumber, one, two, Candidate, Setting, ideal, rating_of, offer, cut, best, less_one, less_two, pick}
use Rattle.recurrence.specs.Stages.{by_kind}
use Rattle.recurrence.specs.Chosen.{Spends, first, second, Offered, Chosen, Follows}
use Rattle.recurrence.specs.Laws.{Ordered}
use Rattle.recurrence.proofs.Options.{none_some, cond_some}
use Rattle.recurrence.proofs.Links.{best_via}
use Rattle.recurrence.proofs.Least.{offer_parts, Seen, among_seen, seen_made, made_seen, Leads, among_leads}

module _ {R : Type 0} (e : Setting R) where
  -- ---- a device less

  spends_from : (k : KindNumber) (a b j : ℕ) (r : R) → by_kind k (less_one e a b j) (less_two e a b j) ≡ Some r → (a' : ℕ) × (b' : ℕ) × Spends k a' b' a b × (best e a' b' j ≡ Some r)
  spends_from one zero b j r h = absurd (none_some h)
  spends_from one (suc a) b j r h = (a, b, first, h)
  spends_from two a zero j r h = absurd (none_some h)
  spends_from two a (suc b) j r h = (a, b, second, h)

  from_spends : {k : KindNumber} {a b a' b' : ℕ} → Spends k a' b' a b → (j : ℕ) → by_kind k (less_one e a b j) (less_two e a b j) ≡ best e a' b' j
  from_spends first j = refl
  from_spends second j = refl

  cut_by_kind : (k : KindNumber) (a b i j : ℕ) → by_kind k (cut e one a b i j) (cut e two a b i j) ≡ cut e k a b i j
  cut_by_kind one a b i j = refl
  cut_by_kind two a b i j = refl

  module _ (a b i : ℕ) where
    abbrev Met : Candidate R → Type 0
    Met = Seen e.rules (less_one e a b) (less_two e a b) (cut e one a b i) (cut e two a b i) i

    -- ---- what the recurrence meets are the candidates

    met_offered : (d : Candidate R) → Met d → Offered e a b i d
    met_offered d h =
        let made = seen_made e.rules (less_one e a b) (less_two e a b) (cut e one a b i) (cut e two a b i) i d h in
        let j = d.origin in
        let parts = offer_parts e.rules j d.kind (by_kind d.kind (less_one e a b j) (less_two e a b j)) (by_kind d.kind (cut e one a b i j) (cut e two a b i j)) d made.1 in
        let r = parts.0 in
        let x = parts.1 in
        let less = spends_from d.kind a b j r parts.2 in
        let load = cond_some (inside (ideal e j) (ideal e i)) (e.ask d.kind a b (ideal e i - ideal e j)) x (sym (cut_by_kind d.kind a b i j) ∙ parts.3) in
        record {
          before = made.0;
          within = load.0;
          joins = (less.0, less.1, r, x, less.2, less.3, load.1, ap (λ (c : Candidate R). c.rating) (sym parts.4));
        }

    offered_met : (d : Candidate R) → Offered e a b i d → Met d
    offered_met d o =
        let j = d.origin in
        let parts = o.joins in
        let r = parts.2 in
        let x = parts.3 in
        let rating : by_kind d.kind (less_one e a b j) (less_two e a b j) ≡ Some r = from_spends parts.4 j ∙ parts.5 in
        let load : by_kind d.kind (cut e one a b i j) (cut e two a b i j) ≡ Some x
        = cut_by_kind d.kind a b i j ∙ cond-true (inside (ideal e j) (ideal e i)) (e.ask d.kind a b (ideal e i - ideal e j)) None o.within ∙ parts.6 in
        made_seen e.rules (less_one e a b) (less_two e a b) (cut e one a b i) (cut e two a b i) i d o.before
        (ap (λ (z : Option R). offer e.rules j d.kind z (by_kind d.kind (cut e one a b i j) (cut e two a b i j))) rating
        ∙ ap (offer e.rules j d.kind (Some r)) load
        ∙ ap (λ (z : R). Some (record { rating = z; origin = j; kind = d.kind })) (sym parts.7))

    -- a pick is a candidate, whatever the order
    pub picked : (c : Candidate R) → pick e a b i ≡ Some c → Offered e a b i c
    picked c h = met_offered c (among_seen e.rules (less_one e a b) (less_two e a b) (cut e one a b i) (cut e two a b i) i c h)

    module _ (ordered : Ordered e.rules) where
      leads : (o : Option (Candidate R)) → pick e a b i ≡ o → Leads e.rules Met o
      leads o h = subst (Leads e.rules Met) h (among_leads e.rules ordered (less_one e a b) (less_two e a b) (cut e one a b i) (cut e two a b i) i)

      pub chosen : (c : Candidate R) → pick e a b i ≡ Some c → Chosen e a b i c
      chosen c h = record {
        offered = picked c h;
        least = λ d o. (leads (Some c) h d (offered_met d o)).0;
        first = λ d o. (leads (Some c) h d (offered_met d o)).1;
      }

      pub missing : (d : Candidate R) → pick e a b i ≡ None → Offered e a b i d → ⊥
      missing d h o = leads None h d (offered_met d o)

  module _ (ordered : Ordered e.rules) where
    pub follows : (a b i : ℕ) → Follows e a b i
    follows a b i = record { rated = best_via e a b (suc i); chosen = chosen a b (suc i) ordered; missing = missing a b (suc i) ordered }

    -- where there is a candidate, there is a rating, and it is at most the candidate's
    pub best_under : (a b i : ℕ) (d : Candidate R) → Offered e a b i d → (r : R) × (best e a b i ≡ Some r) × (e.rules.at_most r d.rating ≡ true)
    best_under a b zero d o = absurd (omega (arith, o.before))
    best_under a b (suc i) d o = found (pick e a b (suc i)) refl
      where
        found : (c : Option (Candidate R)) → pick e a b (suc i) ≡ c → (r : R) × (best e a b (suc i) ≡ Some r) × (e.rules.at_most r d.rating ≡ true)
        found None h = absurd (missing a b (suc i) ordered d h o)
        found (Some c) h = (c.rating, best_via e a b (suc i) ∙ ap rating_of h, (chosen a b (suc i) ordered c h).least d o)
