-- What an offer makes of a cell is the recurrence's step.
use Rattle.std.proofs.Common.{◌≡◌, ℕ, zero, suc, ◌<◌, ◌≤◌, Bool, true, false, cond, not, ◌||◌, eqb, Some, None, Option, sym, refl, ap, ◌∙◌, arith}
use Rattle.std.proofs.lemmas.Bool.{ne_eqb}
use Rattle.device.specs.Loads.{PlainLoad}
use Rattle.scale.specs.Rules.{Rules}
use Rattle.recurrence.specs.Table.{KindNumber, one, two, number, Candidate, Setting, lesser, offer, best, less_one, less_two, pick, rating_of}
use Rattle.recurrence.proofs.Links.{best_via}
use Rattle.cells.specs.declared.choices.Choice.{Choice}
use Rattle.cells.specs.Cells.{Cell, lowered}
use Rattle.cells.specs.Rows.{tried, first, second, both}
use Rattle.table_pass.specs.Filled.{shown}

abbrev by : ℕ → KindNumber → Choice
by j k = record { ideal = j; kind = number k }

pub number_some : (k : KindNumber) → eqb (number k) 0 ≡ false
number_some one = refl
number_some two = refl

module _ {R : Type 0} (s : Rules R) where
  pub lesser_none : (y : Option (Candidate R)) → lesser s y None ≡ y
  lesser_none None = refl
  lesser_none (Some c) = refl

  lowered_some : (b t : Bool) (c d : Candidate R) → t ≡ false → cond (t || not b) (shown s (Some d)) (shown s (Some c)) ≡ shown s (cond b (Some c) (Some d))
  lowered_some true t c d e = rw e refl
  lowered_some false t c d e = rw e refl

  lowered_is : (y : Option (Candidate R)) (d : Candidate R) → lowered s d.rating (by d.origin d.kind) (shown s y) ≡ shown s (lesser s y (Some d))
  lowered_is None d = refl
  lowered_is (Some c) d = lowered_some (s.at_most c.rating d.rating) (eqb (number c.kind) 0) c d (number_some c.kind)

  -- from the empty ideal, where start stands with no choice
  tried_zero : (k : KindNumber) (x : Option PlainLoad) (y : Option (Candidate R)) → tried s (by 0 k) x (shown s None) (shown s y) ≡ shown s (lesser s y (offer s 0 k (Some s.start) x))
  tried_zero k None y = ap (shown s) (sym (lesser_none y))
  tried_zero k (Some w) y = lowered_is y (record { rating = s.joined s.start w; origin = 0; kind = k })

  stands_not : (t : Bool) (z c : Cell R) → t ≡ false → cond (t || false) z c ≡ c
  stands_not t z c e = rw e refl

  stands_so : (t u : Bool) (z c : Cell R) → t ≡ false → u ≡ false → cond (t || not u) z c ≡ z
  stands_so t u z c e f = rw (e, f) refl

  tried_suc : (j : ℕ) (k : KindNumber) (base : Option (Candidate R)) (x : Option PlainLoad) (y : Option (Candidate R)) → tried s (by (suc j) k) x (shown s base) (shown s y) ≡ shown s (lesser s y (offer s (suc j) k (rating_of base) x))
  tried_suc j k None None y = ap (shown s) (sym (lesser_none y))
  tried_suc j k (Some c) None y = ap (shown s) (sym (lesser_none y))
  tried_suc j k None (Some w) y = stands_not (eqb (suc j) 0) _ (shown s y) (ne_eqb (suc j) 0 (λ e. omega arith)) ∙ ap (shown s) (sym (lesser_none y))
  tried_suc j k (Some c) (Some w) y = stands_so (eqb (suc j) 0) (eqb (number c.kind) 0) _ (shown s y) (ne_eqb (suc j) 0 (λ e. omega arith)) (number_some c.kind) ∙ lowered_is y (record { rating = s.joined c.rating w; origin = suc j; kind = k })

-- a setting in which start stands at the empty ideal, whatever the counts
module _ {R : Type 0} (e : Setting R) (bottom : (a b : ℕ) → e.bottom a b ≡ true) where
  best_zero : (a b : ℕ) → best e a b 0 ≡ Some e.rules.start
  best_zero a b = best_via e a b 0 ∙ ap (λ t. cond t (Some e.rules.start) None) (bottom a b)

  pick_tried : (j : ℕ) (k : KindNumber) (a b : ℕ) (x : Option PlainLoad) (y : Option (Candidate R)) → tried e.rules (by j k) x (shown e.rules (pick e a b j)) (shown e.rules y) ≡ shown e.rules (lesser e.rules y (offer e.rules j k (best e a b j) x))
  pick_tried zero k a b x y = tried_zero e.rules k x y ∙ ap (λ r. shown e.rules (lesser e.rules y (offer e.rules 0 k r x))) (sym (best_zero a b))
  pick_tried (suc j) k a b x y = tried_suc e.rules j k (pick e a b (suc j)) x y ∙ ap (λ r. shown e.rules (lesser e.rules y (offer e.rules (suc j) k r x))) (sym (best_via e a b (suc j)))

  -- a row of ideal j that is as the recurrence has it
  module _ (n l j : ℕ) (from : ℕ → ℕ → Cell R) (right : (a b : ℕ) → a < n → b ≤ l → from a b ≡ shown e.rules (pick e a b j)) where
    first_is : (x : Option PlainLoad) (a b : ℕ) (y : Option (Candidate R)) → a < n → b ≤ l → first e.rules j x from a b (shown e.rules y) ≡ shown e.rules (lesser e.rules y (offer e.rules j one (less_one e a b j) x))
    first_is x zero b y h h' = ap (shown e.rules) (sym (lesser_none e.rules y))
    first_is x (suc a) b y h h' = ap (λ z. tried e.rules (by j one) x z (shown e.rules y)) (right a b (omega arith) h') ∙ pick_tried j one a b x y

    second_is : (x : Option PlainLoad) (a b : ℕ) (y : Option (Candidate R)) → a < n → b ≤ l → second e.rules j x from a b (shown e.rules y) ≡ shown e.rules (lesser e.rules y (offer e.rules j two (less_two e a b j) x))
    second_is x a zero y h h' = ap (shown e.rules) (sym (lesser_none e.rules y))
    second_is x a (suc b) y h h' = ap (λ z. tried e.rules (by j two) x z (shown e.rules y)) (right a b h (omega arith)) ∙ pick_tried j two a b x y

    pub both_is : (x y : Option PlainLoad) (a b : ℕ) (z : Option (Candidate R)) → a < n → b ≤ l → both e.rules j x y from a b (shown e.rules z) ≡ shown e.rules (lesser e.rules (lesser e.rules z (offer e.rules j one (less_one e a b j) x)) (offer e.rules j two (less_two e a b j) y))
    both_is x y a b z h h' = ap (λ c. second e.rules j y from a b c) (first_is x a b z h h') ∙ second_is y a b (lesser e.rules z (offer e.rules j one (less_one e a b j) x)) h h'
