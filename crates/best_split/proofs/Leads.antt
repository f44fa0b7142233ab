-- What a cell's choice leads to.
use Rattle.std.proofs.Common.{◌≡◌, ℕ, zero, suc, ◌+◌, ◌-◌, ◌*◌, ◌<◌, ◌≤◌, Bool, true, false, cond, leb, List, [], ◌∷◌, ◌++◌, length, drop, set, Some, None, Option, sym, refl, ap, ◌∙◌, mul_assoc, add-mul, arith}
use lib.Bits.{bit_and}
use Rattle.std.proofs.lemmas.List.{append_assoc, drop-set}
use Rattle.std.proofs.lemmas.Bool.{and_parts, leb-true, eqb-true}
use Rattle.std.proofs.lemmas.Nat.{and_le_r}
use Rattle.device.specs.Loads.{PlainLoad}
use Rattle.device.specs.declared.which_kinds.WhichKind.{WhichKind}
use Rattle.device.specs.declared.which_kinds.WhichKind.TheVariants.{First, Second}
use Rattle.device.specs.WhichKinds.{kind_of}
use Rattle.cells.specs.declared.choices.Choice.{Choice}
use Rattle.sets.specs.Sets.{inside}
use Rattle.cells.specs.Rows.{width_of}
use Rattle.cells.proofs.RowSteps.{line_le}
use Rattle.recurrence.specs.Table.{KindNumber, one, two, number, Candidate, Setting, ideal, lesser, offer, among, cut, best, less_one, less_two, pick}
use Rattle.recurrence.specs.Stages.{traced, stages}
use Rattle.recurrence.proofs.Links.{fewer_one, fewer_two, stages_via}
use Rattle.table_pass.specs.Filled.{cell, cells_of, cells_fit, chosen}
use Rattle.best_split.specs.Traces.{stages_to, stage_between, Leading}
use Rattle.best_split.specs.declared.places.Place.{Place}
use Rattle.table_pass.proofs.Rows.{place_lt}
use Rattle.split.specs.declared.stages.Stage.{Stage}

-- a cell lies among the cells
cell_lt : (k l n i a b m : ℕ) → i < n → a ≤ k → b ≤ l → n * width_of k l ≤ m → cell k l i a b < m
cell_lt k l n i a b m h h' h'' fit = omega (arith, add-mul (i * (k + 1)) a (l + 1), mul_assoc i (k + 1) (l + 1), line_le i n (width_of k l) h, place_lt k l a b (omega arith) h'')

pub cell_in : (k l n i a b lr lc : ℕ) → i < n → a ≤ k → b ≤ l → cells_fit k l n lr lc ≡ true → (cell k l i a b < lr) × (cell k l i a b < lc)
cell_in k l n i a b lr lc h h' h'' fit =
    let both = and_parts (leb (cells_of k l n) lr) (leb (cells_of k l n) lc) fit in
    let cells = mul_assoc n (k + 1) (l + 1) in
    let lr_fits : n * width_of k l ≤ lr = omega (arith, leb-true (cells_of k l n) lr both.0) in
    let lc_fits : n * width_of k l ≤ lc = omega (arith, leb-true (cells_of k l n) lc both.1) in
    (cell_lt k l n i a b lr h h' h'' lr_fits, cell_lt k l n i a b lc h h' h'' lc_fits)

-- a device of the kind is there
abbrev pub Kept : KindNumber → ℕ → ℕ → Type 0
Kept one a b = 0 < a
Kept two a b = 0 < b

module _ {R : Type 0} (e : Setting R) (a b i : ℕ) where
  abbrev Good : ℕ → Option (Candidate R) → Type 0
  Good n None = Unit {0}
  Good n (Some c) = (c.origin < n) × (bit_and (ideal e c.origin) (ideal e i) ≡ ideal e c.origin) × Kept c.kind a b

  good_cond : (n : ℕ) (t : Bool) (x y : Option (Candidate R)) → Good n x → Good n y → Good n (cond t x y)
  good_cond n true x y p q = p
  good_cond n false x y p q = q

  good_lesser : (n : ℕ) (x y : Option (Candidate R)) → Good n x → Good n y → Good n (lesser e.rules x y)
  good_lesser n None y p q = q
  good_lesser n (Some x) None p q = p
  good_lesser n (Some x) (Some y) p q = good_cond n (e.rules.at_most x.rating y.rating) (Some x) (Some y) p q

  good_more : (n : ℕ) (x : Option (Candidate R)) → Good n x → Good (suc n) x
  good_more n None p = tt
  good_more n (Some x) p = (omega (arith, p.0), p.1, p.2)

  good_cut : (j : ℕ) (k : KindNumber) (r : R) (w : Option PlainLoad) (t : Bool) → inside (ideal e j) (ideal e i) ≡ t → Kept k a b → Good (suc j) (offer e.rules j k (Some r) (cond t w None))
  good_cut j k r w false q h = tt
  good_cut j k r None true q h = tt
  good_cut j k r (Some w) true q h = (omega arith, eqb-true _ _ q, h)

  good_offer : (j : ℕ) (k : KindNumber) (r : Option R) → Kept k a b → Good (suc j) (offer e.rules j k r (cut e k a b i j))
  good_offer j k None h = tt
  good_offer j k (Some r) h = good_cut j k r (e.ask k a b (ideal e i - ideal e j)) (inside (ideal e j) (ideal e i)) refl h

module _ {R : Type 0} (e : Setting R) where
  good_one : (a b i j : ℕ) → Good e a b i (suc j) (offer e.rules j one (less_one e a b j) (cut e one a b i j))
  good_one zero b i j = tt
  good_one (suc a) b i j = good_offer e (suc a) b i j one (best e a b j) (omega arith)

  good_two : (a b i j : ℕ) → Good e a b i (suc j) (offer e.rules j two (less_two e a b j) (cut e two a b i j))
  good_two a zero i j = tt
  good_two a (suc b) i j = good_offer e a (suc b) i j two (best e a b j) (omega arith)

  good_among : (a b i n : ℕ) → Good e a b i n (among e.rules (less_one e a b) (less_two e a b) (cut e one a b i) (cut e two a b i) n)
  good_among a b i zero = tt
  good_among a b i (suc j) = good_lesser e a b i (suc j) _ _ (good_lesser e a b i (suc j) _ _ (good_more e a b i j _ (good_among a b i j)) (good_one a b i j)) (good_two a b i j)

  fewer_one_is : (a b j : ℕ) → 0 < a → fewer_one e a b j ≡ stages e (a - 1) b j
  fewer_one_is zero b j h = absurd (omega arith)
  fewer_one_is (suc a) b j h = let q : a ≡ suc a - 1 = omega arith in ap (λ m. stages e m b j) q

  fewer_two_is : (a b j : ℕ) → 0 < b → fewer_two e a b j ≡ stages e a (b - 1) j
  fewer_two_is a zero j h = absurd (omega arith)
  fewer_two_is a (suc b) j h = let q : b ≡ suc b - 1 = omega arith in ap (λ m. stages e a m j) q

  leads_some : (at : Place) (k : KindNumber) (r : R) (j : ℕ) (w : WhichKind) → kind_of (number k) ≡ Some w → Good e at.a at.b at.i at.i (Some (record { rating = r; origin = j; kind = k }))
      → stages_to e at ≡ traced e (fewer_one e at.a at.b) (fewer_two e at.a at.b) at.i (Some (record { rating = r; origin = j; kind = k })) → Leading e at j w
  leads_some at one r j First n q s = record {
    inner = q.0;
    less = omega (arith, q.1, and_le_r (ideal e j) (ideal e at.i));
    device = q.2;
    are = s ∙ ap (λ z. z ++ (stage_between e j at.i First ∷ [])) (fewer_one_is at.a at.b j q.2);
  }
  leads_some at two r j Second n q s = record {
    inner = q.0;
    less = omega (arith, q.1, and_le_r (ideal e j) (ideal e at.i));
    device = q.2;
    are = s ∙ ap (λ z. z ++ (stage_between e j at.i Second ∷ [])) (fewer_two_is at.a at.b j q.2);
  }
  leads_some at one r j Second n q s = absurd (cc)
  leads_some at two r j First n q s = absurd (cc)

  leads_at : (at : Place) (o : Option (Candidate R)) (w : WhichKind) → pick e at.a at.b at.i ≡ o → Good e at.a at.b at.i at.i o → kind_of (chosen o).kind ≡ Some w → Leading e at (chosen o).ideal w
  leads_at at None w q g h = absurd (cc)
  leads_at at (Some c) w q g h = leads_some at c.kind c.rating c.origin w h g (stages_via e at.a at.b at.i ∙ ap (traced e (fewer_one e at.a at.b) (fewer_two e at.a at.b) at.i) q)

  pub leads : (at : Place) (ch : Choice) (w : WhichKind) → ch ≡ chosen (pick e at.a at.b at.i) → kind_of ch.kind ≡ Some w → Leading e at ch.ideal w
  leads at ch w q h = rw q (leads_at at (pick e at.a at.b at.i) w refl (good_among at.a at.b at.i at.i) (rw q at h))

  kind_some : (k : KindNumber) → kind_of (number k) ≡ None → ⊥
  kind_some one h = cc
  kind_some two h = cc

  none_at : (a b i : ℕ) (o : Option (Candidate R)) → kind_of (chosen o).kind ≡ None → traced e (fewer_one e a b) (fewer_two e a b) i o ≡ []
  none_at a b i None h = refl
  none_at a b i (Some c) h = absurd (kind_some c.kind h)

  pub leads_none : (at : Place) (ch : Choice) → ch ≡ chosen (pick e at.a at.b at.i) → kind_of ch.kind ≡ None → stages_to e at ≡ []
  leads_none at ch q h = stages_via e at.a at.b at.i ∙ none_at at.a at.b at.i (pick e at.a at.b at.i) (rw q at h)

-- one stage more is read back
pub back_more : (all xs ys out : List Stage) (n : ℕ) (s : Stage) → 0 < n → n ≤ length out → all ≡ xs ++ drop n out → xs ≡ ys ++ (s ∷ []) → all ≡ ys ++ drop (n - 1) (set out (n - 1) s)
back_more all xs ys out n s some h e q =
    let lt : n - 1 < length out = omega arith in
    let next : n ≡ n - 1 + 1 = omega arith in
    e ∙ ap (λ z. z ++ drop n out) q ∙ append_assoc ys (s ∷ []) (drop n out) ∙ ap (λ m. ys ++ (s ∷ drop m out)) next ∙ ap (λ z. ys ++ z) (sym (drop-set out (n - 1) s lt))
