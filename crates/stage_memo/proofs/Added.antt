-- What is right of a set, brought to the set with one operator more, v, below all of its own. The figures o are those of v.
use Rattle.std.proofs.Common.{◌≡◌, ℕ, ◌+◌, ◌-◌, ◌^◌, ◌<◌, ◌≤◌, Bool, cond, not, ltb, sum_by, sym, ap, ◌∙◌, arith, pow_mono}
use Rattle.std.proofs.lemmas.Bool.{lt-ltb}
use Rattle.sets.specs.Sets.{has, In, inside, either, without, including, members, gathered}
use Rattle.sets.proofs.Members.{gathered_lt, members_gathered}
use Rattle.sheet.specs.declared.operators.Operator.{Operator}
use Rattle.sheet.specs.declared.operators.Figure.{Figure}
use Rattle.sheet.specs.declared.operators.Figure.TheVariants.{Link}
use Rattle.sheet.specs.Rules.{most_sum}
use Rattle.sheet.specs.Nets.{Net, size, row, after, before}
use Rattle.sheet.specs.Kept.{Kept}
use Rattle.sheet.specs.Figures.{figure_of, feeds, leaves, charged}
use Rattle.sheet.proofs.Charges.{sum_le}
use Rattle.stage_memo.proofs.Below.{has_feeding, charged_more, feeding_more, incoming_more, fresh_members, outgoing_more}

pub included : (m v r : ℕ) → v < 64 → r ≡ cond (ltb v 64) (including m v) m → r ≡ including m v
included m v r near is = is ∙ ap (λ (b : Bool). cond b (including m v) m) (lt-ltb v 64 near)

module _ (n : Net) (kept : Kept n) where
  charged_le : (w : Figure) (p : ℕ → Bool) → charged n w p ≤ most_sum
  charged_le w p = omega (arith, sum_le n w (gathered p (size n)) kept.modest, ap (sum_by (λ v. figure_of w (row n v))) (members_gathered p (size n) kept.few))

  gathered_fits : (p : ℕ → Bool) → gathered p (size n) < 2 ^ 64
  gathered_fits p =
      let more : 2 ^ size n ≤ 2 ^ 64 = pow_mono kept.few in
      omega (arith, gathered_lt p (size n))

  module _ (m v : ℕ) (below : (u : ℕ) → In u m → v < u) (o : Operator) (figures : o ≡ row n v) where
    pub sum_added : (w : Figure) (old : ℕ) → old ≡ charged n w (has m) → (old + figure_of w o ≡ charged n w (has (including m v))) × (old + figure_of w o ≤ most_sum)
    sum_added w old is =
        let more : old + figure_of w o ≡ charged n w (has (including m v)) = omega (arith, is, ap (figure_of w) figures, charged_more n kept m v below w) in
        (more, omega (arith, more, charged_le w (has (including m v))))

    -- what came from v enters no more, and what comes from `new` enters now
    pub incoming_added : (feeding to new old enters : ℕ) → feeding ≡ gathered (feeds n m) (size n) → to ≡ before n v → new ≡ without to feeding → old ≡ charged n Link (feeds n m) → enters ≡ sum_by (λ u. (row n u).link) (members new)
        → (cond (has feeding v) o.link 0 ≤ old) × ((old - cond (has feeding v) o.link 0) + enters ≡ charged n Link (feeds n (including m v))) × ((old - cond (has feeding v) o.link 0) + enters ≤ most_sum)
    incoming_added feeding to new old enters right edges cut is sum =
        let charge = ap (λ (b : Bool). cond b o.link 0) (ap (λ (x : ℕ). has x v) right ∙ has_feeding n kept m v) ∙ ap (λ (x : Operator). cond (feeds n m v) x.link 0) figures in
        let to-small : to < 2 ^ 64 = omega (arith, edges, gathered_fits (λ u. has (after n u) v)) in
        let feeding-small : feeding < 2 ^ 64 = omega (arith, right, gathered_fits (feeds n m)) in
        let fresh = fresh_members n kept m v below to feeding new to-small feeding-small edges right cut in
        let all = incoming_more n kept m v below old (cond (has feeding v) o.link 0) enters is charge (sum ∙ ap (sum_by (λ u. (row n u).link)) fresh) in
        (all.0, all.1, omega (arith, all.1, charged_le Link (feeds n (including m v))))

    pub outgoing_added : (to old : ℕ) → to ≡ after n v → old ≡ charged n Link (leaves n m) → (old + cond (not (inside to m)) o.link 0 ≡ charged n Link (leaves n (including m v))) × (old + cond (not (inside to m)) o.link 0 ≤ most_sum)
    outgoing_added to old edges is =
        let charge = ap (λ (x : ℕ). cond (not (inside x m)) o.link 0) edges ∙ ap (λ (x : Operator). cond (not (inside (after n v) m)) x.link 0) figures in
        let all = outgoing_more n kept m v below old (cond (not (inside to m)) o.link 0) is charge in
        (all, omega (arith, all, charged_le Link (leaves n (including m v))))

  pub feeding_added : (m v : ℕ) (below : (u : ℕ) → In u m → v < u) (feeding to wide mask new : ℕ) → wide < 2 ^ 64 → mask < 2 ^ 64 → feeding ≡ gathered (feeds n m) (size n) → to ≡ before n v → wide ≡ either feeding to → mask ≡ including m v → new ≡ without wide mask
      → new ≡ gathered (feeds n mask) (size n)
  feeding_added m v below feeding to wide mask new small few right edges both more cut =
      feeding_more n kept m v below feeding to wide mask new small few right edges both more cut ∙ ap (λ (x : ℕ). gathered (feeds n x) (size n)) (sym more)
