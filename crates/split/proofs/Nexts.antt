-- A stage breaks no rule after a walk exactly if it is one that may come next.
use Rattle.std.proofs.Common.{◌≡◌, ℕ, ◌<◌, Bool, true, false, not, ◌&&◌, eqb, [], is_some, arith}
use Rattle.std.proofs.lemmas.Bool.Decides.{nat_tests}
use Rattle.sets.specs.Sets.{has, In, inside, meeting, full, gathered}
use Rattle.sets.proofs.Sets.{has_none, some_in, inside_means, meeting_means, has_full, same_sets}
use Rattle.sets.proofs.Members.{has_gathered}
use Rattle.sheet.specs.Nets.{Net, size, after, Edge}
use Rattle.split.specs.declared.stages.Stage.{Stage}
use Rattle.split.specs.Splits.{Kinds, asked}
use Rattle.split.specs.declared.walks.Walk.{Walk}
use Rattle.split.specs.Breaches.{back, stage_breach}

-- ---- no edge leads back

module _ (n : Net) (m placed : ℕ) where
  abbrev leads_back : ℕ → Bool
  leads_back u = has m u && meeting (after n u) placed

  no_edge_back : not (back n m placed) ≡ true → (u v : ℕ) → u < size n → Edge n u v → In u m → In v placed → ⊥
  no_edge_back h u v l edge i j =
      let here : In u (gathered leads_back (size n)) = grind (arith, nat_tests, has_gathered, (meeting_means (after n u) placed).1 (v, (edge, j))) in
      grind (arith, nat_tests, has_none)

  edge_back_no : ((u v : ℕ) → Edge n u v → In u m → In v placed → ⊥) → not (back n m placed) ≡ true
  edge_back_no h =
      let none : (u : ℕ) → has (gathered leads_back (size n)) u ≡ has 0 u = λ u. grind (arith, nat_tests, has_none, has_gathered, meeting_means, h) in
      grind (arith, nat_tests, same_sets (gathered leads_back (size n)) 0 none)

-- ---- the stage

-- a stage that may come next after a walk
pub record Next (n : Net) (e : Kinds) (w : Walk) (s : Stage) : Type 0 where
  pub filled : (v : ℕ) × In v s.mask
  pub only : (v : ℕ) → In v s.mask → v < size n
  pub apart : (v : ℕ) → In v s.mask → In v w.placed → ⊥
  pub outward : (u v : ℕ) → Edge n u v → In u s.mask → In v w.placed → ⊥
  pub fits : is_some (asked n e s.kind s.mask) ≡ true
  pub few_first : s.kind ≡ 1 → w.first < n.k
  pub few_second : s.kind ≡ 2 → w.second < n.l

module _ (n : Net) (e : Kinds) (w : Walk) (i : ℕ) (s : Stage) where
  pub no_breach_next : stage_breach n e w i s ≡ [] → Next n e w s
  no_breach_next h =
      let known : (v : ℕ) → In v s.mask → v < size n = λ v m. grind (arith, nat_tests, inside_means, has_full) in
      record {
        filled = some_in s.mask (grind (arith, nat_tests));
        only = known;
        apart = λ v a b. grind (arith, nat_tests, meeting_means);
        outward = λ u v edge a. no_edge_back n s.mask w.placed (grind (arith, nat_tests)) u v (known u a) edge a;
        fits = grind (arith, nat_tests);
        few_first = λ k. grind (arith, nat_tests);
        few_second = λ k. grind (arith, nat_tests);
      }

  pub next_no_breach : Next n e w s → stage_breach n e w i s ≡ []
  next_no_breach d =
      let filled : not (eqb s.mask 0) ≡ true = grind (arith, nat_tests, has_none, d.filled.1) in
      let only : inside s.mask (full (size n)) ≡ true = (inside_means s.mask (full (size n))).1 (λ v m. grind (arith, nat_tests, has_full, d.only v m)) in
      let apart : meeting s.mask w.placed ≡ false = grind (arith, meeting_means, d.apart) in
      let forward = edge_back_no n s.mask w.placed d.outward in
      let fits = d.fits in
      let few_first = d.few_first in
      let few_second = d.few_second in
      grind (arith, nat_tests)
