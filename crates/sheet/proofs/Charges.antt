-- Sums over sets of operators, and how large they can be.
use Rattle.std.proofs.Common.{◌≡◌, ℕ, zero, suc, ◌+◌, ◌^◌, ◌<◌, ◌≤◌, Bool, not, ◌&&◌, ltb, List, [], ◌∷◌, length, get_or, map, take, sum_by, filter, Bor, Option, None, Some, MatchOption, sym, refl, ap, ◌∙◌, inl, inr, arith}
use Rattle.std.specs.Option.{option_map_or}
use Rattle.std.specs.List.{AllByRecursion}
use Rattle.std.proofs.Math.Bool.{and_comm}
use Rattle.std.proofs.Math.Seq.{take-suc}
use Rattle.std.proofs.lemmas.List.Sums.{sum_by_push}
use Rattle.std.proofs.ByRecursion.{sum_by_le}
use Rattle.std.proofs.lemmas.List.{get_or_past, get_or-map, length-map, take_all}
use Rattle.std.proofs.lemmas.Bool.{and_parts, and_from, not-true, cases_lt, lt-ltb, le-ltb}
use Rattle.sets.specs.Sets.{has, inside, meeting, both, members, full, upto, gathered}
use Rattle.sets.proofs.Sets.{has_and, has_none, has_full, meeting_means, some_outside, outside_some}
use Rattle.sets.proofs.Members.{members_few, members_kept, members_gathered, has_gathered}
use Rattle.sheet.specs.declared.operators.Operator.{Operator}
use Rattle.sheet.specs.declared.operators.Figure.{Figure}
use Rattle.sheet.specs.declared.operators.Figure.TheVariants.{Acc, Cpu, Size, Link}
use Rattle.sheet.specs.Rules.{blank, most_sum, most_figure, Within, Modest}
use Rattle.sheet.specs.declared.nodes.Node.{Node}
use Rattle.sheet.specs.Nodes.{figures_in, successors_in}
use Rattle.sheet.specs.Nets.{Net, size, row, after, before, edges_of}
use Rattle.sheet.specs.Figures.{Sums, figure_of, charged, Charging}
use Rattle.sheet.proofs.Fronts.{blank_node}

-- no operator, no figure
figure_none : (n : Net) (w : Figure) (v : ℕ) → size n ≤ v → 0 ≡ figure_of w (row n v)
figure_none n w v far = sym (ap (figure_of w) (get_or_past n.rows v blank far) ∙ blank_figure w)
  where
    blank_figure : (w : Figure) → figure_of w blank ≡ 0
    blank_figure Acc = refl
    blank_figure Cpu = refl
    blank_figure Size = refl
    blank_figure Link = refl

-- what is read of a row, and 0 where there is none
pub figure_read : (n : Net) (w : Figure) (v : ℕ) (r : Option (Bor Operator)) → MatchOption r (size n ≤ v) (λ o. (v < size n) × (o.now ≡ row n v)) → option_map_or (λ o. figure_of w o.now) r 0 ≡ figure_of w (row n v)
figure_read n w v None h = figure_none n w v h
figure_read n w v (Some o) h = ap (figure_of w) h.1

figure_le : (w : Figure) (o : Operator) → Within o → figure_of w o ≤ most_figure
figure_le Acc o h = h.0
figure_le Cpu o h = h.1
figure_le Size o h = h.2
figure_le Link o h = h.3

all_of : {X : Type 0} (P : X → Type 0) → ((x : X) → P x) → (xs : List X) → AllByRecursion P xs
all_of P each [] = tt
all_of P each (x ∷ xs) = (each x, all_of P each xs)

-- the sum of a figure over a set
module _ (n : Net) (w : Figure) where
  pub sum_le : (m : ℕ) → Modest n.rows → sum_by (λ v. figure_of w (row n v)) (members m) ≤ most_sum
  sum_le m modest =
      let each = all_of (λ v. figure_of w (row n v) ≤ most_figure) (λ v. figure_le w (row n v) (modest v)) (members m) in
      omega (arith, sum_by_le (λ v. figure_of w (row n v)) most_figure (members m) each, members_few m)

-- ---- the sets that a stage's sums go over

-- the operators of a mask
pub members_inside : (m all set n : ℕ) → n ≤ 64 → all ≡ full n → set ≡ both m all → members set ≡ filter (has m) (upto n)
members_inside m all set n few is common =
    members_kept (has m) n set few
    (λ v. ap (λ (x : ℕ). has x v) common ∙ has_and m all v ∙ ap (λ (b : Bool). has m v && b) (ap (λ (x : ℕ). has x v) is ∙ has_full n v) ∙ and_comm (has m v) (ltb v n))

pub members_tested : (p : ℕ → Bool) (set n : ℕ) → n ≤ 64 → set ≡ gathered p n → members set ≡ filter p (upto n)
members_tested p set n few is = ap members is ∙ members_gathered p n few

pub charged_is : (n : Net) (w : Figure) (p : ℕ → Bool) (set r : ℕ) → members set ≡ filter p (upto (size n)) → r ≡ sum_by (λ v. figure_of w (row n v)) (members set) → r ≡ charged n w p
charged_is n w p set r is sum = sum ∙ ap (sum_by (λ v. figure_of w (row n v))) is

pub same_sums : (m : ℕ) {a a' b b' c c' d d' e e' : ℕ} → a ≡ a' → b ≡ b' → c ≡ c' → d ≡ d' → e ≡ e'
    → ◌≡◌ {A = Sums} (record { mask = m; acc = a; cpu = b; size = c; incoming = d; outgoing = e }) (record { mask = m; acc = a'; cpu = b'; size = c'; incoming = d'; outgoing = e' })
same_sums m p q r s t = cc

-- ---- what the tests say of edges

pub charging : (n : Net) (m : ℕ) → Charging n m
charging n m u = (
  (
    λ e. let p = and_parts (not (has m u)) (meeting (after n u) m) e in (not-true (has m u) p.0, (meeting_means (after n u) m).0 p.1),
    λ h. and_from (not (has m u)) (meeting (after n u) m) (ap not h.0) ((meeting_means (after n u) m).1 h.1),
  ),
  (
    λ e. let p = and_parts (has m u) (not (inside (after n u) m)) e in (p.0, some_outside (after n u) m (not-true (inside (after n u) m) p.1)),
    λ h. and_from (has m u) (not (inside (after n u) m)) h.0 (ap not (outside_some (after n u) m h.1.0 h.1.1.0 h.1.1.1)),
  ),
)

-- ---- the operators before one

-- no edge leads from a number without operator
pub before_means : (n : Net) (v u : ℕ) → length n.successors ≤ size n → has (before n v) u ≡ has (after n u) v
before_means n v u masks = has_gathered (λ x. has (after n x) v) (size n) u ∙ elim (cases_lt u (size n)) [
  | inl near ↦ ap (λ (b : Bool). b && has (after n u) v) (lt-ltb u (size n) near)
  | inr far ↦ ap (λ (b : Bool). b && has (after n u) v) (le-ltb u (size n) far) ∙ sym (ap (λ (m : ℕ). has m v) (get_or_past n.successors u 0 (omega arith)) ∙ has_none v)
]

-- ---- the edges

-- a sum over the first of the numbers, and over the items that stand there
sum_front : {X : Type 0} (g : ℕ → ℕ) (f : X → ℕ) (xs : List X) (d : X) → ((u : ℕ) → u < length xs → g u ≡ f (get_or xs u d)) → (n : ℕ) → n ≤ length xs → sum_by g (upto n) ≡ sum_by f (take n xs)
unfolding upto
sum_front g f xs d same zero room = refl
sum_front g f xs d same (suc n) room =
    let near : n < length xs = omega arith in
    sum_by_push g (upto n) n ∙ ap (λ (k : ℕ). k + g n) (sum_front g f xs d same n (omega arith)) ∙ ap (λ (k : ℕ). sum_by f (take n xs) + k) (same n near)
    ∙ sym (ap (sum_by f) (take-suc xs n d near) ∙ sum_by_push f (take n xs) (get_or xs n d))

abbrev pub edges_from : Node → ℕ
edges_from o = length (members (successors_in o))

pub edges_few : (nodes : List Node) → length nodes ≤ 64 → sum_by edges_from nodes < 2 ^ 64
edges_few nodes few = omega (arith, sum_by_le edges_from 64 nodes (all_of (λ o. edges_from o ≤ 64) (λ o. members_few (successors_in o)) nodes))

pub edges_is : (n : Net) (nodes : List Node) → map figures_in nodes ≡ n.rows → map successors_in nodes ≡ n.successors → sum_by edges_from nodes ≡ edges_of n
edges_is n nodes rows masks =
    let same : size n ≡ length nodes = sym (ap length rows) ∙ length-map nodes figures_in in
    let at : (u : ℕ) → u < length nodes → length (members (after n u)) ≡ edges_from (get_or nodes u blank_node) = λ u near.
    ap (λ (ms : List ℕ). length (members (get_or ms u 0))) (sym masks) ∙ ap (λ (m : ℕ). length (members m)) (get_or-map successors_in nodes u blank_node 0 near) in
    sym (ap (λ (k : ℕ). sum_by (λ u. length (members (after n u))) (upto k)) same
    ∙ sum_front (λ u. length (members (after n u))) edges_from nodes blank_node at (length nodes) (omega arith)
    ∙ ap (sum_by edges_from) (take_all (length nodes) nodes (omega arith)))
