-- When each change is refused or granted, and that what it leads to keeps the rules of a sheet.
use Rattle.std.proofs.Common.{◌≡◌, ℕ, ◌+◌, ◌<◌, ◌≤◌, true, false, eqb, List, [], ◌∷◌, ◌++◌, length, get_or, map, take, set, sym, ap, ◌∙◌, subst, inl, inr, arith, length-set}
use Rattle.refusals.specs.declared.Refusal.TheVariants.{AboveLimit, SheetFull, EdgeExists}
use Rattle.refusals.specs.Told.{told}
use Rattle.sets.specs.Sets.{has, In, including}
use Rattle.sets.proofs.Sets.{has_none, has_including}
use Rattle.std.proofs.lemmas.List.{get_or-set_same, get_or-set_other, get_or_past, length_push, get_or_append_left, get_or_push, set_past}
use Rattle.std.proofs.lemmas.Bool.Decides.{nat_tests}
use Rattle.std.proofs.lemmas.Bool.{or_cases, eqb-true, both_ways, cases_eq, cases_lt}
use Rattle.sheet.specs.declared.operators.Operator.{Operator}
use Rattle.sheet.specs.declared.nodes.Node.{Node}
use Rattle.sheet.specs.Rules.{most_operators, blank, Within, Modest, Upward}
use Rattle.sheet.specs.Nets.{Net, size, after}
use Rattle.sheet.specs.Nodes.{figures_in, successors_in}
use Rattle.sheet.specs.Changes.{within, add_refusal, join_refusal, retime_refusal}
use Rattle.sheet.proofs.Fronts.{blank_node, front_length, front_at, front_more, front_set}

-- ---- refused or granted

module _ (n : Net) (o : Operator) where
  pub add_full : most_operators ≤ size n → told SheetFull ≡ add_refusal n o
  add_full full = grind (arith, nat_tests)

  pub add_above : size n < most_operators → within o ≡ false → told AboveLimit ≡ add_refusal n o
  add_above room above = grind (arith, nat_tests)

  pub add_granted : size n < most_operators → within o ≡ true → [] ≡ add_refusal n o
  add_granted room fits = grind (arith, nat_tests)

  pub retime_granted : (v : ℕ) → v < size n → within o ≡ true → [] ≡ retime_refusal n v o
  retime_granted v l fits = grind (arith, nat_tests)

module _ (n : Net) (u v : ℕ) (from : u < size n) (to : v < size n) (up : u < v) where
  pub join_there : has (after n u) v ≡ true → told EdgeExists ≡ join_refusal n u v
  join_there there = grind (arith, nat_tests)

  pub join_granted : has (after n u) v ≡ false → [] ≡ join_refusal n u v
  join_granted new = grind (arith, nat_tests)

-- ---- one operator more

-- the test says what the rule says
pub within_means : (o : Operator) → within o ≡ true → Within o
within_means o e = grind (arith, nat_tests)

pub true_within : (o : Operator) → Within o → within o ≡ true
true_within o fits = grind (arith, nat_tests)

pub modest_push : (rows : List Operator) (o : Operator) → Modest rows → Within o → Modest (rows ++ (o ∷ []))
modest_push rows o modest fits v = elim (cases_lt v (length rows)) [
  | inl l ↦ subst Within (sym (get_or_append_left rows (o ∷ []) blank v l)) (modest v)
  | inr l ↦ elim (cases_eq (length rows) v) [
    | inl here ↦ subst Within (sym (get_or_push rows o blank v here)) fits
    | inr past ↦ subst Within (sym (get_or_past (rows ++ (o ∷ [])) v blank (omega (arith, length_push rows o)))) (omega arith, omega arith, omega arith, omega arith)
  ]
]

pub upward_push : (successors : List ℕ) → Upward successors → Upward (successors ++ (0 ∷ []))
upward_push successors upward u v h = elim (cases_lt u (length successors)) [
  | inl l ↦
      let old = upward u v (subst (λ (m : ℕ). In v m) (get_or_append_left successors (0 ∷ []) 0 u l) h) in
      (old.0, omega (arith, old.1, length_push successors 0))
  | inr l ↦ elim (cases_eq (length successors) u) [
    | inl here ↦ absurd (both_ways (has 0 v) (has_none v) (subst (λ (m : ℕ). In v m) (get_or_push successors 0 0 u here) h))
    | inr past ↦ absurd (both_ways (has 0 v) (has_none v) (subst (λ (m : ℕ). In v m) (get_or_past (successors ++ (0 ∷ [])) u 0 (omega (arith, length_push successors 0))) h))
  ]
]

-- the same, where the front of a table grows by x
module _ (nodes : List Node) (n : ℕ) (x : Node) (room : n < length nodes) where
  pub modest_more : Modest (map figures_in (take n nodes)) → within x.figures ≡ true → Modest (map figures_in (take (n + 1) (set nodes n x)))
  modest_more modest fits = subst Modest (sym (front_more figures_in nodes n x room)) (modest_push (map figures_in (take n nodes)) x.figures modest (within_means x.figures fits))

  pub upward_more : Upward (map successors_in (take n nodes)) → x.successors ≡ 0 → Upward (map successors_in (take (n + 1) (set nodes n x)))
  upward_more upward none =
      subst Upward (sym (front_more successors_in nodes n x room ∙ ap (λ (m : ℕ). map successors_in (take n nodes) ++ (m ∷ [])) none)) (upward_push (map successors_in (take n nodes)) upward)

-- ---- one row changed

set_within : (rows : List Operator) (v : ℕ) (o : Operator) → Modest rows → Within o → Modest (set rows v o)
set_within rows v o modest fits w = elim (cases_eq w v) [
  | inl same ↦ elim (cases_lt v (length rows)) [
    | inl l ↦ subst Within (sym (ap (λ (i : ℕ). get_or (set rows v o) i blank) same ∙ get_or-set_same rows v o blank l)) fits
    | inr l ↦ subst Within (ap (λ (xs : List Operator). get_or xs w blank) (sym (set_past rows v o l))) (modest w)
  ]
  | inr other ↦ subst Within (sym (get_or-set_other rows v w o blank other)) (modest w)
]

pub modest_set : (nodes : List Node) (n v : ℕ) (x : Node) → v < n → Modest (map figures_in (take n nodes)) → within x.figures ≡ true → Modest (map figures_in (take n (set nodes v x)))
modest_set nodes n v x l modest fits = subst Modest (sym (front_set figures_in nodes n v x l)) (set_within (map figures_in (take n nodes)) v x.figures modest (within_means x.figures fits))

-- ---- one edge more

upward_with : (successors : List ℕ) (u v : ℕ) → u < v → v < length successors → Upward successors → Upward (set successors u (including (get_or successors u 0) v))
upward_with successors u v up near upward a b h =
    let size = length-set successors u (including (get_or successors u 0) v) in
    elim (cases_eq a u) [
      | inl same ↦
          let here : In b (including (get_or successors u 0) v) = subst (λ (m : ℕ). In b m) (ap (λ (i : ℕ). get_or (set successors u (including (get_or successors u 0) v)) i 0) same ∙ get_or-set_same successors u (including (get_or successors u 0) v) 0 (omega arith)) h in
          elim (or_cases (has (get_or successors u 0) b) (eqb b v) (sym (has_including (get_or successors u 0) v b) ∙ here)) [
            | inl old ↦ let p = upward u b old in (omega (arith, p.0), omega (arith, p.1, size))
            | inr new ↦ let e = eqb-true b v new in (omega arith, omega arith)
          ]
      | inr other ↦
          let p = upward a b (subst (λ (m : ℕ). In b m) (get_or-set_other successors u a (including (get_or successors u 0) v) 0 other) h) in
          (p.0, omega (arith, p.1, size))
    ]

-- in the front of a table, x being the node at u with v among its successors
pub upward_set : (nodes : List Node) (n u v : ℕ) (x : Node) → n ≤ length nodes → u < v → v < n → x.successors ≡ including (successors_in (get_or nodes u blank_node)) v → Upward (map successors_in (take n nodes))
    → Upward (map successors_in (take n (set nodes u x)))
upward_set nodes n u v x room up near is upward =
    let masks = map successors_in (take n nodes) in
    let here : get_or masks u 0 ≡ successors_in (get_or nodes u blank_node) = front_at successors_in nodes n u blank_node 0 room (omega arith) in
    let with-edge = upward_with masks u v up (omega (arith, front_length successors_in nodes n room)) upward in
    subst Upward (ap (λ (m : ℕ). set masks u m) (ap (λ (m : ℕ). including m v) here ∙ sym is) ∙ sym (front_set successors_in nodes n u x (omega arith))) with-edge
