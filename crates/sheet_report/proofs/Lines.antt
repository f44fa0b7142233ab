-- The lines of a report are the texts of their pieces.
use Rattle.std.proofs.Common.{◌≡◌, ℕ, ◌+◌, List, [], ◌++◌, refl, decimal, sym, ap, ◌∙◌, append_assoc, add-one, codes, Some, Option, IfSome, Ok, Err, Result, IfOk}
use Rattle.std.specs.Fmt.{◌++?◌}
use Rattle.std.proofs.lemmas.List.{flat_map_more}
use Rattle.std.specs.List.{flat_map}
use Rattle.sets.specs.Sets.{full, members, upto}
use Rattle.sheet.specs.declared.operators.Operator.{Operator}
use Rattle.sheet.specs.Nets.{Net, size, row, after, before}
use Rattle.sheet.specs.Figures.{Sums, figures_of}
use Rattle.device.specs.Loads.{accelerated, processed}
use Rattle.scale.specs.Rules.{Rules}
use Rattle.split.specs.declared.stages.Stage.{Stage}
use Rattle.split.specs.Splits.{Kinds}
use Rattle.recurrence.specs.Planned.{best_of, split_of}
use Rattle.scale.specs.Scales.{peak, line, pair}
use Rattle.scale.specs.Spelled.{spelled_pair}
use Rattle.sheet_report.specs.Plans.{stages_text, split_text, least_line, devices, counted_lines, plan_lines, Counted, Spells}
use Rattle.sheet_report.specs.Report.{row_figures, neighbours, row_line, stage_line, load_line, accelerator_head, processor_line, stage_lines, network_lines}

-- the line of an operator, by its figures and its neighbours
pub row_same : (n : Net) (v : ℕ) (o : Operator) (p s : ℕ) → o ≡ row n v → p ≡ before n v → s ≡ after n v
    → (decimal v ++ row_figures o) ++ neighbours (members p) (members s) ≡ row_line n v
row_same n v o p s is sources targets =
    append_assoc (decimal v) (row_figures o) (neighbours (members p) (members s))
    ∙ ap (λ (x : Operator). decimal v ++ (row_figures x ++ neighbours (members p) (members s))) is
    ∙ ap (λ (m : ℕ). decimal v ++ (row_figures (row n v) ++ neighbours (members m) (members s))) sources
    ∙ ap (λ (m : ℕ). decimal v ++ (row_figures (row n v) ++ neighbours (members (before n v)) (members m))) targets

-- a text for each of the numbers below v
module _ (f : ℕ → List ℕ) where
  pub below_none : flat_map f (upto 0) ≡ []
  unfolding upto
  below_none = refl

  pub below_next : (v : ℕ) → flat_map f (upto (v + 1)) ≡ flat_map f (upto v) ++ f v
  unfolding upto
  below_next v = rw add-one (sym (flat_map_more f [] (upto v) v))

regrouped : (a b c d e : List ℕ) → a ++ (b ++ (c ++ (d ++ e))) ≡ ((a ++ (b ++ c)) ++ d) ++ e
regrouped a b c d e = simp append_assoc

-- the lines of the network are those of its stage: `m` is the limit, and `s` the figures of the set `all`
pub network_same : (M m : ℕ) (n : Net) (all : ℕ) (s : Sums) → m ≡ M → all ≡ full (size n) → s ≡ figures_of n all
    → stage_line s ++ (codes "accelerator " ++ (decimal m ++ (codes ": " ++ (load_line (accelerated M s) ++ (codes "processor: " ++ load_line (processed s)))))) ≡ network_lines M n
network_same M m n all s limit whole is =
    ap (λ (l : List ℕ). stage_line s ++ l) (regrouped (codes "accelerator ") (decimal m) (codes ": ") (load_line (accelerated M s)) (processor_line s))
    ∙ ap (λ (x : ℕ). stage_line s ++ ((accelerator_head x ++ load_line (accelerated M s)) ++ processor_line s)) limit
    ∙ ap (stage_lines M) (is ∙ ap (figures_of n) whole)

-- the line of a scale is the text of its pieces
module _ {R : Type 0} (output : R → Option (List ℕ)) (name : List ℕ) (n : Net) (e : Kinds) (s : Rules R) (r : R) (ss : List Stage) (best : best_of n e s ≡ Some r) (are : ss ≡ split_of n e s) where
  pub least_same : (t : List ℕ)
      → IfSome (Some (codes "least ") ++? Some name ++? Some (codes " ") ++? output r ++? Some (codes ": ") ++? Some (stages_text ss) ++? Some (codes "\n")) (λ bs. t ≡ bs)
      → (spell : R → List ℕ) → Spells output spell → t ≡ least_line name spell n e s
  least_same t is spell spelled =
      let told : t ≡ codes "least " ++ (name ++ (codes " " ++ (spell r ++ (codes ": " ++ (stages_text ss ++ codes "\n"))))) = rw (spelled r) at is in
      told
      ∙ ap (λ (xs : List ℕ). codes "least " ++ (name ++ (codes " " ++ xs))) (sym (append_assoc (spell r) (codes ": " ++ stages_text ss) (codes "\n")))
      ∙ ap (λ (zs : List Stage). codes "least " ++ (name ++ (codes " " ++ (split_text spell (Some r) zs ++ codes "\n")))) are
      ∙ ap (λ (o : Option R). codes "least " ++ (name ++ (codes " " ++ (split_text spell o (split_of n e s) ++ codes "\n")))) (sym best)

  pub least_told : {X E : Type 0} (text : X → List ℕ) (x : Result X E)
      → IfOk x (λ t. IfSome (Some (codes "least ") ++? Some name ++? Some (codes " ") ++? output r ++? Some (codes ": ") ++? Some (stages_text ss) ++? Some (codes "\n")) (λ bs. text t ≡ bs))
      → IfOk x (λ t. (spell : R → List ℕ) → Spells output spell → text t ≡ least_line name spell n e s)
  least_told text (Ok t) is = least_same (text t) is
  least_told text (Err x) is = tt

-- the lines of the least splits are those of the three scales, after how many ideals there are
pub plan_same : (M : ℕ) (n : Net) (c : ℕ) (p l q : List ℕ) → Counted n c → p ≡ least_line (codes "peak") decimal n (devices M) peak → l ≡ least_line (codes "line") decimal n (devices M) line
    → q ≡ least_line (codes "pair") spelled_pair n (devices M) pair → codes "ideals " ++ (decimal c ++ (codes "\n" ++ (p ++ (l ++ q)))) ≡ plan_lines M n
plan_same M n c p l q counted first second third =
    let told : codes "ideals " ++ (decimal c ++ (codes "\n" ++ (p ++ (l ++ q)))) ≡ counted_lines M n (Some c) = rw (first, second, third) refl in
    told ∙ ap (counted_lines M n) counted
