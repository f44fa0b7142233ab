-- The graph of a sheet is drawn by what is found for it, or by what is refused.
use Rattle.std.proofs.Common.{◌≡◌, ℕ, List, [], ◌∷◌, ◌++◌, length, codes, Some, Ok, Err, Result, IfOk, refl, sym, ap, ◌∙◌, subst}
use Rattle.refusals.specs.declared.Refusal.{Refusal}
use Rattle.refusals.specs.Told.{told, outcome}
use Rattle.refusals.proofs.Tellings.{told_something}
use Rattle.sheet.specs.Nets.{Net}
use Rattle.split.specs.declared.stages.Stage.{Stage}
use Rattle.split.specs.Splits.{Kinds, Least}
use Rattle.scale.specs.Scales.{peak}
use Rattle.ideals.specs.Ideals.{ideals}
use Rattle.cells.specs.declared.choices.Choice.{Choice}
use Rattle.recurrence.specs.Planned.{best_of, split_of}
use Rattle.best_split.specs.declared.finds.Found.{Found}
use Rattle.best_split.specs.Finds.{Finds}
use Rattle.best_split.specs.Views.{stages_of}
use Rattle.page_report.specs.SplitPages.{devices, planning, found}
use Rattle.sheet_text.specs.Causes.{refused_text}
use Rattle.sheet_graph.specs.Graphs.{node_lines, arrows, head, drawn, graph_of, DrawnLeast}

told_drawn : (n : Net) (ts : List ℕ) (ss : List Stage) → (ts ≡ [] → ⊥)
    → head ++ (codes "label=\"" ++ (refused_text ts ++ (codes "\";\n" ++ (node_lines n ++ (arrows n ++ codes "}\n"))))) ≡ drawn n ts ss
told_drawn n [] ss some = absurd (some refl)
told_drawn n (x ∷ xs) ss some = refl

pub drawn_refused : (n : Net) (e : Refusal) (ss : List Stage)
    → head ++ (codes "label=\"" ++ (refused_text (told e) ++ (codes "\";\n" ++ (node_lines n ++ (arrows n ++ codes "}\n"))))) ≡ drawn n (told e) ss
drawn_refused n e ss = told_drawn n (told e) ss (told_something e)

module _ (n : Net) (e : Kinds) (same : e ≡ devices) {ms ms' rs rs' : List ℕ} {cs cs' : List Choice} (r : Result (Found ℕ) Refusal) (finds : Finds n e peak ms ms' rs cs rs' cs' r) (sizes : (length ms ≡ 512) × (length rs ≡ 4096) × (length cs ≡ 4096)) where
  told_so : outcome r ≡ planning n
  told_so = finds.refuses ∙ rw (same, sizes.0, sizes.1, sizes.2) refl

  -- with the split that is found
  pub as_found : (f : Found ℕ) → r ≡ Ok f → drawn n [] (stages_of f.split) ≡ graph_of n
  as_found f is =
      let granted : [] ≡ planning n = sym (ap outcome is) ∙ told_so in
      let answered = subst (λ (q : Result (Found ℕ) Refusal). IfOk q (λ g. (best_of n e peak ≡ Some g.rating) × (stages_of g.split ≡ split_of n e peak) × (g.ideals ≡ length (ideals n)))) is finds.answers in
      let stages : stages_of f.split ≡ found n = answered.1 ∙ ap (λ d. split_of n d peak) same in
      ap (drawn n []) stages ∙ ap (λ ts. drawn n ts (found n)) granted

  -- with what is refused
  pub as_refused : (x : Refusal) → r ≡ Err x → {X E : Type 0} (text : X → List ℕ) (q : Result X E) → IfOk q (λ t. (ss : List Stage) → text t ≡ drawn n (told x) ss) → IfOk q (λ t. text t ≡ graph_of n)
  as_refused x is text (Ok t) drawn_so = drawn_so (found n) ∙ ap (λ ts. drawn n ts (found n)) (sym (ap outcome is) ∙ told_so)
  as_refused x is text (Err y) drawn_so = tt

  pub drawn_least : DrawnLeast n
  drawn_least granted = least_of r finds.answers finds.least (told_so ∙ granted)
    where
      least_of : (q : Result (Found ℕ) Refusal) → IfOk q (λ g. (best_of n e peak ≡ Some g.rating) × (stages_of g.split ≡ split_of n e peak) × (g.ideals ≡ length (ideals n)))
          → IfOk q (λ g. Least n e peak (stages_of g.split) g.rating) → outcome q ≡ [] → (x : ℕ) × Least n devices peak (found n) x
      least_of (Err x) answered least none = absurd (told_something x none)
      least_of (Ok g) answered least none =
          let stages : stages_of g.split ≡ found n = answered.1 ∙ ap (λ d. split_of n d peak) same in
          (g.rating, subst (λ d. Least n d peak (found n) g.rating) same (subst (λ ss. Least n e peak ss g.rating) stages least))
