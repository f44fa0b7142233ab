-- From the three bodies to the sheet, and from the file to what loading it promises.
use Rattle.std.proofs.Common.{◌≡◌, ℕ, ◌≤◌, List, [], length, get_or, IfOk, Ok, Err, Result, sym, ap, ◌∙◌, subst, arith}
use Rattle.std.proofs.lemmas.Bool.{both_ways}
use Rattle.refusals.specs.declared.Refusal.{Refusal}
use Rattle.refusals.specs.Told.{told, outcome}
use Rattle.sets.specs.Sets.{In, has}
use Rattle.sets.proofs.Sets.{has_none}
use Rattle.sheet.specs.declared.sheets.Sheet.{Sheet}
use Rattle.sheet.specs.Nets.{Net, size, Edge, empty}
use Rattle.sheet.specs.Changes.{first, counted}
use Rattle.sheet.specs.Views.{net}
use Rattle.sheet_layout.specs.Contents.{body, contents_refusal}
use Rattle.sheet_layout.specs.Bodies.{first_wrong, row_refusal, edge_refusal, counts_refusal, rows_in, edges_in, with_rows, with_edges, bodies_refusal, net_of_bodies, net_of, file_refusal}
use Rattle.sheet_layout.specs.Layout.{LaidOut}
use Rattle.sheet_file.specs.Reads.{Reads}
use Rattle.refusals.proofs.Tellings.{told_something}
use Rattle.sheet_layout.proofs.Edges.{with_rows_size, with_rows_after}
use Rattle.sheet_layout.proofs.Heads.{contents_right}
use Rattle.sheet_layout.proofs.Places.{body_length}
use Rattle.sheet_layout.proofs.Accepted.{good_laid_out, laid_out_good}
use Rattle.sheet_layout.proofs.Unique.{laid_out_unique}
use Rattle.sheet_file.proofs.Loading.{first_told}

-- ---- the bodies

module _ (operators edges counts : List ℕ) where
  rows : Net
  rows = with_rows operators (rows_in operators) empty

  -- added rows bring no edge
  pub rows_bare : (n : Net) → n ≡ with_rows operators (rows_in operators) empty → (u v : ℕ) → Edge n u v → ⊥
  rows_bare n is u v h =
      both_ways (has 0 v) (has_none v) (subst (λ (m : ℕ). In v m) (with_rows_after operators (rows_in operators) empty u) (subst (λ (x : Net). Edge x u v) is h))

  rows_size : (n : Net) → n ≡ with_rows operators (rows_in operators) empty → size n ≡ rows_in operators
  rows_size n is = ap size is ∙ with_rows_size operators (rows_in operators) empty ∙ omega arith

  -- the rows are right and the edges are not
  pub edges_told : (n : Net) (e : Refusal) → [] ≡ first_wrong (row_refusal operators) (rows_in operators) → n ≡ with_rows operators (rows_in operators) empty
      → told e ≡ first_wrong (edge_refusal (size n) edges) (edges_in edges) → told e ≡ bodies_refusal operators edges counts
  edges_told n e right is wrong =
      sym (ap (λ (r : List ℕ). first r (first (first_wrong (edge_refusal (rows_in operators) edges) (edges_in edges)) (counts_refusal counts))) (sym right)
      ∙ first_told e (first_wrong (edge_refusal (rows_in operators) edges) (edges_in edges)) (counts_refusal counts)
      (ap (λ (k : ℕ). first_wrong (edge_refusal k edges) (edges_in edges)) (sym (rows_size n is)) ∙ sym wrong))

  -- rows and edges are right, and r is told of the counts
  pub counts_told : (n : Net) (r : List ℕ) → [] ≡ first_wrong (row_refusal operators) (rows_in operators) → n ≡ with_rows operators (rows_in operators) empty
      → [] ≡ first_wrong (edge_refusal (size n) edges) (edges_in edges) → r ≡ counts_refusal counts → r ≡ bodies_refusal operators edges counts
  counts_told n r right is paired told_so =
      sym (ap (λ (s : List ℕ). first s (first (first_wrong (edge_refusal (rows_in operators) edges) (edges_in edges)) (counts_refusal counts))) (sym right)
      ∙ ap (λ (s : List ℕ). first s (counts_refusal counts)) (ap (λ (k : ℕ). first_wrong (edge_refusal k edges) (edges_in edges)) (sym (rows_size n is)) ∙ sym paired)
      ∙ sym told_so)

  pub net_built : (n m l : Net) → n ≡ with_rows operators (rows_in operators) empty → m ≡ with_edges edges (edges_in edges) n → l ≡ counted m (get_or counts 0 0) (get_or counts 1 0) → l ≡ net_of_bodies operators edges counts
  net_built n m l a b c =
      c ∙ ap (λ (x : Net). counted x (get_or counts 0 0) (get_or counts 1 0)) (b ∙ ap (with_edges edges (edges_in edges)) a)

-- ---- the file

-- how long the bodies of right contents are
pub body_sizes : (f : List ℕ) → [] ≡ contents_refusal f → (length (body f 0) ≤ 1024) × (length (body f 2) ≡ 2)
body_sizes f right =
    let h = contents_right f (sym right) in
    let a = body_length f 0 (omega (arith, h.ends)) in
    let b = body_length f 2 (omega (arith, h.ends)) in
    (omega (arith, a, h.operators.most), omega (arith, b, h.counts.least, h.counts.most))

pub reads_refused : (f : List ℕ) (e : Refusal) → told e ≡ file_refusal f → Reads f (Err e)
reads_refused f e is = record {
  refuses = is;
  says = tt;
  accepts = λ n laid. told_something e (is ∙ laid_out_good f n laid);
}

reads_made : (f : List ℕ) (s : Sheet) → [] ≡ file_refusal f → net s ≡ net_of f → Reads f (Ok s)
reads_made f s good is =
    let said : LaidOut f (net s) = subst (LaidOut f) (sym is) (good_laid_out f (sym good)) in
    record { refuses = good; says = said; accepts = λ n laid. laid_out_unique f (net s) n said laid }

-- the contents are wrong
pub contents_told : (f : List ℕ) (e : Refusal) → told e ≡ contents_refusal f → told e ≡ file_refusal f
contents_told f e wrong = sym (first_told e (contents_refusal f) (bodies_refusal (body f 0) (body f 1) (body f 2)) (sym wrong))

-- the contents are right, and r is what the bodies give
pub reads_bodies : (f operators edges counts : List ℕ) (r : Result Sheet Refusal) → [] ≡ contents_refusal f → operators ≡ body f 0 → edges ≡ body f 1 → counts ≡ body f 2
    → outcome r ≡ bodies_refusal operators edges counts → IfOk r (λ s. net s ≡ net_of_bodies operators edges counts) → Reads f r
reads_bodies f operators edges counts r right a b c told_so built = go r (told_so ∙ same) (subst (λ (n : Net). IfOk r (λ s. net s ≡ n)) nets built)
  where
    nets : net_of_bodies operators edges counts ≡ net_of f
    nets = ap (λ (x : List ℕ). net_of_bodies x edges counts) a ∙ ap (λ (x : List ℕ). net_of_bodies (body f 0) x counts) b ∙ ap (net_of_bodies (body f 0) (body f 1)) c

    same : bodies_refusal operators edges counts ≡ file_refusal f
    same =
        ap (λ (x : List ℕ). bodies_refusal x edges counts) a ∙ ap (λ (x : List ℕ). bodies_refusal (body f 0) x counts) b ∙ ap (bodies_refusal (body f 0) (body f 1)) c
        ∙ ap (λ (x : List ℕ). first x (bodies_refusal (body f 0) (body f 1) (body f 2))) right

    go : (r : Result Sheet Refusal) → outcome r ≡ file_refusal f → IfOk r (λ s. net s ≡ net_of f) → Reads f r
    go (Ok s) e m = reads_made f s e m
    go (Err x) e m = reads_refused f x e
