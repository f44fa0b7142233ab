-- What the lines of a text lead to, by its first lines and the next one.
use Rattle.std.proofs.Common.{◌≡◌, ℕ, suc, ◌+◌, ◌<◌, List, [], ◌∷◌, ◌++◌, length, map, take, drop, get_or, Option, Some, None, Result, Ok, Err, refl, sym, ap, ◌∙◌, arith}
use Rattle.std.specs.List.{enumerate_from}
use Rattle.std.specs.Borrow.{Bor}
use Rattle.std.specs.Iterator.{Yields}
use Rattle.std.proofs.Math.Seq.{drop-cons}
use Rattle.std.proofs.lemmas.Iterator.{YieldsList}
use Rattle.std.proofs.lemmas.Iterator.Consumers.{YieldsList-so_far, YieldsList-turn, YieldsList-end}
use Rattle.std.proofs.lemmas.List.{length-map, take-map, take-append-drop}
use Rattle.std.proofs.lemmas.List.FromFn.{length-enumerate_from, get_or-enumerate_from}
use Rattle.sheet.specs.Nets.{Net}
use Rattle.sheet_text.specs.Reading.{Fault, after_line, after_lines, and_then}

-- lines that are good, and what comes after them
on_then : (i : ℕ) (m : Net) (r : Result Net Fault) (f g : Net → Result Net (ℕ × Fault)) (end : Result Net (ℕ × Fault)) → ((q : Net) → f q ≡ Ok m → g q ≡ end) → and_then i r f ≡ Ok m → and_then i r g ≡ end
on_then i m (Ok q) f g end h good = h q good
on_then i m (Err e) f g end h good = absurd (cc)

pub lines_then : (i : ℕ) (n m : Net) (done rest : List (List ℕ)) → after_lines i n done ≡ Ok m → after_lines i n (done ++ rest) ≡ after_lines (i + length done) m rest
unfolding after_lines
lines_then i n m [] rest good = let same : n ≡ m = cc in rw same (let none : i ≡ i + 0 = omega arith in ap (λ k. after_lines k m rest) none)
lines_then i n m (line ∷ done) rest good =
    on_then i m (after_line n line) (λ q. after_lines (i + 1) q done) (λ q. after_lines (i + 1) q (done ++ rest)) (after_lines (i + suc (length done)) m rest)
    (λ q good_q. lines_then (i + 1) q m done rest good_q ∙ (let next : i + 1 + length done ≡ i + suc (length done) = omega arith in ap (λ k. after_lines k m rest) next)) good

module _ (n m : Net) (done : List (List ℕ)) (line : List ℕ) (good : after_lines 1 n done ≡ Ok m) where
  pub line_good : (p : Net) → after_line m line ≡ Ok p → after_lines 1 n (done ++ (line ∷ [])) ≡ Ok p
  unfolding after_lines
  line_good p next = lines_then 1 n m done (line ∷ []) good ∙ ap (λ r. and_then (1 + length done) r (λ q. Ok q)) next

  pub line_bad : (ls rest : List (List ℕ)) → ls ≡ done ++ (line ∷ rest) → (f : Fault) → after_line m line ≡ Err f → after_lines 1 n ls ≡ Err (length done + 1, f)
  unfolding after_lines
  line_bad ls rest split f next =
      ap (after_lines 1 n) split ∙ lines_then 1 n m done (line ∷ rest) good
      ∙ ap (λ r. and_then (1 + length done) r (λ q. after_lines (1 + length done + 1) q rest)) next
      ∙ (let same : 1 + length done ≡ length done + 1 = omega arith in ap (λ k. Err (k, f)) same)

-- what a numbered walk over lines has given so far, and gives next
numbers_off : (i : ℕ) (ls : List (List ℕ)) → map (λ p. p.1) (enumerate_from i ls) ≡ ls
numbers_off i [] = refl
numbers_off i (line ∷ ls) = ap (λ x. line ∷ x) (numbers_off (i + 1) ls)

abbrev seen : ℕ × Bor (List ℕ) → ℕ × List ℕ
seen p = (p.0, p.1.now)

lines_seen : (xs : List (ℕ × Bor (List ℕ))) → map (λ p. p.1) (map seen xs) ≡ map (λ p. p.1.now) xs
lines_seen [] = refl
lines_seen (x ∷ xs) = ap (λ ls. x.1.now ∷ ls) (lines_seen xs)

module _ {S : Type 0} {steps : S → Option (ℕ × Bor (List ℕ)) → S → Type 0} {s : S} (ls : List (List ℕ)) (xs : List (ℕ × Bor (List ℕ))) (t : S) (y : Yields steps s xs t) (r : Option (ℕ × Bor (List ℕ))) (u : S) (step : steps t r u) where
  module _ (x : ℕ × Bor (List ℕ)) (is : r ≡ Some x) (road : YieldsList steps seen s (enumerate_from 0 ls)) where
    here : (length xs < length ls) × (seen x ≡ (length xs, get_or ls (length xs) x.1.now))
    here =
        let turn = YieldsList-turn road xs t y r u x is step in
        let within : length xs < length ls = omega (arith, turn.0, length-enumerate_from 0 ls) in
        (within, turn.1 ∙ get_or-enumerate_from 0 ls (length xs) (seen x) within ∙ (let none : 0 + length xs ≡ length xs = omega arith in ap (λ i. (i, get_or ls (length xs) x.1.now)) none))

    -- the lines so far, the next one, and those after it; its number is how many came before
    pub next_line : (ls ≡ map (λ p. p.1.now) xs ++ (x.1.now ∷ drop (suc (length xs)) ls)) × (x.0 ≡ length (map (λ p. p.1.now) xs))
    next_line =
        let k = length xs in
        let front : map (λ p. p.1.now) xs ≡ take k ls = sym (lines_seen xs) ∙ ap (map (λ p. p.1)) (YieldsList-so_far road xs t y) ∙ sym (take-map (λ p. p.1) k (enumerate_from 0 ls)) ∙ ap (take k) (numbers_off 0 ls) in
        let rest : drop k ls ≡ x.1.now ∷ drop (suc k) ls = drop-cons ls k x.1.now here.0 ∙ ap (λ (p : ℕ × List ℕ). p.1 ∷ drop (suc k) ls) (sym here.1) in
        (sym (take-append-drop k ls) ∙ rw (front, rest) refl, ap (λ (p : ℕ × List ℕ). p.0) here.1 ∙ sym (length-map xs (λ p. p.1.now)))

  pub all_lines : r ≡ None → YieldsList steps seen s (enumerate_from 0 ls) → map (λ p. p.1.now) xs ≡ ls
  all_lines is road = sym (lines_seen xs) ∙ ap (map (λ p. p.1)) (YieldsList-end road xs t y r u is step).0 ∙ numbers_off 0 ls
