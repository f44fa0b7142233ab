use Rattle.std.proofs.Common.{◌≡◌, ℕ, ◌+◌, ◌-◌, ◌≤◌, ◌&&◌, nat_le, nat_lt, cond, List, [], ◌∷◌, length, get_or, replicate, refl, arith}
use Rattle.std.proofs.lemmas.Grind.{common_steps}
use Rattle.std.specs.List.{FoldsTo}
use borrow.Rule.Slice.PartMut.{put_mid}
use Rattle.scale.specs.Rules.{Rules}
use Rattle.cells.specs.declared.choices.Choice.{Choice}
use Rattle.cells.specs.Cells.{no_choice, cleared, Turns}

-- what calls give that always give v
pub folded : {F X : Type 0} (step : F → X → F → Type 0) (f : F) (v : X) → ((x : X) (g : F) → step f x g → (g ≡ f) × (x ≡ v)) → (xs : List X) (last : F) → FoldsTo step f xs last → xs ≡ replicate (length xs) v
folded step f v same [] last h = refl
folded step f v same (x ∷ xs) last h =
    let now = same x h.0 h.1 in
    let then = folded step f v same xs last (rw now.0 at h.2) in
    cc

-- a list in which the k elements from a on were replaced
get_or-put_mid : {X : Type 0} (a k : ℕ) (xs ys : List X) (i : ℕ) (d : X) → a + k ≤ length xs → length ys ≡ k → get_or (put_mid a k xs ys) i d ≡ cond (nat_le a i && nat_lt i (a + k)) (get_or ys (i - a) d) (get_or xs i d)
get_or-put_mid a k xs ys i d h e = grind (arith, common_steps)

-- two tables in which the n cells from t on were replaced by cleared ones
pub cleared_by : {R : Type 0} (s : Rules R) (t n m : ℕ) (rs rs' : List R) (cs cs' : List Choice) → m ≡ n → t + n ≤ length rs → t + n ≤ length cs → length rs' ≡ n → length cs' ≡ n → rs' ≡ replicate (length rs') s.start → cs' ≡ replicate (length cs') no_choice → Turns s rs cs (put_mid t m rs rs') (put_mid t m cs cs') (cleared s t n)
cleared_by s t n m rs rs' cs cs' same h h' e e' q q' k =
    let p = get_or-put_mid t n rs rs' k s.start h e in
    let p' = get_or-put_mid t n cs cs' k no_choice h' e' in
    rw (same, p, p') (grind (arith, common_steps))
