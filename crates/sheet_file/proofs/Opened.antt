-- When the contents are right, and the parts that a reader holds.
use Rattle.std.proofs.Common.{◌≡◌, ℕ, ◌+◌, ◌-◌, true, List, [], take, drop, refl, ap, ◌∙◌, arith}
use Rattle.sheet_layout.specs.Contents.{head_right, entry_right, operators_due, edges_due, counts_due, contents_refusal}

pub contents_granted : (f : List ℕ) → head_right f ≡ true → entry_right f 0 operators_due ≡ true → entry_right f 1 edges_due ≡ true → entry_right f 2 counts_due ≡ true → [] ≡ contents_refusal f
contents_granted f head operators edges counts = rw (head, operators, edges, counts) refl

-- `&f[a..e]`, where the part is due at s with n bytes
pub part_is : (f : List ℕ) (a e s n : ℕ) → a ≡ s → e ≡ a + n → take (e - a) (drop a f) ≡ take n (drop s f)
part_is f a e s n place ends =
    let len : e - a ≡ n = omega arith in
    ap (λ (k : ℕ). take k (drop a f)) len ∙ ap (λ (k : ℕ). take n (drop k f)) place
