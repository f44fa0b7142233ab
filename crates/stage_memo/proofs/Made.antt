-- An array that is made by calls of one closure, which they leave as it was.
use Rattle.std.proofs.Common.{◌≡◌, ℕ, zero, suc, ◌+◌, ◌<◌, ◌≤◌, List, get_or, sym, ap, ◌∙◌, subst, inl, inr, arith}
use Rattle.std.proofs.lemmas.Bool.{cases_eq}
use Rattle.std.specs.Array.{IsFromFnResultFrom}
use denote.Param.Members.{Mut, Called}

module _ {F X : Type 0} (g : Mut F (ℕ × Unit {0}) X) (h : ℕ → X) (f : F) (answers : (v : ℕ) (y : X) (q : F) → Called g f (v, tt) y q → (q ≡ f) × (y ≡ h v)) where
  pub made : (ys : List X) (i n : ℕ) (p : F) → p ≡ f → IsFromFnResultFrom g p ys i n → (v : ℕ) (d : X) → i ≤ v → v < i + n → get_or ys v d ≡ h v
  made ys i zero p same calls v d from near = absurd (omega arith)
  made ys i (suc n) p same calls v d from near =
      let a = answers i calls.1 calls.0 (subst (λ (u : F). Called g u (i, tt) calls.1 calls.0) same calls.3) in
      elim (cases_eq v i) [
        | inl e ↦ ap (λ (k : ℕ). get_or ys k d) e ∙ calls.2.1 d ∙ a.1 ∙ ap h (sym e)
        | inr e ↦ made ys (i + 1) n calls.0 a.0 calls.4 v d (omega arith) (omega arith)
      ]
