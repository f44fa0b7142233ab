-- A result is read as what is told of it.
use Rattle.std.proofs.Common.{◌≡◌, ℕ, List, [], ◌∷◌, IfOk, Result, Ok, Err, refl, ap, ◌∙◌, sym}
use Rattle.refusals.specs.declared.Refusal.{Refusal}
use Rattle.refusals.specs.Told.{told, outcome}
use Rattle.refusals.proofs.Tellings.{told_something}
use Rattle.controller.specs.Told.{number_told, number_of, refusal_told}
use Rattle.controller.specs.declared.answers.NumberRecord.{NumberRecord}

refused : (v : ℕ) (ts : List ℕ) → (ts ≡ [] → ⊥) → number_told ts v ≡ record { refusal = refusal_told ts; value = 0 }
refused v [] h = absurd (h refl)
refused v (x ∷ ts) h = refl

pub numbered : (r : Result ℕ Refusal) (ts : List ℕ) (v : ℕ) → outcome r ≡ ts → IfOk r (λ x. x ≡ v) → number_of r ≡ number_told ts v
numbered (Ok x) ts v told_so same = ap (number_told []) same ∙ ap (λ us. number_told us v) told_so
numbered (Err e) ts v told_so same = sym (refused v (told e) (told_something e)) ∙ ap (λ us. number_told us v) told_so
