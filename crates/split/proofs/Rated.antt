-- What a list of stages rates, stage by stage.
use Rattle.std.proofs.Common.{◌≡◌, ℕ, suc, ◌<◌, true, List, [], ◌∷◌, length, is_some, Some, Option, refl, ap, ◌∙◌, arith, rules}
use Rattle.sheet.specs.Nets.{Net}
use Rattle.device.specs.Loads.{PlainLoad}
use Rattle.scale.specs.Rules.{Rules}
use Rattle.split.specs.declared.stages.Stage.{Stage}
use Rattle.split.specs.Splits.{Kinds, asked, stage_at, rate_from}

pub some_value : {A : Type 0} (o : Option A) → is_some o ≡ true → (x : A) × (o ≡ Some x)
some_value o h = search rules

pub rate_step : {R : Type 0} (n : Net) (e : Kinds) (s : Rules R) (r : R) (p : Stage) (ss : List Stage) (x : PlainLoad) → asked n e p.kind p.mask ≡ Some x
    → rate_from n e s r (p ∷ ss) ≡ rate_from n e s (s.joined r x) ss
rate_step n e s r p ss x h = search rules

-- a list of stages that each fit has a rating
pub lawful_rated : {R : Type 0} (n : Net) (e : Kinds) (s : Rules R) (r : R) (ss : List Stage)
    → ((i : ℕ) → i < length ss → is_some (asked n e (stage_at ss i).kind (stage_at ss i).mask) ≡ true) → is_some (rate_from n e s r ss) ≡ true
lawful_rated n e s r [] h = refl
lawful_rated n e s r (p ∷ ss) h =
    let load = some_value (asked n e p.kind p.mask) (h 0 (omega arith)) in
    ap is_some (rate_step n e s r p ss load.0 load.1) ∙ lawful_rated n e s (s.joined r load.0) ss (λ i l. h (suc i) (omega arith))
