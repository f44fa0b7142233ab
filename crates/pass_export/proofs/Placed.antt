-- A list whose front is read off another one, element by element, and whose other places stay alike.
use Rattle.std.proofs.Common.{◌≡◌, ℕ, ◌+◌, ◌-◌, ◌<◌, List, [], ◌∷◌, ◌++◌, length, map, take, drop, replicate, set, get_or, sym, ap, ◌∙◌, arith}
use Rattle.std.proofs.lemmas.List.{take_more, take_more_set, map-set, length-map, drop-set-lt, drop-drop, drop-replicate}

pub placed : {A B : Type 0} (f : A → B) (rs : List A) (ss : List B) (i : ℕ) (x : A) → i < length rs → i < length ss → take i (map f rs) ≡ take i ss → f x ≡ get_or ss i (f x) → take (i + 1) (map f (set rs i x)) ≡ take (i + 1) ss
placed f rs ss i x room within front here =
    let fits : i < length (map f rs) = rw length-map room in
    ap (take (i + 1)) (map-set f rs i x)
    ∙ take_more_set (map f rs) i (f x) fits
    ∙ ap (λ t. t ++ f x ∷ []) front
    ∙ ap (λ y. take i ss ++ y ∷ []) here
    ∙ sym (take_more ss i (f x) within)

pub others : {A B : Type 0} (f : A → B) (rs : List A) (n i : ℕ) (x : A) (b : B) → drop i (map f rs) ≡ replicate (n - i) b → drop (i + 1) (map f (set rs i x)) ≡ replicate (n - (i + 1)) b
others f rs n i x b alike =
    ap (drop (i + 1)) (map-set f rs i x)
    ∙ drop-set-lt (i + 1) (map f rs) i (f x) (omega arith)
    ∙ sym (drop-drop 1 i (map f rs))
    ∙ ap (drop 1) alike
    ∙ drop-replicate 1 (n - i) b
    ∙ ap (λ m. replicate m b) (omega arith)
