-- One step more of a list of calls.
use Rattle.std.proofs.Common.{◌≡◌, ℕ, zero, suc, ◌+◌, ◌<◌, List, [], ◌∷◌, ◌++◌, length, take, set, reverse, Option, Some, Result, sym, ap, ◌∙◌, subst, arith, refl}
use Rattle.std.specs.List.{All, filter_map, cons_option}
use Rattle.std.specs.Option.{option_map}
use Rattle.std.proofs.lemmas.List.{take_more_set, reverse-append}
use Rattle.std.proofs.lemmas.List.Elements.{filter_map-append, All-append}
use Rattle.refusals.specs.declared.Refusal.{Refusal}
use Rattle.scale.specs.Rules.{Rules}
use Rattle.split.specs.Splits.{Kinds}
use Rattle.planner.specs.declared.calls.Call.{Call}
use Rattle.planner.specs.declared.calls.Granted.{Granted}
use Rattle.planner.specs.declared.calls.Step.{Step}
use Rattle.planner.specs.States.{State}
use Rattle.planner.specs.Law.{event, Holds}
use Rattle.planner.specs.Runs.{handed, event_of, history, Lent, Makes, Ran}

module _ {X : Type 0} (P : X → Type 0) where
  one : (y : X) → P y → All P (y ∷ [])
  one y q zero d h = q
  one y q (suc k) d h = absurd (omega (arith, h))

  pub all_more : (xs : List X) (i : ℕ) (y : X) → i < length xs → P y → All P (take i xs) → All P (take (i + 1) (set xs i y))
  all_more xs i y near q all = subst (All P) (sym (take_more_set xs i y near)) (All-append P (take i xs) (y ∷ []) all (one y q))

module _ {R : Type 0} (a b c : ℕ) (xs : List (Step R)) (i : ℕ) (y : Step R) (r : Result (Granted R) Refusal) where
  pub history_more : i < length xs → y.answer ≡ Some r → history a b c (take (i + 1) (set xs i y)) ≡ event (handed a b c y.call) r ∷ history a b c (take i xs)
  history_more near told =
      ap (history a b c) (take_more_set xs i y near)
      ∙ ap reverse (filter_map-append (event_of a b c) (take i xs) (y ∷ []))
      ∙ reverse-append (filter_map (event_of a b c) (take i xs)) (filter_map (event_of a b c) (y ∷ []))
      ∙ ap (λ (o : Option (Result (Granted R) Refusal)). reverse (cons_option (option_map (event (handed a b c y.call)) o) []) ++ reverse (filter_map (event_of a b c) (take i xs))) told

module _ {K L S R : Type 0} (e e' : Kinds) (s s' : Rules R) (a b c a' b' c' : ℕ) (xs : List (Step R)) (i : ℕ) (y : Step R) (call : Call) (r : Result (Granted R) Refusal) (p : State K L S R) where
  pub holds_more : e' ≡ e → s' ≡ s → a' ≡ a → b' ≡ b → c' ≡ c → i < length xs → y.call ≡ call → y.answer ≡ Some r
      → Holds e s (event (handed a' b' c' call) r ∷ history a b c (take i xs)) p → Holds e' s' (history a b c (take (i + 1) (set xs i y))) p
  holds_more ee ss ae be ce near same told held =
      let h = history a b c (take i xs) in
      let there : Holds e s (event (handed a b c call) r ∷ h) p =
      subst (λ n. Holds e s (event (handed a b n call) r ∷ h) p) ce
      (subst (λ n. Holds e s (event (handed a n c' call) r ∷ h) p) be
      (subst (λ n. Holds e s (event (handed n b' c' call) r ∷ h) p) ae held)) in
      subst (λ u. Holds u s' (history a b c (take (i + 1) (set xs i y))) p) (sym ee)
      (subst (λ u. Holds e u (history a b c (take (i + 1) (set xs i y))) p) (sym ss)
      (subst (λ u. Holds e s u p) (sym (history_more a b c xs i y r near told))
      (subst (λ u. Holds e s (event (handed a b c u) r ∷ h) p) (sym same) there)))

module _ {K L S R : Type 0} (e : Kinds) (s : Rules R) where
  pub ran_more : (xs : List (Step R)) (x : Step R) (r : Result (Granted R) Refusal) (t u t' : Lent R) (p q p' : State K L S R) → Ran e s xs t p u q → x.answer ≡ Some r
      → Makes e s u.ideals t'.ideals u.ratings u.choices t'.ratings t'.choices q p' x.call r → Ran e s (xs ++ (x ∷ [])) t p t' p'
  ran_more [] x r t u t' p q p' ran told made =
      (r, t', p', told, subst (λ v. Makes e s v.ideals t'.ideals v.ratings v.choices t'.ratings t'.choices p p' x.call r) ran.0 (subst (λ v. Makes e s u.ideals t'.ideals u.ratings u.choices t'.ratings t'.choices v p' x.call r) ran.1 made), (refl, refl))
  ran_more (y ∷ ys) x r t u t' p q p' ran told made =
      (ran.0, ran.1, ran.2, ran.3, ran.4, ran_more ys x r ran.1 u t' ran.2 q p' ran.5 told made)
