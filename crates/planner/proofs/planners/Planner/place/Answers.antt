use Rattle.std.proofs.Common.{◌≡◌, ◌<◌, Some, Ok, Err, IfOk, subst, cond, ap, sym, ◌∙◌, rules, tests, lt-ltb, arith}
use Rattle.std.specs.List.{position}
use Rattle.std.specs.Option.{option_map}
use Rattle.std.proofs.lemmas.Iterator.{YieldsList-from_slice}
use Rattle.std.proofs.lemmas.Iterator.Search.{position_from_yields_List}
use Rattle.sets.specs.Sets.{has}
use Rattle.sheet.specs.Nets.{size}
use Rattle.sheet.specs.Views.{net}
use Rattle.best_split.specs.Views.{stages_of}
use Rattle.refusals.specs.declared.Refusal.TheVariants.{NoOperator}
use Rattle.planner.specs.States.{place_of}
use Rattle.planner.specs.Views.{standing_in}
use Rattle.planner.specs.Answers.{place_answer}
use Rattle.std.specs.Option.{ForSome}
use Rattle.std.proofs.lemmas.Option.{same_Some}
use Rattle.split.specs.Splits.{At}
use Rattle.planner.proofs.Places.{position_there, stage_there}
use Rattle.planner.proofs.planners.Planner.place.Goals as goal

pub returns-clause-value : goal.returns-clause-value
returns-clause-value g c =
    let p = c.args.self.now in
    let v = c.args.v in
    let found = c.in_ok-found.field-0.now in
    let ss = stages_of found.split in
    let near : v < size (net p.sheet) = omega (arith, c.if-v-operators.false, c.operators.ensures.value) in
    let at : c.position.result ≡ position (λ st. has st.mask v) ss =
    position_from_yields_List (λ st. has st.mask v) _ _ c.position.result c.position.ensures.ran (YieldsList-from_slice ss (c.iter.ensures.rest ∙ c.stages-stages.ensures)) (λ x b q k. search (rules, tests)) in
    let there : c.position.result ≡ Some (place_of ss v) = at ∙ position_there (λ st. has st.mask v) ss (p.covers found c.in_ok-found.ensures v near) in
    let answered : c.ok_or.result ≡ Ok (place_of ss v) = search (rules, there) in
    answered ∙ sym (ap (λ o. place_answer (net p.sheet) (option_map standing_in o) v) c.in_ok-found.ensures ∙ ap (λ b. cond b (Ok (place_of ss v)) (Err NoOperator)) (lt-ltb v (size (net p.sheet)) near))

pub returns-clause-holds : goal.returns-clause-holds
returns-clause-holds g c =
    let p = c.args.self.now in
    let v = c.args.v in
    let found = c.in_ok-found.field-0.now in
    let ss = stages_of found.split in
    let near : v < size (net p.sheet) = omega (arith, c.if-v-operators.false, c.operators.ensures.value) in
    let at : c.position.result ≡ position (λ st. has st.mask v) ss =
    position_from_yields_List (λ st. has st.mask v) _ _ c.position.result c.position.ensures.ran (YieldsList-from_slice ss (c.iter.ensures.rest ∙ c.stages-stages.ensures)) (λ x b q k. search (rules, tests)) in
    let there : c.position.result ≡ Some (place_of ss v) = at ∙ position_there (λ st. has st.mask v) ss (p.covers found c.in_ok-found.ensures v near) in
    let answered : c.ok_or.result ≡ Ok (place_of ss v) = search (rules, there) in
    subst (λ r. IfOk r (λ i. ForSome (option_map standing_in p.standing) (λ split. At split.stages i v))) (sym answered)
    (λ split is. subst (λ t. At t.stages (place_of ss v) v) (same_Some (standing_in found) split (sym (ap (option_map standing_in) c.in_ok-found.ensures) ∙ is)) (stage_there ss v (p.covers found c.in_ok-found.ensures v near)))
