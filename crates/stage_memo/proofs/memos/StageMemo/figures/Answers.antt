use Rattle.std.proofs.Common.{◌≡◌, ℕ, refl, get_or, ap, sym, ◌∙◌, arith}
use Rattle.std.proofs.lemmas.Grind.{get_or-set_at}
use Rattle.std.proofs.lemmas.List.{get_or_default}
use Rattle.std.proofs.lemmas.List.Elements.{All-get_or}
use Rattle.sheet.specs.Nets.{Net}
use Rattle.stage_memo.specs.declared.known.Known.{Known}
use Rattle.stage_memo.specs.declared.memos.StageMemo.{StageMemo}
use Rattle.sets.specs.Sets.{In}
use Rattle.sheet.specs.Figures.{figures_of}
use Rattle.stage_memo.specs.Known.{Right}
use Rattle.stage_memo.specs.Views.{memo_net}
use Rattle.stage_memo.proofs.memos.StageMemo.figures.Goals as goal
use Rattle.stage_memo.proofs.memos.StageMemo.figures.Goals.{then-self-v+in-Some-entry, then-self-v+in-None, else-self-v}

pub returns-in_default-clause-value : goal.returns-in_default-clause-value
returns-in_default-clause-value c =
    let n = memo_net c.args.self.now in
    (c.of_none.ensures.right n).figures ∙ ap (figures_of n) (c.of_none.ensures.mask ∙ sym c.in_default.ensures)

pub with_below-requires-clause-below : goal.with_below-requires-clause-below
with_below-requires-clause-below c u inside = c.in-Some.ensures.below u (rw (c.in-Some-entry.ensures c.in-Some-entry.above refl).0 at inside)

pub returns-clause-value : goal.returns-clause-value
returns-clause-value c =
    let n = memo_net c.args.self.now in
    let v = c.in-Some.v in
    let s = c.if-self-v.self in
    let d = c.index-self-v-2.result in
    let whole = c.in-Some.ensures.whole in
    let mask-at : StageMemo → ℕ = λ u. (get_or u.known v d).figures.mask in
    let there : (get_or s.known v d).figures.mask ≡ c.args.mask = elim c.if-self-v.branch [
      | then-self-v+in-Some-entry w ↦
          let above = (w.in-Some-entry.ensures w.in-Some-entry.above refl).0 in
          ap mask-at w.self-is
          ∙ ap (λ (k : Known). k.figures.mask) (get_or-set_at c.args.self.now.known v v w.with_below.result d refl (omega (arith, c.in-Some.ensures.few)))
          ∙ w.with_below.ensures.mask ∙ rw above whole
      | then-self-v+in-None w ↦ ap mask-at w.self-is ∙ w.learn.ensures.mask d ∙ whole
      | else-self-v w ↦
          ap mask-at w.self-is
          ∙ ap (λ (k : Known). k.figures.mask) (get_or_default c.args.self.now.known v d c.index-self-v.result (omega (arith, c.in-Some.ensures.few)))
          ∙ w.if-self-v.false
    ] in
    let same : memo_net s ≡ n = elim c.if-self-v.branch [
      | then-self-v+in-Some-entry w ↦ ap memo_net w.self-is
      | then-self-v+in-None w ↦ ap memo_net w.self-is ∙ w.learn.ensures.keeps
      | else-self-v w ↦ ap memo_net w.self-is
    ] in
    let right : Right (memo_net s) (get_or s.known v d) = All-get_or (Right (memo_net s)) s.known v d (omega (arith, c.in-Some.ensures.few)) s.right in
    right.figures ∙ ap (λ (m : ℕ). figures_of (memo_net s) m) there ∙ ap (λ (u : Net). figures_of u c.args.mask) same
