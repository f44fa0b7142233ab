-- What is told of a file and of the plan of its sheet, by what is told of the two steps.
use Rattle.std.proofs.Common.{◌≡◌, ℕ, ◌≤◌, true, List, [], ◌∷◌, ◌++◌, length, codes, decimal, slice_index, is_some, Option, refl, sym, ap, ◌∙◌, subst, nat_le, arith, le-leb}
use Rattle.std.proofs.lemmas.List.{length-take}
use Rattle.std.specs.Borrow.{Bor}
use Rattle.refusals.specs.declared.Refusal.{Refusal}
use Rattle.refusals.specs.declared.Refusal.TheVariants.{NoSplit, BufferTooShort}
use Rattle.refusals.specs.Told.{told}
use Rattle.refusals.proofs.Tellings.{something, told_something}
use Rattle.sheet.specs.Nets.{Net}
use Rattle.sheet.specs.Changes.{first, unless}
use Rattle.sheet_layout.specs.Bodies.{net_of}
use Rattle.sheet_layout.specs.Laws.{LawsStand}
use Rattle.scale.specs.Scales.{peak}
use Rattle.split.specs.Splits.{Kinds, Least}
use Rattle.pages.specs.Pages.{most_page, HasPage}
use Rattle.planner.specs.States.{Standing, State}
use Rattle.planner.specs.Answers.{page_text, page_told}
use Rattle.page_report.specs.SplitPages.{devices, planning, split_refusal, split_text, unless_refused, Means}
use Rattle.page_report.proofs.Steps.{Stepped}

-- two checks
first_stays : (a b : List ℕ) → (a ≡ [] → ⊥) → first a b ≡ a
first_stays [] b h = absurd (h refl)
first_stays (x ∷ a) b h = refl

first_none : (a b : List ℕ) → first a b ≡ [] → (a ≡ []) × (b ≡ [])
first_none [] b h = (refl, h)
first_none (x ∷ a) b h = absurd (something x a h)

same_first : (a b c : List ℕ) → (a ≡ [] → b ≡ c) → first a b ≡ first a c
same_first [] b c h = h refl
same_first (x ∷ a) b c h = refl

module _ {K L S : Type 0} {f : Bor (List ℕ)} {p : State K L S ℕ} {load plan : List ℕ} (r : Stepped devices peak f p load plan) where
  told_split : first load plan ≡ split_refusal f.now
  told_split = same_first load plan (planning (net_of f.now)) r.plans ∙ ap (λ a. first a (planning (net_of f.now))) r.loads

  pub load_refused : {ts : List ℕ} (x : Refusal) → told x ≡ load → ts ≡ load → ts ≡ split_refusal f.now
  load_refused x some is = is ∙ sym (first_stays load plan (λ z. told_something x (some ∙ z))) ∙ told_split

  pub plan_refused : {ts : List ℕ} → [] ≡ load → ts ≡ plan → ts ≡ split_refusal f.now
  plan_refused none is = is ∙ ap (λ a. first a plan) none ∙ told_split

  pub means : LawsStand → Means f.now
  means laws = record {
    good = λ a. (laws f.now (net_of f.now)).good a;
    right = λ n said. let at = laws f.now n in (at.right said, at.one (net_of f.now) (at.good (at.right said)) said);
    least = λ a.
        let none = first_none load plan (told_split ∙ a) in
        let t = r.stands none.0 none.1 in
        (t.0.rating, subst (λ ss. Least (net_of f.now) devices peak ss t.0.rating) t.2 t.3);
    none = λ a b. let z = r.loads ∙ a in r.none z (r.plans z ∙ b);
  }

  pub planned : {e : Kinds} → [] ≡ load → [] ≡ plan → e ≡ devices → (is_some p.standing ≡ true) × (page_text p.net e p.standing ≡ split_text f.now)
  planned {e} a b same =
      let t = r.stands (sym a) (sym b) in (
        ap (λ (o : Option (Standing ℕ)). is_some o) t.1,
        ap (λ (o : Option (Standing ℕ)). page_text p.net e o) t.1 ∙ rw (r.net (sym a) (sym b), same, t.2) refl,
      )

-- the page of a split that stands, in a buffer for any page
pub page_fits : (n : Net) (e : Kinds) (t : Option (Standing ℕ)) (room : ℕ) → is_some t ≡ true → length (page_text n e t) ≤ most_page → room ≡ most_page → page_told n e t room ≡ []
page_fits n e t room there short is =
    ap (λ b. first (unless b (told NoSplit)) (unless (nat_le (length (page_text n e t)) room) (told BufferTooShort))) there
    ∙ ap (λ b. unless b (told BufferTooShort)) (le-leb (length (page_text n e t)) room (omega (arith, short, is)))

-- the line of a refusal, by its number and the number's text
line_of : (ts text : List ℕ) (number : ℕ) → (ts ≡ [] → ⊥) → number ≡ slice_index ts 0 → text ≡ decimal number → codes "refused " ++ (text ++ codes "\n") ≡ unless_refused ts []
line_of [] text number some is spelt = absurd (some refl)
line_of (t ∷ ts) text number some is spelt = rw (spelt, is) refl

pub refused_line : (x : Refusal) (number : ℕ) (text : List ℕ) → number ≡ slice_index (told x) 0 → text ≡ decimal number → codes "refused " ++ (text ++ codes "\n") ≡ unless_refused (told x) []
refused_line x number text is spelt = line_of (told x) text number (told_something x) is spelt

-- a page that stands in a buffer is no longer than the buffer
pub within : {page old new : List ℕ} {len : ℕ} → HasPage page old new len → len ≤ length new
within {page} {old} {new} {len} h = omega (arith, h.size, ap length h.bytes, length-take len new)
