-- How long the parts of a page are, and that one is put after another.
use Rattle.std.proofs.Common.{Bool, true, false, ◌==◌, ◌≡◌, ℕ, ◌+◌, ◌*◌, ◌^◌, ◌<◌, ◌≤◌, List, [], ◌∷◌, ◌++◌, length, sym, refl, ap, ◌∙◌, subst, arith, decimal, codes, cond}
use Rattle.std.specs.Bool.{⊤}
use Rattle.std.specs.List.{flat_map, AllByRecursion}
use Rattle.std.proofs.lemmas.Fmt.{length-decimal-le}
use Rattle.std.proofs.lemmas.List.{length-append, flat_map_more}
use Rattle.std.proofs.lemmas.List.Concat.{flat_map-append}
use Rattle.byte_fields.specs.Wrote.{Wrote}
use Rattle.byte_fields.proofs.Wrote.{wrote_then, wrote_take, wrote_drop}
use Rattle.sets.specs.Sets.{In, members}
use Rattle.sets.proofs.Members.{members_all, members_few}
use Rattle.sheet.specs.Nets.{Net}
use Rattle.split.specs.declared.stages.Stage.{Stage}
use Rattle.split.specs.Splits.{Kinds}
use Rattle.pages.specs.Paces.{pace_of}
use Rattle.pages.specs.Pages.{spaced, letter, stage_line, head_line, page_of, most_page, HasPage}

module _ {X : Type 0} (f : X → List ℕ) where
  -- in a list the texts of some elements and of the next one are no longer than the whole
  pub more_short : (done : List X) (x : X) (rest all : List X) → done ++ (x ∷ rest) ≡ all → length (flat_map f done) + length (f x) ≤ length (flat_map f all)
  more_short done x rest all split =
      let parts : flat_map f all ≡ flat_map f done ++ (f x ++ flat_map f rest) = ap (flat_map f) (sym split) ∙ flat_map-append f done (x ∷ rest) in
      omega (arith, ap length parts, length-append (flat_map f done) (f x ++ flat_map f rest), length-append (f x) (flat_map f rest))

  pub length_then : (done : List X) (x : X) → length (flat_map f (done ++ (x ∷ []))) ≡ length (flat_map f done) + length (f x)
  length_then done x = ap length (sym (flat_map_more f [] done x)) ∙ length-append (flat_map f done) (f x)

  -- with one text more
  pub wrote_more : {xs ys zs : List ℕ} {from at end : ℕ} (done : List X) (x : X) → Wrote xs from at (flat_map f done) ys → Wrote ys at end (f x) zs → Wrote xs from end (flat_map f (done ++ (x ∷ []))) zs
  wrote_more {xs} {ys} {zs} {from} {at} {end} done x p q = subst (λ (bs : List ℕ). Wrote xs from end bs zs) (flat_map_more f [] done x) (wrote_then p q)

  -- each text has at most k bytes
  all_short : (P : X → Type 0) (k : ℕ) → ((x : X) → P x → length (f x) ≤ k) → (xs : List X) → AllByRecursion P xs → length (flat_map f xs) ≤ length xs * k
  all_short P k short [] all = omega arith
  all_short P k short (x ∷ xs) all = omega (arith, short x all.0, all_short P k short xs all.1, length-append (f x) (flat_map f xs))

spaced_short : (v : ℕ) → v < 64 → length (spaced v) ≤ 3
spaced_short v h = omega (arith, length-append (codes " ") (decimal v), length-decimal-le 2 v (omega arith) (omega arith) (omega arith))

-- the operators of a set
pub operators_short : (m : ℕ) → length (flat_map spaced (members m)) ≤ 192
operators_short m = omega (arith, members_few m, all_short spaced (λ v. (v < 64) × In v m) 3 (λ v h. spaced_short v h.0) (members m) (members_all m))

length_letter : (b : Bool) → length (cond b (codes "A") (codes "B")) ≡ 1
length_letter true = refl
length_letter false = refl

pub length_line : (st : Stage) → length (stage_line st) ≡ 2 + length (flat_map spaced (members st.mask))
length_line st =
    let body = flat_map spaced (members st.mask) in
    omega (arith, length-append (letter st) (body ++ codes "\n"), length_letter (st.kind == 1), length-append body (codes "\n"))

-- the lines of stages
pub lines_short : (ss : List Stage) → length (flat_map stage_line ss) ≤ length ss * 194
lines_short ss = all_short stage_line (λ st. ⊤) 194 (λ st h. omega (arith, length_line st, operators_short st.mask)) ss (any ss)
  where
    any : (ts : List Stage) → AllByRecursion (λ st. ⊤) ts
    any [] = tt
    any (t ∷ ts) = (tt, any ts)

pub length_head : (count pace : ℕ) → length (head_line count pace) ≡ 14 + length (decimal count) + length (decimal pace)
length_head count pace =
    omega (
      arith,
      length-append (codes "stages ") (decimal count ++ (codes " pace " ++ (decimal pace ++ codes "\n"))),
      length-append (decimal count) (codes " pace " ++ (decimal pace ++ codes "\n")),
      length-append (codes " pace ") (decimal pace ++ codes "\n"),
      length-append (decimal pace) (codes "\n"),
    )

-- the page is its parts
pub page_is : (n : Net) (e : Kinds) (ss zs : List Stage) (p : ℕ) → zs ≡ ss → p ≡ pace_of n e zs → head_line (length zs) p ++ flat_map stage_line zs ≡ page_of n e ss
page_is n e ss zs p same pace = rw (pace, same) refl

-- a page of the stages ss, at most 16, and the pace p, below 2 ^ 32
pub page_short : (n : Net) (e : Kinds) (ss zs : List Stage) (p : ℕ) → zs ≡ ss → p ≡ pace_of n e zs → length zs ≤ 16 → p < 2 ^ 32 → length (page_of n e ss) ≤ most_page
page_short n e ss zs p same pace few fits = subst (λ bs. length bs ≤ most_page) (page_is n e ss zs p same pace) (omega (
  arith,
  length-append (head_line (length zs) p) (flat_map stage_line zs),
  length_head (length zs) p,
  length-decimal-le 2 (length zs) (omega arith) (omega arith) (omega (arith, few)),
  length-decimal-le 10 p (omega arith) (omega arith) (omega (arith, fits)),
  lines_short zs,
  few,
))

pub has_page : {page old new : List ℕ} {len : ℕ} → Wrote old 0 len page new → HasPage page old new len
has_page w = record { size = omega (arith, w.ends); bytes = wrote_take w; rest = wrote_drop w }
