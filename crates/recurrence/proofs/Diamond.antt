-- The diamond keeps the rules of a sheet, accelerators and processors answer small figures fairly, and peak keeps the laws of a scale.
use Rattle.std.proofs.Common.{◌≡◌, ℕ, zero, suc, max, false, leb, Some, refl, subst, arith}
use Rattle.std.proofs.lemmas.Bool.{both_ways, leb-true, leb-false, le-leb}
use Rattle.sets.specs.Sets.{has}
use Rattle.sets.proofs.Sets.{has_none, in_below}
use Rattle.sheet.specs.Rules.{Modest, Upward}
use Rattle.sheet.specs.Kept.{Kept}
use Rattle.sheet.specs.Figures.{Sums}
use Rattle.device.specs.Loads.{PlainLoad, Fair, Small, accelerated, processed}
use Rattle.scale.specs.Scales.{peak}
use Rattle.recurrence.specs.Laws.{Laws, Answers}
use Rattle.recurrence.specs.Cases.{diamond, devices}
use Rattle.recurrence.proofs.Options.{some_same, cond_some}
use Rattle.recurrence.proofs.Figures.{kinds_answer}

modest : Modest diamond.rows
modest zero = (omega arith, omega arith, omega arith, omega arith)
modest (suc zero) = (omega arith, omega arith, omega arith, omega arith)
modest (suc (suc zero)) = (omega arith, omega arith, omega arith, omega arith)
modest (suc (suc (suc zero))) = (omega arith, omega arith, omega arith, omega arith)
modest (suc (suc (suc (suc v)))) = (omega arith, omega arith, omega arith, omega arith)

upward : Upward diamond.successors
unfolding has
upward zero zero h = absurd (both_ways false refl h)
upward zero (suc v) h = (omega arith, in_below 4 6 (suc v) (omega arith) h)
upward (suc zero) zero h = absurd (both_ways false refl h)
upward (suc zero) (suc zero) h = absurd (both_ways false refl h)
upward (suc zero) (suc (suc v)) h = (omega arith, in_below 4 8 (suc (suc v)) (omega arith) h)
upward (suc (suc zero)) zero h = absurd (both_ways false refl h)
upward (suc (suc zero)) (suc zero) h = absurd (both_ways false refl h)
upward (suc (suc zero)) (suc (suc zero)) h = absurd (both_ways false refl h)
upward (suc (suc zero)) (suc (suc (suc v))) h = (omega arith, in_below 4 8 (suc (suc (suc v))) (omega arith) h)
upward (suc (suc (suc zero))) v h = absurd (both_ways (has 0 v) (has_none v) h)
upward (suc (suc (suc (suc u)))) v h = absurd (both_ways (has 0 v) (has_none v) h)

pub diamond_kept : Kept diamond
diamond_kept = record { few = omega arith; modest = modest; masks = refl; upward = upward; devices = (omega arith, omega arith) }

accelerated_fair : (limit : ℕ) (z : Sums) (x : PlainLoad) → Small z → accelerated limit z ≡ Some x → Fair x
accelerated_fair limit z x small h =
    let t = cond_some (leb z.size limit) (Some _) x h in
    subst Fair (some_same t.1) (omega arith, omega arith)

processed_fair : (z : Sums) (x : PlainLoad) → Small z → processed z ≡ Some x → Fair x
processed_fair z x small h = subst Fair (some_same h) (omega arith, omega arith)

pub devices_answer : Answers diamond devices
devices_answer = kinds_answer diamond diamond_kept (accelerated 4) processed (accelerated_fair 4) processed_fair

pub peak_laws : Laws peak
peak_laws = record {
  ordered = record {
    total = λ x y h. le-leb y x (omega (arith, leb-false x y h));
    transitive = λ x y z h k. le-leb x z (omega (arith, leb-true x y h, leb-true y z k));
  };
  monotone = λ x y z fair h. le-leb (max x z.ticks) (max y z.ticks) (omega (arith, leb-true x y h));
}
