use Rattle.std.proofs.Common.{◌≡◌, ◌+◌, ◌-◌, ◌*◌, ◌^◌, get_or, Ok, sym, refl, ap, ◌∙◌, rules, arith}
use borrow.Author.Tests.{tests}
use Rattle.std.specs.Char.{is_ascii_digit}
use Rattle.std.specs.Str.Parse.{digits_value}
use Rattle.std.proofs.lemmas.List.{take_all}
use Rattle.std.proofs.lemmas.Iterator.{YieldsList-from_slice}
use Rattle.std.proofs.lemmas.Iterator.Search.{all_from_yields_List}
use Rattle.sheet_text.proofs.Digits.{digits_all, digit_in, digit_more, number_small, number_large, number_none, fit, misfit}
use Rattle.sheet_text.proofs.numbers.number.Goals as goal

pub returns-then-not-all : goal.returns-then-not-all
returns-then-not-all c =
    let f = c.args.field.now in
    let all = all_from_yields_List is_ascii_digit _ _ c.all.result c.all.ensures.ran (YieldsList-from_slice f c.iter.ensures.rest) (λ x b q k. search (rules, tests)) in
    sym (number_none f (sym (digits_all f) ∙ sym all ∙ c.if-not-all.true))

pub loop-digit-init : goal.loop-digit-init
loop-digit-init c =
    let f = c.args.field.now in
    let all = all_from_yields_List is_ascii_digit _ _ c.all.result c.all.ensures.ran (YieldsList-from_slice f c.iter.ensures.rest) (λ x b q k. search (rules, tests)) in
    record { digits = sym (digits_all f) ∙ sym all ∙ c.if-not-all.false; so_far = refl; fits = omega arith }

pub with_digit-requires : goal.with_digit-requires
with_digit-requires c = digit_in c.args.field.now c.loop-digit.invariant.digits c.loop-digit.digit-index c.loop-digit-test.true

pub returns-in_default : goal.returns-in_default
returns-in_default c =
    let f = c.args.field.now in
    let i = c.loop-digit.digit-index in
    let longer = c.loop-digit.number * 10 + (get_or f i 0 - 48) in
    let large = misfit c.with_digit.result longer (2 ^ 32) c.with_digit.ensures c.in_default.is in
    sym (number_large f c.loop-digit.invariant.digits (i + 1) (omega (arith, large, digit_more f c.loop-digit.invariant.digits i c.loop-digit-test.true, c.loop-digit.invariant.so_far)))

pub loop-digit-preserved : goal.loop-digit-preserved
loop-digit-preserved c =
    let f = c.args.field.now in
    let i = c.loop-digit.digit-index in
    let longer = c.loop-digit.number * 10 + (get_or f i 0 - 48) in
    let more = digit_more f c.loop-digit.invariant.digits i c.loop-digit-test.true in
    let fits = fit c.with_digit.result longer (2 ^ 32) c.with_digit.ensures c.in-Some.longer c.in-Some.is in
    record { digits = c.loop-digit.invariant.digits; so_far = omega (arith, more, fits.0, c.loop-digit.invariant.so_far); fits = omega (arith, fits.0, fits.1) }

pub returns : goal.returns
returns c =
    let f = c.args.field.now in
    let whole : c.loop-digit.number ≡ digits_value 10 f = rw (take_all c.loop-digit.digit-index f c.loop-digit-test.false) at c.loop-digit.invariant.so_far in
    ap (λ n. Ok n) whole ∙ sym (number_small f c.loop-digit.invariant.digits (omega (arith, whole, c.loop-digit.invariant.fits)))
