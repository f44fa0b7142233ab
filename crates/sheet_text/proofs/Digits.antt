-- The number that digits say, digit by digit.
use Rattle.std.proofs.Common.{◌≡◌, ℕ, ◌+◌, ◌-◌, ◌*◌, ◌<◌, ◌≤◌, ◌^◌, true, false, ◌&&◌, ltb, List, [], ◌∷◌, length, take, get_or, Option, Some, None, Ok, Err, cond, inl, inr, refl, ap, arith}
use Rattle.std.specs.Char.{is_ascii_digit}
use Rattle.std.specs.Str.{all_ascii_digits}
use Rattle.std.specs.Str.Parse.{digits_value}
use Rattle.std.specs.List.{list_all}
use Rattle.std.proofs.lemmas.Bool.{lt-ltb, le-ltb, cases_lt}
use Rattle.std.proofs.lemmas.Int.Digits.{digits_value_more}
use Rattle.std.proofs.lemmas.Str.Parse.{IsNumeralModel, numerals_by_value, tells_all_ascii_digits, digit_at, digits_value-take-le}
use Rattle.std.proofs.lemmas.Str.{digit_value_digit}
use Rattle.sheet_text.specs.declared.causes.Slip.TheVariants.{NotANumber, NumberTooLarge}
use Rattle.sheet_text.specs.Numbers.{number_of}

pub digits_all : (f : List ℕ) → list_all is_ascii_digit f ≡ all_ascii_digits f
digits_all [] = refl
digits_all (c ∷ cs) = ap (λ b. is_ascii_digit c && b) (digits_all cs)

pub model : IsNumeralModel (λ ds. all_ascii_digits ds ≡ true) (digits_value 10)
model = numerals_by_value (λ ds. all_ascii_digits ds ≡ true) tells_all_ascii_digits

module _ (f : List ℕ) (digits : all_ascii_digits f ≡ true) where
  pub digit_in : (i : ℕ) → i < length f → (48 ≤ get_or f i 0) × (get_or f i 0 ≤ 57)
  digit_in i within = digit_at f i (model.to f digits) within

  pub digit_more : (i : ℕ) → i < length f → digits_value 10 (take (i + 1) f) ≡ digits_value 10 (take i f) * 10 + (get_or f i 0 - 48)
  digit_more i within = omega (arith, digits_value_more 10 f i within, digit_value_digit (get_or f i 0) (digit_in i within))

  pub number_small : digits_value 10 f < 2 ^ 32 → number_of f ≡ Ok (digits_value 10 f)
  unfolding number_of
  number_small small = rw (digits, lt-ltb (digits_value 10 f) (2 ^ 32) small) refl

  pub number_large : (i : ℕ) → 2 ^ 32 ≤ digits_value 10 (take i f) → number_of f ≡ Err NumberTooLarge
  unfolding number_of
  number_large i large = rw (digits, le-ltb (digits_value 10 f) (2 ^ 32) (omega (arith, large, digits_value-take-le 10 f i (omega arith)))) refl

pub number_none : (f : List ℕ) → all_ascii_digits f ≡ false → number_of f ≡ Err NotANumber
unfolding number_of
number_none f none = rw none refl

-- a number that fits below a bound, if it does
module _ (o : Option ℕ) (v bound : ℕ) (is : o ≡ cond (ltb v bound) (Some v) None) where
  pub misfit : o ≡ None → bound ≤ v
  misfit none = elim (cases_lt v bound) [
    | inl less ↦ absurd (let e = rw (lt-ltb v bound less) at is in cc)
    | inr more ↦ more
  ]

  pub fit : (x : ℕ) → o ≡ Some x → (x ≡ v) × (v < bound)
  fit x some = elim (cases_lt v bound) [
    | inl less ↦ (let e = rw (lt-ltb v bound less) at is in cc, less)
    | inr more ↦ absurd (let e = rw (le-ltb v bound more) at is in cc)
  ]
