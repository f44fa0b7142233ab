-- The numbers that fields say.
--   r >>= f          f of what r gives, or the slip of r
--   number_of f      the number that the field f says in decimal digits
--   next_number fs   the number that the first of the fields says, and the fields after it
--   no_more fs       that no field is left
--   Gives r s        r gives a number and bytes whose fields s gives with it, or the slip of s
use Rattle.std.specs.Prelude.{◌≡◌, ℕ, ◌^◌, List, [], ◌∷◌, Result, Ok, Err, nat_lt, if◌then◌else◌}
use Rattle.std.specs.Str.{all_ascii_digits}
use Rattle.std.specs.Str.Parse.{digits_value}
use Rattle.std.specs.Borrow.{Bor}
use Rattle.sheet_text.specs.declared.causes.Slip.{Slip}
use Rattle.sheet_text.specs.declared.causes.Slip.TheVariants.{TooFewNumbers, TooManyNumbers, NotANumber, NumberTooLarge}
use Rattle.sheet_text.specs.Fields.{fields}

infixl 10 ◌>>=◌
abbrev pub ◌>>=◌ : {A B : Type 0} → Result A Slip → (A → Result B Slip) → Result B Slip
(Ok x) >>= f = f x
(Err s) >>= f = Err s

unfoldable pub number_of : List ℕ → Result ℕ Slip
number_of f =
    if all_ascii_digits f
    then (if nat_lt (digits_value 10 f) (2 ^ 32) then Ok (digits_value 10 f) else Err NumberTooLarge)
    else Err NotANumber

unfoldable pub next_number : List (List ℕ) → Result (ℕ × List (List ℕ)) Slip
next_number [] = Err TooFewNumbers
next_number (f ∷ fs) = do
  n ← number_of f
  Ok (n, fs)

abbrev pub no_more : List (List ℕ) → Result (Unit {0}) Slip
no_more [] = Ok tt
no_more (f ∷ fs) = Err TooManyNumbers

abbrev pub Gives : Result (ℕ × Bor (List ℕ)) Slip → Result (ℕ × List (List ℕ)) Slip → Type 0
Gives (Ok x) s = s ≡ Ok (x.0, fields x.1.now)
Gives (Err e) s = s ≡ Err e
