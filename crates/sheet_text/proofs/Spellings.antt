-- The lines that spell items, read again.
use Rattle.std.proofs.Common.{◌≡◌, ℕ, ◌<◌, ◌^◌, true, List, [], ◌∷◌, codes, decimal, Some, Ok, refl, ap, ◌∙◌, arith}
use Rattle.std.specs.List.{AllByRecursion}
use Rattle.std.specs.Str.{all_ascii_digits}
use Rattle.std.specs.Str.Parse.{AllDigits}
use Rattle.std.proofs.lemmas.Fmt.{decimal_is_IsNumeral, digits_decimal}
use Rattle.std.proofs.lemmas.Str.Parse.{digit_from_value}
use Rattle.sheet.specs.declared.operators.Operator.{Operator as Figures}
use Rattle.sheet.specs.Rules.{Within}
use Rattle.sheet_text.specs.declared.items.Item.TheVariants.{Operator, Edge, Counts}
use Rattle.sheet_text.specs.Numbers.{number_of, next_number}
use Rattle.sheet_text.specs.Items.{operator_of, edge_of, counts_of, item_of}
use Rattle.sheet_text.proofs.Digits.{model, number_small}
use Rattle.sheet_text.proofs.Words.{High, Word}

high_digits : (ds : List ℕ) → AllDigits 10 ds → AllByRecursion High ds
high_digits [] all = tt
high_digits (d ∷ ds) all = ((digit_from_value d all.0).0, high_digits ds all.1)

pub decimal_word : (n : ℕ) → n < 2 ^ 32 → Word (decimal n)
decimal_word n small = let is = (decimal_is_IsNumeral n (omega (arith, small))).0 in record { some = is.0; high = high_digits (decimal n) is.1 }

-- a decimal number says itself
number_again : (n : ℕ) → n < 2 ^ 32 → number_of (decimal n) ≡ Ok n
number_again n small =
    let digits : all_ascii_digits (decimal n) ≡ true = digits_decimal model n (omega (arith, small)) in
    let value = (decimal_is_IsNumeral n (omega (arith, small))).1 in
    number_small (decimal n) digits (omega (arith, value, small)) ∙ ap (λ v. Ok v) value

pub operator_again : (o : Figures) → Within o → item_of (codes "op" ∷ decimal o.acc ∷ decimal o.cpu ∷ decimal o.size ∷ decimal o.link ∷ []) ≡ Ok (Some (Operator o))
unfolding operator_of next_number
operator_again o within = rw (number_again o.acc (omega (arith, within.0)), number_again o.cpu (omega (arith, within.1)), number_again o.size (omega (arith, within.2)), number_again o.link (omega (arith, within.3))) refl

pub edge_again : (u v : ℕ) → u < 2 ^ 32 → v < 2 ^ 32 → item_of (codes "edge" ∷ decimal u ∷ decimal v ∷ []) ≡ Ok (Some (Edge u v))
unfolding edge_of next_number
edge_again u v small few = rw (number_again u small, number_again v few) refl

pub counts_again : (k l : ℕ) → k < 2 ^ 32 → l < 2 ^ 32 → item_of (codes "count" ∷ decimal k ∷ decimal l ∷ []) ≡ Ok (Some (Counts k l))
unfolding counts_of next_number
counts_again k l small few = rw (number_again k small, number_again l few) refl
