-- A text of one to nine digits is read as a number of 64 bits.
use Rattle.std.proofs.Common.{◌≡◌, ℕ, ◌<◌, ◌≤◌, ◌^◌, List, true, length, Result, Err, arith, rules}
use Rattle.std.specs.Bool.{⊤}
use Rattle.std.specs.List.{list_all}
use Rattle.std.specs.Char.{is_ascii_digit}
use Rattle.std.specs.Str.Parse.{digits_value, IsNumeral, without_leading_plus}
use Rattle.std.proofs.lemmas.Str.Parse.{IsNumeralModel, digits_value_short, numerals_by_value, parse_digits}

pub always_read : (bs : List ℕ) → (IsNumeral 10 (without_leading_plus bs) × (digits_value 10 (without_leading_plus bs) < 2 ^ 64) → ⊥)
    → list_all is_ascii_digit bs ≡ true → 1 ≤ length bs → length bs ≤ 9 → ⊥
always_read bs unread digits some few =
    let digits_are : IsNumeralModel (λ ds. list_all is_ascii_digit ds ≡ true) (digits_value 10) = numerals_by_value _ (search rules) in
    let refusal : Result ℕ ⊤ = Err tt in
    parse_digits digits_are 64 bs refusal unread digits (some, omega (arith, digits_value_short digits_are bs 9 digits few))
