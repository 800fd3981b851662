-- The limits of an amount, tested on numbers that are capped.
use Rattle.std.proofs.Common.{◌≡◌, ℕ, ◌<◌, ◌≤◌, ltb, leb, true, ◌||◌, ◌⊎◌, inl, inr, List, ◌++◌, length, refl, sym, ap, ◌∙◌, arith}
use Rattle.std.proofs.lemmas.Bool.{cases_lt}
use Rattle.std.proofs.lemmas.Bool.Decides.{nat_tests}
use Rattle.std.specs.List.{list_all}
use Rattle.std.specs.Char.{is_ascii_digit}
use Rattle.std.specs.Str.Parse.{digits_value_after, digits_value}
use Rattle.quantity_text.specs.Steps.Capped.{capped, capped_scale}
use Rattle.quantity_text.specs.Quantity.{has_too_many_digits, refuse, scaled}
use Rattle.quantity_text.specs.declared.scales.Scale.{Scale}
use Rattle.quantity_text.specs.declared.scales.Scale.TheVariants.{Binary, Decimal, Fraction}
use Rattle.quantity_text.proofs.DigitFacts.{all_append, capped_parts, too_many}

-- the number of all digits, capped, says whether they are too many
capped_test : (n : ℕ) → leb 1_000_000_000_000_000_000 n ≡ leb 1_000_000_000_000_000_000 (capped n)
capped_test n = by (cases_lt 1_000_000_000_000_000_000 n)
  where
    by : (1_000_000_000_000_000_000 < n) ⊎ (n ≤ 1_000_000_000_000_000_000) → leb 1_000_000_000_000_000_000 n ≡ leb 1_000_000_000_000_000_000 (capped n)
    by (inl above) = let limit : capped n ≡ 1_000_000_000_000_000_000 = omega arith in rw limit (grind (arith, nat_tests))
    by (inr below) = let same : capped n ≡ n = omega arith in ap (leb 1_000_000_000_000_000_000) (sym same)

pub digits_test : (whole fraction : List ℕ) (number : ℕ) → list_all is_ascii_digit whole ≡ true → list_all is_ascii_digit fraction ≡ true
    → number ≡ capped (digits_value_after 10 (capped (digits_value_after 10 0 whole)) fraction)
    → (has_too_many_digits whole fraction ≡ (leb 1_000_000_000_000_000_000 number || ltb 18 (length fraction))) × (number < 1_000_000_000_000_000_000 → number ≡ digits_value 10 (whole ++ fraction))
unfolding has_too_many_digits
digits_test whole fraction number left right is =
    let joined : number ≡ capped (digits_value 10 (whole ++ fraction)) = is ∙ capped_parts whole fraction in
    let test = too_many (whole ++ fraction) (all_append is_ascii_digit whole fraction left right) ∙ capped_test (digits_value 10 (whole ++ fraction))
    ∙ ap (leb 1_000_000_000_000_000_000) (sym joined) in
    (ap (λ b. b || ltb 18 (length fraction)) test, λ small. omega arith)

-- an exponent above 18 is refused whether it is capped or not
pub scaled_capped : (whole fraction : List ℕ) (scale : Scale) → scaled whole fraction (capped_scale scale) ≡ scaled whole fraction scale
unfolding scaled refuse
scaled_capped whole fraction (Binary x) = refl
scaled_capped whole fraction (Decimal x) = by (cases_lt 18 x)
  where
    by : (18 < x) ⊎ (x ≤ 18) → scaled whole fraction (Decimal (capped x)) ≡ scaled whole fraction (Decimal x)
    by (inl far) = let given : ltb 18 x ≡ true = grind (arith, nat_tests) in let kept : ltb 18 (capped x) ≡ true = grind (arith, nat_tests) in rw (given, kept) refl
    by (inr near) = let same : capped x ≡ x = omega arith in ap (λ k. scaled whole fraction (Decimal k)) same
scaled_capped whole fraction (Fraction x) = by (cases_lt 18 x)
  where
    by : (18 < x) ⊎ (x ≤ 18) → scaled whole fraction (Fraction (capped x)) ≡ scaled whole fraction (Fraction x)
    by (inl far) = let given : ltb 18 x ≡ true = grind (arith, nat_tests) in let kept : ltb 18 (capped x) ≡ true = grind (arith, nat_tests) in rw (given, kept) refl
    by (inr near) = let same : capped x ≡ x = omega arith in ap (λ k. scaled whole fraction (Fraction k)) same
