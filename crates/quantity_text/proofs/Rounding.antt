-- Rounding up gives the least whole number that is enough.
use Rattle.std.proofs.Common.{◌≡◌, ℕ, ◌+◌, ◌*◌, ◌^◌, ◌<◌, ◌≤◌, ltb, Bool, true, false, ◌||◌, subst, List, ◌++◌, length, Result, Ok, refl, ap, arith}
use Rattle.std.proofs.lemmas.Bool.Decides.{nat_tests}
use Rattle.std.proofs.lemmas.Grind.{div_ceil_times}
use Rattle.std.proofs.Math.Nat.{lt_of_mul-lt-mul_right}
use Rattle.std.specs.Int.{div_ceil}
use Rattle.std.specs.Str.Parse.{digits_value}
use Rattle.quantity_text.specs.declared.errors.AmountError.{AmountError}
use Rattle.quantity_text.specs.declared.scales.Scale.{Scale}
use Rattle.quantity_text.specs.declared.scales.Scale.TheVariants.{Binary, Decimal, Fraction}
use Rattle.quantity_text.specs.Quantity.{denominator, has_too_many_digits, numerator, refuse, scaled, value_of, without_zeros}
use Rattle.quantity_text.specs.Grammar.{HasValue, IsLeast}
use Rattle.quantity_text.proofs.Powers.{product_positive, ten_positive}

ceil_least : (a b : ℕ) → 0 < b → IsLeast (div_ceil a b) a b
ceil_least a b positive = record { enough = bounds.0; least = least }
  where
    bounds : (a ≤ div_ceil a b * b) × (div_ceil a b * b < a + b)
    bounds = div_ceil_times a b positive

    least : (m : ℕ) → a ≤ m * b → div_ceil a b ≤ m
    least m enough =
        let above = bounds.1 in
        let next : (m + 1) * b ≡ m * b + b = omega arith in
        let lower : div_ceil a b * b < (m + 1) * b = omega arith in
        let less = lt_of_mul-lt-mul_right b lower in
        omega arith

only_one : (m n a b : ℕ) → IsLeast m a b → IsLeast n a b → m ≡ n
only_one m n a b left right = let over = left.least n right.enough in let under = right.least m left.enough in omega arith

denominator_positive : (scale : Scale) → 0 < denominator scale
denominator_positive (Binary x) = omega arith
denominator_positive (Decimal x) = omega arith
denominator_positive (Fraction x) = ten_positive x

value_least : (whole fraction : List ℕ) (scale : Scale) → IsLeast (value_of whole fraction scale) (digits_value 10 (whole ++ fraction) * numerator scale) (10 ^ length fraction * denominator scale)
unfolding value_of
value_least whole fraction scale = ceil_least _ _ (product_positive (10 ^ length fraction) (denominator scale) (ten_positive (length fraction)) (denominator_positive scale))

pub refuse_ok : (b : Bool) (e : AmountError) (next : Result ℕ AmountError) (n : ℕ) → refuse b e next ≡ Ok n → (b ≡ false) × (next ≡ Ok n)
unfolding refuse
refuse_ok true e next n is = cc
refuse_ok false e next n is = (refl, is)

few_digits : (a b : ℕ) → (ltb 18 a || ltb 18 b) ≡ false → (a ≤ 18) × (b ≤ 18)
few_digits a b e = grind (arith, nat_tests)

many_false : (a b : ℕ) → a ≤ 18 → b ≤ 18 → (ltb 18 a || ltb 18 b) ≡ false
many_false a b first second = grind (arith, nat_tests)

pub scaled_found : (whole fraction : List ℕ) (scale : Scale) (n : ℕ) → scaled whole fraction scale ≡ Ok n → HasValue whole fraction scale n
unfolding scaled has_too_many_digits
scaled_found whole fraction scale n e =
    let digits = refuse_ok _ _ _ n e in
    let near = refuse_ok _ _ _ n digits.1 in
    let small = refuse_ok _ _ _ n near.1 in
    let few = few_digits (length (without_zeros (whole ++ fraction))) (length fraction) digits.0 in
    let same : value_of whole fraction scale ≡ n = cc (small.1) in
    let limit : ltb 9223372036854775807 (value_of whole fraction scale) ≡ false = small.0 in
    let P : ℕ → Type 0 = λ k. IsLeast k (digits_value 10 (whole ++ fraction) * numerator scale) (10 ^ length fraction * denominator scale) in
    record { few = few.0; few_behind = few.1; near = near.0; value = subst P same (value_least whole fraction scale); size = grind (arith, nat_tests) }

pub scaled_is : (whole fraction : List ℕ) (scale : Scale) (n : ℕ) → HasValue whole fraction scale n → scaled whole fraction scale ≡ Ok n
unfolding scaled has_too_many_digits refuse
scaled_is whole fraction scale n is =
    let digits = many_false (length (without_zeros (whole ++ fraction))) (length fraction) is.few is.few_behind in
    let same = only_one _ _ _ _ (value_least whole fraction scale) is.value in
    let size = is.size in
    let small : ltb 9223372036854775807 (value_of whole fraction scale) ≡ false = grind (arith, nat_tests) in
    rw (digits, is.near, small) (ap Ok same)
