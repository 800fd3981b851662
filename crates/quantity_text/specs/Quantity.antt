-- Quantities: texts that stand for amounts of bytes. Source: Kubernetes API reference, "Quantity" (resource.Quantity of
-- apimachinery): the forms of numbers, the suffixes, and that a value is rounded up. The limits on digits, exponents and
-- values, and the order of the refusals, are this project's choice.
use Rattle.std.specs.Prelude.{
  ◌≡◌,
  ℕ,
  ◌+◌,
  ◌-◌,
  ◌*◌,
  ◌^◌,
  ◌==◌,
  nat_lt,
  Bool,
  true,
  false,
  ◌&&◌,
  ◌||◌,
  not,
  if◌then◌else◌,
  List,
  [],
  ◌∷◌,
  ◌++◌,
  length,
  drop,
  take_while,
  codes,
  bytes_eq,
  Option,
  Some,
  None,
  option_map,
  ⊤,
}
use Rattle.std.specs.Option.{option_or}
use Rattle.std.specs.Int.{div_ceil}
use Rattle.std.specs.declared.result.Result.{Result}
use Rattle.std.specs.declared.result.Result.TheVariants.{Ok, Err}
use Rattle.std.specs.List.{list_all, prefix_len}
use Rattle.std.specs.Char.{is_ascii_digit}
use Rattle.std.specs.Str.Parse.{digits_value}
use Rattle.quantity_text.specs.declared.errors.AmountError.{AmountError}
use Rattle.quantity_text.specs.declared.errors.AmountError.TheVariants.{Empty, Negative, BadNumber, BadSuffix, TooManyDigits, BadExponent, TooLarge, OutOfMemory}
use Rattle.kube_objects.specs.declared.objects.Amount.{Amount}
use Rattle.kube_objects.specs.Bindings.{is_empty}
use Rattle.quantity_text.specs.declared.scales.Scale.{Scale}
use Rattle.quantity_text.specs.declared.scales.Scale.TheVariants.{Binary, Decimal, Fraction}

-- the digits at the front, as many as stand there, and the text behind them
abbrev pub digits_at : List ℕ → List ℕ
digits_at text = take_while is_ascii_digit text

-- the text behind the digits at the front
abbrev pub after_digits : List ℕ → List ℕ
after_digits text = drop (prefix_len is_ascii_digit text) text

-- the same behind a point at the front; without the point there are none
abbrev pub fraction_at : List ℕ → List ℕ
fraction_at [] = []
fraction_at (b ∷ bs) = if b == 46 then digits_at bs else []

-- the text behind a point at the front and the digits that follow it; the whole text where no point stands there
abbrev pub after_fraction : List ℕ → List ℕ
after_fraction [] = []
after_fraction (b ∷ bs) = if b == 46 then after_digits bs else b ∷ bs

-- the longest number at the front, by its digits before the point and behind it, and the text behind the number
pub record Parts : Type 0 where
  pub whole : List ℕ
  pub fraction : List ℕ
  pub suffix : List ℕ

-- a text as the number at its front and the suffix behind it
abbrev pub parts_of : List ℕ → Parts
parts_of text = record { whole = digits_at text; fraction = fraction_at (after_digits text); suffix = after_fraction (after_digits text) }

-- no number stands at the front: there is no digit
abbrev pub lacks_number : Parts → Bool
lacks_number p = is_empty p.whole && is_empty p.fraction

-- the suffixes that have a name
abbrev pub named_scales : List (List ℕ × Scale)
named_scales =
    ([], Decimal 0)
    ∷ (codes "Ki", Binary 10) ∷ (codes "Mi", Binary 20) ∷ (codes "Gi", Binary 30)
    ∷ (codes "Ti", Binary 40) ∷ (codes "Pi", Binary 50) ∷ (codes "Ei", Binary 60)
    ∷ (codes "n", Fraction 9) ∷ (codes "u", Fraction 6) ∷ (codes "m", Fraction 3)
    ∷ (codes "k", Decimal 3) ∷ (codes "M", Decimal 6) ∷ (codes "G", Decimal 9)
    ∷ (codes "T", Decimal 12) ∷ (codes "P", Decimal 15) ∷ (codes "E", Decimal 18) ∷ []

-- the scale of a suffix by a table of names; none where the table lacks it
abbrev pub scale_named : List ℕ → List (List ℕ × Scale) → Option Scale
scale_named suffix [] = None
scale_named suffix (s ∷ ss) = if bytes_eq suffix s.0 then Some s.1 else scale_named suffix ss

-- one or more digits
abbrev pub exponent_of : List ℕ → Option ℕ
exponent_of ds = if not (is_empty ds) && list_all is_ascii_digit ds then Some (digits_value 10 ds) else None

-- with an optional sign
abbrev pub signed_exponent : List ℕ → Option Scale
signed_exponent [] = None
signed_exponent (b ∷ bs) = if b == 43 then option_map Decimal (exponent_of bs) else (if b == 45 then option_map Fraction (exponent_of bs) else option_map Decimal (exponent_of (b ∷ bs)))

-- behind `e` or `E`
abbrev pub exponent_scale : List ℕ → Option Scale
exponent_scale [] = None
exponent_scale (b ∷ bs) = if b == 101 || b == 69 then signed_exponent bs else None

-- what a suffix multiplies by; none where the text is no suffix
unfoldable pub scale_of : List ℕ → Option Scale
scale_of suffix = option_or (scale_named suffix named_scales) (exponent_scale suffix)

-- a scale as a fraction of whole numbers
abbrev pub numerator : Scale → ℕ
numerator (Binary x) = 2 ^ x
numerator (Decimal x) = 10 ^ x
numerator (Fraction x) = 1

-- what a scale divides by
abbrev pub denominator : Scale → ℕ
denominator (Binary x) = 1
denominator (Decimal x) = 1
denominator (Fraction x) = 10 ^ x

-- the least whole number not below the number times the scale
unfoldable pub value_of : List ℕ → List ℕ → Scale → ℕ
value_of whole fraction scale = div_ceil (digits_value 10 (whole ++ fraction) * numerator scale) (10 ^ length fraction * denominator scale)

-- the byte is the digit 0
abbrev pub is_zero_digit : ℕ → Bool
is_zero_digit b = b == 48

-- the digits without the zeros at their front
abbrev pub without_zeros : List ℕ → List ℕ
without_zeros ds = drop (prefix_len is_zero_digit ds) ds

-- more than 18 digits without the point and leading zeros, or more than 18 behind the point
unfoldable pub has_too_many_digits : List ℕ → List ℕ → Bool
has_too_many_digits whole fraction = nat_lt 18 (length (without_zeros (whole ++ fraction))) || nat_lt 18 (length fraction)

-- the exponent is below -18 or above 18
abbrev pub has_bad_exponent : Scale → Bool
has_bad_exponent (Binary x) = false
has_bad_exponent (Decimal x) = nat_lt 18 x
has_bad_exponent (Fraction x) = nat_lt 18 x

-- more than the bytes that can be counted
abbrev pub is_too_large : ℕ → Bool
is_too_large n = nat_lt 9223372036854775807 n

-- a refusal where the test holds, else what comes next
unfoldable pub refuse : Bool → AmountError → Result ℕ AmountError → Result ℕ AmountError
refuse true e next = Err e
refuse false e next = next

-- the bytes of a number times a scale, rounded up, or the first refusal: too many digits, a bad exponent, too large
unfoldable pub scaled : List ℕ → List ℕ → Scale → Result ℕ AmountError
scaled whole fraction scale =
    refuse (has_too_many_digits whole fraction) TooManyDigits
    (refuse (has_bad_exponent scale) BadExponent
    (refuse (is_too_large (value_of whole fraction scale)) TooLarge
    (Ok (value_of whole fraction scale))))

-- the same by the scale of a suffix; without one the suffix is refused, which begins at this place
abbrev pub scaled_by : Option Scale → ℕ → List ℕ → List ℕ → Result ℕ AmountError
scaled_by None at whole fraction = Err (BadSuffix at)
scaled_by (Some scale) at whole fraction = scaled whole fraction scale

-- the number and the suffix of a text, of which the first byte stands at this place
unfoldable pub unsigned_amount : ℕ → List ℕ → Result ℕ AmountError
unsigned_amount at text =
    refuse (lacks_number (parts_of text)) (BadNumber at)
    (scaled_by (scale_of (parts_of text).suffix) (at + (length text - length (parts_of text).suffix)) (parts_of text).whole (parts_of text).fraction)

-- the bytes that a text stands for, or the first refusal that applies
unfoldable pub amount_of : List ℕ → Result ℕ AmountError
amount_of [] = Err Empty
amount_of (b ∷ bs) = refuse (b == 45) Negative (if b == 43 then unsigned_amount 1 bs else unsigned_amount 0 (b ∷ bs))

-- the amount: the text as it is, and its bytes
abbrev pub with_text : List ℕ → Result ℕ AmountError → Result Amount AmountError
with_text text (Ok n) = Ok (record { text = text; bytes = n })
with_text text (Err e) = Err e

-- what is answered is the answer, unless memory ran out, and it can only run out where there is an amount
abbrev pub Fails : AmountError → Result Amount AmountError → Type 0
Fails OutOfMemory (Ok amount) = ⊤
Fails e answer = answer ≡ Err e

-- the result of the call is this answer, unless memory ran out
abbrev pub Gives : Result Amount AmountError → Result Amount AmountError → Type 0
Gives (Ok amount) answer = answer ≡ Ok amount
Gives (Err e) answer = Fails e answer
