-- The grammar of quantities as rules, and what it says of the reading. Source: Kubernetes API reference, "Quantity"
-- (resource.Quantity of apimachinery): a number `d`, `d.d`, `d.` or `.d`, and a suffix, with an optional sign before
-- them, which is a plus here.
use Rattle.std.specs.Prelude.{◌≡◌, ℕ, ◌*◌, ◌^◌, ◌<◌, ◌≤◌, true, false, ◌⊎◌, ◌↔◌, List, [], ◌∷◌, ◌++◌, length, Some}
use Rattle.std.specs.declared.result.Result.TheVariants.{Ok}
use Rattle.std.specs.List.{list_all}
use Rattle.std.specs.Char.{is_ascii_digit}
use Rattle.std.specs.Str.Parse.{digits_value}
use Rattle.quantity_text.specs.declared.scales.Scale.{Scale}
use Rattle.quantity_text.specs.declared.scales.Scale.TheVariants.{Decimal, Fraction}
use Rattle.quantity_text.specs.Quantity.{amount_of, denominator, has_bad_exponent, lacks_number, named_scales, numerator, parts_of, scale_of, without_zeros}

-- d: one or more digits
abbrev pub IsDigits : List ℕ → Type 0
IsDigits ds = (0 < length ds) × (list_all is_ascii_digit ds ≡ true)

-- a number, its digits before the point and those behind it: d, d.d, d. and .d
abbrev pub IsNumber : List ℕ → List ℕ → List ℕ → Type 0
IsNumber text whole fraction =
    (IsDigits whole × (fraction ≡ []) × (text ≡ whole))
    ⊎ (IsDigits whole × IsDigits fraction × (text ≡ whole ++ 46 ∷ fraction))
    ⊎ (IsDigits whole × (fraction ≡ []) × (text ≡ whole ++ 46 ∷ []))
    ⊎ ((whole ≡ []) × IsDigits fraction × (text ≡ 46 ∷ fraction))

-- the value stands in the list
abbrev pub IsOneOf : {A : Type 0} → A → List A → Type 0
IsOneOf x [] = ⊥
IsOneOf x (y ∷ ys) = (x ≡ y) ⊎ IsOneOf x ys

-- digits behind a letter and an optional sign
abbrev pub IsSigned : List ℕ → ℕ → List ℕ → Scale → Type 0
IsSigned text letter digits scale =
    ((text ≡ letter ∷ digits) × (scale ≡ Decimal (digits_value 10 digits)))
    ⊎ ((text ≡ letter ∷ 43 ∷ digits) × (scale ≡ Decimal (digits_value 10 digits)))
    ⊎ ((text ≡ letter ∷ 45 ∷ digits) × (scale ≡ Fraction (digits_value 10 digits)))

-- an exponent: `e` or `E`, an optional sign, and one or more digits
pub record IsExponent (text : List ℕ) (scale : Scale) : Type 0 where
  pub letter : ℕ
  pub digits : List ℕ
  pub is_letter : (letter ≡ 101) ⊎ (letter ≡ 69)
  pub are_digits : IsDigits digits
  pub signed : IsSigned text letter digits scale

-- a suffix and what it multiplies by
abbrev pub IsSuffix : List ℕ → Scale → Type 0
IsSuffix text scale = IsOneOf (text, scale) named_scales ⊎ IsExponent text scale

-- an optional plus, a number and a suffix
pub record IsAmount (text whole fraction : List ℕ) (scale : Scale) : Type 0 where
  pub sign : List ℕ
  pub number : List ℕ
  pub suffix : List ℕ
  pub is_sign : (sign ≡ []) ⊎ (sign ≡ 43 ∷ [])
  pub is_number : IsNumber number whole fraction
  pub is_suffix : IsSuffix suffix scale
  pub joined : text ≡ sign ++ (number ++ suffix)

-- n is the least whole number not below the fraction a / b
pub record IsLeast (n a b : ℕ) : Type 0 where
  pub enough : a ≤ n * b
  pub least : (m : ℕ) → a ≤ m * b → n ≤ m

-- a number times a scale is within the limits, and n is the least whole number not below it
pub record HasValue (whole fraction : List ℕ) (scale : Scale) (n : ℕ) : Type 0 where
  pub few : length (without_zeros (whole ++ fraction)) ≤ 18
  pub few_behind : length fraction ≤ 18
  pub near : has_bad_exponent scale ≡ false
  pub value : IsLeast n (digits_value 10 (whole ++ fraction) * numerator scale) (10 ^ length fraction * denominator scale)
  pub size : n ≤ 9223372036854775807

-- a text stands for n exactly where the grammar makes a number and a suffix of it whose value is n
abbrev pub AmountsAreOfTheGrammar : Type 0
AmountsAreOfTheGrammar = (text : List ℕ) (n : ℕ) →
    (amount_of text ≡ Ok n) ↔ ((whole fraction : List ℕ) × (scale : Scale) × IsAmount text whole fraction scale × HasValue whole fraction scale n)

-- a text is a suffix exactly where the grammar says so
abbrev pub SuffixesAreOfTheGrammar : Type 0
SuffixesAreOfTheGrammar = (text : List ℕ) (scale : Scale) → (scale_of text ≡ Some scale) ↔ IsSuffix text scale

-- the front of a text is no longer number than this
abbrev pub IsLongest : List ℕ → List ℕ → Type 0
IsLongest text number = (other whole fraction rest : List ℕ) → IsNumber other whole fraction → text ≡ other ++ rest → length other ≤ length number

-- the parts are those of the longest number at the front, and without such parts no number stands there
pub record LongestNumber (text : List ℕ) : Type 0 where
  pub none : lacks_number (parts_of text) ≡ true → (number whole fraction rest : List ℕ) → IsNumber number whole fraction → text ≡ number ++ rest → ⊥
  pub longest : lacks_number (parts_of text) ≡ false →
      (number : List ℕ) × IsNumber number (parts_of text).whole (parts_of text).fraction × (text ≡ number ++ (parts_of text).suffix) × IsLongest text number

-- of each text the longest number at its front is taken
abbrev pub NumbersAreTheLongest : Type 0
NumbersAreTheLongest = (text : List ℕ) → LongestNumber text
