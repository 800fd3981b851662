-- Texts of digits that are versions.
use Rattle.std.proofs.Common.{◌≡◌, ℕ, ◌<◌, ◌≤◌, ◌^◌, List, Bool, true, false, ◌&&◌, nat_le, length, Option, Some, None, if◌then◌else◌, Ok, Err, ◌⊎◌, inl, inr, refl, ap, arith, rules}
use Rattle.std.specs.List.{list_all}
use Rattle.std.specs.Char.{is_ascii_digit}
use Rattle.std.specs.Str.Parse.{digits_value, IsNumeral, without_leading_plus, ParsesUnsigned}
use Rattle.std.specs.declared.result.Result.{Result}
use Rattle.std.specs.Prelude.{OkIff}
use Rattle.std.specs.Bool.{⊤}
use Rattle.std.proofs.lemmas.Bool.Decides.{nat_tests}
use Rattle.std.proofs.lemmas.Bool.{cases_lt}
use Rattle.std.proofs.lemmas.Str.Parse.{IsNumeralModel, numerals_by_value, parse_digits}
use Rattle.object_text.specs.MemberReaders.{is_version}

own : IsNumeralModel (λ ds. list_all is_ascii_digit ds ≡ true) (digits_value 10)
own = numerals_by_value _ (search rules)

abbrev version_or_none : List ℕ → Option ℕ
version_or_none bs = if is_version bs then Some (digits_value 10 bs) else None

is_one : (bs : List ℕ) → 0 < length bs → list_all is_ascii_digit bs ≡ true → digits_value 10 bs ≤ 2 ^ 62 → is_version bs ≡ true
is_one bs some digits small =
    let a : nat_le 1 (length bs) ≡ true = grind (arith, nat_tests) in
    let b : nat_le (digits_value 10 bs) (2 ^ 62) ≡ true = grind (arith, nat_tests) in
    rw (a, digits, b) refl

is_none : (a b c : Bool) → c ≡ false → (a && b && c) ≡ false
is_none true true c h = h
is_none true false c h = refl
is_none false b c h = refl

too_large : (bs : List ℕ) → 2 ^ 62 < digits_value 10 bs → is_version bs ≡ false
too_large bs large = is_none (nat_le 1 (length bs)) (list_all is_ascii_digit bs) (nat_le (digits_value 10 bs) (2 ^ 62)) (grind (arith, nat_tests))

-- the text is a numeral that fits 64 bits
abbrev IsRead : List ℕ → Type 0
IsRead bs = IsNumeral 10 (without_leading_plus bs) × (digits_value 10 (without_leading_plus bs) < 2 ^ 64)

digits_told : (bs : List ℕ) (r : Result ℕ ⊤) → ParsesUnsigned 64 10 bs r → list_all is_ascii_digit bs ≡ true → OkIff r ((0 < length bs) × (digits_value 10 bs < 2 ^ 64)) (digits_value 10 bs)
digits_told bs r h digits = parse_digits own 64 bs r h digits

read_digits : (bs : List ℕ) (n : ℕ) → IsRead bs → n ≡ digits_value 10 (without_leading_plus bs) → list_all is_ascii_digit bs ≡ true
    → ((0 < length bs) × (digits_value 10 bs < 2 ^ 64)) × (n ≡ digits_value 10 bs)
read_digits bs n h e digits = digits_told bs (Ok n) (h, e) digits

unread_digits : (bs : List ℕ) → (IsRead bs → ⊥) → list_all is_ascii_digit bs ≡ true → (0 < length bs) × (digits_value 10 bs < 2 ^ 64) → ⊥
unread_digits bs h digits = digits_told bs (Err tt) h digits

pub version_accepted : (bs : List ℕ) (n : ℕ) → IsRead bs × (n ≡ digits_value 10 (without_leading_plus bs)) → list_all is_ascii_digit bs ≡ true → n ≤ 2 ^ 62 → Some n ≡ version_or_none bs
version_accepted bs n h digits small =
    let parsed = read_digits bs n h.0 h.1 digits in
    rw (is_one bs parsed.0.0 digits (omega (arith, parsed.1))) (ap Some parsed.1)

pub version_large : (bs : List ℕ) (n : ℕ) → IsRead bs × (n ≡ digits_value 10 (without_leading_plus bs)) → list_all is_ascii_digit bs ≡ true → 2 ^ 62 < n → None ≡ version_or_none bs
version_large bs n h digits large =
    let parsed = read_digits bs n h.0 h.1 digits in
    rw (too_large bs (omega (arith, parsed.1))) refl

pub version_unread : (bs : List ℕ) → (IsRead bs → ⊥) → list_all is_ascii_digit bs ≡ true → 0 < length bs → None ≡ version_or_none bs
version_unread bs h digits some = by (unread_digits bs h digits)
  where
    beyond : ((0 < length bs) × (digits_value 10 bs < 2 ^ 64) → ⊥) → 2 ^ 62 < digits_value 10 bs
    beyond absent = above (cases_lt (digits_value 10 bs) (2 ^ 64))
      where
        above : (digits_value 10 bs < 2 ^ 64) ⊎ (2 ^ 64 ≤ digits_value 10 bs) → 2 ^ 62 < digits_value 10 bs
        above (inl small) = absurd (absent (some, small))
        above (inr large) = omega arith

    by : ((0 < length bs) × (digits_value 10 bs < 2 ^ 64) → ⊥) → None ≡ version_or_none bs
    by absent = rw (too_large bs (beyond absent)) refl
