-- An amount is written in ASCII.
use Rattle.std.proofs.Common.{◌≡◌, ℕ, zero, suc, true, ltb, subst, ◌⊎◌, inl, inr, List, [], ◌∷◌, ◌++◌, Result, Ok, Err, refl, sym, arith}
use Rattle.std.specs.Prelude.{IsUtf8, IsAscii}
use Rattle.std.specs.Result.{IsOk}
use Rattle.std.proofs.lemmas.Bool.Decides.{nat_tests}
use Rattle.std.proofs.lemmas.Str.{IsUtf8-from_ascii}
use Rattle.std.specs.List.{list_all}
use Rattle.std.specs.Char.{is_ascii, is_ascii_digit}
use Rattle.std.proofs.lemmas.Bool.{and_parts}
use Rattle.quantity_text.specs.declared.errors.AmountError.{AmountError}
use Rattle.quantity_text.specs.declared.scales.Scale.{Scale}
use Rattle.quantity_text.specs.Quantity.{amount_of, named_scales}
use Rattle.quantity_text.specs.Grammar.{IsSigned, IsSuffix}
use Rattle.quantity_text.proofs.Accepted.{amount_found}
use Rattle.quantity_text.proofs.DigitFacts.{all_append, in_range}
use Rattle.quantity_text.proofs.Endings.{each_row}
use Rattle.quantity_text.proofs.Fronts.{IsWritten, written}

abbrev IsPlain : List ℕ → Type 0
IsPlain bs = list_all is_ascii bs ≡ true

digits_plain : (ds : List ℕ) → list_all is_ascii_digit ds ≡ true → IsPlain ds
digits_plain [] e = refl
digits_plain (d ∷ ds) e =
    let parts = and_parts (is_ascii_digit d) (list_all is_ascii_digit ds) e in
    let range = in_range d parts.0 in
    let small : ltb d 128 ≡ true = grind (arith, nat_tests) in
    rw (small, digits_plain ds parts.1) refl

number_plain : (number whole fraction : List ℕ) → IsWritten number whole fraction → IsPlain number
number_plain number whole fraction w = by w.text
  where
    by : ((number ≡ whole) × (fraction ≡ [])) ⊎ (number ≡ whole ++ 46 ∷ fraction) → IsPlain number
    by (inl e) = subst IsPlain (sym e.0) (digits_plain whole w.before)
    by (inr e) = subst IsPlain (sym e) (all_append is_ascii whole (46 ∷ fraction) (digits_plain whole w.before) (digits_plain fraction w.behind))

letter_plain : (letter : ℕ) → (letter ≡ 101) ⊎ (letter ≡ 69) → is_ascii letter ≡ true
letter_plain letter (inl e) = rw e refl
letter_plain letter (inr e) = rw e refl

suffix_plain : (text : List ℕ) (scale : Scale) → IsSuffix text scale → IsPlain text
suffix_plain text scale (inl name) =
    each_row (λ row. IsPlain row.0) (text, scale) named_scales name
    (refl, (refl, (refl, (refl, (refl, (refl, (refl, (refl, (refl, (refl, (refl, (refl, (refl, (refl, (refl, (refl, tt))))))))))))))))
suffix_plain text scale (inr e) = by e.signed
  where
    digits : IsPlain e.digits
    digits = digits_plain e.digits e.are_digits.1

    letter : is_ascii e.letter ≡ true
    letter = letter_plain e.letter e.is_letter

    by : IsSigned text e.letter e.digits scale → IsPlain text
    by (inl s) = subst IsPlain (sym s.0) (rw (letter, digits) refl)
    by (inr (inl s)) = subst IsPlain (sym s.0) (rw (letter, digits) refl)
    by (inr (inr s)) = subst IsPlain (sym s.0) (rw (letter, digits) refl)

sign_plain : (sign : List ℕ) → (sign ≡ []) ⊎ (sign ≡ 43 ∷ []) → IsPlain sign
sign_plain sign (inl e) = rw e refl
sign_plain sign (inr e) = rw e refl

each_plain : (bs : List ℕ) → IsPlain bs → IsAscii bs
each_plain [] e i = omega arith
each_plain (b ∷ bs) e zero = let parts = and_parts (ltb b 128) (list_all is_ascii bs) e in let test = parts.0 in grind (arith, nat_tests)
each_plain (b ∷ bs) e (suc i) = each_plain bs (and_parts (ltb b 128) (list_all is_ascii bs) e).1 i

amount_plain : (text : List ℕ) (n : ℕ) → amount_of text ≡ Ok n → IsPlain text
amount_plain text n e =
    let found = amount_found text n e in
    let is = found.3 in
    subst IsPlain (sym is.joined) (all_append is_ascii is.sign (is.number ++ is.suffix) (sign_plain is.sign is.is_sign)
    (all_append is_ascii is.number is.suffix (number_plain is.number found.0 found.1 (written is.number found.0 found.1 is.is_number)) (suffix_plain is.suffix found.2 is.is_suffix)))

pub amount_is_text : (text : List ℕ) → IsOk (amount_of text) → IsUtf8 text
amount_is_text text ok = by (amount_of text) refl ok
  where
    by : (r : Result ℕ AmountError) → amount_of text ≡ r → IsOk r → IsUtf8 text
    by (Ok n) is ok = IsUtf8-from_ascii text (each_plain text (amount_plain text n is))
    by (Err e) is ok = cc
