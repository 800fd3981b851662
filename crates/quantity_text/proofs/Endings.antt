-- What is taken as a suffix is what the grammar says.
use Rattle.std.proofs.Common.{◌≡◌, ℕ, Bool, true, false, eqb, subst, ◌≢◌, ◌⊎◌, inl, inr, List, [], ◌∷◌, Option, Some, None, refl, sym, ap, ◌∙◌, arith}
use Rattle.std.specs.Prelude.{bytes_eq, option_map}
use Rattle.std.specs.Option.{option_or}
use Rattle.std.proofs.lemmas.Bool.{cases_eq, and_parts}
use Rattle.std.proofs.lemmas.Bool.Decides.{nat_tests}
use Rattle.std.proofs.lemmas.Slice.Eq.{bytes_eq-Decides}
use Rattle.std.specs.List.{list_all}
use Rattle.std.specs.Char.{is_ascii_digit}
use Rattle.std.specs.Str.Parse.{digits_value}
use Rattle.quantity_text.specs.declared.scales.Scale.{Scale}
use Rattle.quantity_text.specs.declared.scales.Scale.TheVariants.{Decimal, Fraction}
use Rattle.quantity_text.specs.Quantity.{exponent_of, exponent_scale, named_scales, scale_named, scale_of, signed_exponent}
use Rattle.quantity_text.specs.Grammar.{IsDigits, IsExponent, IsOneOf, IsSigned, IsSuffix, SuffixesAreOfTheGrammar}
use Rattle.quantity_text.proofs.DigitFacts.{in_range}

-- the names
abbrev pub Row : Type 0
Row = List ℕ × Scale

name_found : (text : List ℕ) (rows : List Row) (scale : Scale) → scale_named text rows ≡ Some scale → IsOneOf (text, scale) rows
name_found text [] scale e = cc
name_found text (row ∷ rows) scale e = by (bytes_eq text row.0) refl (name_found text rows scale)
  where
    by : (b : Bool) → bytes_eq text row.0 ≡ b → (scale_named text rows ≡ Some scale → IsOneOf (text, scale) rows) → IsOneOf (text, scale) (row ∷ rows)
    by true is rest =
        let name = (bytes_eq-Decides text row.0).0 is in
        let value : Some row.1 ≡ Some scale = rw is at e in
        let same : scale ≡ row.1 = cc in
        inl (rw (name, same) refl)
    by false is rest = inr (rest (rw is at e))

abbrev pub EachRow : (Row → Type 0) → List Row → Type 0
EachRow P [] = Unit {0}
EachRow P (row ∷ rows) = P row × EachRow P rows

pub each_row : (P : Row → Type 0) (row : Row) (rows : List Row) → IsOneOf row rows → EachRow P rows → P row
each_row P row [] never all = absurd never
each_row P row (r ∷ rows) (inl e) all = subst P (sym e) all.0
each_row P row (r ∷ rows) (inr more) all = each_row P row rows more all.1

name_is : (text : List ℕ) (scale : Scale) → IsOneOf (text, scale) named_scales → scale_named text named_scales ≡ Some scale
name_is text scale is = each_row (λ row. scale_named row.0 named_scales ≡ Some row.1) (text, scale) named_scales is
    (refl, (refl, (refl, (refl, (refl, (refl, (refl, (refl, (refl, (refl, (refl, (refl, (refl, (refl, (refl, (refl, tt))))))))))))))))

not_named : (letter x : ℕ) (xs : List ℕ) → (letter ≡ 101) ⊎ (letter ≡ 69) → x ≢ 105 → scale_named (letter ∷ x ∷ xs) named_scales ≡ None
not_named letter x xs (inl e) other = rw e refl
not_named letter x xs (inr e) other = let no : eqb x 105 ≡ false = grind (arith, nat_tests) in rw (e, no) refl

-- exponents
map_some : (f : ℕ → Scale) (o : Option ℕ) (scale : Scale) → option_map f o ≡ Some scale → (n : ℕ) × (o ≡ Some n) × (scale ≡ f n)
map_some f None scale e = cc
map_some f (Some n) scale e = (n, refl, cc)

digits_found : (ds : List ℕ) (n : ℕ) → exponent_of ds ≡ Some n → IsDigits ds × (n ≡ digits_value 10 ds)
digits_found [] n e = cc
digits_found (d ∷ ds) n e = by (list_all is_ascii_digit (d ∷ ds)) refl
  where
    by : (b : Bool) → list_all is_ascii_digit (d ∷ ds) ≡ b → IsDigits (d ∷ ds) × (n ≡ digits_value 10 (d ∷ ds))
    by true is = let found : Some (digits_value 10 (d ∷ ds)) ≡ Some n = rw is at e in ((omega arith, is), cc)
    by false is = let none : None ≡ Some n = rw is at e in cc

digits_are_read : (ds : List ℕ) → IsDigits ds → exponent_of ds ≡ Some (digits_value 10 ds)
digits_are_read [] is = absurd (omega (arith, is.0))
digits_are_read (d ∷ ds) is = rw is.1 refl

signed_found : (letter : ℕ) (bs : List ℕ) (scale : Scale) → (letter ≡ 101) ⊎ (letter ≡ 69) → signed_exponent bs ≡ Some scale → IsExponent (letter ∷ bs) scale
signed_found letter [] scale is e = cc
signed_found letter (b ∷ bs) scale is e = by (cases_eq b 43) (cases_eq b 45)
  where
    by : (b ≡ 43) ⊎ (b ≢ 43) → (b ≡ 45) ⊎ (b ≢ 45) → IsExponent (letter ∷ b ∷ bs) scale
    by (inl plus) minus =
        let yes : eqb b 43 ≡ true = grind (arith, nat_tests) in
        let found = map_some Decimal (exponent_of bs) scale (rw yes at e) in
        let digits = digits_found bs found.0 found.1 in
        record { letter = letter; digits = bs; is_letter = is; are_digits = digits.0; signed = inr (inl (ap (λ k. letter ∷ k ∷ bs) plus, found.2 ∙ ap Decimal digits.1)) }
    by (inr other) (inl minus) =
        let no : eqb b 43 ≡ false = grind (arith, nat_tests) in
        let yes : eqb b 45 ≡ true = grind (arith, nat_tests) in
        let found = map_some Fraction (exponent_of bs) scale (rw (no, yes) at e) in
        let digits = digits_found bs found.0 found.1 in
        record { letter = letter; digits = bs; is_letter = is; are_digits = digits.0; signed = inr (inr (ap (λ k. letter ∷ k ∷ bs) minus, found.2 ∙ ap Fraction digits.1)) }
    by (inr other) (inr neither) =
        let no : eqb b 43 ≡ false = grind (arith, nat_tests) in
        let no_minus : eqb b 45 ≡ false = grind (arith, nat_tests) in
        let found = map_some Decimal (exponent_of (b ∷ bs)) scale (rw (no, no_minus) at e) in
        let digits = digits_found (b ∷ bs) found.0 found.1 in
        record { letter = letter; digits = b ∷ bs; is_letter = is; are_digits = digits.0; signed = inl (refl, found.2 ∙ ap Decimal digits.1) }

exponent_found : (text : List ℕ) (scale : Scale) → exponent_scale text ≡ Some scale → IsExponent text scale
exponent_found [] scale e = cc
exponent_found (b ∷ bs) scale e = by (cases_eq b 101) (cases_eq b 69)
  where
    by : (b ≡ 101) ⊎ (b ≢ 101) → (b ≡ 69) ⊎ (b ≢ 69) → IsExponent (b ∷ bs) scale
    by (inl is) upper = let yes : eqb b 101 ≡ true = grind (arith, nat_tests) in signed_found b bs scale (inl is) (rw yes at e)
    by (inr other) (inl is) =
        let no : eqb b 101 ≡ false = grind (arith, nat_tests) in
        let yes : eqb b 69 ≡ true = grind (arith, nat_tests) in
        signed_found b bs scale (inr is) (rw (no, yes) at e)
    by (inr other) (inr neither) =
        let no : eqb b 101 ≡ false = grind (arith, nat_tests) in
        let no_upper : eqb b 69 ≡ false = grind (arith, nat_tests) in
        let none : None ≡ Some scale = rw (no, no_upper) at e in cc

letter_read : (letter : ℕ) (bs : List ℕ) → (letter ≡ 101) ⊎ (letter ≡ 69) → exponent_scale (letter ∷ bs) ≡ signed_exponent bs
letter_read letter bs (inl e) = rw e refl
letter_read letter bs (inr e) = rw e refl

-- behind the letter stands a sign or a digit, so it is no name
behind_letter : (letter x : ℕ) (xs : List ℕ) (scale : Scale) → (letter ≡ 101) ⊎ (letter ≡ 69) → x ≢ 105 → signed_exponent (x ∷ xs) ≡ Some scale → scale_of (letter ∷ x ∷ xs) ≡ Some scale
unfolding scale_of
behind_letter letter x xs scale is other e =
    let none = not_named letter x xs is other in
    let read = letter_read letter (x ∷ xs) is in
    ap (λ o. option_or o (exponent_scale (letter ∷ x ∷ xs))) none ∙ read ∙ e

unsigned_read : (d : ℕ) (ds : List ℕ) → IsDigits (d ∷ ds) → signed_exponent (d ∷ ds) ≡ Some (Decimal (digits_value 10 (d ∷ ds)))
unsigned_read d ds is =
    let range = in_range d (and_parts (is_ascii_digit d) (list_all is_ascii_digit ds) is.1).0 in
    let no : eqb d 43 ≡ false = grind (arith, nat_tests) in
    let no_minus : eqb d 45 ≡ false = grind (arith, nat_tests) in
    rw (no, no_minus) (ap (option_map Decimal) (digits_are_read (d ∷ ds) is))

exponent_is : (text digits : List ℕ) (letter : ℕ) (scale : Scale) → (letter ≡ 101) ⊎ (letter ≡ 69) → IsDigits digits → IsSigned text letter digits scale → scale_of text ≡ Some scale
exponent_is text [] letter scale is digits signed = absurd (omega (arith, digits.0))
exponent_is text (d ∷ ds) letter scale is digits (inl e) =
    let range = in_range d (and_parts (is_ascii_digit d) (list_all is_ascii_digit ds) digits.1).0 in
    let other : d ≢ 105 = omega arith in
    ap scale_of e.0 ∙ behind_letter letter d ds scale is other (unsigned_read d ds digits ∙ ap Some (sym e.1))
exponent_is text (d ∷ ds) letter scale is digits (inr (inl e)) =
    ap scale_of e.0 ∙ behind_letter letter 43 (d ∷ ds) scale is (omega arith) (ap (option_map Decimal) (digits_are_read (d ∷ ds) digits) ∙ ap Some (sym e.1))
exponent_is text (d ∷ ds) letter scale is digits (inr (inr e)) =
    ap scale_of e.0 ∙ behind_letter letter 45 (d ∷ ds) scale is (omega arith) (ap (option_map Fraction) (digits_are_read (d ∷ ds) digits) ∙ ap Some (sym e.1))

pub suffix_found : (text : List ℕ) (scale : Scale) → scale_of text ≡ Some scale → IsSuffix text scale
unfolding scale_of
suffix_found text scale e = by (scale_named text named_scales) refl
  where
    by : (o : Option Scale) → scale_named text named_scales ≡ o → IsSuffix text scale
    by (Some s) is = let found : Some s ≡ Some scale = ap (λ o. option_or o (exponent_scale text)) (sym is) ∙ e in inl (name_found text named_scales scale (is ∙ found))
    by None is = inr (exponent_found text scale (ap (λ o. option_or o (exponent_scale text)) (sym is) ∙ e))

pub suffix_is : (text : List ℕ) (scale : Scale) → IsSuffix text scale → scale_of text ≡ Some scale
unfolding scale_of
suffix_is text scale (inl name) = ap (λ o. option_or o (exponent_scale text)) (name_is text scale name)
suffix_is text scale (inr e) = exponent_is text e.digits e.letter scale e.is_letter e.are_digits e.signed

pub suffixes_are_of_the_grammar : SuffixesAreOfTheGrammar
suffixes_are_of_the_grammar text scale = (suffix_found text scale, suffix_is text scale)
