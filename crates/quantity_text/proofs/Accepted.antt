-- What is read as an amount is what the grammar says.
use Rattle.std.proofs.Common.{
  ◌≡◌,
  ℕ,
  ◌+◌,
  ◌-◌,
  ◌<◌,
  ◌≤◌,
  true,
  false,
  ◌&&◌,
  cond,
  eqb,
  subst,
  ◌≢◌,
  ◌⊎◌,
  inl,
  inr,
  List,
  [],
  ◌∷◌,
  ◌++◌,
  length,
  Option,
  Some,
  None,
  Ok,
  Err,
  refl,
  sym,
  ap,
  ◌∙◌,
  arith,
  append_assoc,
}
use Rattle.std.proofs.lemmas.Bool.{cases_eq, and_parts}
use Rattle.std.proofs.lemmas.Bool.Decides.{nat_tests}
use Rattle.std.specs.List.{list_all, prefix_len}
use Rattle.std.specs.Char.{is_ascii_digit}
use Rattle.quantity_text.specs.declared.errors.AmountError.TheVariants.{BadNumber, BadSuffix}
use Rattle.quantity_text.specs.declared.scales.Scale.{Scale}
use Rattle.kube_objects.specs.Bindings.{is_empty}
use Rattle.quantity_text.specs.Quantity.{after_digits, after_fraction, amount_of, digits_at, fraction_at, lacks_number, named_scales, parts_of, refuse, scale_of, scaled, scaled_by, unsigned_amount}
use Rattle.quantity_text.specs.Grammar.{AmountsAreOfTheGrammar, HasValue, IsAmount, IsNumber, IsSigned, IsSuffix}
use Rattle.quantity_text.proofs.DigitFacts.{in_range}
use Rattle.quantity_text.proofs.Endings.{each_row, suffix_found, suffix_is}
use Rattle.quantity_text.proofs.Fronts.{IsWritten, digits_then, written}
use Rattle.quantity_text.proofs.Longest.{numbers_are_the_longest}
use Rattle.quantity_text.proofs.Rounding.{refuse_ok, scaled_found, scaled_is}

-- a suffix begins with no digit and no point
abbrev BeginsNoNumber : List ℕ → Type 0
BeginsNoNumber text = (prefix_len is_ascii_digit text ≡ 0) × (fraction_at text ≡ []) × (after_fraction text ≡ text)

letter_begins_no_number : (letter : ℕ) (bs : List ℕ) → (letter ≡ 101) ⊎ (letter ≡ 69) → BeginsNoNumber (letter ∷ bs)
letter_begins_no_number letter bs (inl e) = rw e (refl, refl, refl)
letter_begins_no_number letter bs (inr e) = rw e (refl, refl, refl)

suffix_begins_no_number : (text : List ℕ) (scale : Scale) → IsSuffix text scale → BeginsNoNumber text
suffix_begins_no_number text scale (inl name) =
    let plain : BeginsNoNumber [] = (refl, refl, refl) in
    each_row (λ row. BeginsNoNumber row.0) (text, scale) named_scales name (
      (refl, refl, refl),
      (
        (refl, refl, refl),
        (
          (refl, refl, refl),
          (
            (refl, refl, refl),
            (
              (refl, refl, refl),
              (
                (refl, refl, refl),
                (
                  (refl, refl, refl),
                  (
                    (refl, refl, refl),
                    ((refl, refl, refl), ((refl, refl, refl), ((refl, refl, refl), ((refl, refl, refl), ((refl, refl, refl), ((refl, refl, refl), ((refl, refl, refl), ((refl, refl, refl), tt)))))))),
                  ),
                ),
              ),
            ),
          ),
        ),
      ),
    )
suffix_begins_no_number text scale (inr e) = by e.signed
  where
    begun : (rest : List ℕ) → text ≡ e.letter ∷ rest → BeginsNoNumber text
    begun rest is = subst BeginsNoNumber (sym is) (letter_begins_no_number e.letter rest e.is_letter)

    by : IsSigned text e.letter e.digits scale → BeginsNoNumber text
    by (inl s) = begun _ s.0
    by (inr (inl s)) = begun _ s.0
    by (inr (inr s)) = begun _ s.0

-- a number and a suffix are the parts of the text that they make
abbrev Parted : List ℕ → List ℕ → List ℕ → List ℕ → Type 0
Parted text whole fraction suffix = (digits_at text ≡ whole) × (fraction_at (after_digits text) ≡ fraction) × (after_fraction (after_digits text) ≡ suffix)

parted : (number suffix whole fraction : List ℕ) → IsWritten number whole fraction → BeginsNoNumber suffix → Parted (number ++ suffix) whole fraction suffix
parted number suffix whole fraction w plain = by w.text
  where
    by : ((number ≡ whole) × (fraction ≡ [])) ⊎ (number ≡ whole ++ 46 ∷ fraction) → Parted (number ++ suffix) whole fraction suffix
    by (inl e) =
        let P : List ℕ → Type 0 = λ k. Parted (k ++ suffix) whole fraction suffix in
        let parts = digits_then whole suffix w.before plain.0 in
        subst P (sym e.0) (parts.0, ap fraction_at parts.1 ∙ plain.1 ∙ sym e.1, ap after_fraction parts.1 ∙ plain.2)
    by (inr e) =
        let P : List ℕ → Type 0 = λ k. Parted k whole fraction suffix in
        let parts = digits_then whole (46 ∷ (fraction ++ suffix)) w.before refl in
        let behind = digits_then fraction suffix w.behind plain.0 in
        let joined = ap (λ k. k ++ suffix) e ∙ append_assoc whole (46 ∷ fraction) suffix in
        subst P (sym joined) (parts.0, ap fraction_at parts.1 ∙ behind.0, ap after_fraction parts.1 ∙ behind.1)

-- the number and suffix behind an optional sign
pub record IsUnsigned (text whole fraction : List ℕ) (scale : Scale) : Type 0 where
  pub number : List ℕ
  pub suffix : List ℕ
  pub is_number : IsNumber number whole fraction
  pub is_suffix : IsSuffix suffix scale
  pub joined : text ≡ number ++ suffix

abbrev Unsigned : List ℕ → ℕ → Type 0
Unsigned text n = (whole fraction : List ℕ) × (scale : Scale) × IsUnsigned text whole fraction scale × HasValue whole fraction scale n

unsigned_found : (at : ℕ) (text : List ℕ) (n : ℕ) → unsigned_amount at text ≡ Ok n → Unsigned text n
unfolding unsigned_amount
unsigned_found at text n e = by (scale_of (parts_of text).suffix) refl (refuse_ok _ _ _ n e)
  where
    by : (o : Option Scale) → scale_of (parts_of text).suffix ≡ o
        → (lacks_number (parts_of text) ≡ false)
        × (scaled_by (scale_of (parts_of text).suffix) (at + (length text - length (parts_of text).suffix)) (parts_of text).whole (parts_of text).fraction ≡ Ok n)
        → Unsigned text n
    by None is given =
        let refused : Err (BadSuffix (at + (length text - length (parts_of text).suffix))) ≡ Ok n =
        ap (λ o. scaled_by o (at + (length text - length (parts_of text).suffix)) (parts_of text).whole (parts_of text).fraction) (sym is) ∙ given.1 in
        cc
    by (Some scale) is given =
        let read : scaled (parts_of text).whole (parts_of text).fraction scale ≡ Ok n =
        ap (λ o. scaled_by o (at + (length text - length (parts_of text).suffix)) (parts_of text).whole (parts_of text).fraction) (sym is) ∙ given.1 in
        let front = (numbers_are_the_longest text).longest given.0 in (
          (parts_of text).whole,
          (parts_of text).fraction,
          scale,
          record { number = front.0; suffix = (parts_of text).suffix; is_number = front.1; is_suffix = suffix_found (parts_of text).suffix scale is; joined = front.2 },
          scaled_found (parts_of text).whole (parts_of text).fraction scale n read,
        )

has_digits : (p q : List ℕ) → 0 < length p + length q → (is_empty p && is_empty q) ≡ false
has_digits [] [] some = absurd (omega (arith, some))
has_digits [] (x ∷ xs) some = refl
has_digits (x ∷ xs) q some = refl

-- what is read is a function of the parts
by_parts : (at : ℕ) (text whole fraction suffix : List ℕ) → Parted text whole fraction suffix
    → unsigned_amount at text ≡ refuse (is_empty whole && is_empty fraction) (BadNumber at) (scaled_by (scale_of suffix) (at + (length text - length suffix)) whole fraction)
unfolding unsigned_amount
by_parts at text whole fraction suffix p =
    ap (λ k. refuse (is_empty k && is_empty (fraction_at (after_digits text))) (BadNumber at)
    (scaled_by (scale_of (after_fraction (after_digits text))) (at + (length text - length (after_fraction (after_digits text)))) k (fraction_at (after_digits text)))) p.0
    ∙ ap (λ k. refuse (is_empty whole && is_empty k) (BadNumber at)
    (scaled_by (scale_of (after_fraction (after_digits text))) (at + (length text - length (after_fraction (after_digits text)))) whole k)) p.1
    ∙ ap (λ k. refuse (is_empty whole && is_empty fraction) (BadNumber at) (scaled_by (scale_of k) (at + (length text - length k)) whole fraction)) p.2

unsigned_is : (at : ℕ) (number suffix whole fraction : List ℕ) (scale : Scale) (n : ℕ) → IsNumber number whole fraction → IsSuffix suffix scale → HasValue whole fraction scale n
    → unsigned_amount at (number ++ suffix) ≡ Ok n
unfolding refuse
unsigned_is at number suffix whole fraction scale n is_number is_suffix value =
    let w = written number whole fraction is_number in
    let parts = parted number suffix whole fraction w (suffix_begins_no_number suffix scale is_suffix) in
    let place = at + (length (number ++ suffix) - length suffix) in
    by_parts at (number ++ suffix) whole fraction suffix parts
    ∙ ap (λ b. refuse b (BadNumber at) (scaled_by (scale_of suffix) place whole fraction)) (has_digits whole fraction w.some)
    ∙ ap (λ o. scaled_by o place whole fraction) (suffix_is suffix scale is_suffix)
    ∙ scaled_is whole fraction scale n value

-- a number begins with a digit or a point
first_byte : (number whole fraction : List ℕ) → IsWritten number whole fraction → (b : ℕ) × (bs : List ℕ) × (number ≡ b ∷ bs) × (eqb b 45 ≡ false) × (eqb b 43 ≡ false)
first_byte number [] fraction w = by w.text
  where
    by : ((number ≡ []) × (fraction ≡ [])) ⊎ (number ≡ 46 ∷ fraction) → (b : ℕ) × (bs : List ℕ) × (number ≡ b ∷ bs) × (eqb b 45 ≡ false) × (eqb b 43 ≡ false)
    by (inl e) = let none : length fraction ≡ 0 = ap length e.1 in let some = w.some in absurd (omega arith)
    by (inr e) = (46, fraction, e, refl, refl)
first_byte number (d ∷ ds) fraction w = by w.text
  where
    range : (48 ≤ d) × (d ≤ 57)
    range = in_range d (and_parts (is_ascii_digit d) (list_all is_ascii_digit ds) w.before).0

    no : (eqb d 45 ≡ false) × (eqb d 43 ≡ false)
    no = let r = range in (grind (arith, nat_tests), grind (arith, nat_tests))

    by : ((number ≡ d ∷ ds) × (fraction ≡ [])) ⊎ (number ≡ d ∷ (ds ++ 46 ∷ fraction)) → (b : ℕ) × (bs : List ℕ) × (number ≡ b ∷ bs) × (eqb b 45 ≡ false) × (eqb b 43 ≡ false)
    by (inl e) = (d, ds, e.0, no.0, no.1)
    by (inr e) = (d, ds ++ 46 ∷ fraction, e, no.0, no.1)

plain_sign : (b : ℕ) (bs : List ℕ) → eqb b 45 ≡ false → eqb b 43 ≡ false → amount_of (b ∷ bs) ≡ unsigned_amount 0 (b ∷ bs)
unfolding amount_of refuse
plain_sign b bs no_minus no_plus = rw (no_minus, no_plus) refl

plus_sign : (bs : List ℕ) → amount_of (43 ∷ bs) ≡ unsigned_amount 1 bs
unfolding amount_of refuse
plus_sign bs = refl

abbrev Found : List ℕ → ℕ → Type 0
Found text n = (whole fraction : List ℕ) × (scale : Scale) × IsAmount text whole fraction scale × HasValue whole fraction scale n

signed : (sign text unsigned : List ℕ) (n : ℕ) → (sign ≡ []) ⊎ (sign ≡ 43 ∷ []) → text ≡ sign ++ unsigned → Unsigned unsigned n → Found text n
signed sign text unsigned n is_sign joined (whole, fraction, scale, is, value) = (
  whole,
  fraction,
  scale,
  record {
    sign = sign;
    number = is.number;
    suffix = is.suffix;
    is_sign = is_sign;
    is_number = is.is_number;
    is_suffix =
        is.is_suffix;
    joined = joined ∙ ap (λ k. sign ++ k) is.joined;
  },
  value,
)

pub amount_found : (text : List ℕ) (n : ℕ) → amount_of text ≡ Ok n → Found text n
unfolding amount_of
amount_found [] n e = cc
amount_found (b ∷ bs) n e = by (cases_eq b 43) (refuse_ok _ _ _ n e)
  where
    by : (b ≡ 43) ⊎ (b ≢ 43) → (eqb b 45 ≡ false) × (cond (eqb b 43) (unsigned_amount 1 bs) (unsigned_amount 0 (b ∷ bs)) ≡ Ok n) → Found (b ∷ bs) n
    by (inl plus) given =
        let yes : eqb b 43 ≡ true = grind (arith, nat_tests) in
        signed (43 ∷ []) (b ∷ bs) bs n (inr refl) (ap (λ k. k ∷ bs) plus) (unsigned_found 1 bs n (rw yes at given.1))
    by (inr other) given =
        let no : eqb b 43 ≡ false = grind (arith, nat_tests) in
        signed [] (b ∷ bs) (b ∷ bs) n (inl refl) refl (unsigned_found 0 (b ∷ bs) n (rw no at given.1))

pub amount_is : (text : List ℕ) (n : ℕ) → Found text n → amount_of text ≡ Ok n
amount_is text n (whole, fraction, scale, is, value) = by is.is_sign
  where
    read : (at : ℕ) → unsigned_amount at (is.number ++ is.suffix) ≡ Ok n
    read at = unsigned_is at is.number is.suffix whole fraction scale n is.is_number is.is_suffix value

    first : (b : ℕ) × (bs : List ℕ) × (is.number ≡ b ∷ bs) × (eqb b 45 ≡ false) × (eqb b 43 ≡ false)
    first = first_byte is.number whole fraction (written is.number whole fraction is.is_number)

    by : (is.sign ≡ []) ⊎ (is.sign ≡ 43 ∷ []) → amount_of text ≡ Ok n
    by (inl none) =
        let begun : is.number ++ is.suffix ≡ first.0 ∷ (first.1 ++ is.suffix) = ap (λ k. k ++ is.suffix) first.2 in
        let text_is : text ≡ is.number ++ is.suffix = is.joined ∙ ap (λ k. k ++ (is.number ++ is.suffix)) none in
        ap amount_of (text_is ∙ begun) ∙ plain_sign first.0 (first.1 ++ is.suffix) first.3 first.4 ∙ ap (unsigned_amount 0) (sym begun) ∙ read 0
    by (inr plus) =
        let text_is : text ≡ 43 ∷ (is.number ++ is.suffix) = is.joined ∙ ap (λ k. k ++ (is.number ++ is.suffix)) plus in
        ap amount_of text_is ∙ plus_sign (is.number ++ is.suffix) ∙ read 1

pub amounts_are_of_the_grammar : AmountsAreOfTheGrammar
amounts_are_of_the_grammar text n = (amount_found text n, amount_is text n)
