-- The number at the front of a text is the longest.
use Rattle.std.proofs.Common.{◌≡◌, ℕ, ◌+◌, ◌<◌, ◌≤◌, true, false, eqb, subst, ◌≢◌, ◌⊎◌, inl, inr, List, [], ◌∷◌, ◌++◌, length, refl, sym, ap, ◌∙◌, arith, length-append, append_assoc}
use Rattle.std.proofs.lemmas.Bool.{cases_eq}
use Rattle.std.proofs.lemmas.Bool.Decides.{nat_tests}
use Rattle.std.proofs.lemmas.List.{take-append-drop}
use Rattle.std.specs.List.{prefix_len}
use Rattle.std.specs.Char.{is_ascii_digit}
use Rattle.quantity_text.specs.Quantity.{after_digits, after_fraction, digits_at, fraction_at, lacks_number, parts_of}
use Rattle.quantity_text.specs.Grammar.{IsLongest, IsNumber, NumbersAreTheLongest}
use Rattle.quantity_text.proofs.DigitFacts.{digits_are}
use Rattle.quantity_text.proofs.Fronts.{Other, is_number, no_digits, other_front, some_digits, written}

-- the text in its two parts
cut : (text rest : List ℕ) → after_digits text ≡ rest → text ≡ digits_at text ++ rest
cut text rest e = sym (take-append-drop (prefix_len is_ascii_digit text) text) ∙ ap (λ k. digits_at text ++ k) e

none_stands : (text : List ℕ) → lacks_number (parts_of text) ≡ true → (number whole fraction rest : List ℕ) → IsNumber number whole fraction → text ≡ number ++ rest → ⊥
none_stands text lacks number whole fraction rest is joined = by (other_front text number whole fraction rest (written number whole fraction is) joined)
  where
    none : (digits_at text ≡ []) × (fraction_at (after_digits text) ≡ [])
    none = no_digits (digits_at text) (fraction_at (after_digits text)) lacks

    by : Other text number → ⊥
    by (inl o) = let empty = ap length none.0 in omega arith
    by (inr (bs, at, some, within)) =
        let empty = ap length none.0 in
        let behind : length (digits_at bs) ≡ 0 = ap length (sym (ap fraction_at at) ∙ none.1) in
        omega arith

-- the number as it stands before this rest
FrontNumber : List ℕ → List ℕ → Type 0
FrontNumber text rest = (number : List ℕ) × IsNumber number (digits_at text) (fraction_at rest) × (text ≡ number ++ after_fraction rest) × IsLongest text number

-- it is the digits alone where no point stands behind them
digits_alone : (text rest : List ℕ) → after_digits text ≡ rest → 0 < length (digits_at text) → ((bs : List ℕ) → rest ≡ 46 ∷ bs → ⊥)
    → (number : List ℕ) × IsNumber number (digits_at text) [] × (text ≡ number ++ rest) × IsLongest text number
digits_alone text rest e some no_point =
    (digits_at text, is_number (digits_at text) (digits_at text) [] (record { before = digits_are text; behind = refl; some = omega arith; text = inl (refl, refl) }), cut text rest e, longest)
  where
    longest : IsLongest text (digits_at text)
    longest other whole fraction after is joined = by (other_front text other whole fraction after (written other whole fraction is) joined)
      where
        by : Other text other → length other ≤ length (digits_at text)
        by (inl o) = o.1
        by (inr (bs, at, some, within)) = absurd (no_point bs (sym e ∙ at))

same_rest : (b c : ℕ) (bs cs : List ℕ) → b ∷ bs ≡ c ∷ cs → (b ≡ c) × (bs ≡ cs)
same_rest b c bs cs e = (cc, cc)

with_point : (text bs : List ℕ) → after_digits text ≡ 46 ∷ bs → 0 < length (digits_at text) + length (digits_at bs) → FrontNumber text (46 ∷ bs)
unfolding FrontNumber
with_point text bs e some =
    (digits_at text ++ 46 ∷ digits_at bs, is_number _ (digits_at text) (digits_at bs) (record { before = digits_are text; behind = digits_are bs; some = some; text = inr refl }), joined, longest)
  where
    joined : text ≡ (digits_at text ++ 46 ∷ digits_at bs) ++ after_digits bs
    joined = cut text (46 ∷ bs) e ∙ ap (λ k. digits_at text ++ 46 ∷ k) (cut bs (after_digits bs) refl) ∙ sym (append_assoc (digits_at text) (46 ∷ digits_at bs) (after_digits bs))

    longest : IsLongest text (digits_at text ++ 46 ∷ digits_at bs)
    longest other whole fraction after is joined = by (other_front text other whole fraction after (written other whole fraction is) joined)
      where
        long : length (digits_at text ++ 46 ∷ digits_at bs) ≡ length (digits_at text) + (1 + length (digits_at bs))
        long = length-append (digits_at text) (46 ∷ digits_at bs) ∙ (omega arith)

        by : Other text other → length other ≤ length (digits_at text ++ 46 ∷ digits_at bs)
        by (inl o) = let total = long in omega arith
        by (inr (cs, at, some, within)) =
            let total = long in
            let same = ap (λ k. length (digits_at k)) (same_rest 46 46 bs cs (sym e ∙ at)).1 in
            omega arith

front_number : (text rest : List ℕ) → after_digits text ≡ rest → 0 < length (digits_at text) + length (fraction_at rest) → FrontNumber text rest
unfolding FrontNumber
front_number text [] e some = digits_alone text [] e (omega arith) (λ bs no. cc)
front_number text (b ∷ bs) e some = by (cases_eq b 46)
  where
    by : (b ≡ 46) ⊎ (b ≢ 46) → FrontNumber text (b ∷ bs)
    by (inl is) =
        let P : ℕ → Type 0 = λ k. after_digits text ≡ k ∷ bs → 0 < length (digits_at text) + length (fraction_at (k ∷ bs)) → FrontNumber text (k ∷ bs) in
        subst P (sym is) (with_point text bs) e some
    by (inr other) =
        let no : eqb b 46 ≡ false = grind (arith, nat_tests) in
        let digits = rw no at some in
        rw no (digits_alone text (b ∷ bs) e (omega arith) (λ cs same. other (same_rest b 46 bs cs same).0))

pub numbers_are_the_longest : NumbersAreTheLongest
unfolding FrontNumber
numbers_are_the_longest text = record {
  none = none_stands text;
  longest = λ lacks. front_number text (after_digits text) refl (some_digits (digits_at text) (fraction_at (after_digits text)) lacks);
}
