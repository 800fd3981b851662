-- Digits and the numbers that they write.
use Rattle.std.proofs.Common.{
  ◌≡◌,
  ℕ,
  suc,
  ◌+◌,
  ◌-◌,
  ltb,
  leb,
  eqb,
  subst,
  ◌*◌,
  ◌^◌,
  ◌<◌,
  ◌≤◌,
  Bool,
  true,
  false,
  cond,
  ◌⊎◌,
  inl,
  inr,
  ◌≢◌,
  lit<,
  List,
  [],
  ◌∷◌,
  ◌++◌,
  length,
  drop,
  get_or,
  refl,
  sym,
  ap,
  ◌∙◌,
  arith,
  drop-cons,
  add-one,
}
use Rattle.std.proofs.lemmas.Bool.Decides.{nat_tests}
use Rattle.std.proofs.lemmas.Str.{digit_value_digit}
use Rattle.std.proofs.lemmas.Bool.{cases_lt, cases_eq, and_parts}
use Rattle.std.proofs.lemmas.Int.Digits.{digits_value-lt}
use Rattle.std.proofs.Math.Nat.{mul-le-mul_right, pow-le-pow_right, pow-suc}
use Rattle.std.specs.List.{list_all, prefix_len}
use Rattle.std.specs.Int.{IsInRange}
use Rattle.std.specs.Char.{is_ascii_digit, digit_value}
use Rattle.std.specs.Str.Parse.{AllDigits, digits_value_after, digits_value}
use Rattle.quantity_text.specs.Steps.Capped.{capped}
use Rattle.quantity_text.specs.Quantity.{digits_at, fraction_at, is_zero_digit, without_zeros}

pub in_range : (c : ℕ) → is_ascii_digit c ≡ true → IsInRange 48 57 c
in_range c e = grind (arith, nat_tests)

pub value_is : (c : ℕ) → is_ascii_digit c ≡ true → digit_value c ≡ c - 48
value_is c e = let range = in_range c e in let there = digit_value_digit c range in omega arith

-- a number is no more than what it writes with more digits behind it
pub front_le : (n : ℕ) (ds : List ℕ) → n ≤ digits_value_after 10 n ds
front_le n [] = omega arith
front_le n (d ∷ ds) = let rest = front_le (n * 10 + digit_value d) ds in omega arith

-- one step of the reading, at the digit with this index
pub value_step : (n : ℕ) (ds : List ℕ) (i : ℕ) → i < length ds → list_all is_ascii_digit (drop i ds) ≡ true
    → (IsInRange 48 57 (get_or ds i 0)) × (list_all is_ascii_digit (drop (i + 1) ds) ≡ true)
    × (digits_value_after 10 n (drop i ds) ≡ digits_value_after 10 (n * 10 + (get_or ds i 0 - 48)) (drop (i + 1) ds))
value_step n ds i within are =
    let cut = drop-cons ds i 0 within in
    let parts = and_parts _ _ (rw cut at are) in
    (in_range _ parts.0, rw add-one parts.1, rw (cut, add-one) (ap (λ k. digits_value_after 10 (n * 10 + k) (drop (suc i) ds)) (value_is _ parts.0)))

pub number_at_limit : (n : ℕ) (ds : List ℕ) → 1_000_000_000_000_000_000 ≤ n → capped (digits_value_after 10 n ds) ≡ 1_000_000_000_000_000_000
number_at_limit n ds above = let more = front_le n ds in omega arith

pub after_append : (n : ℕ) (xs ys : List ℕ) → digits_value_after 10 n (xs ++ ys) ≡ digits_value_after 10 (digits_value_after 10 n xs) ys
after_append n [] ys = refl
after_append n (x ∷ xs) ys = after_append (n * 10 + digit_value x) xs ys

pub all_append : (p : ℕ → Bool) (xs ys : List ℕ) → list_all p xs ≡ true → list_all p ys ≡ true → list_all p (xs ++ ys) ≡ true
all_append p [] ys left right = right
all_append p (x ∷ xs) ys left right = let parts = and_parts (p x) (list_all p xs) left in rw (parts.0, all_append p xs ys parts.1 right) refl

-- capping a number before more digits makes no difference
pub capped_front : (a : ℕ) (ds : List ℕ) → capped (digits_value_after 10 (capped a) ds) ≡ capped (digits_value_after 10 a ds)
capped_front a ds = by (cases_lt 1_000_000_000_000_000_000 a)
  where
    by : (1_000_000_000_000_000_000 < a) ⊎ (a ≤ 1_000_000_000_000_000_000) → capped (digits_value_after 10 (capped a) ds) ≡ capped (digits_value_after 10 a ds)
    by (inr small) = let same : capped a ≡ a = omega arith in ap (λ k. capped (digits_value_after 10 k ds)) same
    by (inl large) =
        let limit : capped a ≡ 1_000_000_000_000_000_000 = omega arith in
        number_at_limit (capped a) ds (omega arith) ∙ sym (number_at_limit a ds (omega arith))

pub capped_parts : (xs ys : List ℕ) → capped (digits_value_after 10 (capped (digits_value_after 10 0 xs)) ys) ≡ capped (digits_value 10 (xs ++ ys))
capped_parts xs ys = capped_front (digits_value_after 10 0 xs) ys ∙ ap capped (sym (after_append 0 xs ys))

-- the digits behind a number move it up by as many places
place_more : (n d w v : ℕ) → (n * 10 + d) * w ≤ v → n * (w * 10) ≤ v
place_more n d w v h = let more : (n * 10) * w ≤ (n * 10 + d) * w = mul-le-mul_right w (omega arith) in omega arith

pub places_le : (n : ℕ) (ds : List ℕ) → n * 10 ^ length ds ≤ digits_value_after 10 n ds
places_le n [] = omega arith
places_le n (d ∷ ds) = rw (pow-suc 10 (length ds)) (place_more n (digit_value d) (10 ^ length ds) _ (places_le (n * 10 + digit_value d) ds))

pub all_digits : (ds : List ℕ) → list_all is_ascii_digit ds ≡ true → AllDigits 10 ds
all_digits [] e = tt
all_digits (d ∷ ds) e = let parts = and_parts _ _ e in let range = in_range d parts.0 in let value = value_is d parts.0 in (omega arith, all_digits ds parts.1)

-- 19 digits or more without leading zeros are those of a number from 10^18 on
pub many_first : (d : ℕ) (ds : List ℕ) → is_ascii_digit d ≡ true → list_all is_ascii_digit ds ≡ true → d ≢ 48 → ltb 18 (length (d ∷ ds)) ≡ leb 1_000_000_000_000_000_000 (digits_value 10 (d ∷ ds))
many_first d ds digit digits nonzero = by (cases_lt (length ds) 18)
  where
    low : 10 ^ length ds ≤ digits_value 10 (d ∷ ds)
    low =
        let range = in_range d digit in
        let value = value_is d digit in
        let places = places_le (0 * 10 + digit_value d) ds in
        let one : 1 * 10 ^ length ds ≤ (0 * 10 + digit_value d) * 10 ^ length ds = mul-le-mul_right (10 ^ length ds) (omega arith) in
        omega arith

    high : digits_value 10 (d ∷ ds) < 10 ^ length (d ∷ ds)
    high = digits_value-lt 10 (d ∷ ds) (all_digits (d ∷ ds) (rw (digit, digits) refl))

    by : (length ds < 18) ⊎ (18 ≤ length ds) → ltb 18 (length (d ∷ ds)) ≡ leb 1_000_000_000_000_000_000 (digits_value 10 (d ∷ ds))
    by (inr long) =
        let power : 10 ^ 18 ≤ 10 ^ length ds = pow-le-pow_right {n = 10} (lit< tt) long in
        let lower = low in
        grind (arith, nat_tests)
    by (inl short) =
        let fits : length (d ∷ ds) ≤ 18 = omega arith in
        let power : 10 ^ length (d ∷ ds) ≤ 10 ^ 18 = pow-le-pow_right {n = 10} (lit< tt) fits in
        let upper = high in
        grind (arith, nat_tests)

without_zero : (ds : List ℕ) → without_zeros (48 ∷ ds) ≡ without_zeros ds
without_zero ds = let one : 1 + prefix_len is_zero_digit ds ≡ suc (prefix_len is_zero_digit ds) = omega arith in rw one refl

without_none : (d : ℕ) (ds : List ℕ) → d ≢ 48 → without_zeros (d ∷ ds) ≡ d ∷ ds
without_none d ds other = let no : eqb d 48 ≡ false = grind (arith, nat_tests) in rw no refl

pub too_many : (ds : List ℕ) → list_all is_ascii_digit ds ≡ true → ltb 18 (length (without_zeros ds)) ≡ leb 1_000_000_000_000_000_000 (digits_value 10 ds)
too_many [] e = refl
too_many (d ∷ ds) e = by (cases_eq d 48) (too_many ds (and_parts _ _ e).1)
  where
    by : (d ≡ 48) ⊎ (d ≢ 48) → ltb 18 (length (without_zeros ds)) ≡ leb 1_000_000_000_000_000_000 (digits_value 10 ds)
        → ltb 18 (length (without_zeros (d ∷ ds))) ≡ leb 1_000_000_000_000_000_000 (digits_value 10 (d ∷ ds))
    by (inl zero_digit) rest =
        let P : ℕ → Type 0 = λ k. ltb 18 (length (without_zeros (k ∷ ds))) ≡ leb 1_000_000_000_000_000_000 (digits_value 10 (k ∷ ds)) in
        subst P (sym zero_digit) (ap (λ ks. ltb 18 (length ks)) (without_zero ds) ∙ rest)
    by (inr other) rest = let parts = and_parts _ _ e in ap (λ ks. ltb 18 (length ks)) (without_none d ds other) ∙ many_first d ds parts.0 parts.1 other

pub digits_are : (text : List ℕ) → list_all is_ascii_digit (digits_at text) ≡ true
digits_are [] = refl
digits_are (b ∷ bs) = by (is_ascii_digit b) refl (digits_are bs)
  where
    by : (c : Bool) → is_ascii_digit b ≡ c → list_all is_ascii_digit (digits_at bs) ≡ true → list_all is_ascii_digit (digits_at (b ∷ bs)) ≡ true
    by true e rest = let one : 1 + prefix_len is_ascii_digit bs ≡ suc (prefix_len is_ascii_digit bs) = omega arith in rw (e, one, e, rest) refl
    by false e rest = rw e refl

pub fraction_digits_are : (text : List ℕ) → list_all is_ascii_digit (fraction_at text) ≡ true
fraction_digits_are [] = refl
fraction_digits_are (b ∷ bs) = by (eqb b 46)
  where
    by : (c : Bool) → list_all is_ascii_digit (cond c (digits_at bs) []) ≡ true
    by true = digits_are bs
    by false = refl
