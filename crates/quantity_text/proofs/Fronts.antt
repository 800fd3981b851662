-- Digits and numbers at the front of a text.
use Rattle.std.proofs.Common.{◌≡◌, ℕ, ◌+◌, ◌<◌, ◌≤◌, true, false, ◌&&◌, ◌⊎◌, inl, inr, List, [], ◌∷◌, ◌++◌, length, drop, take, refl, ap, ◌∙◌, arith, length-append, append_assoc}
use Rattle.std.proofs.lemmas.List.{length-take}
use Rattle.std.proofs.lemmas.List.Sums.{prefix_len-le-length}
use Rattle.std.proofs.Math.Seq.{drop-append_seam, take-append_seam}
use Rattle.std.specs.List.{list_all, prefix_len}
use Rattle.std.specs.Char.{is_ascii_digit}
use Rattle.std.proofs.lemmas.Bool.{and_parts}
use Rattle.kube_objects.specs.Bindings.{is_empty}
use Rattle.quantity_text.specs.Quantity.{after_digits, digits_at}
use Rattle.quantity_text.specs.Grammar.{IsNumber}

pub front_count : (ds rest : List ℕ) → list_all is_ascii_digit ds ≡ true → prefix_len is_ascii_digit (ds ++ rest) ≡ length ds + prefix_len is_ascii_digit rest
front_count [] rest e = omega arith
front_count (d ∷ ds) rest e =
    let parts = and_parts (is_ascii_digit d) (list_all is_ascii_digit ds) e in
    let more = front_count ds rest parts.1 in
    rw parts.0 (omega arith)

-- digits with no digit behind them
pub digits_then : (ds rest : List ℕ) → list_all is_ascii_digit ds ≡ true → prefix_len is_ascii_digit rest ≡ 0 → (digits_at (ds ++ rest) ≡ ds) × (after_digits (ds ++ rest) ≡ rest)
digits_then ds rest e stop =
    let count : prefix_len is_ascii_digit (ds ++ rest) ≡ length ds = omega (arith, front_count ds rest e) in
    (ap (λ k. take k (ds ++ rest)) count ∙ take-append_seam ds rest, ap (λ k. drop k (ds ++ rest)) count ∙ drop-append_seam ds rest)

pub length-digits_at : (text : List ℕ) → length (digits_at text) ≡ prefix_len is_ascii_digit text
length-digits_at text = let within = prefix_len-le-length is_ascii_digit text in length-take (prefix_len is_ascii_digit text) text ∙ (omega arith)

-- a number: digits, and maybe a point with digits behind it
pub record IsWritten (number whole fraction : List ℕ) : Type 0 where
  pub before : list_all is_ascii_digit whole ≡ true
  pub behind : list_all is_ascii_digit fraction ≡ true
  pub some : 0 < length whole + length fraction
  pub text : ((number ≡ whole) × (fraction ≡ [])) ⊎ (number ≡ whole ++ 46 ∷ fraction)

pub written : (number whole fraction : List ℕ) → IsNumber number whole fraction → IsWritten number whole fraction
written number whole fraction (inl d) = record { before = d.0.1; behind = rw d.1 refl; some = omega (arith, d.0.0); text = inl (d.2, d.1) }
written number whole fraction (inr (inl d)) = record { before = d.0.1; behind = d.1.1; some = omega (arith, d.0.0); text = inr d.2 }
written number whole fraction (inr (inr (inl d))) = record { before = d.0.1; behind = rw d.1 refl; some = omega (arith, d.0.0); text = inr (rw d.1 d.2) }
written number whole fraction (inr (inr (inr d))) = record { before = rw d.0 refl; behind = d.1.1; some = omega (arith, d.1.0); text = inr (rw d.0 d.2) }

pub is_number : (number whole fraction : List ℕ) → IsWritten number whole fraction → IsNumber number whole fraction
is_number number whole fraction w = by whole fraction w.before w.behind w.some w.text
  where
    by : (whole fraction : List ℕ) → list_all is_ascii_digit whole ≡ true → list_all is_ascii_digit fraction ≡ true → 0 < length whole + length fraction
        → ((number ≡ whole) × (fraction ≡ [])) ⊎ (number ≡ whole ++ 46 ∷ fraction) → IsNumber number whole fraction
    by whole fraction before behind some (inl e) = let none : length fraction ≡ 0 = ap length e.1 in inl ((omega arith, before), e.1, e.0)
    by [] fraction before behind some (inr e) = inr (inr (inr (refl, (omega arith, behind), e)))
    by (d ∷ ds) [] before behind some (inr e) = inr (inr (inl ((omega arith, before), refl, e)))
    by (d ∷ ds) (f ∷ fs) before behind some (inr e) = inr (inl ((omega arith, before), (omega arith, behind), e))

-- another number at the front of the text has no more digits before a point, and if it has a point then there it stands
abbrev pub Other : List ℕ → List ℕ → Type 0
Other text other =
    ((0 < length other) × (length other ≤ length (digits_at text)))
    ⊎ ((bs : List ℕ) × (after_digits text ≡ 46 ∷ bs) × (1 < length other) × (length other ≤ length (digits_at text) + (1 + length (digits_at bs))))

pub other_front : (text other whole fraction rest : List ℕ) → IsWritten other whole fraction → text ≡ other ++ rest → Other text other
other_front text other whole fraction rest w joined = by w.text
  where
    by : ((other ≡ whole) × (fraction ≡ [])) ⊎ (other ≡ whole ++ 46 ∷ fraction) → Other text other
    by (inl e) =
        let text_is : text ≡ whole ++ rest = joined ∙ ap (λ k. k ++ rest) e.0 in
        let count = ap (prefix_len is_ascii_digit) text_is ∙ front_count whole rest w.before in
        let all = length-digits_at text in
        let same = ap length e.0 in
        let none : length fraction ≡ 0 = ap length e.1 in
        let some = w.some in
        inl (omega arith, omega arith)
    by (inr e) =
        let text_is : text ≡ whole ++ (46 ∷ (fraction ++ rest)) = joined ∙ ap (λ k. k ++ rest) e ∙ append_assoc whole (46 ∷ fraction) rest in
        let parts = digits_then whole (46 ∷ (fraction ++ rest)) w.before refl in
        let first = ap length (ap digits_at text_is ∙ parts.0) in
        let second = length-digits_at (fraction ++ rest) ∙ front_count fraction rest w.behind in
        let long = ap length e ∙ length-append whole (46 ∷ fraction) in
        let some = w.some in
        inr (fraction ++ rest, ap after_digits text_is ∙ parts.1, omega arith, omega arith)

-- no digits at all
pub no_digits : (p q : List ℕ) → (is_empty p && is_empty q) ≡ true → (p ≡ []) × (q ≡ [])
no_digits [] [] e = (refl, refl)
no_digits [] (x ∷ xs) e = cc
no_digits (x ∷ xs) q e = cc

pub some_digits : (p q : List ℕ) → (is_empty p && is_empty q) ≡ false → 0 < length p + length q
some_digits [] [] e = cc
some_digits [] (x ∷ xs) e = omega arith
some_digits (x ∷ xs) q e = omega arith
