-- The content of a string of JSON that stands in UTF-8 is UTF-8.
use Rattle.std.proofs.Common.{
  ◌≡◌,
  ℕ,
  ◌+◌,
  ◌*◌,
  ◌<◌,
  ◌≤◌,
  Bool,
  true,
  false,
  cond,
  ◌&&◌,
  ◌||◌,
  ◌==◌,
  nat_lt,
  nat_le,
  List,
  [],
  ◌∷◌,
  ◌++◌,
  length,
  Option,
  Some,
  None,
  IfSome,
  option_and_then,
  IsUtf8,
  inl,
  inr,
  refl,
  sym,
  subst,
  arith,
  append_assoc,
  append-nil,
  length-append,
}
use Rattle.std.specs.Bool.{⊤}
use Rattle.std.specs.Char.{digit_value, is_digit, encode_utf8, IsScalar}
use Rattle.std.proofs.lemmas.Bool.{and_parts, cases_lt, eqb-true, ltb-true, ltb-false, leb-true, lt-ltb, le-ltb, le-leb}
use Rattle.std.proofs.lemmas.Bool.Decides.{nat_tests}
use Rattle.std.proofs.lemmas.Str.{IsUtf8-append, IsUtf8-encode, IsUtf8-take, IsUtf8-drop, IsCharBoundary-before_ascii, IsCharBoundary-after_ascii, encode_ascii}
use Rattle.std.proofs.Math.Seq.{take-append_seam, drop-append_seam, get_or-append_seam}
use Rattle.std.proofs.Math.Utf8.{low_scalar}
use Rattle.json.specs.Text.{code_unit, short_escape, is_high_surrogate, is_low_surrogate, surrogate_pair, Within, plain, after_backslash, after_u, after_high, prepend, content}

-- ---- where a text may be cut

ascii_one : (x : ℕ) → x < 128 → IsUtf8 (x ∷ [])
ascii_one x small = subst IsUtf8 (encode_ascii x small) (IsUtf8-encode x (low_scalar x (omega arith)))

ascii_first : (x : ℕ) (xs : List ℕ) → x < 128 → IsUtf8 (x ∷ xs) → IsUtf8 xs
ascii_first x xs small u = IsUtf8-drop (x ∷ xs) 1 u (IsCharBoundary-after_ascii (x ∷ xs) 0 u (omega arith) small)

pub cut_utf8 : (pre : List ℕ) (x : ℕ) (xs : List ℕ) → x < 128 → IsUtf8 (pre ++ x ∷ xs) → IsUtf8 pre × IsUtf8 xs
cut_utf8 pre x xs small u =
    let place = IsCharBoundary-before_ascii (pre ++ x ∷ xs) (length pre) (omega (arith, length-append pre (x ∷ xs))) (rw (get_or-append_seam pre x xs 0) small) in (
      subst IsUtf8 (take-append_seam pre (x ∷ xs)) (IsUtf8-take (pre ++ x ∷ xs) (length pre) u place),
      ascii_first x xs small (subst IsUtf8 (drop-append_seam pre (x ∷ xs)) (IsUtf8-drop (pre ++ x ∷ xs) (length pre) u place)),
    )

pub move_utf8 : (pre : List ℕ) (x : ℕ) (xs : List ℕ) → IsUtf8 (pre ++ x ∷ xs) → IsUtf8 ((pre ++ x ∷ []) ++ xs)
move_utf8 pre x xs u = subst IsUtf8 (sym (append_assoc pre (x ∷ []) xs)) u

-- ---- escapes

some : (P : ℕ → Type 0) (b : Bool) (x y : Option ℕ) → (b ≡ true → IfSome x P) → IfSome y P → IfSome (cond b x y) P
some P true x y h k = h refl
some P false x y h k = k

abbrev AreSmall : ℕ → ℕ → Type 0
AreSmall x c = (x < 128) × (c < 128)

itself_small : (x : ℕ) → ((x == 34) || (x == 92) || (x == 47)) ≡ true → x < 128
itself_small x e = grind (arith, nat_tests)

one_small : (x k c : ℕ) → k < 128 → c < 128 → (x == k) ≡ true → AreSmall x c
one_small x k c hk hc e = let is : x ≡ k = eqb-true x k e in (omega arith, hc)

short_small : (x : ℕ) → IfSome (short_escape x) (AreSmall x)
unfolding short_escape
short_small x =
    some (AreSmall x) ((x == 34) || (x == 92) || (x == 47)) (Some x) _ (λ e. (itself_small x e, itself_small x e))
    (some (AreSmall x) (x == 98) (Some 8) _ (one_small x 98 8 (omega arith) (omega arith))
    (some (AreSmall x) (x == 102) (Some 12) _ (one_small x 102 12 (omega arith) (omega arith))
    (some (AreSmall x) (x == 110) (Some 10) _ (one_small x 110 10 (omega arith) (omega arith))
    (some (AreSmall x) (x == 114) (Some 13) _ (one_small x 114 13 (omega arith) (omega arith))
    (some (AreSmall x) (x == 116) (Some 9) None (one_small x 116 9 (omega arith) (omega arith)) tt)))))

record IsUnit (a b c d u : ℕ) : Type 0 where
  first : a < 128
  second : b < 128
  third : c < 128
  fourth : d < 128
  fits : u < 65536

hex_small : (c : ℕ) → is_digit c 16 ≡ true → (c < 128) × (digit_value c < 16)
hex_small c e = grind (arith, nat_tests)

unit_small : (a b c d : ℕ) → IfSome (code_unit a b c d) (IsUnit a b c d)
unfolding code_unit
unit_small a b c d =
    some (IsUnit a b c d) (is_digit a 16 && is_digit b 16 && is_digit c 16 && is_digit d 16) (Some (digit_value a * 4096 + digit_value b * 256 + digit_value c * 16 + digit_value d)) None (λ e.
    let p = and_parts (is_digit a 16 && is_digit b 16 && is_digit c 16) (is_digit d 16) e in
    let q = and_parts (is_digit a 16 && is_digit b 16) (is_digit c 16) p.0 in
    let r = and_parts (is_digit a 16) (is_digit b 16) q.0 in
    let one = hex_small a r.0 in
    let two = hex_small b r.1 in
    let three = hex_small c q.1 in
    let four = hex_small d p.1 in
    record { first = one.0; second = two.0; third = three.0; fourth = four.0; fits = omega arith }) tt

past_unit : (a b c d u : ℕ) (xs : List ℕ) → IsUnit a b c d u → IsUtf8 (a ∷ b ∷ c ∷ d ∷ xs) → IsUtf8 xs
past_unit a b c d u xs h text = ascii_first d xs h.fourth (ascii_first c (d ∷ xs) h.third (ascii_first b (c ∷ d ∷ xs) h.second (ascii_first a (b ∷ c ∷ d ∷ xs) h.first text)))

-- ---- characters

high_scalar : (c : ℕ) → 57344 ≤ c → c < 1114112 → IsScalar c
high_scalar c low high =
    let above : 55296 ≤ c = omega arith in
    rw (le-ltb c 55296 above, le-leb 57344 c low, lt-ltb c 1114112 high) refl

beyond : (low high u : ℕ) → (nat_le low u && nat_lt u high) ≡ false → low ≤ u → high ≤ u
beyond low high u e h = ltb-false u high (rw (le-leb low u h) at e)

unit_scalar : (u : ℕ) → u < 65536 → is_high_surrogate u ≡ false → is_low_surrogate u ≡ false → IsScalar u
unit_scalar u fits high low = elim (cases_lt u 55296) [
  | inl below ↦ low_scalar u below
  | inr above ↦
      let middle : 56320 ≤ u = beyond 55296 56320 u high above in
      let top : 57344 ≤ u = beyond 56320 57344 u low middle in
      high_scalar u top (omega arith)
]

pair_scalar : (h l : ℕ) → is_high_surrogate h ≡ true → is_low_surrogate l ≡ true → IsScalar (surrogate_pair h l)
pair_scalar h l high low =
    let p = and_parts (nat_le 55296 h) (nat_lt h 56320) high in
    let q = and_parts (nat_le 56320 l) (nat_lt l 57344) low in
    let a : 55296 ≤ h = leb-true 55296 h p.0 in
    let b : h < 56320 = ltb-true h 56320 p.1 in
    let c : 56320 ≤ l = leb-true 56320 l q.0 in
    let d : l < 57344 = ltb-true l 57344 q.1 in
    high_scalar (surrogate_pair h l) (omega arith) (omega arith)

-- ---- contents

abbrev Joined : List ℕ → Option (List ℕ) → Type 0
Joined pre None = ⊤
Joined pre (Some s) = IsUtf8 (pre ++ s)

joined_prepend : (pre bytes : List ℕ) (o : Option (List ℕ)) → Joined (pre ++ bytes) o → Joined pre (prepend bytes o)
joined_prepend pre bytes None h = tt
joined_prepend pre bytes (Some s) h = subst IsUtf8 (append_assoc pre bytes s) h

both : (pre : List ℕ) (b : Bool) (x y : Option (List ℕ)) → (b ≡ true → Joined pre x) → (b ≡ false → Joined pre y) → Joined pre (cond b x y)
both pre true x y h k = h refl
both pre false x y h k = k refl

then : (pre : List ℕ) (P : ℕ → Type 0) (f : ℕ → Option (List ℕ)) (o : Option ℕ) → IfSome o P → ((u : ℕ) → P u → Joined pre (f u)) → Joined pre (option_and_then f o)
then pre P f None h k = tt
then pre P f (Some u) h k = k u h

-- what was read, and what is left
abbrev Stands : Within → List ℕ → List ℕ → Type 0
Stands plain pre xs = IsUtf8 (pre ++ xs)
Stands after_backslash pre xs = IsUtf8 pre × IsUtf8 xs
Stands after_u pre xs = IsUtf8 pre × IsUtf8 xs
Stands (after_high high) pre xs = IsUtf8 pre × IsUtf8 xs × (is_high_surrogate high ≡ true)

with_char : (pre xs : List ℕ) (u : ℕ) → IsUtf8 pre → IsScalar u → IsUtf8 xs → IsUtf8 ((pre ++ encode_utf8 u) ++ xs)
with_char pre xs u h is rest = IsUtf8-append (pre ++ encode_utf8 u) xs (IsUtf8-append pre (encode_utf8 u) h (IsUtf8-encode u is)) rest

with_byte : (pre xs : List ℕ) (c : ℕ) → IsUtf8 pre → c < 128 → IsUtf8 xs → IsUtf8 ((pre ++ c ∷ []) ++ xs)
with_byte pre xs c h small rest = IsUtf8-append (pre ++ c ∷ []) xs (IsUtf8-append pre (c ∷ []) h (ascii_one c small)) rest

content_joined : (w : Within) (xs pre : List ℕ) → Stands w pre xs → Joined pre (content w xs)
unfolding content
content_joined plain [] pre h = tt
content_joined plain (x ∷ xs) pre h =
    both pre (x == 34) (Some []) _ (λ e. let is : x ≡ 34 = eqb-true x 34 e in subst IsUtf8 (sym (append-nil pre)) (cut_utf8 pre x xs (omega arith) h).0)
    (λ e. both pre (x == 92) _ _ (λ f. let is : x ≡ 92 = eqb-true x 92 f in content_joined after_backslash xs pre (cut_utf8 pre x xs (omega arith) h))
    (λ f. both pre (nat_lt x 32) None _ (λ g. tt) (λ g. joined_prepend pre (x ∷ []) _ (content_joined plain xs (pre ++ x ∷ []) (move_utf8 pre x xs h)))))
content_joined after_backslash [] pre h = tt
content_joined after_backslash (x ∷ xs) pre h =
    both pre (x == 117) _ _ (λ e. let is : x ≡ 117 = eqb-true x 117 e in content_joined after_u xs pre (h.0, ascii_first x xs (omega arith) h.1))
    (λ e. then pre (AreSmall x) _ (short_escape x) (short_small x)
    (λ c k. joined_prepend pre (c ∷ []) _ (content_joined plain xs (pre ++ c ∷ []) (with_byte pre xs c h.0 k.1 (ascii_first x xs k.0 h.1)))))
content_joined after_u [] pre h = tt
content_joined after_u (a ∷ []) pre h = tt
content_joined after_u (a ∷ b ∷ []) pre h = tt
content_joined after_u (a ∷ b ∷ c ∷ []) pre h = tt
content_joined after_u (a ∷ b ∷ c ∷ d ∷ xs) pre h =
    then pre (IsUnit a b c d) _ (code_unit a b c d) (unit_small a b c d) (λ u k.
    both pre (is_high_surrogate u) _ _ (λ e. content_joined (after_high u) xs pre (h.0, past_unit a b c d u xs k h.1, e))
    (λ e. both pre (is_low_surrogate u) None _ (λ f. tt)
    (λ f. joined_prepend pre (encode_utf8 u) _ (content_joined plain xs (pre ++ encode_utf8 u) (with_char pre xs u h.0 (unit_scalar u k.fits e f) (past_unit a b c d u xs k h.1))))))
content_joined (after_high high) [] pre h = tt
content_joined (after_high high) (s ∷ []) pre h = tt
content_joined (after_high high) (s ∷ u ∷ []) pre h = tt
content_joined (after_high high) (s ∷ u ∷ a ∷ []) pre h = tt
content_joined (after_high high) (s ∷ u ∷ a ∷ b ∷ []) pre h = tt
content_joined (after_high high) (s ∷ u ∷ a ∷ b ∷ c ∷ []) pre h = tt
content_joined (after_high high) (s ∷ u ∷ a ∷ b ∷ c ∷ d ∷ xs) pre h =
    both pre ((s == 92) && (u == 117)) _ None (λ e.
    let p = and_parts (s == 92) (u == 117) e in
    let one : s ≡ 92 = eqb-true s 92 p.0 in
    let two : u ≡ 117 = eqb-true u 117 p.1 in
    let units = ascii_first u (a ∷ b ∷ c ∷ d ∷ xs) (omega arith) (ascii_first s (u ∷ a ∷ b ∷ c ∷ d ∷ xs) (omega arith) h.1) in
    then pre (IsUnit a b c d) _ (code_unit a b c d) (unit_small a b c d) (λ l k.
    both pre (is_low_surrogate l) _ None
    (λ f. joined_prepend pre (encode_utf8 (surrogate_pair high l)) _
    (content_joined plain xs (pre ++ encode_utf8 (surrogate_pair high l)) (with_char pre xs (surrogate_pair high l) h.0 (pair_scalar high l h.2 f) (past_unit a b c d l xs k units))))
    (λ f. tt))) (λ e. tt)

pub content_utf8 : (xs : List ℕ) → IsUtf8 xs → IfSome (content plain xs) IsUtf8
content_utf8 xs h = by (content plain xs) (content_joined plain xs [] h)
  where
    by : (o : Option (List ℕ)) → Joined [] o → IfSome o IsUtf8
    by None k = tt
    by (Some s) k = k
