-- What is read is canonical, where it holds no float; and so are its members that are not known.
use Rattle.std.proofs.Common.{
  ◌≡◌,
  ℕ,
  zero,
  suc,
  ◌^◌,
  ◌<◌,
  ◌≤◌,
  ◌&&◌,
  ◌==◌,
  List,
  drop,
  slice_index,
  Bool,
  true,
  false,
  true≢false,
  if◌then◌else◌,
  nat_lt,
  nat_le,
  Option,
  Some,
  None,
  option_map,
  option_and_then,
  refl,
  ap,
  ◌∙◌,
  subst,
  arith,
}
use Rattle.std.specs.Bool.{⊤}
use Rattle.std.specs.declared.cmp.Ordering.{Ordering}
use Rattle.std.specs.declared.cmp.Ordering.TheVariants.{Less, Equal, Greater}
use Rattle.std.specs.Ordering.{nat_cmp, match_ordering, ordering_reverse}
use Rattle.std.specs.Cmp.Lexicographic.{slice_cmp}
use Rattle.std.specs.Float.{binary64, float_is_finite}
use Rattle.std.proofs.lemmas.Bool.{and_parts, ltb-true, leb-true, or_parts}
use Rattle.std.proofs.lemmas.Cmp.{nat_list_cmp_total}
use Rattle.fast_float.specs.Text.{Parts, minus, scan, digits_of, nearest, with_sign}
use Rattle.json.specs.Json as json
use Rattle.json.specs.Lex.{tokens}
use Rattle.serde_json.specs.Data.{Num, unsigned, negative, float, Data, null, boolean, number, string, array, object, Items, no_items, item, Members, no_members, member, put}
use Rattle.serde_json.specs.Read.{read, of_json, of_items, of_members, number_of, number_from, float_of, is_integer, max_depth}
use Rattle.serde_json.specs.Written.{has_float, items_have_float, members_have_float}
use Rattle.json_text.specs.Canonical.{IsBelowZero, IsWhole, IsBefore, IsCanonical, AreCanonical, AreMembers}
use Rattle.json_text.proofs.Good.{before_put, before_less}

-- the fact holds of the value, if there is one
abbrev OfSome : {A : Type 0} → (A → Type 0) → Option A → Type 0
OfSome P None = ⊤
OfSome P (Some a) = P a

of_map : {A B : Type 0} (P : A → Type 0) (Q : B → Type 0) (f : A → B) → ((a : A) → P a → Q (f a)) → (o : Option A) → OfSome P o → OfSome Q (option_map f o)
of_map P Q f h None p = tt
of_map P Q f h (Some a) p = h a p

of_then : {A B : Type 0} (P : A → Type 0) (Q : B → Type 0) (f : A → Option B) → ((a : A) → P a → OfSome Q (f a)) → (o : Option A) → OfSome P o → OfSome Q (option_and_then f o)
of_then P Q f h None p = tt
of_then P Q f h (Some a) p = h a p

of_if : (P : Num → Type 0) (b : Bool) (x y : Option Num) → (b ≡ true → OfSome P x) → OfSome P y → OfSome P (if b then x else y)
of_if P true x y h k = h refl
of_if P false x y h k = k

-- ---- numbers

-- of 64 bits, or a float
abbrev IsNumber : Num → Type 0
IsNumber (unsigned n) = n < 2 ^ 64
IsNumber (negative z) = IsBelowZero z
IsNumber (float x) = ⊤

below_zero : (n : ℕ) → 0 < n → n ≤ 2 ^ 63 → IsBelowZero (with_sign true n)
below_zero zero some most = absurd (omega (arith, some))
below_zero (suc n) some most = omega (arith, most)

is_float_of : (sign : Bool) (p : Parts) → OfSome IsNumber (float_of sign p)
is_float_of sign p = of_if IsNumber (float_is_finite (nearest binary64 sign p)) _ _ (λ e. tt) tt

is_number_from : (sign : Bool) (p : Parts) → OfSome IsNumber (number_from sign p)
is_number_from false p = of_if IsNumber (is_integer p && nat_lt (digits_of p) (2 ^ 64)) _ _ (λ e. ltb-true _ _ (and_parts _ _ e).1) (is_float_of false p)
is_number_from true p =
    of_if IsNumber (is_integer p && nat_lt 0 (digits_of p) && nat_le (digits_of p) (2 ^ 63)) _ _ (λ e.
    let parts = and_parts _ _ e in
    below_zero (digits_of p) (ltb-true _ _ (and_parts _ _ parts.0).1) (leb-true _ _ parts.1)) (is_float_of true p)

is_number_of : (s : List ℕ) → OfSome IsNumber (number_of s)
unfolding number_of
is_number_of s =
    let past = scan (drop 1 s) in
    of_if IsNumber (slice_index s 0 == minus) (number_from true past) (number_from false (scan s)) (λ e. is_number_from true past) (is_number_from false (scan s))

-- ---- values

-- canonical but for its floats
abbrev mutual
  IsRead : Data → Type 0
  IsRead null = ⊤
  IsRead (boolean b) = ⊤
  IsRead (number n) = IsNumber n
  IsRead (string s) = ⊤
  IsRead (array ds) = AreRead ds
  IsRead (object ms) = HasRead ms

  AreRead : Items → Type 0
  AreRead no_items = ⊤
  AreRead (item d ds) = IsRead d × AreRead ds

  HasRead : Members → Type 0
  HasRead no_members = ⊤
  HasRead (member k d ms) = IsRead d × IsBefore k ms × HasRead ms

read_put : (k : List ℕ) (d : Data) (ms : Members) → IsRead d → HasRead ms → HasRead (put k d ms)
read_put k d no_members hd hm = (hd, tt, tt)
read_put k d (member l e ms) hd hm = placed (slice_cmp nat_cmp k l) refl (read_put k d ms hd hm.2)
  where
    placed : (o : Ordering) → slice_cmp nat_cmp k l ≡ o → HasRead (put k d ms) → HasRead (match_ordering o (member k d (member l e ms)) (member l d ms) (member l e (put k d ms)))
    placed Less h rest = (hd, (h, before_less k l ms h hm.1), hm)
    placed Equal h rest = (hd, hm.1, hm.2)
    placed Greater h rest =
        let less : slice_cmp nat_cmp l k ≡ Less = nat_list_cmp_total.antisymm l k ∙ ap ordering_reverse h in
        (hm.0, before_put l k d ms less hm.1, rest)

mutual
  is_read : (j : json.Json) → OfSome IsRead (of_json j)
  is_read json.null = tt
  is_read (json.boolean b) = tt
  is_read (json.number s) = of_map IsNumber IsRead number (λ n h. h) (number_of s) (is_number_of s)
  is_read (json.string s) = tt
  is_read (json.array js) = of_map AreRead IsRead array (λ ds h. h) (of_items js) (are_read js)
  is_read (json.object ms) = of_map HasRead IsRead object (λ m h. h) (of_members ms no_members) (has_read ms no_members tt)

  are_read : (js : json.Items) → OfSome AreRead (of_items js)
  are_read json.no_items = tt
  are_read (json.item j js) =
      let rest = are_read js in
      of_then IsRead AreRead (λ d. option_map (item d) (of_items js)) (λ d h. of_map AreRead AreRead (item d) (λ ds k. (h, k)) (of_items js) rest) (of_json j) (is_read j)

  has_read : (ms : json.Members) (found : Members) → HasRead found → OfSome HasRead (of_members ms found)
  has_read json.no_members found h = h
  has_read (json.member k j ms) found h =
      of_then IsRead HasRead (λ d. of_members ms (put k d found)) (λ d p. has_read ms (put k d found) (read_put k d found p h)) (of_json j) (is_read j)

-- ---- canonical where there is no float

number_whole : (n : Num) → IsNumber n → has_float (number n) ≡ false → IsWhole n
number_whole (unsigned n) h e = h
number_whole (negative z) h e = h
number_whole (float x) h e = absurd (true≢false e)

mutual
  canonical_read : (d : Data) → IsRead d → has_float d ≡ false → IsCanonical d
  canonical_read null h e = tt
  canonical_read (boolean b) h e = tt
  canonical_read (number n) h e = number_whole n h e
  canonical_read (string s) h e = tt
  canonical_read (array ds) h e = canonical_items ds h e
  canonical_read (object ms) h e = canonical_members ms h e

  canonical_items : (ds : Items) → AreRead ds → items_have_float ds ≡ false → AreCanonical ds
  canonical_items no_items h e = tt
  canonical_items (item d ds) h e =
      let none = or_parts (has_float d) (items_have_float ds) e in
      (canonical_read d h.0 none.0, canonical_items ds h.1 none.1)

  canonical_members : (ms : Members) → HasRead ms → members_have_float ms ≡ false → AreMembers ms
  canonical_members no_members h e = tt
  canonical_members (member k d ms) h e =
      let none = or_parts (has_float d) (members_have_float ms) e in
      (canonical_read d h.0 none.0, h.1, canonical_members ms h.2 none.1)

whole_read : (o : Option json.Json) (d : Data) → option_and_then of_json o ≡ Some d → IsRead d
whole_read o d e = subst (OfSome IsRead) e (of_then (λ j. ⊤) IsRead of_json (λ j h. is_read j) o (any o))
  where
    any : (p : Option json.Json) → OfSome (λ j. ⊤) p
    any None = tt
    any (Some j) = tt

-- a value that was read and holds no float is canonical
pub canonical-read : (text : List ℕ) (d : Data) → read text ≡ Some d → has_float d ≡ false → IsCanonical d
canonical-read text d e none = canonical_read d (whole_read (option_and_then (λ p. json.if_last p.0 p.1) (json.value max_depth (tokens text))) d e) none
