-- Every text in a value that was read from UTF-8 is UTF-8.
use Rattle.std.proofs.Common.{
  ◌≡◌,
  ℕ,
  zero,
  suc,
  ◌^◌,
  ◌<◌,
  ◌≤◌,
  Bool,
  true,
  false,
  cond,
  ◌&&◌,
  ◌==◌,
  nat_lt,
  nat_le,
  drop,
  slice_index,
  if◌then◌else◌,
  negsuc,
  List,
  [],
  ◌∷◌,
  ◌++◌,
  length,
  Option,
  Some,
  None,
  IfSome,
  option_map,
  option_and_then,
  IsUtf8,
  refl,
  arith,
}
use Rattle.std.specs.Bool.{⊤}
use Rattle.std.specs.Float.{binary64, float_is_finite}
use Rattle.std.specs.Fmt.{signed_decimal}
use Rattle.std.proofs.lemmas.Bool.{and_parts, eqb-true, ltb-true, leb-true}
use Rattle.std.proofs.lemmas.Str.{IsUtf8-nil, IsUtf8-from_ascii}
use Rattle.std.proofs.lemmas.Fmt.{IsAscii-decimal, IsAscii-signed}
use Rattle.fast_float.specs.Text.{Parts, minus, scan, digits_of, nearest, with_sign}
use Rattle.json.specs.Token.{Token, begin_object, end_object, begin_array, end_array, key, string, number, boolean, null, bad}
use Rattle.json.specs.Text.{content, plain}
use Rattle.json.specs.Word.{is_operator, is_space, head, ends_word, after_number, number_before, word}
use Rattle.json.specs.Lex.{
  Lexeme,
  token,
  comma,
  colon,
  Class,
  quote,
  backslash,
  operator,
  space,
  other,
  class,
  operator_lexeme,
  string_token,
  Mode,
  between,
  in_word,
  in_string,
  in_escape,
  lex_byte,
  lex,
}
use Rattle.json.specs.Lex.{Place, fresh, after_value, after_comma, after_key, begins_colon, may_begin, may_close, if_allowed, place_token, punctuate, tokens}
use Rattle.json.specs.Json as json
use Rattle.json.specs.Json.{Parse, parse_map, after_end_array, read_key, items_step, members_step, value_with, if_last}
use Rattle.serde_json.specs.Data as tree
use Rattle.serde_json.specs.Data.{Num, unsigned}
use Rattle.serde_json.specs.Read.{read, of_json, of_items, of_members, number_of, number_from, float_of, is_integer, max_depth}
use Rattle.serde_json.specs.Written.{number_text}
use Rattle.object_laws.proofs.Utf8Texts.{HasUtf8, ItemsUtf8, MembersUtf8, put_utf8}
use Rattle.object_laws.proofs.Utf8Strings.{cut_utf8, move_utf8, content_utf8}

-- ---- lexemes

abbrev TokenUtf8 : Token → Type 0
TokenUtf8 begin_object = ⊤
TokenUtf8 end_object = ⊤
TokenUtf8 begin_array = ⊤
TokenUtf8 end_array = ⊤
TokenUtf8 (key s) = IsUtf8 s
TokenUtf8 (string s) = IsUtf8 s
TokenUtf8 (number s) = ⊤
TokenUtf8 (boolean b) = ⊤
TokenUtf8 null = ⊤
TokenUtf8 bad = ⊤

abbrev TokensUtf8 : List Token → Type 0
TokensUtf8 [] = ⊤
TokensUtf8 (t ∷ ts) = TokenUtf8 t × TokensUtf8 ts

abbrev LexemeUtf8 : Lexeme → Type 0
LexemeUtf8 (token t) = TokenUtf8 t
LexemeUtf8 comma = ⊤
LexemeUtf8 colon = ⊤

abbrev LexemesUtf8 : List Lexeme → Type 0
LexemesUtf8 [] = ⊤
LexemesUtf8 (l ∷ ls) = LexemeUtf8 l × LexemesUtf8 ls

one_of : (b : Bool) (x y : Token) → TokenUtf8 x → TokenUtf8 y → TokenUtf8 (cond b x y)
one_of true x y p q = p
one_of false x y p q = q

number_utf8 : (t : List ℕ) (o : Option (List ℕ)) → TokenUtf8 (number_before t o)
number_utf8 t None = tt
number_utf8 t (Some r) = one_of (ends_word r) _ bad tt tt

word_utf8 : (t : List ℕ) → TokenUtf8 (word t)
unfolding word
word_utf8 t =
    one_of (head t == 116) _ _ (one_of _ (boolean true) bad tt tt) (one_of (head t == 102) _ _ (one_of _ (boolean false) bad tt tt)
    (one_of (head t == 110) _ _ (one_of _ null bad tt tt) (number_utf8 t (after_number t))))

mark : (b : Bool) (x y : Lexeme) → LexemeUtf8 x → LexemeUtf8 y → LexemeUtf8 (cond b x y)
mark true x y p q = p
mark false x y p q = q

marks : (x : ℕ) → LexemeUtf8 (operator_lexeme x)
marks x =
    mark (x == 123) (token begin_object) _ tt
    (mark (x == 125) (token end_object) _ tt (mark (x == 91) (token begin_array) _ tt (mark (x == 93) (token end_array) _ tt (mark (x == 44) comma colon tt tt))))

text : (o : Option (List ℕ)) → IfSome o IsUtf8 → TokenUtf8 (string_token o)
text None h = tt
text (Some s) h = h

byte : (m : Mode) (c : Class) (x : ℕ) (xs : List ℕ) (k : Mode → List Lexeme) → (c ≡ quote → IsUtf8 xs) → ((n : Mode) → LexemesUtf8 (k n)) → LexemesUtf8 (lex_byte m c x xs k)
byte between quote x xs k u h = (text (content plain xs) (content_utf8 xs (u refl)), h in_string)
byte between backslash x xs k u h = (tt, h in_word)
byte between operator x xs k u h = (marks x, h between)
byte between space x xs k u h = h between
byte between other x xs k u h = (word_utf8 (x ∷ xs), h in_word)
byte in_word quote x xs k u h = h in_word
byte in_word backslash x xs k u h = h in_word
byte in_word operator x xs k u h = (marks x, h between)
byte in_word space x xs k u h = h between
byte in_word other x xs k u h = h in_word
byte in_string quote x xs k u h = h between
byte in_string backslash x xs k u h = h in_escape
byte in_string operator x xs k u h = h in_string
byte in_string space x xs k u h = h in_string
byte in_string other x xs k u h = h in_string
byte in_escape c x xs k u h = h in_string

quote_small : (x : ℕ) → class x ≡ quote → x < 128
quote_small x e = by (x == 34) refl e
  where
    never : (b o s : Bool) → cond b backslash (cond o operator (cond s space other)) ≡ quote → ⊥
    never true o s f = cc
    never false true s f = cc
    never false false true f = cc
    never false false false f = cc

    by : (b : Bool) → (x == 34) ≡ b → cond b quote (cond (x == 92) backslash (cond (is_operator x) operator (cond (is_space x) space other))) ≡ quote → x < 128
    by true is f = let same : x ≡ 34 = eqb-true x 34 is in omega arith
    by false is f = absurd (never (x == 92) (is_operator x) (is_space x) f)

lex_utf8 : (xs : List ℕ) (m : Mode) (pre : List ℕ) → IsUtf8 (pre ++ xs) → LexemesUtf8 (lex m xs)
unfolding lex
lex_utf8 [] m pre h = tt
lex_utf8 (x ∷ xs) m pre h = byte m (class x) x xs (λ n. lex n xs) (λ e. (cut_utf8 pre x xs (quote_small x e) h).1) (λ n. lex_utf8 xs n (pre ++ x ∷ []) (move_utf8 pre x xs h))

-- ---- tokens

allowed : (b : Bool) (t : Token) (k : Place → List Token) (next : Place) → TokenUtf8 t → TokensUtf8 (k next) → TokensUtf8 (if_allowed b t k next)
allowed true t k next p q = (p, q)
allowed false t k next p q = (tt, tt)

placed : (p : Place) (t : Token) (b : Bool) (k : Place → List Token) → TokenUtf8 t → ((n : Place) → TokensUtf8 (k n)) → TokensUtf8 (place_token p t b k)
placed p begin_object b k q h = allowed (may_begin p) begin_object k fresh q (h fresh)
placed p end_object b k q h = allowed (may_close p) end_object k after_value q (h after_value)
placed p begin_array b k q h = allowed (may_begin p) begin_array k fresh q (h fresh)
placed p end_array b k q h = allowed (may_close p) end_array k after_value q (h after_value)
placed p (key s) b k q h = (tt, tt)
placed p (string s) true k q h = allowed (may_begin p) (key s) k after_key q (h after_key)
placed p (string s) false k q h = allowed (may_begin p) (string s) k after_value q (h after_value)
placed p (number s) b k q h = allowed (may_begin p) (number s) k after_value q (h after_value)
placed p (boolean v) b k q h = allowed (may_begin p) (boolean v) k after_value q (h after_value)
placed p null b k q h = allowed (may_begin p) null k after_value q (h after_value)
placed p bad b k q h = (tt, tt)

punctuate_utf8 : (ls : List Lexeme) → LexemesUtf8 ls → (p : Place) → TokensUtf8 (punctuate p ls)
unfolding punctuate
punctuate_utf8 [] h fresh = tt
punctuate_utf8 [] h after_value = tt
punctuate_utf8 [] h after_comma = (tt, tt)
punctuate_utf8 [] h after_key = (tt, tt)
punctuate_utf8 (token t ∷ ls) h p = placed p t (begins_colon ls) (λ n. punctuate n ls) h.0 (punctuate_utf8 ls h.1)
punctuate_utf8 (comma ∷ ls) h fresh = (tt, tt)
punctuate_utf8 (comma ∷ ls) h after_value = punctuate_utf8 ls h.1 after_comma
punctuate_utf8 (comma ∷ ls) h after_comma = (tt, tt)
punctuate_utf8 (comma ∷ ls) h after_key = (tt, tt)
punctuate_utf8 (colon ∷ ls) h fresh = (tt, tt)
punctuate_utf8 (colon ∷ ls) h after_value = (tt, tt)
punctuate_utf8 (colon ∷ ls) h after_comma = (tt, tt)
punctuate_utf8 (colon ∷ ls) h after_key = punctuate_utf8 ls h.1 fresh

tokens_utf8 : (xs : List ℕ) → IsUtf8 xs → TokensUtf8 (tokens xs)
tokens_utf8 xs h = punctuate_utf8 (lex between xs) (lex_utf8 xs between [] h) fresh

-- ---- trees

abbrev mutual
  JsonUtf8 : json.Json → Type 0
  JsonUtf8 json.null = ⊤
  JsonUtf8 (json.boolean b) = ⊤
  JsonUtf8 (json.number s) = ⊤
  JsonUtf8 (json.string s) = IsUtf8 s
  JsonUtf8 (json.array js) = JsonItemsUtf8 js
  JsonUtf8 (json.object ms) = JsonMembersUtf8 ms

  JsonItemsUtf8 : json.Items → Type 0
  JsonItemsUtf8 json.no_items = ⊤
  JsonItemsUtf8 (json.item j js) = JsonUtf8 j × JsonItemsUtf8 js

  JsonMembersUtf8 : json.Members → Type 0
  JsonMembersUtf8 json.no_members = ⊤
  JsonMembersUtf8 (json.member k j ms) = IsUtf8 k × JsonUtf8 j × JsonMembersUtf8 ms

abbrev Leaves : {A : Type 0} → (A → Type 0) → Option (A × List Token) → Type 0
Leaves Q None = ⊤
Leaves Q (Some p) = Q p.0 × TokensUtf8 p.1

abbrev Keeps : {A : Type 0} → (A → Type 0) → Parse A → Type 0
Keeps Q p = (ts : List Token) → TokensUtf8 ts → Leaves Q (p ts)

mapped : {A B : Type 0} (P : A → Type 0) (Q : B → Type 0) (f : A → B) → ((a : A) → P a → Q (f a)) → (o : Option (A × List Token)) → Leaves P o → Leaves Q (parse_map f o)
mapped P Q f g None h = tt
mapped P Q f g (Some p) h = (g p.0 h.0, h.1)

and_more : {B : Type 0} (Q : B → Type 0) (f : json.Json → B → B) → ((j : json.Json) (b : B) → JsonUtf8 j → Q b → Q (f j b)) → (more : Parse B) → Keeps Q more
    → (o : Option (json.Json × List Token)) → Leaves JsonUtf8 o → Leaves Q (option_and_then (λ q. parse_map (f q.0) (more q.1)) o)
and_more Q f g more keeps None h = tt
and_more Q f g more keeps (Some q) h = mapped Q Q (f q.0) (λ b. g q.0 b h.0) _ (keeps q.1 h.1)

closing : (ts : List Token) → TokensUtf8 ts → IfSome (after_end_array ts) TokensUtf8
closing [] h = tt
closing (begin_object ∷ ts) h = tt
closing (end_object ∷ ts) h = tt
closing (begin_array ∷ ts) h = tt
closing (end_array ∷ ts) h = h.1
closing (key s ∷ ts) h = tt
closing (string s ∷ ts) h = tt
closing (number s ∷ ts) h = tt
closing (boolean v ∷ ts) h = tt
closing (null ∷ ts) h = tt
closing (bad ∷ ts) h = tt

abbrev NameUtf8 : Option (List ℕ) → Type 0
NameUtf8 o = IfSome o IsUtf8

naming : Keeps NameUtf8 read_key
naming [] h = tt
naming (begin_object ∷ ts) h = tt
naming (end_object ∷ ts) h = (tt, h.1)
naming (begin_array ∷ ts) h = tt
naming (end_array ∷ ts) h = tt
naming (key s ∷ ts) h = h
naming (string s ∷ ts) h = tt
naming (number s ∷ ts) h = tt
naming (boolean v ∷ ts) h = tt
naming (null ∷ ts) h = tt
naming (bad ∷ ts) h = tt

module _ (p : Parse json.Json) (keeps : Keeps JsonUtf8 p) where
  item_turn : (more : Parse json.Items) → Keeps JsonItemsUtf8 more → (ts : List Token) → TokensUtf8 ts → (o : Option (List Token)) → IfSome o TokensUtf8 → Leaves JsonItemsUtf8 (items_step p more ts o)
  item_turn more again ts h (Some r) q = (tt, q)
  item_turn more again ts h None q = and_more JsonItemsUtf8 json.item (λ j b x y. (x, y)) more again (p ts) (keeps ts h)

  items_keep : (n : ℕ) → Keeps JsonItemsUtf8 (json.items p n)
  unfolding json.items
  items_keep zero ts h = tt
  items_keep (suc n) ts h = item_turn (json.items p n) (items_keep n) ts h (after_end_array ts) (closing ts h)

  member_turn : (more : Parse json.Members) → Keeps JsonMembersUtf8 more → (o : Option (Option (List ℕ) × List Token)) → Leaves NameUtf8 o
      → Leaves JsonMembersUtf8 (option_and_then (λ q. members_step p more q.0 q.1) o)
  member_turn more again None h = tt
  member_turn more again (Some (None, s)) h = (tt, h.1)
  member_turn more again (Some (Some k, s)) h = and_more JsonMembersUtf8 (json.member k) (λ j b x y. (h.0, x, y)) more again (p s) (keeps s h.1)

  members_keep : (n : ℕ) → Keeps JsonMembersUtf8 (json.members p n)
  unfolding json.members
  members_keep zero ts h = tt
  members_keep (suc n) ts h = member_turn (json.members p n) (members_keep n) (read_key ts) (naming ts h)

value_keeps_with : (a : Parse json.Items) (o : Parse json.Members) → Keeps JsonItemsUtf8 a → Keeps JsonMembersUtf8 o → Keeps JsonUtf8 (value_with a o)
value_keeps_with a o p q [] h = tt
value_keeps_with a o p q (begin_object ∷ ts) h = mapped JsonMembersUtf8 JsonUtf8 json.object (λ m x. x) _ (q ts h.1)
value_keeps_with a o p q (end_object ∷ ts) h = tt
value_keeps_with a o p q (begin_array ∷ ts) h = mapped JsonItemsUtf8 JsonUtf8 json.array (λ m x. x) _ (p ts h.1)
value_keeps_with a o p q (end_array ∷ ts) h = tt
value_keeps_with a o p q (key s ∷ ts) h = tt
value_keeps_with a o p q (string s ∷ ts) h = h
value_keeps_with a o p q (number s ∷ ts) h = h
value_keeps_with a o p q (boolean v ∷ ts) h = h
value_keeps_with a o p q (null ∷ ts) h = h
value_keeps_with a o p q (bad ∷ ts) h = tt

value_keeps : (depth : ℕ) → Keeps JsonUtf8 (json.value depth)
unfolding json.value
value_keeps zero = value_keeps_with (λ ts. None) (λ ts. None) (λ ts h. tt) (λ ts h. tt)
value_keeps (suc d) =
    value_keeps_with (λ ts. json.items (json.value d) (length ts) ts) (λ ts. json.members (json.value d) (length ts) ts)
    (λ ts. items_keep (json.value d) (value_keeps d) (length ts) ts) (λ ts. members_keep (json.value d) (value_keeps d) (length ts) ts)

last : (o : Option (json.Json × List Token)) → Leaves JsonUtf8 o → IfSome (option_and_then (λ p. if_last p.0 p.1) o) JsonUtf8
last None h = tt
last (Some (j, [])) h = h.0
last (Some (j, t ∷ ts)) h = tt

-- ---- values

then_of : {A B : Type 0} (P : A → Type 0) (Q : B → Type 0) (f : A → Option B) (o : Option A) → IfSome o P → ((a : A) → P a → IfSome (f a) Q) → IfSome (option_and_then f o) Q
then_of P Q f None h k = tt
then_of P Q f (Some a) h k = k a h

under : {A B : Type 0} (P : A → Type 0) (Q : B → Type 0) (f : A → B) (o : Option A) → IfSome o P → ((a : A) → P a → Q (f a)) → IfSome (option_map f o) Q
under P Q f None h k = tt
under P Q f (Some a) h k = k a h

abbrev NumberUtf8 : Num → Type 0
NumberUtf8 n = IsUtf8 (number_text n)

some_if : (b : Bool) (x y : Option Num) → (b ≡ true → IfSome x NumberUtf8) → IfSome y NumberUtf8 → IfSome (if b then x else y) NumberUtf8
some_if true x y h k = h refl
some_if false x y h k = k

negative_utf8 : (n : ℕ) → n ≤ 2 ^ 63 → IsUtf8 (signed_decimal (with_sign true n))
negative_utf8 zero h = IsUtf8-from_ascii _ (IsAscii-decimal 0 (omega arith))
negative_utf8 (suc n) h = IsUtf8-from_ascii _ (IsAscii-signed (negsuc n) h)

float_utf8 : (sign : Bool) (p : Parts) → IfSome (float_of sign p) NumberUtf8
float_utf8 sign p = some_if (float_is_finite (nearest binary64 sign p)) _ None (λ e. IsUtf8-nil) tt

number_from_utf8 : (sign : Bool) (p : Parts) → IfSome (number_from sign p) NumberUtf8
number_from_utf8 false p =
    some_if (is_integer p && nat_lt (digits_of p) (2 ^ 64)) (Some (unsigned (digits_of p))) _
    (λ e. IsUtf8-from_ascii _ (IsAscii-decimal (digits_of p) (ltb-true _ _ (and_parts _ _ e).1))) (float_utf8 false p)
number_from_utf8 true p =
    some_if (is_integer p && nat_lt 0 (digits_of p) && nat_le (digits_of p) (2 ^ 63)) _ _ (λ e. negative_utf8 (digits_of p) (leb-true _ _ (and_parts _ _ e).1)) (float_utf8 true p)

number_of_utf8 : (s : List ℕ) → IfSome (number_of s) NumberUtf8
unfolding number_of
number_of_utf8 s =
    let past = scan (drop 1 s) in
    some_if (slice_index s 0 == minus) (number_from true past) (number_from false (scan s)) (λ e. number_from_utf8 true past) (number_from_utf8 false (scan s))

mutual
  value_utf8 : (j : json.Json) → JsonUtf8 j → IfSome (of_json j) HasUtf8
  value_utf8 json.null h = tt
  value_utf8 (json.boolean b) h = tt
  value_utf8 (json.number s) h = under NumberUtf8 HasUtf8 tree.number (number_of s) (number_of_utf8 s) (λ n k. k)
  value_utf8 (json.string s) h = h
  value_utf8 (json.array js) h = under ItemsUtf8 HasUtf8 tree.array (of_items js) (items_utf8 js h) (λ ds k. k)
  value_utf8 (json.object ms) h = under MembersUtf8 HasUtf8 tree.object (of_members ms tree.no_members) (members_utf8 ms tree.no_members h tt) (λ ds k. k)

  items_utf8 : (js : json.Items) → JsonItemsUtf8 js → IfSome (of_items js) ItemsUtf8
  items_utf8 json.no_items h = tt
  items_utf8 (json.item j js) h =
      then_of HasUtf8 ItemsUtf8 _ (of_json j) (value_utf8 j h.0) (λ d k. under ItemsUtf8 ItemsUtf8 (tree.item d) (of_items js) (items_utf8 js h.1) (λ ds l. (k, l)))

  members_utf8 : (ms : json.Members) (found : tree.Members) → JsonMembersUtf8 ms → MembersUtf8 found → IfSome (of_members ms found) MembersUtf8
  members_utf8 json.no_members found h done = done
  members_utf8 (json.member k j ms) found h done =
      then_of HasUtf8 MembersUtf8 _ (of_json j) (value_utf8 j h.1) (λ d l. members_utf8 ms (tree.put k d found) h.2 (put_utf8 k d found h.0 l done))

pub read_utf8 : (text : List ℕ) → IsUtf8 text → IfSome (read text) HasUtf8
read_utf8 text h = then_of JsonUtf8 HasUtf8 of_json _ (last _ (value_keeps max_depth (tokens text) (tokens_utf8 text h))) (λ j k. value_utf8 j k)
