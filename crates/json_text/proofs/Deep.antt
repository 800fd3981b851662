-- Texts of canonical values, however deep they nest: a text has one, and nests no deeper than is read where it is read.
use Rattle.std.proofs.Common.{◌≡◌, ℕ, zero, suc, ◌≤◌, max, List, [], ◌∷◌, length, Option, Some, None, option_and_then, refl, sym, ap, ◌∙◌, subst, arith, append-nil}
use Rattle.std.specs.Bool.{⊤}
use Rattle.json.specs.Token.{Token}
use Rattle.json.specs.Lex.{tokens}
use Rattle.json.specs.Json.{Json, array, object, Items, item, Members, member, Parse, parse_map, if_last, after_end_array, read_key, items_step, members_step, items, members, value_with, value}
use Rattle.json.specs.Tree as tree
use Rattle.json.proofs.Nesting.{value-depth}
use Rattle.json.proofs.Printed.Tokens.{tokens-print}
use Rattle.json.proofs.Printed.Trees.{value-json_tokens, ArePrintable-json_tokens}
use Rattle.serde_json.specs.Data as values
use Rattle.serde_json.specs.Data.{Data}
use Rattle.serde_json.specs.Read.{read, of_json, max_depth}
use Rattle.serde_json.specs.Written.{outline, compact_text}
use Rattle.serde_json.proofs.Texts.{print-outline}
use Rattle.json_text.specs.Canonical.{IsCanonical}
use Rattle.json_text.proofs.ReadBack.{depth-outline, numbers_in, of_json-outline}

-- ---- a reader that allows more levels reads the same

-- where the first gives something, the other gives the same
abbrev Agrees : {X : Type 0} → Option X → Option X → Type 0
Agrees None o = ⊤
Agrees (Some x) o = o ≡ Some x

abbrev AgreesAt : {A : Type 0} → Parse A → Parse A → Type 0
AgreesAt p q = (ts : List Token) → Agrees (p ts) (q ts)

mapped : {A B : Type 0} (h : A → B) (o r : Option (A × List Token)) → Agrees o r → Agrees (parse_map h o) (parse_map h r)
mapped h None r x = tt
mapped h (Some p) r x = ap (parse_map h) x

and_more : {B : Type 0} (h : Json → B → B) (less more : Parse B) → AgreesAt less more → (o r : Option (Json × List Token)) → Agrees o r
    → Agrees (option_and_then (λ q. parse_map (h q.0) (less q.1)) o) (option_and_then (λ q. parse_map (h q.0) (more q.1)) r)
and_more h less more again None r x = tt
and_more {B = B} h less more again (Some q) r x =
    subst (λ (z : Option (Json × List Token)). Agrees {X = B × List Token} (parse_map (h q.0) (less q.1))
    (option_and_then (λ p. parse_map (h p.0) (more p.1)) z)) (sym x) (mapped (h q.0) (less q.1) (more q.1) (again q.1))

module _ (p q : Parse Json) (same : AgreesAt p q) where
  item_turn : (less more : Parse Items) → AgreesAt less more → (ts : List Token) (o : Option (List Token)) → Agrees (items_step p less ts o) (items_step q more ts o)
  item_turn less more again ts (Some r) = refl
  item_turn less more again ts None = and_more item less more again (p ts) (q ts) (same ts)

  items_agree : (n : ℕ) → AgreesAt (items p n) (items q n)
  unfolding items
  items_agree zero ts = tt
  items_agree (suc n) ts = item_turn (items p n) (items q n) (items_agree n) ts (after_end_array ts)

  member_turn : (less more : Parse Members) → AgreesAt less more → (o : Option (Option (List ℕ) × List Token))
      → Agrees (option_and_then (λ r. members_step p less r.0 r.1) o) (option_and_then (λ r. members_step q more r.0 r.1) o)
  member_turn less more again None = tt
  member_turn less more again (Some (None, s)) = refl
  member_turn less more again (Some (Some k, s)) = and_more (member k) less more again (p s) (q s) (same s)

  members_agree : (n : ℕ) → AgreesAt (members p n) (members q n)
  unfolding members
  members_agree zero ts = tt
  members_agree (suc n) ts = member_turn (members p n) (members q n) (members_agree n) (read_key ts)

one_level : (a b : Parse Items) (o r : Parse Members) → ((ts : List Token) → Agrees (parse_map array (a ts)) (parse_map array (b ts)))
    → ((ts : List Token) → Agrees (parse_map object (o ts)) (parse_map object (r ts))) → AgreesAt (value_with a o) (value_with b r)
one_level a b o r f g [] = tt
one_level a b o r f g (Token.begin_object ∷ ts) = g ts
one_level a b o r f g (Token.end_object ∷ ts) = tt
one_level a b o r f g (Token.begin_array ∷ ts) = f ts
one_level a b o r f g (Token.end_array ∷ ts) = tt
one_level a b o r f g (Token.key s ∷ ts) = tt
one_level a b o r f g (Token.string s ∷ ts) = refl
one_level a b o r f g (Token.number s ∷ ts) = refl
one_level a b o r f g (Token.boolean x ∷ ts) = refl
one_level a b o r f g (Token.null ∷ ts) = refl
one_level a b o r f g (Token.bad ∷ ts) = tt

values_agree : (d e : ℕ) → d ≤ e → AgreesAt (value d) (value e)
unfolding value
values_agree zero zero le = one_level (λ ts. None) (λ ts. None) (λ ts. None) (λ ts. None) (λ ts. tt) (λ ts. tt)
values_agree zero (suc e) le =
    one_level (λ ts. None) (λ ts. items (value e) (length ts) ts) (λ ts. None) (λ ts. members (value e) (length ts) ts) (λ ts. tt) (λ ts. tt)
values_agree (suc d) zero le = absurd (omega arith)
values_agree (suc d) (suc e) le =
    let same : AgreesAt (value d) (value e) = values_agree d e (omega arith) in
    one_level
    (λ ts. items (value d) (length ts) ts) (λ ts. items (value e) (length ts) ts) (λ ts. members (value d) (length ts) ts) (λ ts. members (value e) (length ts) ts)
    (λ ts. mapped array (items (value d) (length ts) ts) (items (value e) (length ts) ts) (items_agree (value d) (value e) same (length ts) ts))
    (λ ts. mapped object (members (value d) (length ts) ts) (members (value e) (length ts) ts) (members_agree (value d) (value e) same (length ts) ts))

one_some : {X : Type 0} (a b : X) (o : Option X) → o ≡ Some a → o ≡ Some b → a ≡ b
one_some a b o p q = cc

-- so the tokens of a tree that are read so deep nest no deeper
tree_shallow : (d : ℕ) (j : Json) (p : Json × List Token) → value d (tree.json_tokens j) ≡ Some p → tree.depth j ≤ d
tree_shallow d j p is =
    let deep : ℕ = max d (tree.depth j) in
    let all : value deep (tree.json_tokens j) ≡ Some (j, []) = ap (value deep) (sym (append-nil (tree.json_tokens j))) ∙ value-json_tokens j deep [] (omega arith) in
    let more : value deep (tree.json_tokens j) ≡ Some p =
    subst (λ (o : Option (Json × List Token)). Agrees o (value deep (tree.json_tokens j))) is (values_agree d deep (omega arith) (tree.json_tokens j)) in
    let same : p ≡ (j, []) = one_some p (j, []) (value deep (tree.json_tokens j)) more all in
    value-depth d (tree.json_tokens j) [] j (is ∙ ap Some same)

-- ---- a text has one value

text_tokens : (d : Data) → IsCanonical d → tokens (compact_text d) ≡ tree.json_tokens (outline d)
text_tokens d h = ap tokens (sym (print-outline d)) ∙ tokens-print (tree.json_tokens (outline d)) (ArePrintable-json_tokens (outline d) (numbers_in d h))

-- so many levels suffice for the value
tree_of : (d : Data) (n : ℕ) → IsCanonical d → values.depth d ≤ n → value n (tokens (compact_text d)) ≡ Some (outline d, [])
tree_of d n h shallow = ap (value n) (text_tokens d h ∙ sym (append-nil (tree.json_tokens (outline d)))) ∙ value-json_tokens (outline d) n [] (omega (arith, depth-outline d))

one_tree : (i j : Json) (o : Option (Json × List Token)) → o ≡ Some (i, []) → o ≡ Some (j, []) → i ≡ j
one_tree i j o p q = ap (λ (x : Json × List Token). x.0) (one_some {X = Json × List Token} (i, []) (j, []) o p q)

-- two canonical values of one text are one
pub one_value_of : (d e : Data) → IsCanonical d → IsCanonical e → compact_text d ≡ compact_text e → d ≡ e
one_value_of d e hd he same =
    let n : ℕ = max (values.depth d) (values.depth e) in
    let first : value n (tokens (compact_text d)) ≡ Some (outline d, []) = tree_of d n hd (omega arith) in
    let second : value n (tokens (compact_text d)) ≡ Some (outline e, []) = ap (λ s. value n (tokens s)) same ∙ tree_of e n he (omega arith) in
    let trees : outline d ≡ outline e = one_tree (outline d) (outline e) (value n (tokens (compact_text d))) first second in
    one_some d e (of_json (outline d)) (of_json-outline d hd) (ap of_json trees ∙ of_json-outline e he)

-- ---- what is read

pub read_shallow : (d e : Data) → IsCanonical d → read (compact_text d) ≡ Some e → values.depth d ≤ 127
read_shallow d e h is = by (value max_depth (tokens (compact_text d))) refl is
  where
    by : (o : Option (Json × List Token)) → value max_depth (tokens (compact_text d)) ≡ o → option_and_then of_json (option_and_then (λ p. if_last p.0 p.1) o) ≡ Some e → values.depth d ≤ 127
    by None found is = absurd (cc)
    by (Some p) found is = let own = tree_shallow max_depth (outline d) p (ap (value max_depth) (sym (text_tokens d h)) ∙ found) in omega (arith, own, depth-outline d)
