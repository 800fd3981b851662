-- What stands in a value that was read is what some text gives, too.
use Rattle.std.proofs.Common.{
  ◌≡◌,
  ℕ,
  suc,
  ◌≤◌,
  List,
  [],
  ◌∷◌,
  Option,
  Some,
  None,
  IfSome,
  option_map,
  option_and_then,
  Ordering,
  Less,
  Equal,
  Greater,
  nat_cmp,
  refl,
  ap,
  ◌∙◌,
  subst,
  arith,
  append-nil,
  sym,
}
use Rattle.std.specs.Bool.{⊤}
use Rattle.std.specs.Ordering.{match_ordering}
use Rattle.std.specs.Cmp.Lexicographic.{slice_cmp}
use Rattle.json.specs.Token.{Token}
use Rattle.json.specs.Lex.{tokens}
use Rattle.json.specs.Json as json
use Rattle.json.specs.Tree as tree
use Rattle.json.specs.Print.{print}
use Rattle.json.proofs.Nesting.{value-depth}
use Rattle.json.proofs.Numbered.{ArePrintableOrBad-tokens, value-HasNumbers}
use Rattle.json.proofs.Printed.Tokens.{tokens-print}
use Rattle.json.proofs.Printed.Trees.{value-json_tokens, ArePrintable-json_tokens}
use Rattle.serde_json.specs.Data.{Data, number, null, boolean, string, array, object, Items, no_items, item, Members, no_members, member, put}
use Rattle.serde_json.specs.Find.{get_member}
use Rattle.serde_json.specs.Read.{read, of_json, of_items, of_members, number_of, max_depth}

-- the value of a tree of JSON that nests at most so deep
pub record IsTaken (n : ℕ) (d : Data) : Type 0 where
  pub source : json.Json
  pub numbers : tree.HasNumbers source
  pub shallow : tree.depth source ≤ n
  pub value : of_json source ≡ Some d

abbrev pub AreTaken : ℕ → Items → Type 0
AreTaken n no_items = ⊤
AreTaken n (item d ds) = IsTaken n d × AreTaken n ds

abbrev pub HasTaken : ℕ → Members → Type 0
HasTaken n no_members = ⊤
HasTaken n (member k d ms) = IsTaken n d × HasTaken n ms

-- so are its items, or the values of its members
abbrev pub HasTakenParts : ℕ → Data → Type 0
HasTakenParts n null = ⊤
HasTakenParts n (boolean b) = ⊤
HasTakenParts n (number x) = ⊤
HasTakenParts n (string s) = ⊤
HasTakenParts n (array ds) = AreTaken n ds
HasTakenParts n (object ms) = HasTaken n ms

-- ---- a value that was read, and back

pub read_taken : (text : List ℕ) (d : Data) → read text ≡ Some d → IsTaken 127 d
read_taken text d e = by (json.value max_depth (tokens text)) refl e
  where
    by : (o : Option (json.Json × List Token)) → json.value max_depth (tokens text) ≡ o → option_and_then of_json (option_and_then (λ p. json.if_last p.0 p.1) o) ≡ Some d → IsTaken 127 d
    by None is value = cc
    by (Some (j, [])) is value = record {
      source = j;
      numbers = value-HasNumbers max_depth (tokens text) [] j (ArePrintableOrBad-tokens text) is;
      shallow = value-depth max_depth (tokens text) [] j is;
      value = value;
    }
    by (Some (j, t ∷ ts)) is value = cc

pub taken_reads : (n : ℕ) (d : Data) → n ≤ 127 → IsTaken n d → (text : List ℕ) × (read text ≡ Some d)
taken_reads n d le t =
    let printed = tokens-print (tree.json_tokens t.source) (ArePrintable-json_tokens t.source t.numbers) ∙ sym (append-nil (tree.json_tokens t.source)) in
    let valued = ap (json.value max_depth) printed ∙ value-json_tokens t.source max_depth [] (omega (arith, t.shallow)) in
    (print (tree.json_tokens t.source), ap (λ o. option_and_then of_json (option_and_then (λ p. json.if_last p.0 p.1) o)) valued ∙ t.value)

-- ---- its parts

taken_put : (n : ℕ) (k : List ℕ) (d : Data) (ms : Members) → IsTaken n d → HasTaken n ms → HasTaken n (put k d ms)
taken_put n k d no_members t h = (t, tt)
taken_put n k d (member l e ms) t h = placed (slice_cmp nat_cmp k l) (taken_put n k d ms t h.1)
  where
    placed : (o : Ordering) → HasTaken n (put k d ms) → HasTaken n (match_ordering o (member k d (member l e ms)) (member l d ms) (member l e (put k d ms)))
    placed Less rest = (t, h)
    placed Equal rest = (t, h.1)
    placed Greater rest = (h.0, rest)

taken_items : (n : ℕ) (js : json.Items) → tree.ItemsHaveNumbers js → tree.items_depth js ≤ n → IfSome (of_items js) (AreTaken n)
taken_items n json.no_items h shallow = tt
taken_items n (json.item j js) h shallow = by (of_json j) refl (of_items js) (taken_items n js h.1 (omega arith))
  where
    by : (o : Option Data) → of_json j ≡ o → (p : Option Items) → IfSome p (AreTaken n) → IfSome (option_and_then (λ d. option_map (item d) p) o) (AreTaken n)
    by None e p rest = tt
    by (Some d) e None rest = tt
    by (Some d) e (Some ds) rest = (record { source = j; numbers = h.0; shallow = omega arith; value = e }, rest)

taken_members : (n : ℕ) (js : json.Members) (found : Members) → tree.MembersHaveNumbers js → tree.members_depth js ≤ n → HasTaken n found → IfSome (of_members js found) (HasTaken n)
taken_members n json.no_members found h shallow done = done
taken_members n (json.member k j js) found h shallow done = by (of_json j) refl (λ d t. taken_members n js (put k d found) h.1 (omega arith) (taken_put n k d found t done))
  where
    by : (o : Option Data) → of_json j ≡ o → ((d : Data) → IsTaken n d → IfSome (of_members js (put k d found)) (HasTaken n))
        → IfSome (option_and_then (λ d. of_members js (put k d found)) o) (HasTaken n)
    by None e rest = tt
    by (Some d) e rest = rest d (record { source = j; numbers = h.0; shallow = omega arith; value = e })

mapped : {A B : Type 0} (P : A → Type 0) (Q : B → Type 0) (f : A → B) → ((a : A) → P a → Q (f a)) → (o : Option A) → IfSome o P → IfSome (option_map f o) Q
mapped P Q f h None k = tt
mapped P Q f h (Some a) k = h a k

any : {A : Type 0} (o : Option A) → IfSome o (λ a. ⊤)
any None = tt
any (Some a) = tt

taken_parts_of : (n : ℕ) (j : json.Json) → tree.HasNumbers j → tree.depth j ≤ suc n → IfSome (of_json j) (HasTakenParts n)
taken_parts_of n json.null h shallow = tt
taken_parts_of n (json.boolean b) h shallow = tt
taken_parts_of n (json.number s) h shallow = mapped (λ x. ⊤) (HasTakenParts n) number (λ x k. tt) (number_of s) (any (number_of s))
taken_parts_of n (json.string s) h shallow = tt
taken_parts_of n (json.array js) h shallow = mapped (AreTaken n) (HasTakenParts n) array (λ ds k. k) (of_items js) (taken_items n js h (omega arith))
taken_parts_of n (json.object js) h shallow = mapped (HasTaken n) (HasTakenParts n) object (λ ms k. k) (of_members js no_members) (taken_members n js no_members h (omega arith) tt)

pub taken_parts : (n : ℕ) (d : Data) → IsTaken (suc n) d → HasTakenParts n d
taken_parts n d t = subst (λ o. IfSome o (HasTakenParts n)) t.value (taken_parts_of n t.source t.numbers t.shallow)

pub taken_member : (n : ℕ) (k : List ℕ) (ms : Members) → HasTaken n ms → IfSome (get_member k ms) (IsTaken n)
taken_member n k no_members h = tt
taken_member n k (member l d ms) h = by (slice_cmp nat_cmp k l) (taken_member n k ms h.1)
  where
    by : (o : Ordering) → IfSome (get_member k ms) (IsTaken n) → IfSome (match_ordering o (get_member k ms) (Some d) (get_member k ms)) (IsTaken n)
    by Less rest = rest
    by Equal rest = h.0
    by Greater rest = rest
