-- What is printed of the members of a line is read again.
use Rattle.std.proofs.Common.{◌≡◌, ℕ, List, [], ◌∷◌, ◌++◌, Option, Some, None, codes, option_map, refl, sym, ap, ◌∙◌, append-nil, append_assoc}
use Rattle.std.specs.Prelude.{IfSome}
use Rattle.std.specs.List.{All}
use Rattle.std.proofs.lemmas.List.Elements.{All-head, All-tail}
use Rattle.std.proofs.Math.Path.{fun_ext}
use Rattle.serde_json.specs.Data.{Data, string, no_members}
use Rattle.json_text.specs.Build.{number_data, pick}
use Rattle.json_text.specs.Members.{MemberList, text, filled, items_data, pairs_data, object_of}
use Rattle.json_text.proofs.PutAll.{get-put_all}
use Rattle.plain_data.specs.Pairs.{Pair, ArePairs}
use Rattle.kube_parts.specs.Words.{kind_word}
use Rattle.kube_parts.proofs.NamedWords.{kinds_inverse}
use Rattle.kube_parts.proofs.UidTexts.{reads_back}
use Rattle.kube_objects.specs.declared.key.Key.{Key}
use Rattle.kube_parts.specs.declared.uid.Uid.{Uid}
use Rattle.kube_parts.specs.declared.parts.Modes.{Modes}
use Rattle.kube_objects.specs.declared.objects.Amount.{Amount}
use Rattle.kube_objects.specs.declared.objects.Object.{Object}
use Rattle.object_print.specs.Metadata.{uid_data}
use Rattle.object_print.specs.Parts.{modes_data}
use Rattle.object_print.specs.Objects.{object_data}
use Rattle.object_text.specs.declared.errors.Member.TheVariants as members
use Rattle.object_text.specs.MemberReaders.{pairs_in, pairs_or_none}
use Rattle.object_text.specs.PartReaders.{amount_from}
use Rattle.object_laws.specs.Given.{IsGivenObject, IsAmount, IsUid}
use Rattle.object_laws.proofs.Back.{object_back}
use Rattle.object_laws.proofs.PartsBack.{modes_items, pairs_back}
use Rattle.history_text.specs.Requests.{amount_text}
use Rattle.history_lines.specs.Answers.{◌>>=◌, taken}
use Rattle.history_lines.specs.Members.{
  Look,
  look_in,
  filled_from,
  some_text_from,
  some_number_from,
  uid_in,
  some_uid_from,
  quantity_in,
  some_amount_from,
  object_in,
  items_from,
  modes_at,
  some_labels_from,
  key_at,
}

-- the members of an object that is printed from a list
abbrev pub shown : MemberList → Look
shown ps = λ k. pick k ps None

pub looked : (ps : MemberList) → ◌≡◌ {A = Look} (look_in (object_of ps)) (shown ps)
looked ps = fun_ext (λ k. get-put_all k ps no_members)

-- the next step goes on with the value
pub next : {A B : Type 0} {o : Option A} {a : A} (f : A → Option B) → o ≡ Some a → (o >>= f) ≡ f a
next f h = ap (λ p. p >>= f) h

-- ---- texts and numbers

pub filled_back : (s : List ℕ) → filled_from (filled s) ≡ Some s
filled_back [] = refl
filled_back (x ∷ xs) = refl

pub some_text_back : (o : Option (List ℕ)) → some_text_from (option_map string o) ≡ Some o
some_text_back None = refl
some_text_back (Some s) = refl

pub some_number_back : (o : Option ℕ) → some_number_from (option_map number_data o) ≡ Some o
some_number_back None = refl
some_number_back (Some n) = refl

-- ---- ids and amounts

pub uid_back : (u : Uid) → IsUid u → uid_in (uid_data u) ≡ Some u
uid_back u is = reads_back u is

pub some_uid_back : (o : Option Uid) → IfSome o IsUid → some_uid_from (option_map uid_data o) ≡ Some o
some_uid_back None is = refl
some_uid_back (Some u) is = next (λ v. Some (Some v)) (uid_back u is)

quantity_back : (a : Amount) → IsAmount a → quantity_in (amount_text a) ≡ Some a
quantity_back a is = ap (λ r. taken (amount_from members.Storage a.text r)) is

pub some_amount_back : (o : Option Amount) → IfSome o IsAmount → some_amount_from (option_map amount_text o) ≡ Some o
some_amount_back None is = refl
some_amount_back (Some a) is = next (λ v. Some (Some v)) (quantity_back a is)

-- ---- objects, lists and maps

pub object_again : (o : Object) → IsGivenObject o → object_in (object_data o) ≡ Some o
object_again o is = ap taken (object_back o is)

items_back : {X : Type 0} (read : Data → Option X) (data_of : X → Data) (P : X → Type 0) → ((x : X) → P x → read (data_of x) ≡ Some x)
    → (xs found : List X) → All P xs → items_from read (items_data data_of xs) found ≡ Some (found ++ xs)
items_back read data_of P back [] found is = ap Some (sym (append-nil found))
items_back read data_of P back (x ∷ xs) found is =
    next (λ y. items_from read (items_data data_of xs) (found ++ y ∷ [])) (back x (All-head P x xs is))
    ∙ items_back read data_of P back xs (found ++ x ∷ []) (All-tail P x xs is)
    ∙ ap Some (append_assoc found (x ∷ []) xs)

pub list_back : {X : Type 0} (read : Data → Option X) (data_of : X → Data) (P : X → Type 0) → ((x : X) → P x → read (data_of x) ≡ Some x)
    → (xs : List X) → All P xs → items_from read (items_data data_of xs) [] ≡ Some xs
list_back read data_of P back xs is = items_back read data_of P back xs [] is

pub modes_again : (m : Modes) (k : List ℕ) (look : Look) → look k ≡ Some (modes_data m) → modes_at k look ≡ Some m
unfolding modes_data
modes_again m k look h = rw h (ap taken (modes_items m))

labels_back : (ps : List Pair) → ArePairs ps → taken (pairs_in members.Labels (pairs_data ps)) ≡ Some ps
labels_back [] is = refl
labels_back (p ∷ ps) is =
    let place : MemberList = (codes "labels", Some (pairs_data (p ∷ ps))) ∷ [] in
    let stands = get-put_all (codes "labels") place no_members in
    ap taken (sym (ap (pairs_or_none members.Labels) stands) ∙ pairs_back members.Labels (Some (object_of place)) (p ∷ ps) is stands)

pub some_labels_back : (o : Option (List Pair)) → IfSome o ArePairs → some_labels_from (option_map pairs_data o) ≡ Some o
some_labels_back None is = refl
some_labels_back (Some ps) is = next (λ v. Some (Some v)) (labels_back ps is)

-- ---- keys

pub key_back : (look : Look) (k : Key) → look (codes "kind") ≡ text (kind_word k.kind) → look (codes "name") ≡ text k.name → look (codes "namespace") ≡ filled k.namespace → key_at look ≡ Some k
key_back look k kind name namespace = rw (kind, kinds_inverse.back k.kind, namespace, filled_back k.namespace, name) refl
