-- What is printed of the members of lines is read again.
use Rattle.std.proofs.Common.{◌≡◌, ℕ, ◌==◌, ◌≤◌, List, length, Bool, true, false, if◌then◌else◌, Option, Some, None, Ok, codes, option_map, refl, sym, ap, ◌∙◌}
use Rattle.std.specs.Prelude.{IfSome}
use Rattle.std.proofs.lemmas.Bool.{eqb-true, le-ltb}
use Rattle.serde_json.specs.Data.{Data, null, boolean, number, string, array, object, no_members}
use Rattle.serde_json.specs.Find.{get}
use Rattle.serde_json.specs.Written.{compact_text}
use Rattle.json_text.specs.Look.{unless_null}
use Rattle.json_text.specs.Build.{pick}
use Rattle.json_text.specs.Members.{MemberList, text, whole, object_of}
use Rattle.json_text.proofs.Good.{no_float_good}
use Rattle.json_text.proofs.PutAll.{get-put_all}
use Rattle.plain_data.specs.Pairs.{Pair}
use Rattle.quantity_text.specs.Quantity.{amount_of}
use Rattle.kube_parts.specs.Words.{kind_word}
use Rattle.kube_parts.specs.Named.{kind_named}
use Rattle.kube_parts.proofs.NamedWords.{kinds_inverse}
use Rattle.kube_objects.specs.declared.key.Key.{Key}
use Rattle.kube_parts.specs.declared.uid.Uid.{Uid}
use Rattle.kube_parts.specs.declared.parts.Kind.{Kind}
use Rattle.kube_objects.specs.declared.objects.Object.{Object}
use Rattle.object_print.specs.Metadata.{uid_data}
use Rattle.object_print.specs.Objects.{object_data, object_line}
use Rattle.object_text.specs.declared.errors.Member.TheVariants as manifests
use Rattle.object_text.specs.MemberReaders.{text_from}
use Rattle.object_text.specs.MetaReaders.{kept_namespace}
use Rattle.object_text.specs.PartReaders.{amount_in, amount_from}
use Rattle.object_text.specs.Reading.{is_object, most_bytes}
use Rattle.object_text.specs.Listing.{item_of}
use Rattle.json_text.proofs.WholeSizes.{least_whole}
use Rattle.object_laws.specs.Given.{IsGivenObject, IsNamespace, IsUid}
use Rattle.object_laws.proofs.PartsBack.{uid_back}
use Rattle.object_laws.proofs.Canonical.{object_good}
use Rattle.object_laws.proofs.Back.{object_tells, object_back}
use Rattle.script_lines.specs.declared.actors.Actor.{Actor}
use Rattle.script_lines.specs.declared.line_member.LineMember.{LineMember}
use Rattle.script_lines.specs.declared.line_member.LineMember.TheVariants as members
use Rattle.script_lines.specs.declared.errors.Reason.TheVariants.{BadValue}
use Rattle.script_lines.specs.Answers.{◌>>=◌, taken_in_line, unless}
use Rattle.script_lines.specs.Actors.{actor_word, actor_named}
use Rattle.script_lines.specs.Members.{
  at,
  needed_from,
  text_of,
  text_at,
  count_of,
  count_at,
  most_call,
  is_given,
  new_call_at,
  user_from,
  user_at,
  kind_from,
  kind_at,
  is_namespaced,
  namespace_at,
  condition_at,
  key_at,
  object_taken,
  object_at,
  actor_from,
  actor_at,
  when_named,
  when_at,
  size_taken,
  size_at,
}
use Rattle.script_print.specs.Printing.{when_word}
use Rattle.script_laws.specs.Read.Given.{IsCount, IsNewCall, IsLineKey, IsActor}

-- a member of an object that is printed from a list
pub has : (k : List ℕ) (ps : MemberList) → get k (object_of ps) ≡ pick k ps None
has k ps = get-put_all k ps no_members

-- ---- texts and numbers

pub text_back : (m : LineMember) (line : Data) (s : List ℕ) → at m line ≡ text s → text_at m line ≡ Ok s
text_back m line s e = ap (λ o. needed_from m (unless_null o) >>= λ d. text_of m d) e

pub count_back : (m : LineMember) (most : ℕ) (line : Data) (n : ℕ) → IsCount most n → at m line ≡ whole n → count_at m most line ≡ Ok n
count_back m most line n is e = ap (λ o. needed_from m (unless_null o) >>= λ d. count_of m most d) e ∙ rw is refl

pub new_call_back : (m : LineMember) (given : List ℕ) (line : Data) (n : ℕ) → IsNewCall given n → at m line ≡ whole n → new_call_at m given line ≡ Ok n
new_call_back m given line n is e = ap (λ r. r >>= λ k. unless (is_given k given) (BadValue m) k) (count_back m most_call line n is.counted e) ∙ rw is.fresh refl

pub user_back : (line : Data) (user : ℕ) → IsCount 4 user → at members.User line ≡ (if user == 1 then None else whole user) → user_at line ≡ Ok user
user_back line user is e = ap user_from e ∙ by (user == 1) refl
  where
    by : (b : Bool) → (user == 1) ≡ b → user_from (if b then None else whole user) ≡ Ok user
    by true same = ap Ok (sym (eqb-true user 1 same))
    by false same = rw is refl

-- ---- keys

kind_back : (line : Data) (kind : Kind) → at (members.Of manifests.Kind) line ≡ text (kind_word kind) → kind_at line ≡ Ok kind
kind_back line kind e = ap (λ r. r >>= λ s. kind_from (kind_named s)) (text_back (members.Of manifests.Kind) line (kind_word kind) e) ∙ ap kind_from (kinds_inverse.back kind)

namespace_back : (namespaced : Bool) (line : Data) (s : List ℕ) → IsNamespace namespaced s
    → at (members.Of manifests.Namespace) line ≡ (if namespaced then text s else None) → namespace_at namespaced line ≡ Ok s
namespace_back true line s is e = ap (λ o. taken_in_line (text_from manifests.Namespace (codes "default") o) >>= λ t. Ok (kept_namespace true t)) e
namespace_back false line s is e = ap (λ o. taken_in_line (text_from manifests.Namespace (codes "default") o) >>= λ t. Ok (kept_namespace false t)) e ∙ ap Ok (sym is)

pub key_back : (line : Data) (k : Key) → IsLineKey k → at (members.Of manifests.Kind) line ≡ text (kind_word k.kind) → at (members.Of manifests.Name) line ≡ text k.name
    → at (members.Of manifests.Namespace) line ≡ (if is_namespaced k.kind then text k.namespace else None) → key_at line ≡ Ok k
unfolding key_at
key_back line k is kind name namespace =
    rw (kind_back line k.kind kind, namespace_back (is_namespaced k.kind) line k.namespace is namespace, text_back (members.Of manifests.Name) line k.name name) refl

pub kind_alone_back : (line : Data) (kind : Kind) → at (members.Of manifests.Kind) line ≡ text (kind_word kind) → kind_at line ≡ Ok kind
kind_alone_back line kind e = kind_back line kind e

pub condition_back : (line : Data) (uid : Option Uid) → IfSome uid IsUid → at (members.Of manifests.Uid) line ≡ option_map uid_data uid → condition_at line ≡ Ok uid
condition_back line uid is e = ap taken_in_line (uid_back manifests.Uid (Some line) uid is e)

-- ---- objects

item_back : (o : Object) → IsGivenObject o → length (object_line o) ≤ most_bytes → item_of (object_data o) ≡ Ok o
unfolding item_of object_line
item_back o h short =
    let good = object_good o h in
    rw (least_whole (object_data o) (no_float_good good), le-ltb most_bytes (length (compact_text (object_data o))) short, object_back o h) refl

not_null : (d : Data) → is_object d ≡ true → unless_null (Some d) ≡ Some d
not_null null h = absurd (cc)
not_null (boolean b) h = refl
not_null (number n) h = refl
not_null (string s) h = refl
not_null (array ds) h = refl
not_null (object ms) h = refl

pub object_at_back : (line : Data) (o : Object) → IsGivenObject o → length (object_line o) ≤ most_bytes → at members.Object line ≡ Some (object_data o) → object_at line ≡ Ok o
object_at_back line o is short e =
    let tells = object_tells o is in
    ap (λ p. needed_from members.Object (unless_null p) >>= λ d. object_taken (item_of d)) e
    ∙ ap (λ p. needed_from members.Object p >>= λ d. object_taken (item_of d)) (not_null (object_data o) tells.members)
    ∙ ap object_taken (item_back o is short)

-- ---- actors

pub actor_back : (agents : List Pair) (line : Data) (actor : Actor) → IsActor agents actor → at members.Actor line ≡ text (actor_word actor) → actor_at agents line ≡ Ok actor
actor_back agents line actor is e = ap (λ r. r >>= λ s. actor_from (actor_named agents s)) (text_back members.Actor line (actor_word actor) e) ∙ ap actor_from is

pub when_back : (line : Data) (after : Bool) → at members.When line ≡ text (when_word after) → when_at line ≡ Ok after
when_back line after e = ap (λ r. r >>= λ s. when_named s) (text_back members.When line (when_word after) e) ∙ by after
  where
    by : (b : Bool) → when_named (when_word b) ≡ Ok b
    by false = refl
    by true = refl

-- ---- sizes

pub size_back : (line : Data) (size : List ℕ) (bytes : ℕ) → amount_of size ≡ Ok bytes → at members.Bytes line ≡ text size → size_at line ≡ Ok (record { text = size; bytes = bytes })
size_back line size bytes is e =
    ap (λ o. needed_from members.Bytes (unless_null o) >>= λ d. size_taken (amount_in manifests.Storage d)) e
    ∙ ap (λ r. size_taken (amount_from manifests.Storage size r)) is
