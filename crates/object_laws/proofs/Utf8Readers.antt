-- The texts that the readers of metadata and of the parts of a spec take from a value are UTF-8 where those of the value are.
use Rattle.std.proofs.Common.{
  ℕ,
  List,
  [],
  ◌∷◌,
  ◌++◌,
  length,
  ◌==◌,
  Bool,
  true,
  false,
  if◌then◌else◌,
  Option,
  Some,
  None,
  IfSome,
  Result,
  Ok,
  Err,
  IfOk,
  codes,
  unwrap_or,
  IsUtf8,
  Ordering,
  Less,
  Equal,
  Greater,
  nat_cmp,
  refl,
}
use Rattle.std.specs.Ordering.{match_ordering}
use Rattle.std.specs.Cmp.Lexicographic.{slice_cmp}
use Rattle.std.proofs.lemmas.Str.{IsUtf8-nil}
use Rattle.json.proofs.Printed.Utf8.{IsUtf8-are_ascii}
use Rattle.serde_json.specs.Data.{Num, unsigned, negative, float, Data, null, boolean, number, string, array, object, Items, no_items, item, Members, no_members, member, put}
use Rattle.serde_json.specs.Written.{number_text}
use Rattle.serde_json.specs.Find.{get, get_member}
use Rattle.json_text.specs.Look.{unless_null}
use Rattle.json_text.specs.Trees.{others, others_from}
use Rattle.plain_data.specs.Pairs.{Pair, text_cmp, put_pair}
use Rattle.quantity_text.specs.declared.errors.AmountError.{AmountError}
use Rattle.quantity_text.specs.Quantity.{amount_of}
use Rattle.kube_parts.specs.declared.parts.SourceKind.{SourceKind}
use Rattle.kube_parts.specs.declared.parts.SourceKind.TheVariants.{Csi, Nfs, Local, HostPath}
use Rattle.kube_objects.specs.declared.objects.Expr.{Expr}
use Rattle.object_text.specs.declared.errors.Member.{Member}
use Rattle.object_text.specs.declared.errors.Member.TheVariants as members
use Rattle.object_text.specs.declared.errors.ObjectError.TheVariants.{WrongType}
use Rattle.object_text.specs.declared.extra.Listed.{Listed}
use Rattle.object_text.specs.declared.meta_readers.Identity.{Identity}
use Rattle.object_text.specs.declared.meta_readers.Marks.{Marks}
use Rattle.object_text.specs.MemberWords.{member_word}
use Rattle.object_text.specs.MemberReaders.{
  at,
  as_text,
  as_items,
  as_object,
  needed_from,
  needed,
  needed_text,
  needed_items,
  needed_object,
  way_from,
  needed_way,
  some_object_at,
  text_from,
  text_or,
  optional_from,
  optional_text,
  optional_items_from,
  optional_items,
  texts_from,
  texts_or_none,
  texts_at,
  pairs_from,
  pairs_in,
  pairs_or_none,
  pairs_at,
  uid_at,
  stamp_named,
  stamp_from,
  stamp_at,
  stamp_or_empty,
  version_at,
}
use Rattle.object_text.specs.MetaReaders.{kept_namespace, namespace_at, identity_at, marks_at, meta_of}
use Rattle.object_text.specs.PartReaders.{
  number_digits,
  quantity_text,
  amount_from,
  amount_in,
  quantity_at,
  amount_or_none,
  optional_quantity,
  ref_at,
  ref_or_none,
  claim_ref_at,
  two_texts,
  one_text,
  source_from,
  there,
  source_at,
  op_at,
  expr_of,
  exprs_from,
  exprs_or_none,
  exprs_at,
  term_of,
  terms_from,
  terms_or_none,
  terms_at,
  selector_of,
  selector_or_none,
  selector_at,
}
use Rattle.object_text.specs.ExtraMembers.{is_listed_member, extra_text, place_members, extra_at}
use Rattle.object_laws.proofs.GivesParts.{step, past, if_ok}
use Rattle.object_laws.proofs.Utf8Texts.{HasUtf8, ItemsUtf8, MembersUtf8, put_utf8, text_utf8}
use Rattle.object_laws.proofs.Utf8Objects.{Each, each_append, members_in_utf8, PairUtf8, MetaUtf8, AmountUtf8, RefUtf8, SourceUtf8, ExprUtf8, TermUtf8, TermsUtf8, SelectorUtf8}

-- ---- places

abbrev pub PlaceUtf8 : Option Data → Type 0
PlaceUtf8 place = IfSome place HasUtf8

abbrev pub TextIf : Option (List ℕ) → Type 0
TextIf o = IfSome o IsUtf8

-- ---- members

pub member_utf8 : (k : List ℕ) (ms : Members) → MembersUtf8 ms → PlaceUtf8 (get_member k ms)
member_utf8 k no_members h = tt
member_utf8 k (member l d ms) h = placed (slice_cmp nat_cmp k l) (member_utf8 k ms h.2)
  where
    placed : (o : Ordering) → PlaceUtf8 (get_member k ms) → PlaceUtf8 (match_ordering o (get_member k ms) (Some d) (get_member k ms))
    placed Less rest = rest
    placed Equal rest = h.1
    placed Greater rest = rest

get_utf8 : (k : List ℕ) (d : Data) → HasUtf8 d → PlaceUtf8 (get k d)
get_utf8 k null h = tt
get_utf8 k (boolean b) h = tt
get_utf8 k (number n) h = tt
get_utf8 k (string s) h = tt
get_utf8 k (array ds) h = tt
get_utf8 k (object ms) h = member_utf8 k ms h

pub at_utf8 : (m : Member) (place : Option Data) → PlaceUtf8 place → PlaceUtf8 (at m place)
at_utf8 m None h = tt
at_utf8 m (Some d) h = get_utf8 (member_word m) d h

pub unless_utf8 : (o : Option Data) → PlaceUtf8 o → PlaceUtf8 (unless_null o)
unless_utf8 None h = tt
unless_utf8 (Some null) h = tt
unless_utf8 (Some (boolean b)) h = h
unless_utf8 (Some (number n)) h = h
unless_utf8 (Some (string s)) h = h
unless_utf8 (Some (array ds)) h = h
unless_utf8 (Some (object ms)) h = h

text_read_utf8 : (m : Member) (d : Data) → HasUtf8 d → IfOk (as_text m d) IsUtf8
text_read_utf8 m null h = tt
text_read_utf8 m (boolean b) h = tt
text_read_utf8 m (number n) h = tt
text_read_utf8 m (string s) h = h
text_read_utf8 m (array ds) h = tt
text_read_utf8 m (object ms) h = tt

items_read_utf8 : (m : Member) (d : Data) → HasUtf8 d → IfOk (as_items m d) ItemsUtf8
items_read_utf8 m null h = tt
items_read_utf8 m (boolean b) h = tt
items_read_utf8 m (number n) h = tt
items_read_utf8 m (string s) h = tt
items_read_utf8 m (array ds) h = h
items_read_utf8 m (object ms) h = tt

object_read_utf8 : (m : Member) (d : Data) → HasUtf8 d → IfOk (as_object m d) HasUtf8
object_read_utf8 m null h = tt
object_read_utf8 m (boolean b) h = tt
object_read_utf8 m (number n) h = tt
object_read_utf8 m (string s) h = tt
object_read_utf8 m (array ds) h = tt
object_read_utf8 m (object ms) h = h

needed_read_utf8 : (m : Member) (place : Option Data) → PlaceUtf8 place → IfOk (needed m place) HasUtf8
needed_read_utf8 m place h = by (unless_null (at m place)) (unless_utf8 (at m place) (at_utf8 m place h))
  where
    by : (o : Option Data) → PlaceUtf8 o → IfOk (needed_from m o) HasUtf8
    by None k = tt
    by (Some d) k = k

pub needed_text_read_utf8 : (m : Member) (place : Option Data) → PlaceUtf8 place → IfOk (needed_text m place) IsUtf8
needed_text_read_utf8 m place h = step HasUtf8 IsUtf8 (needed m place) _ (needed_read_utf8 m place h) (λ d k. text_read_utf8 m d k)

pub needed_items_read_utf8 : (m : Member) (place : Option Data) → PlaceUtf8 place → IfOk (needed_items m place) ItemsUtf8
needed_items_read_utf8 m place h = step HasUtf8 ItemsUtf8 (needed m place) _ (needed_read_utf8 m place h) (λ d k. items_read_utf8 m d k)

needed_object_read_utf8 : (m : Member) (place : Option Data) → PlaceUtf8 place → IfOk (needed_object m place) HasUtf8
needed_object_read_utf8 m place h = step HasUtf8 HasUtf8 (needed m place) _ (needed_read_utf8 m place h) (λ d k. object_read_utf8 m d k)

way_read_utf8 : (m : Member) (o : Option Data) → PlaceUtf8 o → IfOk (way_from m o) PlaceUtf8
way_read_utf8 m None h = tt
way_read_utf8 m (Some d) h = step HasUtf8 PlaceUtf8 (as_object m d) _ (object_read_utf8 m d h) (λ e k. k)

pub needed_way_read_utf8 : (m : Member) (place : Option Data) → PlaceUtf8 place → IfOk (needed_way m place) PlaceUtf8
needed_way_read_utf8 m place h = way_read_utf8 m (unless_null (at m place)) (unless_utf8 (at m place) (at_utf8 m place h))

pub object_at_read_utf8 : (m : Member) (place : Option Data) → PlaceUtf8 place → IfOk (some_object_at m place) PlaceUtf8
object_at_read_utf8 m place h = way_read_utf8 m (at m place) (at_utf8 m place h)

pub text_or_read_utf8 : (m : Member) (other : List ℕ) (place : Option Data) → IsUtf8 other → PlaceUtf8 place → IfOk (text_or m other place) IsUtf8
text_or_read_utf8 m other place u h = by (at m place) (at_utf8 m place h)
  where
    by : (o : Option Data) → PlaceUtf8 o → IfOk (text_from m other o) IsUtf8
    by None k = u
    by (Some d) k = text_read_utf8 m d k

pub optional_text_read_utf8 : (m : Member) (place : Option Data) → PlaceUtf8 place → IfOk (optional_text m place) TextIf
optional_text_read_utf8 m place h = by (at m place) (at_utf8 m place h)
  where
    by : (o : Option Data) → PlaceUtf8 o → IfOk (optional_from m o) TextIf
    by None k = tt
    by (Some d) k = step IsUtf8 TextIf (as_text m d) _ (text_read_utf8 m d k) (λ s u. u)

optional_items_read_utf8 : (m : Member) (place : Option Data) → PlaceUtf8 place → IfOk (optional_items m place) (λ o. IfSome o ItemsUtf8)
optional_items_read_utf8 m place h = by (at m place) (at_utf8 m place h)
  where
    by : (o : Option Data) → PlaceUtf8 o → IfOk (optional_items_from m o) (λ o. IfSome o ItemsUtf8)
    by None k = tt
    by (Some d) k = step ItemsUtf8 (λ o. IfSome o ItemsUtf8) (as_items m d) _ (items_read_utf8 m d k) (λ ds u. u)

-- ---- lists and maps of texts

texts_read_utf8_from : (m : Member) (ds : Items) (found : List (List ℕ)) → ItemsUtf8 ds → Each IsUtf8 found → IfOk (texts_from m ds found) (Each IsUtf8)
texts_read_utf8_from m no_items found h k = k
texts_read_utf8_from m (item d ds) found h k =
    step IsUtf8 (Each IsUtf8) (as_text m d) _ (text_read_utf8 m d h.0) (λ s u. texts_read_utf8_from m ds (found ++ s ∷ []) h.1 (each_append IsUtf8 found (s ∷ []) k (u, tt)))

pub texts_read_utf8 : (m : Member) (place : Option Data) → PlaceUtf8 place → IfOk (texts_at m place) (Each IsUtf8)
texts_read_utf8 m place h = step (λ o. IfSome o ItemsUtf8) (Each IsUtf8) (optional_items m place) _ (optional_items_read_utf8 m place h) by
  where
    by : (o : Option Items) → IfSome o ItemsUtf8 → IfOk (texts_or_none m o) (Each IsUtf8)
    by None k = tt
    by (Some ds) k = texts_read_utf8_from m ds [] k tt

each_put : (k v : List ℕ) (ps : List Pair) → IsUtf8 k → IsUtf8 v → Each PairUtf8 ps → Each PairUtf8 (put_pair k v ps)
each_put k v [] hk hv h = ((hk, hv), tt)
each_put k v (p ∷ ps) hk hv h = placed (text_cmp p.0 k) (each_put k v ps hk hv h.1)
  where
    placed : (o : Ordering) → Each PairUtf8 (put_pair k v ps) → Each PairUtf8 (match_ordering o (p ∷ put_pair k v ps) ((k, v) ∷ ps) ((k, v) ∷ p ∷ ps))
    placed Less rest = (h.0, rest)
    placed Equal rest = ((hk, hv), h.1)
    placed Greater rest = ((hk, hv), h)

pairs_read_utf8_from : (m : Member) (ms : Members) (found : List Pair) → MembersUtf8 ms → Each PairUtf8 found → IfOk (pairs_from m ms found) (Each PairUtf8)
pairs_read_utf8_from m no_members found u k = k
pairs_read_utf8_from m (member l d ms) found u k =
    step IsUtf8 (Each PairUtf8) (as_text m d) _ (text_read_utf8 m d u.1) (λ s v. pairs_read_utf8_from m ms (put_pair l s found) u.2 (each_put l s found u.0 v k))

pairs_read_utf8_in : (m : Member) (d : Data) → HasUtf8 d → IfOk (pairs_in m d) (Each PairUtf8)
pairs_read_utf8_in m null h = tt
pairs_read_utf8_in m (boolean b) h = tt
pairs_read_utf8_in m (number n) h = tt
pairs_read_utf8_in m (string s) h = tt
pairs_read_utf8_in m (array ds) h = tt
pairs_read_utf8_in m (object ms) h = pairs_read_utf8_from m ms [] h tt

pub pairs_read_utf8 : (m : Member) (place : Option Data) → PlaceUtf8 place → IfOk (pairs_at m place) (Each PairUtf8)
pairs_read_utf8 m place h = by (at m place) (at_utf8 m place h)
  where
    by : (o : Option Data) → PlaceUtf8 o → IfOk (pairs_or_none m o) (Each PairUtf8)
    by None k = tt
    by (Some d) k = pairs_read_utf8_in m d k

-- ---- metadata

stamp_read_utf8 : (m : Member) (place : Option Data) → PlaceUtf8 place → IfOk (stamp_at m place) TextIf
stamp_read_utf8 m place h = by (unless_null (at m place)) (unless_utf8 (at m place) (at_utf8 m place h))
  where
    named : (s : List ℕ) → IsUtf8 s → IfOk (stamp_named m s) IsUtf8
    named s u = if_ok IsUtf8 (length s == 20) (Ok s) (Err (WrongType m)) (λ e. u) (λ e. tt)

    by : (o : Option Data) → PlaceUtf8 o → IfOk (stamp_from m o) TextIf
    by None k = tt
    by (Some d) k = step IsUtf8 TextIf (as_text m d) _ (text_read_utf8 m d k) (λ s u. step IsUtf8 TextIf (stamp_named m s) _ (named s u) (λ t v. v))

created_read_utf8 : (m : Member) (place : Option Data) → PlaceUtf8 place → IfOk (stamp_or_empty m place) IsUtf8
created_read_utf8 m place h = step TextIf IsUtf8 (stamp_at m place) _ (stamp_read_utf8 m place h) by
  where
    by : (o : Option (List ℕ)) → TextIf o → IsUtf8 (unwrap_or o [])
    by None k = IsUtf8-nil
    by (Some s) k = k

kept_namespace_read_utf8 : (namespaced : Bool) (s : List ℕ) → IsUtf8 s → IsUtf8 (kept_namespace namespaced s)
kept_namespace_read_utf8 true s u = u
kept_namespace_read_utf8 false s u = IsUtf8-nil

namespace_read_utf8 : (namespaced : Bool) (place : Option Data) → PlaceUtf8 place → IfOk (namespace_at namespaced place) IsUtf8
namespace_read_utf8 namespaced place h =
    step IsUtf8 IsUtf8 (text_or members.Namespace (codes "default") place) _
    (text_or_read_utf8 members.Namespace (codes "default") place (IsUtf8-are_ascii _ refl) h) (λ s u. kept_namespace_read_utf8 namespaced s u)

abbrev IdentityUtf8 : Identity → Type 0
IdentityUtf8 i = IsUtf8 i.name × IsUtf8 i.namespace

identity_read_utf8 : (namespaced : Bool) (place : Option Data) → PlaceUtf8 place → IfOk (identity_at namespaced place) IdentityUtf8
unfolding identity_at
identity_read_utf8 namespaced place h =
    step IsUtf8 IdentityUtf8 (needed_text members.Name place) _ (needed_text_read_utf8 members.Name place h) (λ name name_utf8.
    step IsUtf8 IdentityUtf8 (namespace_at namespaced place) _ (namespace_read_utf8 namespaced place h) (λ namespace namespace_utf8.
    past IdentityUtf8 (uid_at members.Uid place) _ (λ uid.
    past IdentityUtf8 (version_at members.ResourceVersion place) _ (λ version. (name_utf8, namespace_utf8)))))

record MarksUtf8 (m : Marks) : Type 0 where
  created : IsUtf8 m.created
  deleted : TextIf m.deleted
  labels : Each PairUtf8 m.labels
  annotations : Each PairUtf8 m.annotations
  finalizers : Each IsUtf8 m.finalizers

marks_read_utf8 : (place : Option Data) → PlaceUtf8 place → IfOk (marks_at place) MarksUtf8
unfolding marks_at
marks_read_utf8 place h =
    step IsUtf8 MarksUtf8 (stamp_or_empty members.CreationTimestamp place) _ (created_read_utf8 members.CreationTimestamp place h) (λ created created_utf8.
    step TextIf MarksUtf8 (stamp_at members.DeletionTimestamp place) _ (stamp_read_utf8 members.DeletionTimestamp place h) (λ deleted deleted_utf8.
    step (Each PairUtf8) MarksUtf8 (pairs_at members.Labels place) _ (pairs_read_utf8 members.Labels place h) (λ labels labels_utf8.
    step (Each PairUtf8) MarksUtf8 (pairs_at members.Annotations place) _ (pairs_read_utf8 members.Annotations place h) (λ annotations annotations_utf8.
    step (Each IsUtf8) MarksUtf8 (texts_at members.Finalizers place) _ (texts_read_utf8 members.Finalizers place h) (λ finalizers finalizers_utf8.
    record { created = created_utf8; deleted = deleted_utf8; labels = labels_utf8; annotations = annotations_utf8; finalizers = finalizers_utf8 })))))

pub meta_read_utf8 : (namespaced : Bool) (d : Data) → HasUtf8 d → IfOk (meta_of namespaced d) MetaUtf8
unfolding meta_of
meta_read_utf8 namespaced d h =
    step HasUtf8 MetaUtf8 (needed_object members.Metadata (Some d)) _ (needed_object_read_utf8 members.Metadata (Some d) h) (λ metadata utf8.
    step IdentityUtf8 MetaUtf8 (identity_at namespaced (Some metadata)) _ (identity_read_utf8 namespaced (Some metadata) utf8) (λ i is.
    step MarksUtf8 MetaUtf8 (marks_at (Some metadata)) _ (marks_read_utf8 (Some metadata) utf8) (λ m are.
    record { namespace = is.1; name = is.0; created = are.created; deleted = are.deleted; labels = are.labels; annotations = are.annotations; finalizers = are.finalizers })))

-- ---- amounts

digits_read_utf8 : (m : Member) (n : Num) → IsUtf8 (number_text n) → IfOk (number_digits m n) IsUtf8
digits_read_utf8 m (unsigned n) h = h
digits_read_utf8 m (negative z) h = tt
digits_read_utf8 m (float x) h = tt

quantity_text_read_utf8 : (m : Member) (d : Data) → HasUtf8 d → IfOk (quantity_text m d) IsUtf8
quantity_text_read_utf8 m null h = tt
quantity_text_read_utf8 m (boolean b) h = tt
quantity_text_read_utf8 m (number n) h = digits_read_utf8 m n h
quantity_text_read_utf8 m (string s) h = h
quantity_text_read_utf8 m (array ds) h = tt
quantity_text_read_utf8 m (object ms) h = tt

amount_read_utf8 : (m : Member) (d : Data) → HasUtf8 d → IfOk (amount_in m d) AmountUtf8
amount_read_utf8 m d h = step IsUtf8 AmountUtf8 (quantity_text m d) _ (quantity_text_read_utf8 m d h) (λ s u. from s (amount_of s) u)
  where
    from : (s : List ℕ) (r : Result ℕ AmountError) → IsUtf8 s → IfOk (amount_from m s r) AmountUtf8
    from s (Ok n) u = u
    from s (Err e) u = tt

pub quantity_read_utf8 : (m : Member) (place : Option Data) → PlaceUtf8 place → IfOk (quantity_at m place) AmountUtf8
unfolding quantity_at
quantity_read_utf8 m place h = step HasUtf8 AmountUtf8 (needed m place) _ (needed_read_utf8 m place h) (λ d k. amount_read_utf8 m d k)

pub optional_quantity_read_utf8 : (m : Member) (place : Option Data) → PlaceUtf8 place → IfOk (optional_quantity m place) (λ a. IfSome a AmountUtf8)
unfolding optional_quantity
optional_quantity_read_utf8 m place h = by (at m place) (at_utf8 m place h)
  where
    by : (o : Option Data) → PlaceUtf8 o → IfOk (amount_or_none m o) (λ a. IfSome a AmountUtf8)
    by None k = tt
    by (Some d) k = step AmountUtf8 (λ a. IfSome a AmountUtf8) (amount_in m d) _ (amount_read_utf8 m d k) (λ a u. u)

-- ---- the claim and the source of a volume

ref_read_utf8 : (place : Option Data) → PlaceUtf8 place → IfOk (ref_at place) RefUtf8
unfolding ref_at
ref_read_utf8 place h =
    step IsUtf8 RefUtf8 (needed_text members.Namespace place) _ (needed_text_read_utf8 members.Namespace place h) (λ namespace namespace_utf8.
    step IsUtf8 RefUtf8 (needed_text members.Name place) _ (needed_text_read_utf8 members.Name place h) (λ name name_utf8.
    past RefUtf8 (uid_at members.Uid place) _ (λ uid. (namespace_utf8, name_utf8))))

pub claim_ref_read_utf8 : (place : Option Data) → PlaceUtf8 place → IfOk (claim_ref_at place) (λ r. IfSome r RefUtf8)
unfolding claim_ref_at
claim_ref_read_utf8 place h = step PlaceUtf8 (λ r. IfSome r RefUtf8) (some_object_at members.ClaimRef place) _ (object_at_read_utf8 members.ClaimRef place h) by
  where
    by : (o : Option Data) → PlaceUtf8 o → IfOk (ref_or_none o) (λ r. IfSome r RefUtf8)
    by None k = tt
    by (Some d) k = step RefUtf8 (λ r. IfSome r RefUtf8) (ref_at (Some d)) _ (ref_read_utf8 (Some d) k) (λ r u. u)

two_read_utf8 : (kind : SourceKind) (m one two : Member) (d : Data) → HasUtf8 d → IfOk (two_texts kind m one two d) SourceUtf8
two_read_utf8 kind m one two d h =
    step HasUtf8 SourceUtf8 (as_object m d) _ (object_read_utf8 m d h) (λ source utf8.
    step IsUtf8 SourceUtf8 (needed_text one (Some source)) _ (needed_text_read_utf8 one (Some source) utf8) (λ first first_utf8.
    step IsUtf8 SourceUtf8 (needed_text two (Some source)) _ (needed_text_read_utf8 two (Some source) utf8) (λ second second_utf8. (first_utf8, second_utf8))))

one_read_utf8 : (kind : SourceKind) (m : Member) (d : Data) → HasUtf8 d → IfOk (one_text kind m d) SourceUtf8
one_read_utf8 kind m d h =
    step HasUtf8 SourceUtf8 (as_object m d) _ (object_read_utf8 m d h) (λ source utf8.
    step IsUtf8 SourceUtf8 (needed_text members.Path (Some source)) _ (needed_text_read_utf8 members.Path (Some source) utf8) (λ first first_utf8. (first_utf8, IsUtf8-nil)))

source_read_utf8_from : (csi nfs local host : Option Data) → PlaceUtf8 csi → PlaceUtf8 nfs → PlaceUtf8 local → PlaceUtf8 host → IfOk (source_from csi nfs local host) SourceUtf8
source_read_utf8_from (Some d) nfs local host a b c e = two_read_utf8 Csi members.Csi members.Driver members.VolumeHandle d a
source_read_utf8_from None (Some d) local host a b c e = two_read_utf8 Nfs members.Nfs members.Server members.Path d b
source_read_utf8_from None None (Some d) host a b c e = one_read_utf8 Local members.Local d c
source_read_utf8_from None None None (Some d) a b c e = one_read_utf8 HostPath members.HostPath d e
source_read_utf8_from None None None None a b c e = tt

there_read_utf8 : (m : Member) (place : Option Data) → PlaceUtf8 place → PlaceUtf8 (there m place)
there_read_utf8 m place h = unless_utf8 (at m place) (at_utf8 m place h)

pub source_read_utf8 : (place : Option Data) → PlaceUtf8 place → IfOk (source_at place) SourceUtf8
unfolding source_at
source_read_utf8 place h =
    source_read_utf8_from (there members.Csi place) (there members.Nfs place) (there members.Local place) (there members.HostPath place)
    (there_read_utf8 members.Csi place h) (there_read_utf8 members.Nfs place h) (there_read_utf8 members.Local place h) (there_read_utf8 members.HostPath place h)

-- ---- expressions

expr_read_utf8 : (d : Data) → HasUtf8 d → IfOk (expr_of d) ExprUtf8
unfolding expr_of
expr_read_utf8 d h =
    step HasUtf8 ExprUtf8 (as_object members.MatchExpressions d) _ (object_read_utf8 members.MatchExpressions d h) (λ expr utf8.
    step IsUtf8 ExprUtf8 (needed_text members.Key (Some expr)) _ (needed_text_read_utf8 members.Key (Some expr) utf8) (λ key key_utf8.
    past ExprUtf8 (op_at (Some expr)) _ (λ op.
    step (Each IsUtf8) ExprUtf8 (texts_at members.Values (Some expr)) _ (texts_read_utf8 members.Values (Some expr) utf8) (λ values values_utf8. (key_utf8, values_utf8)))))

exprs_read_utf8_from : (ds : Items) (found : List Expr) → ItemsUtf8 ds → TermUtf8 found → IfOk (exprs_from ds found) TermUtf8
exprs_read_utf8_from no_items found h k = k
exprs_read_utf8_from (item d ds) found h k =
    step ExprUtf8 TermUtf8 (expr_of d) _ (expr_read_utf8 d h.0) (λ e u. exprs_read_utf8_from ds (found ++ e ∷ []) h.1 (each_append ExprUtf8 found (e ∷ []) k (u, tt)))

exprs_read_utf8 : (place : Option Data) → PlaceUtf8 place → IfOk (exprs_at place) TermUtf8
unfolding exprs_at
exprs_read_utf8 place h = step (λ o. IfSome o ItemsUtf8) TermUtf8 (optional_items members.MatchExpressions place) _ (optional_items_read_utf8 members.MatchExpressions place h) by
  where
    by : (o : Option Items) → IfSome o ItemsUtf8 → IfOk (exprs_or_none o) TermUtf8
    by None k = tt
    by (Some ds) k = exprs_read_utf8_from ds [] k tt

term_read_utf8 : (d : Data) → HasUtf8 d → IfOk (term_of d) TermUtf8
unfolding term_of
term_read_utf8 d h = step HasUtf8 TermUtf8 (as_object members.NodeSelectorTerms d) _ (object_read_utf8 members.NodeSelectorTerms d h) (λ t k. exprs_read_utf8 (Some t) k)

terms_read_utf8_from : (ds : Items) (found : List (List Expr)) → ItemsUtf8 ds → Each TermUtf8 found → IfOk (terms_from ds found) (Each TermUtf8)
terms_read_utf8_from no_items found h k = k
terms_read_utf8_from (item d ds) found h k =
    step TermUtf8 (Each TermUtf8) (term_of d) _ (term_read_utf8 d h.0) (λ t u. terms_read_utf8_from ds (found ++ t ∷ []) h.1 (each_append TermUtf8 found (t ∷ []) k (u, tt)))

pub terms_read_utf8 : (place : Option Data) → PlaceUtf8 place → IfOk (terms_at place) (λ t. IfSome t TermsUtf8)
unfolding terms_at
terms_read_utf8 place h =
    step PlaceUtf8 (λ t. IfSome t TermsUtf8) (some_object_at members.NodeAffinity place) _ (object_at_read_utf8 members.NodeAffinity place h) (λ affinity affinity_utf8.
    step PlaceUtf8 (λ t. IfSome t TermsUtf8) (some_object_at members.Required affinity) _ (object_at_read_utf8 members.Required affinity affinity_utf8) (λ required required_utf8.
    step (λ o. IfSome o ItemsUtf8) (λ t. IfSome t TermsUtf8) (optional_items members.NodeSelectorTerms required) _ (optional_items_read_utf8 members.NodeSelectorTerms required required_utf8) by))
  where
    by : (o : Option Items) → IfSome o ItemsUtf8 → IfOk (terms_or_none o) (λ t. IfSome t TermsUtf8)
    by None k = tt
    by (Some ds) k = step (Each TermUtf8) (λ t. IfSome t TermsUtf8) (terms_from ds []) _ (terms_read_utf8_from ds [] k tt) (λ ts u. u)

selector_read_utf8_of : (place : Option Data) → PlaceUtf8 place → IfOk (selector_of place) SelectorUtf8
unfolding selector_of
selector_read_utf8_of place h =
    step (Each PairUtf8) SelectorUtf8 (pairs_at members.MatchLabels place) _ (pairs_read_utf8 members.MatchLabels place h) (λ labels labels_utf8.
    step TermUtf8 SelectorUtf8 (exprs_at place) _ (exprs_read_utf8 place h) (λ exprs exprs_utf8. (labels_utf8, exprs_utf8)))

pub selector_read_utf8 : (place : Option Data) → PlaceUtf8 place → IfOk (selector_at place) (λ s. IfSome s SelectorUtf8)
unfolding selector_at
selector_read_utf8 place h = step PlaceUtf8 (λ s. IfSome s SelectorUtf8) (some_object_at members.Selector place) _ (object_at_read_utf8 members.Selector place h) by
  where
    by : (o : Option Data) → PlaceUtf8 o → IfOk (selector_or_none o) (λ s. IfSome s SelectorUtf8)
    by None k = tt
    by (Some d) k = step SelectorUtf8 (λ s. IfSome s SelectorUtf8) (selector_of (Some d)) _ (selector_read_utf8_of (Some d) k) (λ s u. u)

-- ---- the members that are kept

kept_utf8 : (place : Option Data) → PlaceUtf8 place → MembersUtf8 (place_members place)
kept_utf8 None h = tt
kept_utf8 (Some d) h = members_in_utf8 d h

others_read_utf8_from : (known : List ℕ → Bool) (ms acc : Members) → MembersUtf8 ms → MembersUtf8 acc → MembersUtf8 (others_from known ms acc)
others_read_utf8_from known no_members acc h k = k
others_read_utf8_from known (member l d ms) acc h k = by (known l) (others_read_utf8_from known ms acc h.2 k) (others_read_utf8_from known ms (put l d acc) h.2 (put_utf8 l d acc h.0 h.1 k))
  where
    by : (b : Bool) → MembersUtf8 (others_from known ms acc) → MembersUtf8 (others_from known ms (put l d acc))
        → MembersUtf8 (if b then others_from known ms acc else others_from known ms (put l d acc))
    by true skipped kept = skipped
    by false skipped kept = kept

extra_text_utf8 : (ms : Members) → MembersUtf8 ms → IsUtf8 (extra_text ms)
extra_text_utf8 no_members h = IsUtf8-nil
extra_text_utf8 (member k d ms) h = text_utf8 (object (member k d ms)) h

pub extra_read_utf8 : (known : Listed) (place : Option Data) → PlaceUtf8 place → IsUtf8 (extra_at known place)
unfolding extra_at
extra_read_utf8 known place h = extra_text_utf8 (others (is_listed_member known) (place_members place)) (others_read_utf8_from
    (is_listed_member known) (place_members place) no_members (kept_utf8 place h) tt)
