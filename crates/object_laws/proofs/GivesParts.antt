-- What the readers of metadata and of the parts of a spec give meets what is asked of parts that a manifest can give.
use Rattle.std.proofs.Common.{
  ◌≡◌,
  ℕ,
  ◌^◌,
  ◌≤◌,
  ◌==◌,
  List,
  [],
  ◌∷◌,
  length,
  codes,
  bytes_eq,
  Bool,
  true,
  false,
  if◌then◌else◌,
  Option,
  Some,
  None,
  IfSome,
  unwrap_or,
  Result,
  Ok,
  Err,
  IfOk,
  refl,
  subst,
}
use Rattle.std.specs.Str.Parse.{digits_value}
use Rattle.std.specs.Bool.{⊤}
use Rattle.std.proofs.lemmas.Bool.{and_parts, eqb-true, leb-true}
use Rattle.std.proofs.lemmas.Cmp.{nat_list_cmp_total}
use Rattle.serde_json.specs.Data.{Data, null, boolean, number, string, array, object, Members, no_members, member}
use Rattle.json_text.specs.Look.{unless_null}
use Rattle.plain_data.specs.Pairs.{Pair, ArePairs, put_pair, pair_key}
use Rattle.plain_data.proofs.RowFacts.{rising_put}
use Rattle.quantity_text.specs.declared.errors.AmountError.{AmountError}
use Rattle.quantity_text.specs.Quantity.{amount_of}
use Rattle.kube_parts.specs.Uids.{uid_of_text}
use Rattle.kube_parts.proofs.UidFits.{uid_fits}
use Rattle.kube_parts.specs.Words.{policy_word}
use Rattle.kube_parts.specs.declared.uid.Uid.{Uid}
use Rattle.kube_parts.specs.declared.parts.Policy.TheVariants.{Retain, Delete}
use Rattle.kube_parts.specs.declared.parts.SourceKind.{SourceKind}
use Rattle.kube_parts.specs.declared.parts.SourceKind.TheVariants.{Csi, Nfs, Local, HostPath}
use Rattle.kube_objects.specs.declared.objects.Source.{Source}
use Rattle.object_text.specs.declared.errors.Member.{Member}
use Rattle.object_text.specs.declared.errors.Member.TheVariants as members
use Rattle.object_text.specs.declared.errors.ObjectError.{ObjectError}
use Rattle.object_text.specs.declared.errors.ObjectError.TheVariants.{WrongType}
use Rattle.object_text.specs.declared.meta_readers.Identity.{Identity}
use Rattle.object_text.specs.declared.meta_readers.Marks.{Marks}
use Rattle.object_text.specs.Answers.{◌>>=◌}
use Rattle.object_text.specs.MemberReaders.{
  at,
  as_text,
  as_object,
  needed,
  needed_text,
  needed_object,
  some_object_at,
  text_or,
  optional_text,
  texts_at,
  pairs_from,
  pairs_in,
  pairs_or_none,
  pairs_at,
  uid_from,
  uid_named,
  uid_or_none,
  uid_at,
  stamp_named,
  stamp_from,
  stamp_at,
  stamp_or_empty,
  is_version,
  version_at,
}
use Rattle.object_text.specs.MetaReaders.{namespace_at, identity_at, marks_at, meta_of}
use Rattle.object_text.specs.PartReaders.{
  quantity_text,
  amount_from,
  amount_in,
  quantity_at,
  amount_or_none,
  optional_quantity,
  known,
  class_policy_at,
  ref_at,
  ref_or_none,
  claim_ref_at,
  two_texts,
  one_text,
  source_from,
  there,
  source_at,
  exprs_at,
  selector_of,
  selector_or_none,
  selector_at,
}
use Rattle.object_laws.specs.Given.{IsUid, IsStamp, IsStampOrEmpty, IsNamespace, IsMeta, IsAmount, IsRef, IsSource, IsSelector, IsClassPolicy}

-- ---- steps of a reader

-- the next step, after a value of which the fact holds
pub step : {A B : Type 0} (P : A → Type 0) (Q : B → Type 0) (r : Result A ObjectError) (f : A → Result B ObjectError) → IfOk r P → ((a : A) → P a → IfOk (f a) Q) → IfOk (r >>= f) Q
step P Q (Ok a) f h k = k a h
step P Q (Err e) f h k = tt

-- the next step, whatever the value
pub past : {A B : Type 0} (Q : B → Type 0) (r : Result A ObjectError) (f : A → Result B ObjectError) → ((a : A) → IfOk (f a) Q) → IfOk (r >>= f) Q
past Q (Ok a) f k = k a
past Q (Err e) f k = tt

pub if_ok : {A E : Type 0} (P : A → Type 0) (b : Bool) (x y : Result A E) → (b ≡ true → IfOk x P) → (b ≡ false → IfOk y P) → IfOk (if b then x else y) P
if_ok P true x y h k = h refl
if_ok P false x y h k = k refl

-- each value is the one that was given
pub itself : {A : Type 0} (r : Result A ObjectError) → IfOk r (λ a. r ≡ Ok a)
itself (Ok a) = refl
itself (Err e) = tt

pub of_ok : {A E : Type 0} (P : A → Type 0) (r : Result A E) (a : A) → IfOk r P → r ≡ Ok a → P a
of_ok {A} {E} P r a h e = subst (λ (x : Result A E). IfOk x P) e h

-- ---- pairs

pairs_given_from : (m : Member) (ms : Members) (found : List Pair) → ArePairs found → IfOk (pairs_from m ms found) ArePairs
pairs_given_from m no_members found h = h
pairs_given_from m (member k d ms) found h = past ArePairs (as_text m d) _ (λ s. pairs_given_from m ms (put_pair k s found) (rising_put nat_list_cmp_total pair_key (k, s) found h))

pairs_given_in : (m : Member) (d : Data) → IfOk (pairs_in m d) ArePairs
pairs_given_in m null = tt
pairs_given_in m (boolean b) = tt
pairs_given_in m (number n) = tt
pairs_given_in m (string s) = tt
pairs_given_in m (array ds) = tt
pairs_given_in m (object ms) = pairs_given_from m ms [] tt

pub pairs_given : (m : Member) (place : Option Data) → IfOk (pairs_at m place) ArePairs
pairs_given m place = by (at m place)
  where
    by : (o : Option Data) → IfOk (pairs_or_none m o) ArePairs
    by None = tt
    by (Some d) = pairs_given_in m d

-- ---- unique ids

uid_given : (m : Member) (place : Option Data) → IfOk (uid_at m place) (λ u. IfSome u IsUid)
uid_given m place = past (λ u. IfSome u IsUid) (optional_text m place) _ or_none
  where
    from : (o : Option Uid) → IfSome o IsUid → IfOk (uid_from m o) IsUid
    from None h = tt
    from (Some u) h = h

    or_none : (o : Option (List ℕ)) → IfOk (uid_or_none m o) (λ u. IfSome u IsUid)
    or_none None = tt
    or_none (Some s) = step IsUid (λ u. IfSome u IsUid) (uid_named m s) _ (from (uid_of_text s) (uid_fits s)) (λ u h. h)

-- ---- stamps and versions

stamp_given : (m : Member) (place : Option Data) → IfOk (stamp_at m place) (λ t. IfSome t IsStamp)
stamp_given m place = by (unless_null (at m place))
  where
    named : (s : List ℕ) → IfOk (stamp_named m s) IsStamp
    named s = if_ok IsStamp (length s == 20) (Ok s) (Err (WrongType m)) (λ e. eqb-true _ _ e) (λ e. tt)

    by : (o : Option Data) → IfOk (stamp_from m o) (λ t. IfSome t IsStamp)
    by None = tt
    by (Some d) = past (λ t. IfSome t IsStamp) (as_text m d) _ (λ s. step IsStamp (λ t. IfSome t IsStamp) (stamp_named m s) _ (named s) (λ t h. h))

stamp_or_empty_given : (m : Member) (place : Option Data) → IfOk (stamp_or_empty m place) IsStampOrEmpty
stamp_or_empty_given m place = step (λ t. IfSome t IsStamp) IsStampOrEmpty (stamp_at m place) _ (stamp_given m place) or_empty
  where
    or_empty : (o : Option (List ℕ)) → IfSome o IsStamp → IsStampOrEmpty (unwrap_or o [])
    or_empty None h = tt
    or_empty (Some []) h = tt
    or_empty (Some (x ∷ xs)) h = h

abbrev IsVersion : ℕ → Type 0
IsVersion n = n ≤ 2 ^ 62

version_given : (m : Member) (place : Option Data) → IfOk (version_at m place) IsVersion
version_given m place =
    past IsVersion (text_or m (codes "0") place) _ (λ s. if_ok IsVersion (is_version s) (Ok (digits_value 10 s)) (Err (WrongType m)) (λ e. leb-true _ _ (and_parts _ _ e).1) (λ e. tt))

-- ---- metadata

namespace_given : (namespaced : Bool) (place : Option Data) → IfOk (namespace_at namespaced place) (IsNamespace namespaced)
namespace_given true place = past (IsNamespace true) (text_or members.Namespace (codes "default") place) _ (λ s. tt)
namespace_given false place = past (IsNamespace false) (text_or members.Namespace (codes "default") place) _ (λ s. refl)

abbrev IsIdentity : Bool → Identity → Type 0
IsIdentity namespaced i = IsNamespace namespaced i.namespace × IfSome i.uid IsUid × IsVersion i.version

identity_given : (namespaced : Bool) (place : Option Data) → IfOk (identity_at namespaced place) (IsIdentity namespaced)
unfolding identity_at
identity_given namespaced place =
    past (IsIdentity namespaced) (needed_text members.Name place) _ (λ name.
    step (IsNamespace namespaced) (IsIdentity namespaced) (namespace_at namespaced place) _ (namespace_given namespaced place) (λ namespace is_namespace.
    step (λ u. IfSome u IsUid) (IsIdentity namespaced) (uid_at members.Uid place) _ (uid_given members.Uid place) (λ uid is_uid.
    step IsVersion (IsIdentity namespaced) (version_at members.ResourceVersion place) _ (version_given members.ResourceVersion place) (λ version is_version.
    (is_namespace, is_uid, is_version)))))

abbrev AreMarks : Marks → Type 0
AreMarks m = IsStampOrEmpty m.created × IfSome m.deleted IsStamp × ArePairs m.labels × ArePairs m.annotations

marks_given : (place : Option Data) → IfOk (marks_at place) AreMarks
unfolding marks_at
marks_given place =
    step IsStampOrEmpty AreMarks (stamp_or_empty members.CreationTimestamp place) _ (stamp_or_empty_given members.CreationTimestamp place) (λ created is_created.
    step (λ t. IfSome t IsStamp) AreMarks (stamp_at members.DeletionTimestamp place) _ (stamp_given members.DeletionTimestamp place) (λ deleted is_deleted.
    step ArePairs AreMarks (pairs_at members.Labels place) _ (pairs_given members.Labels place) (λ labels are_labels.
    step ArePairs AreMarks (pairs_at members.Annotations place) _ (pairs_given members.Annotations place) (λ annotations are_annotations.
    past AreMarks (texts_at members.Finalizers place) _ (λ finalizers. (is_created, is_deleted, are_labels, are_annotations))))))

pub meta_given : (namespaced : Bool) (d : Data) → IfOk (meta_of namespaced d) (IsMeta namespaced)
unfolding meta_of
meta_given namespaced d =
    past (IsMeta namespaced) (needed_object members.Metadata (Some d)) _ (λ metadata.
    step (IsIdentity namespaced) (IsMeta namespaced) (identity_at namespaced (Some metadata)) _ (identity_given namespaced (Some metadata)) (λ i is.
    step AreMarks (IsMeta namespaced) (marks_at (Some metadata)) _ (marks_given (Some metadata)) (λ m are.
    record { namespace = is.0; uid = is.1; version = is.2; created = are.0; deleted = are.1; labels = are.2; annotations = are.3 })))

-- ---- amounts

amount_given_in : (m : Member) (d : Data) → IfOk (amount_in m d) IsAmount
amount_given_in m d = past IsAmount (quantity_text m d) _ (λ s. from s (amount_of s) refl)
  where
    from : (s : List ℕ) (r : Result ℕ AmountError) → amount_of s ≡ r → IfOk (amount_from m s r) IsAmount
    from s (Ok n) e = e
    from s (Err x) e = tt

pub quantity_given : (m : Member) (place : Option Data) → IfOk (quantity_at m place) IsAmount
unfolding quantity_at
quantity_given m place = past IsAmount (needed m place) _ (λ d. amount_given_in m d)

pub optional_quantity_given : (m : Member) (place : Option Data) → IfOk (optional_quantity m place) (λ a. IfSome a IsAmount)
unfolding optional_quantity
optional_quantity_given m place = by (at m place)
  where
    by : (o : Option Data) → IfOk (amount_or_none m o) (λ a. IfSome a IsAmount)
    by None = tt
    by (Some d) = step IsAmount (λ a. IfSome a IsAmount) (amount_in m d) _ (amount_given_in m d) (λ a h. h)

-- ---- the policy of a class

pub class_policy_given : (place : Option Data) → IfOk (class_policy_at place) IsClassPolicy
unfolding class_policy_at
class_policy_given place =
    past IsClassPolicy (text_or members.ReclaimPolicy (policy_word Delete) place) _ (λ s. by (bytes_eq s (policy_word Delete)) (bytes_eq s (policy_word Retain)))
  where
    by : (first second : Bool) → IfOk (known members.ReclaimPolicy (if first then Some Delete else (if second then Some Retain else None))) IsClassPolicy
    by true second = tt
    by false true = tt
    by false false = tt

-- ---- the claim of a volume

ref_given : (place : Option Data) → IfOk (ref_at place) IsRef
unfolding ref_at
ref_given place =
    past IsRef (needed_text members.Namespace place) _ (λ namespace.
    past IsRef (needed_text members.Name place) _ (λ name.
    step (λ u. IfSome u IsUid) IsRef (uid_at members.Uid place) _ (uid_given members.Uid place) (λ uid h. h)))

pub claim_ref_given : (place : Option Data) → IfOk (claim_ref_at place) (λ r. IfSome r IsRef)
unfolding claim_ref_at
claim_ref_given place = past (λ r. IfSome r IsRef) (some_object_at members.ClaimRef place) _ or_none
  where
    or_none : (o : Option Data) → IfOk (ref_or_none o) (λ r. IfSome r IsRef)
    or_none None = tt
    or_none (Some d) = step IsRef (λ r. IfSome r IsRef) (ref_at (Some d)) _ (ref_given (Some d)) (λ r h. h)

-- ---- the source of a volume

-- none of those that count before it is there
abbrev pub NoneThere : SourceKind → Option Data → Option Data → Option Data → Type 0
NoneThere Csi csi nfs local = ⊤
NoneThere Nfs csi nfs local = csi ≡ None
NoneThere Local csi nfs local = (csi ≡ None) × (nfs ≡ None)
NoneThere HostPath csi nfs local = (csi ≡ None) × (nfs ≡ None) × (local ≡ None)

abbrev pub IsFirst : Option Data → Option Data → Option Data → Source → Type 0
IsFirst csi nfs local s = IsSource s × NoneThere s.kind csi nfs local

two_given : (P : Source → Type 0) (kind : SourceKind) (m one two : Member) (d : Data)
    → ((first second : List ℕ) → P (record { kind = kind; first = first; second = second })) → IfOk (two_texts kind m one two d) P
two_given P kind m one two d h =
    past P (as_object m d) _ (λ source. past P (needed_text one (Some source)) _ (λ first. past P (needed_text two (Some source)) _ (λ second. h first second)))

one_given : (P : Source → Type 0) (kind : SourceKind) (m : Member) (d : Data) → ((first : List ℕ) → P (record { kind = kind; first = first; second = [] })) → IfOk (one_text kind m d) P
one_given P kind m d h = past P (as_object m d) _ (λ source. past P (needed_text members.Path (Some source)) _ (λ first. h first))

source_given_from : (csi nfs local host : Option Data) → IfOk (source_from csi nfs local host) (IsFirst csi nfs local)
source_given_from (Some d) nfs local host = two_given (IsFirst (Some d) nfs local) Csi members.Csi members.Driver members.VolumeHandle d (λ first second. (tt, tt))
source_given_from None (Some d) local host = two_given (IsFirst None (Some d) local) Nfs members.Nfs members.Server members.Path d (λ first second. (tt, refl))
source_given_from None None (Some d) host = one_given (IsFirst None None (Some d)) Local members.Local d (λ first. (refl, (refl, refl)))
source_given_from None None None (Some d) = one_given (IsFirst None None None) HostPath members.HostPath d (λ first. (refl, (refl, refl, refl)))
source_given_from None None None None = tt

pub source_given : (place : Option Data) → IfOk (source_at place) (IsFirst (there members.Csi place) (there members.Nfs place) (there members.Local place))
unfolding source_at
source_given place = source_given_from (there members.Csi place) (there members.Nfs place) (there members.Local place) (there members.HostPath place)

-- ---- the selector of a claim

selector_given_of : (place : Option Data) → IfOk (selector_of place) IsSelector
unfolding selector_of
selector_given_of place = step ArePairs IsSelector (pairs_at members.MatchLabels place) _ (pairs_given members.MatchLabels place) (λ labels h. past IsSelector (exprs_at place) _ (λ exprs. h))

pub selector_given : (place : Option Data) → IfOk (selector_at place) (λ s. IfSome s IsSelector)
unfolding selector_at
selector_given place = past (λ s. IfSome s IsSelector) (some_object_at members.Selector place) _ or_none
  where
    or_none : (o : Option Data) → IfOk (selector_or_none o) (λ s. IfSome s IsSelector)
    or_none None = tt
    or_none (Some d) = step IsSelector (λ s. IfSome s IsSelector) (selector_of (Some d)) _ (selector_given_of (Some d)) (λ s h. h)
