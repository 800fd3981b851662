-- What a write of the store makes of an object that a manifest can give.
use Rattle.std.proofs.Common.{refl, arith}
use Rattle.std.specs.Prelude.{ℕ, ◌+◌, ◌^◌, ◌≤◌, List, [], ◌∷◌, Bool, true, false, Option, Some, None, IfSome, if◌then◌else◌}
use Rattle.std.proofs.lemmas.Cmp.{nat_list_cmp_total}
use Rattle.plain_data.specs.Pairs.{Pair, ArePairs, pair_key, put_pair, without_key}
use Rattle.plain_data.proofs.RowFacts.{rising_put, rising_without}
use Rattle.kube_objects.specs.declared.objects.Meta.{Meta}
use Rattle.kube_objects.specs.declared.objects.Ref.{Ref}
use Rattle.kube_objects.specs.declared.objects.Volume.{Volume as VolumeData}
use Rattle.kube_objects.specs.declared.objects.Claim.{Claim as ClaimData}
use Rattle.kube_objects.specs.declared.objects.Pod.{Pod as PodData}
use Rattle.kube_objects.specs.declared.objects.Object.{Object}
use Rattle.kube_objects.specs.declared.objects.Object.TheVariants.{Class, Node, Volume, Claim, Pod}
use Rattle.kube_objects.specs.Keys.{meta_of}
use Rattle.kube_objects.specs.Bindings.{bound_by_controller, is_empty}
use Rattle.call_types.specs.declared.edit.Edit.{Edit}
use Rattle.call_types.specs.declared.edit.Edit.TheVariants as edits
use Rattle.call_types.specs.declared.request.NewStatus.{NewStatus}
use Rattle.call_types.specs.declared.request.NewStatus.TheVariants as statuses
use Rattle.binder_model.specs.Store.{first_moment, with_meta, at_version, marked_object, admitted_object, without_status, created_object, with_status_of, updated_object}
use Rattle.binder_model.specs.Edits.{with_volume_name, edited_object}
use Rattle.binder_model.specs.Answers.{with_status}
use Rattle.binder_model.specs.Imports.{imported_meta, imported_object}
use Rattle.object_laws.specs.Given.{IsStamp, IsStampOrEmpty, IsMeta, IsRef, IsVolume, IsClaim, IsPod, IsGivenObject}
use Rattle.history_laws.specs.Read.Given.{IsStatus}

-- ---- pairs

pub pairs_put : (k v : List ℕ) (ps : List Pair) → ArePairs ps → ArePairs (put_pair k v ps)
pairs_put k v ps h = rising_put nat_list_cmp_total pair_key (k, v) ps h

pub pairs_without : (k : List ℕ) (ps : List Pair) → ArePairs ps → ArePairs (without_key k ps)
pairs_without k ps h = rising_without nat_list_cmp_total pair_key k ps h

-- ---- metadata

pub meta_labels : (b : Bool) (m : Meta) (ps : List Pair) → IsMeta b m → ArePairs ps → IsMeta b (record m { labels = ps })
meta_labels b m ps h k = record { namespace = h.namespace; uid = h.uid; version = h.version; created = h.created; deleted = h.deleted; labels = k; annotations = h.annotations }

pub meta_annotations : (b : Bool) (m : Meta) (ps : List Pair) → IsMeta b m → ArePairs ps → IsMeta b (record m { annotations = ps })
meta_annotations b m ps h k = record { namespace = h.namespace; uid = h.uid; version = h.version; created = h.created; deleted = h.deleted; labels = h.labels; annotations = k }

pub meta_finalizers : (b : Bool) (m : Meta) (names : List (List ℕ)) → IsMeta b m → IsMeta b (record m { finalizers = names })
meta_finalizers b m names h = record { namespace = h.namespace; uid = h.uid; version = h.version; created = h.created; deleted = h.deleted; labels = h.labels; annotations = h.annotations }

stamp_or_empty : (s : List ℕ) → IsStamp s → IsStampOrEmpty s
stamp_or_empty [] h = tt
stamp_or_empty (x ∷ xs) h = h

first_meta : (b : Bool) (m : Meta) (version : ℕ) (moment : List ℕ) → IsMeta b m → version ≤ 2 ^ 62 → IsStamp moment
    → IsMeta b (record m { uid = Some (record { 0 = 2 ^ 79 + 2 ^ 63 + version }); version = version; created = moment; deleted = None })
first_meta b m version moment h few at = record {
  namespace = h.namespace;
  uid = omega arith;
  version = few;
  created = stamp_or_empty moment at;
  deleted = tt;
  labels = h.labels;
  annotations = h.annotations;
}

-- an update keeps what the store gave
later_meta : (a b : Bool) (m n : Meta) (version : ℕ) → IsMeta a m → IsMeta b n → version ≤ 2 ^ 62
    → IsMeta b (record n { uid = m.uid; version = version; created = m.created; deleted = m.deleted })
later_meta a b m n version h k few = record { namespace = k.namespace; uid = h.uid; version = few; created = h.created; deleted = h.deleted; labels = k.labels; annotations = k.annotations }

meta_version : (b : Bool) (m : Meta) (version : ℕ) → IsMeta b m → version ≤ 2 ^ 62 → IsMeta b (record m { version = version })
meta_version b m version h few = record { namespace = h.namespace; uid = h.uid; version = few; created = h.created; deleted = h.deleted; labels = h.labels; annotations = h.annotations }

meta_marked : (b : Bool) (m : Meta) (version : ℕ) (moment : List ℕ) → IsMeta b m → version ≤ 2 ^ 62 → IsStamp moment → IsMeta b (record m { version = version; deleted = Some moment })
meta_marked b m version moment h few at = record { namespace = h.namespace; uid = h.uid; version = few; created = h.created; deleted = at; labels = h.labels; annotations = h.annotations }

-- ---- volumes, claims and pods

pub volume_meta : (v : VolumeData) (m : Meta) → IsVolume v → IsMeta false m → IsVolume (record v { meta = m })
volume_meta v m h k = record { meta = k; amount = h.amount; claim_ref = h.claim_ref; source = h.source; extra = h.extra }

pub volume_reference : (v : VolumeData) (m : Meta) (r : Option Ref) → IsVolume v → IsMeta false m → IfSome r IsRef → IsVolume (record v { meta = m; claim_ref = r })
volume_reference v m r h k is = record { meta = k; amount = h.amount; claim_ref = is; source = h.source; extra = h.extra }

pub claim_meta : (c : ClaimData) (m : Meta) → IsClaim c → IsMeta true m → IsClaim (record c { meta = m })
claim_meta c m h k = record { meta = k; amount = h.amount; selector = h.selector; got = h.got; extra = h.extra }

pub claim_named : (c : ClaimData) (m : Meta) (name : List ℕ) → IsClaim c → IsMeta true m → IsClaim (record c { meta = m; volume_name = name })
claim_named c m name h k = record { meta = k; amount = h.amount; selector = h.selector; got = h.got; extra = h.extra }

pub claim_classed : (c : ClaimData) (name : List ℕ) → IsClaim c → IsClaim (record c { class = Some name })
claim_classed c name h = record { meta = h.meta; amount = h.amount; selector = h.selector; got = h.got; extra = h.extra }

pod_meta : (p : PodData) (m : Meta) → IsPod p → IsMeta true m → IsPod (record p { meta = m })
pod_meta p m h k = record { meta = k; extra = (h.extra.0, record { extra = h.extra.1.extra; claims = h.extra.1.claims }) }

pub pod_placed : (p : PodData) (node : List ℕ) → IsPod p → IsPod (record p { node = node })
pod_placed p node h = record { meta = h.meta; extra = (h.extra.0, record { extra = h.extra.1.extra; claims = h.extra.1.claims }) }

-- ---- objects

abbrev pub is_in_namespaces : Object → Bool
is_in_namespaces (Class x) = false
is_in_namespaces (Node x) = false
is_in_namespaces (Volume x) = false
is_in_namespaces (Claim x) = true
is_in_namespaces (Pod x) = true

pub meta_given : (o : Object) → IsGivenObject o → IsMeta (is_in_namespaces o) (meta_of o)
meta_given (Class x) h = h.meta
meta_given (Node x) h = h.meta
meta_given (Volume x) h = h.meta
meta_given (Claim x) h = h.meta
meta_given (Pod x) h = h.meta

pub version_given : (o : Object) → IsGivenObject o → (meta_of o).version ≤ 2 ^ 62
version_given o h = (meta_given o h).version

with_meta_given : (o : Object) (m : Meta) → IsGivenObject o → IsMeta (is_in_namespaces o) m → IsGivenObject (with_meta o m)
unfolding with_meta
with_meta_given (Class x) m h k = record { meta = k; policy = h.policy; parameters = h.parameters; extra = h.extra }
with_meta_given (Node x) m h k = record { meta = k; extra = h.extra }
with_meta_given (Volume x) m h k = volume_meta x m h k
with_meta_given (Claim x) m h k = claim_meta x m h k
with_meta_given (Pod x) m h k = pod_meta x m h k

without_status_given : (o : Object) → IsGivenObject o → IsGivenObject (without_status o)
unfolding without_status
without_status_given (Class x) h = h
without_status_given (Node x) h = h
without_status_given (Volume x) h = record { meta = h.meta; amount = h.amount; claim_ref = h.claim_ref; source = h.source; extra = h.extra }
without_status_given (Claim x) h = record { meta = h.meta; amount = h.amount; selector = h.selector; got = tt; extra = h.extra }
without_status_given (Pod x) h = h

admitted_given : (class : Option (List ℕ)) (o : Object) → IsGivenObject o → IsGivenObject (admitted_object class o)
unfolding admitted_object
admitted_given class (Class x) h = h
admitted_given class (Node x) h = h
admitted_given class (Volume x) h = volume_meta x _ h (meta_finalizers false x.meta _ h.meta)
admitted_given class (Claim x) h = record { meta = meta_finalizers true x.meta _ h.meta; amount = h.amount; selector = h.selector; got = h.got; extra = h.extra }
admitted_given class (Pod x) h = h

pub created_given : (class : Option (List ℕ)) (o : Object) (version : ℕ) (moment : List ℕ) → IsGivenObject o → version ≤ 2 ^ 62 → IsStamp moment → IsGivenObject (created_object class o version moment)
unfolding created_object
created_given class o version moment h few at =
    let given = admitted_given class (without_status o) (without_status_given o h) in
    with_meta_given (admitted_object class (without_status o)) _ given (first_meta _ _ version moment (meta_given _ given) few at)

with_status_of_given : (old new : Object) → IsGivenObject old → IsGivenObject new → IsGivenObject (with_status_of old new)
unfolding with_status_of
with_status_of_given (Volume a) (Volume b) h k = record { meta = k.meta; amount = k.amount; claim_ref = k.claim_ref; source = k.source; extra = k.extra }
with_status_of_given (Claim a) (Claim b) h k = record { meta = k.meta; amount = k.amount; selector = k.selector; got = h.got; extra = k.extra }
with_status_of_given old new h k = k

pub updated_given : (old new : Object) (version : ℕ) → IsGivenObject old → IsGivenObject new → version ≤ 2 ^ 62 → IsGivenObject (updated_object old new version)
unfolding updated_object
updated_given old new version h k few =
    let given = with_status_of_given old new h k in
    with_meta_given (with_status_of old new) _ given (later_meta _ _ (meta_of old) (meta_of (with_status_of old new)) version (meta_given old h) (meta_given _ given) few)

pub at_version_given : (o : Object) (version : ℕ) → IsGivenObject o → version ≤ 2 ^ 62 → IsGivenObject (at_version o version)
unfolding at_version
at_version_given o version h few = with_meta_given o _ h (meta_version _ (meta_of o) version (meta_given o h) few)

pub marked_given : (o : Object) (version : ℕ) (moment : List ℕ) → IsGivenObject o → version ≤ 2 ^ 62 → IsStamp moment → IsGivenObject (marked_object o version moment)
unfolding marked_object
marked_given o version moment h few at = with_meta_given o _ h (meta_marked _ (meta_of o) version moment (meta_given o h) few at)

-- ---- edits and statuses

named_given : (name : List ℕ) (o : Object) → IsGivenObject o → IfSome (with_volume_name name o) IsGivenObject
unfolding with_volume_name
named_given name (Class x) h = tt
named_given name (Node x) h = tt
named_given name (Volume x) h = tt
named_given name (Claim x) h = claim_named x x.meta name h h.meta
named_given name (Pod x) h = tt

pub edited_given : (change : Edit) (o : Object) → IsGivenObject o → IfSome (edited_object change o) IsGivenObject
unfolding edited_object
edited_given (edits.AddFinalizer f) o h = with_meta_given o _ h (meta_finalizers _ (meta_of o) _ (meta_given o h))
edited_given (edits.DropFinalizer f) o h = with_meta_given o _ h (meta_finalizers _ (meta_of o) _ (meta_given o h))
edited_given (edits.DropLabel key) o h = with_meta_given o _ h (meta_labels _ (meta_of o) _ (meta_given o h) (pairs_without key _ (meta_given o h).labels))
edited_given (edits.DropAnnotation key) o h = with_meta_given o _ h (meta_annotations _ (meta_of o) _ (meta_given o h) (pairs_without key _ (meta_given o h).annotations))
edited_given (edits.SetLabel key value) o h = with_meta_given o _ h (meta_labels _ (meta_of o) _ (meta_given o h) (pairs_put key value _ (meta_given o h).labels))
edited_given (edits.SetAnnotation key value) o h = with_meta_given o _ h (meta_annotations _ (meta_of o) _ (meta_given o h) (pairs_put key value _ (meta_given o h).annotations))
edited_given (edits.SetVolumeName name) o h = named_given name o h
edited_given (edits.SetPolicy policy) (Volume v) h = record { meta = h.meta; amount = h.amount; claim_ref = h.claim_ref; source = h.source; extra = h.extra }
edited_given (edits.SetPolicy policy) o h = tt
edited_given (edits.SetClaimRef namespace name) (Volume v) h = volume_reference v v.meta _ h h.meta tt
edited_given (edits.SetClaimRef namespace name) o h = tt
edited_given edits.ClearClaimRef (Volume v) h = volume_reference v _ None h (meta_annotations false v.meta _ h.meta (pairs_without bound_by_controller _ h.meta.annotations)) tt
edited_given edits.ClearClaimRef o h = tt

pub status_given : (status : NewStatus) (o : Object) → IsStatus status → IsGivenObject o → IfSome (with_status status o) IsGivenObject
unfolding with_status
status_given (statuses.Volume phase) (Volume v) k h = record { meta = h.meta; amount = h.amount; claim_ref = h.claim_ref; source = h.source; extra = h.extra }
status_given (statuses.Claim phase modes amount) (Claim c) k h = record { meta = h.meta; amount = h.amount; selector = h.selector; got = k; extra = h.extra }
status_given status o k h = tt

-- ---- imports

created_or_first : (m : Meta) → IsStampOrEmpty m.created → IsStampOrEmpty (imported_meta m).created
created_or_first m h = by (is_empty m.created)
  where
    by : (b : Bool) → IsStampOrEmpty (if b then first_moment else m.created)
    by true = refl
    by false = h

imported_meta_given : (b : Bool) (m : Meta) → IsMeta b m → IsMeta b (imported_meta m)
imported_meta_given b m h = record {
  namespace = h.namespace;
  uid = h.uid;
  version = h.version;
  created = created_or_first m h.created;
  deleted =
      h.deleted;
  labels = h.labels;
  annotations = h.annotations;
}

pub imported_given : (imports : List Object) (o : Object) → IsGivenObject o → IsGivenObject (imported_object imports o)
unfolding imported_object
imported_given imports (Class x) h = record { meta = imported_meta_given false x.meta h.meta; policy = h.policy; parameters = h.parameters; extra = h.extra }
imported_given imports (Node x) h = record { meta = imported_meta_given false x.meta h.meta; extra = h.extra }
imported_given imports (Volume x) h = volume_meta x _ h (meta_finalizers false _ _ (imported_meta_given false x.meta h.meta))
imported_given imports (Claim x) h = record { meta = meta_finalizers true _ _ (imported_meta_given true x.meta h.meta); amount = h.amount; selector = h.selector; got = h.got; extra = h.extra }
imported_given imports (Pod x) h = pod_meta x _ h (imported_meta_given true x.meta h.meta)
