-- The store: its objects in the order of their keys, and the number of its writes; what a write makes of an object.
-- Source: Kubernetes API conventions, "Metadata", "Concurrency Control and Consistency"; one number for all kinds is this project's choice.
-- An object is deleting where it has a deletion timestamp.
use Rattle.std.specs.Prelude.{ℕ, ◌&&◌, Bool, true, false, not, List, [], ◌∷◌, ◌++◌, Option, Some, None, codes, is_none, if◌then◌else◌}
use Rattle.std.specs.Cmp.Lexicographic.{slice_cmp}
use Rattle.std.specs.Ordering.{nat_cmp, is_lt}
use Rattle.kube_parts.specs.declared.parts.ClaimPhase.TheVariants as claims
use Rattle.kube_parts.specs.declared.parts.VolumePhase.TheVariants as volumes
use Rattle.kube_parts.specs.declared.parts.Modes.{Modes}
use Rattle.kube_objects.specs.declared.objects.Meta.{Meta}
use Rattle.kube_objects.specs.declared.objects.Class.{Class as ClassData}
use Rattle.kube_objects.specs.declared.objects.Object.{Object}
use Rattle.kube_objects.specs.declared.objects.Object.TheVariants.{Class, Node, Volume, Claim, Pod}
use Rattle.kube_types.specs.Defaults.{is_default}
use Rattle.kube_objects.specs.Keys.{meta_of, row_at}
use Rattle.kube_parts.specs.Uids.{uid_of_serial}
use Rattle.kube_objects.specs.Bindings.{beta_class, pv_protection, pvc_protection, has_name, is_deleting, is_scheduled, has_key, is_empty}
use Rattle.binder_model.specs.ObjectKeys.{node_key}

-- what stands in the store, and its version, which rises by one at each write
pub record State : Type 0 where
  pub rows : List Object
  pub version : ℕ

-- the moment of each world until a user sets another
abbrev pub first_moment : List ℕ
first_moment = codes "2000-01-01T00:00:00Z"

-- a store in which nothing was ever written
abbrev pub no_store : State
no_store = record { rows = []; version = 0 }

-- the object with other metadata
unfoldable pub with_meta : Object → Meta → Object
with_meta (Class x) m = Class (record x { meta = m })
with_meta (Node x) m = Node (record x { meta = m })
with_meta (Volume x) m = Volume (record x { meta = m })
with_meta (Claim x) m = Claim (record x { meta = m })
with_meta (Pod x) m = Pod (record x { meta = m })

-- the object at this version
unfoldable pub at_version : Object → ℕ → Object
at_version o version = with_meta o (record (meta_of o) { version = version })

-- the object at this version, deleting since this moment
unfoldable pub marked_object : Object → ℕ → List ℕ → Object
marked_object o version moment = with_meta o (record (meta_of o) { version = version; deleted = Some moment })

-- admission. Source: Kubernetes documentation, "Storage Object in Use Protection" and "DefaultStorageClass"

-- the finalizers with this one, behind the others where it lacked
abbrev pub with_finalizer : List ℕ → List (List ℕ) → List (List ℕ)
with_finalizer name names = if has_name name names then names else names ++ name ∷ []

-- the first text comes before the second, byte by byte
abbrev pub text_lt : List ℕ → List ℕ → Bool
text_lt a b = is_lt (slice_cmp nat_cmp a b)

-- the class that was created later, and of one moment the first
abbrev pub newer_class : ClassData → Option ClassData → Option ClassData
newer_class x None = Some x
newer_class x (Some y) = if text_lt x.meta.created y.meta.created then Some y else Some x

-- the default class of the rows, as the answer to a create is a function of the store: one pass over them, which keeps of
-- two default classes the newer one, and of two of one moment the first. What a default class is stands in `Defaults`
-- of `kube_types`; that the pass finds it is a law (`default_is_found`)
abbrev pub default_class : List Object → Option ClassData
default_class [] = None
default_class (Class x ∷ os) = if is_default x then newer_class x (default_class os) else default_class os
default_class (o ∷ os) = default_class os

-- the name of the class, if there is one
abbrev pub class_name : Option ClassData → Option (List ℕ)
class_name None = None
class_name (Some x) = Some x.meta.name

-- the class that a claim gets which names none
abbrev pub admitted_class : Option (List ℕ) → Option (List ℕ) → Bool → Option (List ℕ)
admitted_class (Some given) default names_beta = Some given
admitted_class None default true = None
admitted_class None default false = default

-- with the protection finalizer of its kind, and a claim with a class
unfoldable pub admitted_object : Option (List ℕ) → Object → Object
admitted_object default (Volume v) = Volume (record v { meta = record v.meta { finalizers = with_finalizer pv_protection v.meta.finalizers } })
admitted_object default (Claim c) = Claim (record c {
  meta = record c.meta { finalizers = with_finalizer pvc_protection c.meta.finalizers };
  class = admitted_class c.class default (has_key beta_class c.meta.annotations);
})
admitted_object default o = o

-- no access mode at all
abbrev pub no_modes : Modes
no_modes = record { rwo = false; rox = false; rwx = false; rwop = false }

-- a create does not look at the status of the manifest
unfoldable pub without_status : Object → Object
without_status (Volume v) = Volume (record v { phase = volumes.Pending })
without_status (Claim c) = Claim (record c { phase = claims.Pending; got_modes = no_modes; got = None })
without_status o = o

-- the object as the write of this version creates it
unfoldable pub created_object : Option (List ℕ) → Object → ℕ → List ℕ → Object
created_object default o version moment =
    let new = admitted_object default (without_status o) in
    with_meta new (record (meta_of new) { uid = Some (uid_of_serial version); version = version; created = moment; deleted = None })

-- the new object with the status of the old one
unfoldable pub with_status_of : Object → Object → Object
with_status_of (Volume old) (Volume new) = Volume (record new { phase = old.phase })
with_status_of (Claim old) (Claim new) = Claim (record new { phase = old.phase; got_modes = old.got_modes; got = old.got })
with_status_of old new = new

-- an update keeps UID, both timestamps and status
unfoldable pub updated_object : Object → Object → ℕ → Object
updated_object old new version =
    let kept = with_status_of old new in
    with_meta kept (record (meta_of kept) { uid = (meta_of old).uid; version = version; created = (meta_of old).created; deleted = (meta_of old).deleted })

-- the list is empty
abbrev pub has_no_names : List (List ℕ) → Bool
has_no_names [] = true
has_no_names (name ∷ names) = false

-- an object leaves at the write after which it is deleting and has no finalizers; a pod by its own verbs alone.
-- Source: Kubernetes documentation, "Finalizers"
unfoldable pub leaves : Object → Bool
leaves (Pod p) = false
leaves o = is_deleting (meta_of o) && has_no_names (meta_of o).finalizers

-- deleting a pod that no node runs removes it at once
unfoldable pub leaves_at_once : Object → Bool
leaves_at_once (Pod p) = not (is_scheduled p)
leaves_at_once o = false

-- the pod names a node, and the store has none of that name
abbrev pub lacks_named_node : List ℕ → List Object → Bool
lacks_named_node node rows = not (is_empty node) && is_none (row_at (node_key node) rows)

-- the object is a pod that names a node which the store lacks
unfoldable pub lacks_node : Object → List Object → Bool
lacks_node (Pod p) rows = lacks_named_node p.node rows
lacks_node o rows = false
