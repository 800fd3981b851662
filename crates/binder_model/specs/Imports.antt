-- The objects of an older store with which a world may begin: which of them are refused, and what is made of them.
-- A choice of this project. It stands for a backup that is restored: Kubernetes documentation, "Persistent Volumes"
-- (Reserving a PersistentVolume), and "Storage Object in Use Protection" for the finalizers.
use Rattle.std.specs.Prelude.{ℕ, ◌≡◌, ◌-◌, ◌^◌, nat_lt, nat_le, max, Bool, true, false, not, ◌&&◌, ◌||◌, List, [], ◌∷◌, ◌++◌, Option, Some, None, bytes_eq, is_none, unwrap_or, if◌then◌else◌, ⊤}
use Rattle.std.specs.List.{list_any}
use Rattle.kube_parts.specs.declared.uid.Uid.{Uid}
use Rattle.kube_parts.specs.declared.names.Field.{Field}
use Rattle.kube_parts.specs.declared.names.ImportFault.{ImportFault}
use Rattle.kube_parts.specs.declared.names.ImportFault.TheVariants as faults
use Rattle.kube_parts.specs.declared.parts.ClaimPhase.{ClaimPhase}
use Rattle.kube_parts.specs.declared.parts.ClaimPhase.TheVariants as claims
use Rattle.kube_objects.specs.declared.objects.Meta.{Meta}
use Rattle.kube_objects.specs.declared.objects.Ref.{Ref}
use Rattle.kube_objects.specs.declared.objects.Claim.{Claim as ClaimData}
use Rattle.kube_objects.specs.declared.objects.Object.{Object}
use Rattle.kube_objects.specs.declared.objects.Object.TheVariants.{Class, Node, Volume, Claim, Pod}
use Rattle.kube_objects.specs.Keys.{meta_of, key_of, put_row, same_key}
use Rattle.kube_parts.specs.Uids.{uid_of_serial}
use Rattle.kube_objects.specs.Bindings.{pv_protection, pvc_protection, is_empty, is_completed, is_deleting, is_scheduled, is_bound, is_ended, is_uid, names_claim, carries, ref_uid}
use Rattle.binder_model.specs.Store.{first_moment, with_finalizer, leaves}
use Rattle.binder_model.specs.Fields.{create_fault}

-- numbers

-- the greatest version and the greatest serial that an imported object may have
abbrev pub most_imported : ℕ
most_imported = 2 ^ 61

-- how many serials there are
abbrev pub most_serials : ℕ
most_serials = 2 ^ 62

-- the serial of a UID of the form that creates give: of version 8, and zero but for the low 62 bits
abbrev pub serial_of : Uid → Option ℕ
serial_of uid =
    if nat_le (uid_of_serial 0).0 uid.0 && nat_lt uid.0 (uid_of_serial most_serials).0 then Some (uid.0 - (uid_of_serial 0).0) else None

-- the serial, or 0 where there is none
abbrev pub serial_or_zero : Option Uid → ℕ
serial_or_zero None = 0
serial_or_zero (Some uid) = unwrap_or (serial_of uid) 0

-- the reference of a volume; no other object has one
abbrev pub reference_of : Object → Option Ref
reference_of (Volume v) = v.claim_ref
reference_of o = None

-- the greatest of the object's version and of the serials that stand in it
abbrev pub greatest_number : Object → ℕ
greatest_number o = max (meta_of o).version (max (serial_or_zero (meta_of o).uid) (serial_or_zero (ref_uid (reference_of o))))

-- the version with which a world of these imports begins, so that no UID and no version of theirs is given again
abbrev pub base_of : List Object → ℕ
base_of [] = 0
base_of (o ∷ os) = max (greatest_number o) (base_of os)

-- what is made of an imported object

-- the volume that the claim names carries it and is in phase Bound
abbrev pub binds_claim : ClaimData → Object → Bool
binds_claim claim (Volume v) = bytes_eq v.meta.name claim.volume_name && carries v claim && is_bound v.phase
binds_claim claim o = false

-- completed, and no imported volume binds it
abbrev pub is_imported_as_lost : List Object → ClaimData → Bool
is_imported_as_lost imports claim = is_completed claim && not (list_any (binds_claim claim) imports)

-- a claim that is not completed is Pending, one that no volume binds is Lost, any other keeps its phase
abbrev pub imported_phase : List Object → ClaimData → ClaimPhase
imported_phase imports claim =
    if not (is_completed claim) then claims.Pending
    else if is_imported_as_lost imports claim then claims.Lost
    else claim.phase

-- a creation that is absent becomes the first moment
abbrev pub imported_meta : Meta → Meta
imported_meta m = record m { created = if is_empty m.created then first_moment else m.created }

-- all else stays as it was written, but that volumes and claims are protected
unfoldable pub imported_object : List Object → Object → Object
imported_object imports (Class x) = Class (record x { meta = imported_meta x.meta })
imported_object imports (Node n) = Node (record n { meta = imported_meta n.meta })
imported_object imports (Volume v) = Volume (record v { meta = record (imported_meta v.meta) { finalizers = with_finalizer pv_protection v.meta.finalizers } })
imported_object imports (Claim c) = Claim (record c {
  meta = record (imported_meta c.meta) { finalizers = with_finalizer pvc_protection c.meta.finalizers };
  phase = imported_phase imports c;
})
imported_object imports (Pod p) = Pod (record p { meta = imported_meta p.meta })

-- the object would have left: a deleting pod that no node runs, or a deleting class or node without finalizers
abbrev pub is_dropped : Object → Bool
is_dropped (Class x) = leaves (Class x)
is_dropped (Node n) = leaves (Node n)
is_dropped (Pod p) = is_deleting p.meta && not (is_scheduled p)
is_dropped o = false

-- the rows that some of the imports make
abbrev pub rows_of_imports : List Object → List Object → List Object
rows_of_imports imports [] = []
rows_of_imports imports (o ∷ os) =
    if is_dropped o then rows_of_imports imports os
    else put_row (imported_object imports o) (rows_of_imports imports os)

-- which imports are refused

-- the fault where the test holds, else what comes next
unfoldable pub fault_if : Bool → ImportFault → Option ImportFault → Option ImportFault
fault_if true fault next = Some fault
fault_if false fault next = next

-- the fault for the first invalid field, if any
unfoldable pub fault_of_field : Option Field → Option ImportFault → Option ImportFault
fault_of_field (Some field) next = Some (faults.Value field)
fault_of_field None next = next

-- both UIDs are there, and are one
abbrev pub shares_uid : Option Uid → Option Uid → Bool
shares_uid None other = false
shares_uid (Some uid) other = is_uid other uid

-- the object is the claim that the reference names
abbrev pub is_claim_named : Ref → Object → Bool
is_claim_named r (Claim c) = names_claim r c
is_claim_named r o = false

-- a reference has the UID of this object, which is not the claim that it names
abbrev pub names_another : Option Ref → Object → Bool
names_another None o = false
names_another (Some r) o = shares_uid r.uid (meta_of o).uid && not (is_claim_named r o)

-- the first is a volume whose reference has the UID of the second, which is not the claim that it names
abbrev pub refers_to_another : Object → Object → Bool
refers_to_another volume o = names_another (reference_of volume) o

-- the first is a volume that has ended for the second, a claim that names it or none
abbrev pub is_ended_for : Object → Object → Bool
is_ended_for (Volume v) (Claim c) =
    is_ended v.phase && shares_uid (ref_uid v.claim_ref) c.meta.uid && (is_empty c.volume_name || bytes_eq c.volume_name v.meta.name)
is_ended_for a b = false

-- the test holds of the object and itself, or of it and one of those before it, either way round
abbrev pub holds_of_pair : (Object → Object → Bool) → List Object → Object → Bool
holds_of_pair test before o = list_any (λ other. test o other || test other o) (o ∷ before)

-- why the object is not imported after those before it: the first reason in this order
unfoldable pub import_fault : List Object → Object → Option ImportFault
import_fault before o =
    fault_if (is_none (meta_of o).uid) faults.MissingUid
    (fault_if (nat_lt most_imported (meta_of o).version) faults.Version
    (fault_if (nat_lt most_imported (serial_or_zero (meta_of o).uid) || nat_lt most_imported (serial_or_zero (ref_uid (reference_of o)))) faults.Serial
    (fault_of_field (create_fault false o)
    (fault_if (list_any (λ other. same_key (key_of other) (key_of o)) before) faults.NameAgain
    (fault_if (list_any (λ other. shares_uid (meta_of o).uid (meta_of other).uid) before) faults.UidAgain
    (fault_if (holds_of_pair refers_to_another before o) faults.ClaimRef
    (fault_if (holds_of_pair is_ended_for before o) faults.Phase None)))))))

-- each of these imports passes after all that stand before it
abbrev pub PassAfter : List Object → List Object → Type 0
PassAfter before [] = ⊤
PassAfter before (o ∷ os) = (import_fault before o ≡ None) × PassAfter (before ++ o ∷ []) os

-- each import passes after those before it
abbrev pub ImportsPass : List Object → Type 0
ImportsPass imports = PassAfter [] imports
