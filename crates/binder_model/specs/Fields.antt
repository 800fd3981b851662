-- Which fields of an object are invalid, at its creation and at an update: the first in the order of the tests.
-- Source: Kubernetes API validation of these kinds, "Object Names and IDs"; which fields are fixed after creation
-- is this project's profile, a little stricter than the real API.
use Rattle.std.specs.Prelude.{ℕ, ◌==◌, ◌-◌, nat_le, Bool, true, false, not, ◌&&◌, ◌||◌, List, [], ◌∷◌, Option, Some, None, bytes_eq, length, slice_get, if◌then◌else◌}
use Rattle.std.specs.Bool.{beq}
use Rattle.std.specs.List.{list_all, list_any, slice_split}
use Rattle.kube_parts.specs.declared.names.Field.{Field}
use Rattle.kube_parts.specs.declared.names.Field.TheVariants as fields
use Rattle.kube_parts.specs.declared.parts.Modes.{Modes}
use Rattle.kube_objects.specs.declared.objects.Ref.{Ref}
use Rattle.kube_objects.specs.declared.objects.Volume.{Volume as VolumeData}
use Rattle.kube_objects.specs.declared.objects.Claim.{Claim as ClaimData}
use Rattle.kube_objects.specs.declared.objects.Class.{Class as ClassData}
use Rattle.kube_objects.specs.declared.objects.Pod.{Pod as PodData}
use Rattle.kube_objects.specs.declared.objects.Object.{Object}
use Rattle.kube_objects.specs.declared.objects.Object.TheVariants.{Class, Node, Volume, Claim, Pod}
use Rattle.kube_objects.specs.Keys.{meta_of}
use Rattle.kube_objects.specs.Bindings.{has_name, is_completed, is_deleting, is_empty, lacks_class}
use Rattle.binder_model.specs.Store.{has_no_names}
use Rattle.binder_model.specs.Same.{same_option, same_names, same_pairs, same_modes, same_amount, same_policy, same_selector, same_terms, same_source}

-- a lower-case letter or a digit
abbrev pub is_lower_or_digit : ℕ → Bool
is_lower_or_digit c = (nat_le 97 c && nat_le c 122) || (nat_le 48 c && nat_le c 57)

-- a lower-case letter, a digit or a hyphen
abbrev pub is_name_byte : ℕ → Bool
is_name_byte c = is_lower_or_digit c || c == 45

-- there is a byte, and it is a letter or digit
abbrev pub is_lower_or_digit_at : Option ℕ → Bool
is_lower_or_digit_at None = false
is_lower_or_digit_at (Some c) = is_lower_or_digit c

-- lower-case letters, digits and '-', with a letter or digit at both ends
abbrev pub is_label : List ℕ → Bool
is_label part = list_all is_name_byte part && is_lower_or_digit_at (slice_get part 0) && is_lower_or_digit_at (slice_get part (length part - 1))

-- a DNS subdomain: labels with dots between them
abbrev pub is_subdomain : List ℕ → Bool
is_subdomain name = nat_le (length name) 253 && list_all is_label (slice_split (λ c. c == 46) name)

-- a DNS label
abbrev pub is_namespace : List ℕ → Bool
is_namespace name = nat_le (length name) 63 && is_label name

-- there is no access mode
abbrev pub has_no_mode : Modes → Bool
has_no_mode m = not (m.rwo || m.rox || m.rwx || m.rwop)

-- some text stands there twice
abbrev pub has_twice : List (List ℕ) → Bool
has_twice [] = false
has_twice (x ∷ xs) = has_name x xs || has_twice xs

-- a reference to a claim lacks the name or the namespace
abbrev pub is_nameless : Option Ref → Bool
is_nameless None = false
is_nameless (Some r) = is_empty r.name || is_empty r.namespace

-- the field where the test holds, else what comes next
unfoldable pub faulty : Bool → Field → Option Field → Option Field
faulty true field next = Some field
faulty false field next = next

-- the first invalid field of a volume, beside its name
unfoldable pub volume_fault : VolumeData → Option Field
volume_fault v =
    faulty (not (is_empty v.meta.namespace)) fields.Namespace
    (faulty (v.amount.bytes == 0) fields.Capacity
    (faulty (has_no_mode v.modes) fields.AccessModes
    (faulty (is_nameless v.claim_ref) fields.ClaimRef
    (faulty (has_twice v.meta.finalizers) fields.Finalizers None))))

-- the first invalid field of a claim, beside its name
unfoldable pub claim_fault : ClaimData → Option Field
claim_fault c =
    faulty (not (is_namespace c.meta.namespace)) fields.Namespace
    (faulty (c.amount.bytes == 0) fields.Request
    (faulty (has_no_mode c.modes) fields.AccessModes
    (faulty (has_twice c.meta.finalizers) fields.Finalizers None)))

-- the first invalid field of a class, beside its name
unfoldable pub class_fault : ClassData → Option Field
class_fault x =
    faulty (not (is_empty x.meta.namespace)) fields.Namespace
    (faulty (is_empty x.provisioner) fields.Provisioner
    (faulty (has_twice x.meta.finalizers) fields.Finalizers None))

-- where the pod names a node that is not there is the store's to say
unfoldable pub pod_fault : Bool → PodData → Option Field
pod_fault lacks_node p =
    faulty (not (is_namespace p.meta.namespace)) fields.Namespace
    (faulty lacks_node fields.NodeName
    (faulty (has_name [] p.claims || has_twice p.claims) fields.Claims
    (faulty (not (has_no_names p.meta.finalizers)) fields.Finalizers None)))

-- the first invalid field, beside the name, by the kind of object
unfoldable pub kind_fault : Bool → Object → Option Field
kind_fault lacks_node (Class x) = class_fault x
kind_fault lacks_node (Node n) =
    faulty (not (is_empty n.meta.namespace)) fields.Namespace
    (faulty (has_twice n.meta.finalizers) fields.Finalizers None)
kind_fault lacks_node (Volume v) = volume_fault v
kind_fault lacks_node (Claim c) = claim_fault c
kind_fault lacks_node (Pod p) = pod_fault lacks_node p

-- the first invalid field of a new object
unfoldable pub create_fault : Bool → Object → Option Field
create_fault lacks_node o = faulty (not (is_subdomain (meta_of o).name)) fields.Name (kind_fault lacks_node o)

-- a claim's spec but for its class and the name of its volume
abbrev pub same_claim_spec : ClaimData → ClaimData → Bool
same_claim_spec a b =
    same_modes a.modes b.modes && same_amount a.amount b.amount && beq a.block b.block
    && same_option same_selector a.selector b.selector && bytes_eq a.extra b.extra

-- the claim may still get a class: it lacks one and is not completed. Source: Kubernetes documentation, "Persistent
-- Volumes" (Retroactive default StorageClass assignment); that a completed claim keeps none is this project's choice
abbrev pub may_get_class : ClaimData → Bool
may_get_class c = lacks_class c && not (is_completed c)

-- the class stays, but that a claim without one may get one. All is asked of the old claim
abbrev pub keeps_class : ClaimData → ClaimData → Bool
keeps_class old new = same_option bytes_eq old.class new.class || may_get_class old

-- the same spec of a pod: its claims, its node, and the rest as it was written
abbrev pub same_pod_spec : PodData → PodData → Bool
same_pod_spec a b = same_names a.claims b.claims && bytes_eq a.node b.node && bytes_eq a.extra b.extra

-- a finalizer that was not there before
abbrev pub adds_finalizer : List (List ℕ) → List (List ℕ) → Bool
adds_finalizer old new = list_any (λ f. not (has_name f old)) new

-- the first field that was fixed and is another now
unfoldable pub changed_field : Object → Object → Option Field → Option Field
changed_field (Claim old) (Claim new) next =
    faulty (not (same_claim_spec old new && keeps_class old new)) fields.Spec
    (faulty (not (is_empty old.volume_name) && not (bytes_eq old.volume_name new.volume_name)) fields.VolumeName next)
changed_field (Pod old) (Pod new) next = faulty (not (same_pod_spec old new)) fields.Spec next
changed_field (Volume old) (Volume new) next =
    faulty (not (same_source old.source new.source)) fields.Source
    (faulty (not (beq old.block new.block)) fields.VolumeMode
    (faulty (not (same_amount old.amount new.amount)) fields.Capacity
    (faulty (not (same_option same_terms old.terms new.terms)) fields.NodeAffinity next)))
changed_field (Class old) (Class new) next =
    faulty (not (bytes_eq old.provisioner new.provisioner)) fields.Provisioner
    (faulty (not (same_pairs old.parameters new.parameters)) fields.Parameters
    (faulty (not (same_policy old.policy new.policy)) fields.Policy
    (faulty (not (beq old.delayed new.delayed)) fields.BindingMode next)))
changed_field old new next = next

-- the first invalid field of an update
unfoldable pub update_fault : Object → Object → Option Field
update_fault old new =
    changed_field old new
    (faulty ((is_deleting (meta_of old) && adds_finalizer (meta_of old).finalizers (meta_of new).finalizers) || has_twice (meta_of new).finalizers) fields.Finalizers
    (create_fault false new))
