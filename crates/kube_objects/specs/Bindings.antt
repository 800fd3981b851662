-- The words of bindings: the class of an object, completed, for, carries, protected, uses.
-- Source: Kubernetes documentation, "Persistent Volumes", and the constants of `pv_controller.go` and of the protection controllers.
use Rattle.std.specs.Prelude.{ℕ, ◌+◌, ◌==◌, Bool, true, false, not, ◌&&◌, List, Option, Some, None, bytes_eq, codes, is_some, is_none, unwrap_or, [], ◌∷◌}
use Rattle.std.specs.List.{list_any}
use Rattle.plain_data.specs.Pairs.{Pair, value_at}
use Rattle.kube_parts.specs.declared.uid.Uid.{Uid}
use Rattle.kube_parts.specs.declared.parts.Modes.{Modes}
use Rattle.kube_parts.specs.declared.parts.VolumePhase.{VolumePhase}
use Rattle.kube_parts.specs.declared.parts.VolumePhase.TheVariants as phases
use Rattle.kube_parts.specs.declared.parts.ClaimPhase.{ClaimPhase}
use Rattle.kube_parts.specs.declared.parts.ClaimPhase.TheVariants as claims
use Rattle.kube_parts.specs.declared.parts.Policy.{Policy}
use Rattle.kube_parts.specs.declared.parts.Policy.TheVariants as policies
use Rattle.kube_objects.specs.declared.objects.Meta.{Meta}
use Rattle.kube_objects.specs.declared.objects.Ref.{Ref}
use Rattle.kube_objects.specs.declared.objects.Volume.{Volume}
use Rattle.kube_objects.specs.declared.objects.Claim.{Claim}
use Rattle.kube_objects.specs.declared.objects.Pod.{Pod}
use Rattle.kube_objects.specs.declared.objects.Object.{Object}
use Rattle.kube_objects.specs.declared.objects.Object.TheVariants as objects

-- the claim's binding was decided, by the controller or by a user: the volume is Bound and the claim names it. The claim's
-- status may still be to be written
abbrev pub bind_completed : List ℕ
bind_completed = codes "pv.kubernetes.io/bind-completed"

-- the controller made the binding, so it may take it back
abbrev pub bound_by_controller : List ℕ
bound_by_controller = codes "pv.kubernetes.io/bound-by-controller"

-- the provisioner that made the volume
abbrev pub provisioned_by : List ℕ
provisioned_by = codes "pv.kubernetes.io/provisioned-by"

-- the node that the scheduler chose for the claim's first pod
abbrev pub selected_node : List ℕ
selected_node = codes "volume.kubernetes.io/selected-node"

-- the class is that of claims which name none
abbrev pub is_default_class : List ℕ
is_default_class = codes "storageclass.kubernetes.io/is-default-class"

-- the older place of a class's name
abbrev pub beta_class : List ℕ
beta_class = codes "volume.beta.kubernetes.io/storage-class"

-- the finalizer that keeps a claim while a pod uses it
abbrev pub pvc_protection : List ℕ
pvc_protection = codes "kubernetes.io/pvc-protection"

-- the finalizer that keeps a volume while it is bound to a claim
abbrev pub pv_protection : List ℕ
pv_protection = codes "kubernetes.io/pv-protection"

-- the value of the first two annotations
abbrev pub yes : List ℕ
yes = codes "yes"

-- the provisioner that provisions nothing
abbrev pub no_provisioner : List ℕ
no_provisioner = codes "kubernetes.io/no-provisioner"

-- the text is empty, so that nothing is named
abbrev pub is_empty : List ℕ → Bool
is_empty [] = true
is_empty (x ∷ xs) = false

-- the annotation or label is there, with whatever value
abbrev pub has_key : List ℕ → List Pair → Bool
has_key key pairs = is_some (value_at key pairs)

-- the name stands in the list
abbrev pub has_name : List ℕ → List (List ℕ) → Bool
has_name name names = list_any (λ n. bytes_eq n name) names

-- the annotation, else the field, else the empty text
abbrev pub class_of_volume : Volume → List ℕ
class_of_volume v = unwrap_or (value_at beta_class v.meta.annotations) v.class

-- the class of a claim: the older annotation, else the field, else the empty text
abbrev pub class_of_claim : Claim → List ℕ
class_of_claim c = unwrap_or (value_at beta_class c.meta.annotations) (unwrap_or c.class [])

-- the claim's binding is completed: it has the annotation for it, with whatever value
abbrev pub is_completed : Claim → Bool
is_completed c = has_key bind_completed c.meta.annotations

-- the claim names no class, neither in its spec nor in the older annotation. The empty class is a class
abbrev pub lacks_class : Claim → Bool
lacks_class c = is_none c.class && not (has_key beta_class c.meta.annotations)

-- the object is deleting: it has a deletion timestamp
abbrev pub is_deleting : Meta → Bool
is_deleting m = is_some m.deleted

-- the pod is assigned to a node
abbrev pub is_scheduled : Pod → Bool
is_scheduled p = not (is_empty p.node)

-- a pod of the claim's namespace that a node runs or is to run, and that names the claim
abbrev pub uses : Claim → Object → Bool
uses c (objects.Pod p) = is_scheduled p && bytes_eq p.meta.namespace c.meta.namespace && has_name c.meta.name p.claims
uses c o = false

-- the volume has its protection finalizer
abbrev pub is_protected_volume : Volume → Bool
is_protected_volume v = has_name pv_protection v.meta.finalizers

-- the claim has its protection finalizer
abbrev pub is_protected_claim : Claim → Bool
is_protected_claim c = has_name pvc_protection c.meta.finalizers

-- one of the two phases after Bound
abbrev pub is_ended : VolumePhase → Bool
is_ended phases.Released = true
is_ended phases.Failed = true
is_ended _ = false

-- the volume's phase is Bound
abbrev pub is_bound : VolumePhase → Bool
is_bound phases.Bound = true
is_bound _ = false

-- the claim's phase is Lost: its volume is gone, or is another claim's
abbrev pub is_lost : ClaimPhase → Bool
is_lost claims.Lost = true
is_lost _ = false

-- the volume's phase is Available: it is free for a claim
abbrev pub is_available : VolumePhase → Bool
is_available phases.Available = true
is_available _ = false

-- the reclaim policy is Delete
abbrev pub is_delete : Policy → Bool
is_delete policies.Delete = true
is_delete _ = false

-- the UID is this one
abbrev pub is_uid : Option Uid → Uid → Bool
is_uid None u = false
is_uid (Some v) u = v.0 == u.0

-- the reference has the claim's namespace and name
abbrev pub names_claim : Ref → Claim → Bool
names_claim r c = bytes_eq r.namespace c.meta.namespace && bytes_eq r.name c.meta.name

-- the UID of a reference is the claim's, or the reference has none
abbrev pub uid_fits : Option Uid → Claim → Bool
uid_fits None c = true
uid_fits (Some u) c = is_uid c.meta.uid u

-- the UID of a reference is there, and is the claim's
abbrev pub uid_carries : Option Uid → Claim → Bool
uid_carries None c = false
uid_carries (Some u) c = is_uid c.meta.uid u

-- the reference is to this claim, or to any of its name
abbrev pub refers_for : Option Ref → Claim → Bool
refers_for None c = false
refers_for (Some r) c = names_claim r c && uid_fits r.uid c

-- the reference is to this very claim, by name and UID
abbrev pub refers_carrying : Option Ref → Claim → Bool
refers_carrying None c = false
refers_carrying (Some r) c = names_claim r c && uid_carries r.uid c

-- the volume's reference has the claim's namespace and name, and its UID or none
abbrev pub is_for : Volume → Claim → Bool
is_for v c = refers_for v.claim_ref c

-- the UID is there too
abbrev pub carries : Volume → Claim → Bool
carries v c = refers_carrying v.claim_ref c

-- the UID in the reference, if any
abbrev pub ref_uid : Option Ref → Option Uid
ref_uid None = None
ref_uid (Some r) = r.uid

-- one for an access mode that is there
abbrev pub count_one : Bool → ℕ
count_one true = 1
count_one false = 0

-- how many access modes there are
abbrev pub mode_count : Modes → ℕ
mode_count m = count_one m.rwo + count_one m.rox + count_one m.rwx + count_one m.rwop
