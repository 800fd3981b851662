-- Which volume is to be detached or attached next, and which Mounts wait for a volume that no attach can bring.
-- Source: the attach and detach controller of Kubernetes, which attaches the volumes of the pods that are scheduled on a node, and
-- detaches those that none of them uses. The order is a choice of this project.
use Rattle.std.specs.Prelude.{ℕ, Bool, false, not, ◌&&◌, List, [], ◌∷◌, Option, Some, None, bytes_eq, is_none, is_some, if◌then◌else◌}
use Rattle.std.specs.List.{list_any}
use Rattle.kube_parts.specs.declared.names.Due.{Due}
use Rattle.kube_parts.specs.declared.names.Due.TheVariants as dues
use Rattle.kube_parts.specs.declared.uid.Uid.{Uid}
use Rattle.kube_objects.specs.declared.objects.Claim.{Claim as ClaimData}
use Rattle.kube_objects.specs.declared.objects.Pod.{Pod as PodData}
use Rattle.kube_objects.specs.declared.objects.Volume.{Volume as VolumeData}
use Rattle.kube_objects.specs.declared.objects.Object.{Object}
use Rattle.kube_objects.specs.declared.objects.Object.TheVariants.{Claim, Pod}
use Rattle.kube_objects.specs.Bindings.{carries, is_completed, is_deleting, is_scheduled, uses}
use Rattle.binder_model.specs.Choice.{claim_named}
use Rattle.binder_model.specs.Devices.{rows_on}
use Rattle.binder_model.specs.Told.{first_some}
use Rattle.binder_model.specs.World.{World}
use Rattle.attach_law.specs.declared.attachment.Attachment.{Attachment}
use Rattle.attach_law.specs.declared.attachment.AttachAsk.{AttachAsk}
use Rattle.attach_law.specs.declared.attachment.AttachAsk.TheVariants.{Attach, Detach}
use Rattle.attach_law.specs.Attached.{is_attached, own_volume, volume_with}
use Rattle.attach_law.specs.Calls.{attach_fault, user_of}

-- ---- detach

-- the object is a pod that is scheduled on the node and uses the claim
abbrev pub is_user_on : List ℕ → ClaimData → Object → Bool
is_user_on node c (Pod p) = bytes_eq p.node node && uses c (Pod p)
is_user_on node c o = false

-- the object is a claim that the volume carries, and such a pod uses it
abbrev pub is_used_claim : List Object → VolumeData → List ℕ → Object → Bool
is_used_claim rows v node (Claim c) = carries v c && list_any (is_user_on node c) rows
is_used_claim rows v node o = false

-- there is a volume, and it carries such a claim
abbrev pub is_used : List Object → Option VolumeData → List ℕ → Bool
is_used rows None node = false
is_used rows (Some v) node = list_any (is_used_claim rows v node) rows

-- no pod that is scheduled on the node uses the volume, and no mount there has it
abbrev pub is_idle : World → Attachment → Bool
is_idle w a =
    not (is_used w.store.rows (volume_with a.volume w.store.rows) a.node)
    && is_none (user_of w.store.rows a.volume (rows_on a.node w.devices.mounts))

-- the first idle one is to be detached
abbrev pub first_idle : World → List Attachment → Option AttachAsk
first_idle w [] = None
first_idle w (a ∷ rest) = if is_idle w a then Some (Detach a.volume a.node) else first_idle w rest

-- ---- attach

-- the volume is to be attached: it is not attached to the node, and attach would not refuse it
abbrev pub ask_for_uid : List Object → List Attachment → List ℕ → Option Uid → Option AttachAsk
ask_for_uid rows att node None = None
ask_for_uid rows att node (Some u) = if not (is_attached u node att) && is_none (attach_fault rows u node att) then Some (Attach u node) else None

-- so of a volume that may be absent
abbrev pub ask_for_volume : List Object → List Attachment → List ℕ → Option VolumeData → Option AttachAsk
ask_for_volume rows att node None = None
ask_for_volume rows att node (Some v) = ask_for_uid rows att node v.meta.uid

-- so of the own volume of a claim, where the claim is completed
abbrev pub ask_for_claim : List Object → List Attachment → List ℕ → Option ClaimData → Option AttachAsk
ask_for_claim rows att node None = None
ask_for_claim rows att node (Some c) = if is_completed c then ask_for_volume rows att node (own_volume rows c) else None

-- so for the first of these claims of a pod
abbrev pub ask_for_names : List Object → List Attachment → PodData → List (List ℕ) → Option AttachAsk
ask_for_names rows att p [] = None
ask_for_names rows att p (name ∷ names) =
    first_some (ask_for_claim rows att p.node (claim_named rows p.meta.namespace name)) (ask_for_names rows att p names)

-- the object is a pod that is scheduled and not deleting, and so for its claims
abbrev pub ask_for : List Object → List Attachment → Object → Option AttachAsk
ask_for rows att (Pod p) = if is_scheduled p && not (is_deleting p.meta) then ask_for_names rows att p p.claims else None
ask_for rows att o = None

-- so for the first of these objects
abbrev pub first_asked : List Object → List Attachment → List Object → Option AttachAsk
first_asked rows att [] = None
first_asked rows att (o ∷ os) = first_some (ask_for rows att o) (first_asked rows att os)

-- ---- what is next

-- detaches come first
abbrev pub next : World → List Attachment → Option AttachAsk
next w att = first_some (first_idle w att) (first_asked w.store.rows att w.store.rows)

-- ---- what is held

-- the volume is blocked: it is not attached to the node, and attach would refuse it
abbrev pub is_blocked_uid : List Object → List Attachment → List ℕ → Option Uid → Bool
is_blocked_uid rows att node None = false
is_blocked_uid rows att node (Some u) = not (is_attached u node att) && is_some (attach_fault rows u node att)

-- so of a volume that may be absent
abbrev pub is_blocked_volume : List Object → List Attachment → List ℕ → Option VolumeData → Bool
is_blocked_volume rows att node None = false
is_blocked_volume rows att node (Some v) = is_blocked_uid rows att node v.meta.uid

-- so of the own volume of a claim
abbrev pub is_blocked : List Object → List Attachment → List ℕ → Option ClaimData → Bool
is_blocked rows att node None = false
is_blocked rows att node (Some c) = is_blocked_volume rows att node (own_volume rows c)

-- what is due is held where it is the Mount of a pod, and one of the pod's claims is blocked on its node
abbrev pub holds : List Object → List Attachment → Object → Due → Bool
holds rows att (Pod p) dues.Mount = list_any (λ name. is_blocked rows att p.node (claim_named rows p.meta.namespace name)) p.claims
holds rows att o action = false
