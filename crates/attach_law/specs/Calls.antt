-- Attach and detach: when each is refused, and what is attached afterwards.
-- Source: the attach and detach controller of Kubernetes, which attaches a volume to a second node only where its access modes have
-- ReadOnlyMany or ReadWriteMany (`IsMultiAttachAllowed` of `pkg/volume/util`), and detaches none that is mounted. The order of the
-- list, the order of the refusals and what they tell are a choice of this project.
use Rattle.std.specs.Prelude.{ℕ, Bool, false, not, ◌&&◌, ◌||◌, List, [], ◌∷◌, Option, Some, None, bytes_eq, filter, if◌then◌else◌}
use Rattle.std.specs.List.{list_any}
use Rattle.std.specs.Ordering.{is_gt, is_lt}
use Rattle.plain_data.specs.Pairs.{text_cmp}
use Rattle.kube_parts.specs.declared.uid.Uid.{Uid}
use Rattle.kube_parts.specs.declared.parts.Modes.{Modes}
use Rattle.kube_objects.specs.declared.objects.Volume.{Volume as VolumeData}
use Rattle.kube_objects.specs.declared.objects.Claim.{Claim as ClaimData}
use Rattle.kube_objects.specs.declared.objects.Object.{Object}
use Rattle.kube_objects.specs.Bindings.{carries}
use Rattle.call_types.specs.declared.reply.MountRow.{MountRow}
use Rattle.binder_model.specs.Devices.{rows_on}
use Rattle.binder_model.specs.Same.{same_uid}
use Rattle.binder_model.specs.World.{World}
use Rattle.attach_law.specs.declared.attachment.Attachment.{Attachment}
use Rattle.attach_law.specs.Attached.{claim_with, is_attached, is_of, volume_with}

-- why a volume is not attached, or not detached: no volume has the UID; it is attached to this other node, which forbids that; it is
-- not attached to the node; this pod has it mounted there
pub data AttachRefusal : Type 0 where
  NoVolume : AttachRefusal
  MultiAttach : List ℕ → AttachRefusal
  NotAttached : AttachRefusal
  InUse : Uid → AttachRefusal

-- what was attached stays after a refusal
abbrev pub unless_refused : Option AttachRefusal → List Attachment → List Attachment → List Attachment
unless_refused None new att = new
unless_refused (Some why) new att = att

-- ---- attach

-- the modes allow several nodes
abbrev pub has_many : Modes → Bool
has_many m = m.rox || m.rwx

-- the attachment forbids that the volume, whose modes now say `many`, comes to this node: it is to another node, and one of the two is
-- not for several
abbrev pub forbids : Uid → List ℕ → Bool → Attachment → Bool
forbids u node many a = same_uid a.volume u && not (bytes_eq a.node node) && not (a.many && many)

-- the lesser of two names, of which the second may be absent
abbrev pub lesser : List ℕ → Option (List ℕ) → Option (List ℕ)
lesser n None = Some n
lesser n (Some m) = if is_gt (text_cmp n m) then Some m else Some n

-- the least node by name that is attached to
abbrev pub least_node : List Attachment → Option (List ℕ)
least_node [] = None
least_node (a ∷ rest) = lesser a.node (least_node rest)

-- a node that forbids is a refusal
abbrev pub multi_fault : Option (List ℕ) → Option AttachRefusal
multi_fault None = None
multi_fault (Some node) = Some (MultiAttach node)

-- why this volume is not attached to the node. A volume that is attached there already may be refused too
abbrev pub attach_fault_of : Option VolumeData → Uid → List ℕ → List Attachment → Option AttachRefusal
attach_fault_of None u node att = Some NoVolume
attach_fault_of (Some v) u node att = multi_fault (least_node (filter (forbids u node (has_many v.modes)) att))

-- why the volume of this UID is not attached to the node
abbrev pub attach_fault : List Object → Uid → List ℕ → List Attachment → Option AttachRefusal
attach_fault rows u node att = attach_fault_of (volume_with u rows) u node att

-- in order of the volume's name, and then of the node
abbrev pub stands_before : Attachment → Attachment → Bool
stands_before a b = if bytes_eq a.name b.name then is_lt (text_cmp a.node b.node) else is_lt (text_cmp a.name b.name)

-- the new one comes in front of the first that does not stand before it
abbrev pub put_attachment : Attachment → List Attachment → List Attachment
put_attachment new [] = new ∷ []
put_attachment new (a ∷ rest) = if stands_before a new then a ∷ put_attachment new rest else new ∷ a ∷ rest

-- the attachment that a volume gets, by its modes now
abbrev pub new_attachment : VolumeData → Uid → List ℕ → Attachment
new_attachment v u node = record { volume = u; name = v.meta.name; node = node; many = has_many v.modes }

-- with the volume attached. One that is attached already stays as it was attached
abbrev pub attach_new : Option VolumeData → Uid → List ℕ → List Attachment → List Attachment
attach_new None u node att = att
attach_new (Some v) u node att = if is_attached u node att then att else put_attachment (new_attachment v u node) att

-- what is attached after attach
abbrev pub after_attach : List Object → Uid → List ℕ → List Attachment → List Attachment
after_attach rows u node att = unless_refused (attach_fault rows u node att) (attach_new (volume_with u rows) u node att) att

-- ---- detach

-- both are there, and the volume carries the claim
abbrev pub carries_some : Option VolumeData → Option ClaimData → Bool
carries_some (Some v) (Some c) = carries v c
carries_some v c = false

-- the second UID is that of a claim which the volume of the first carries
abbrev pub carries_uid : List Object → Uid → Uid → Bool
carries_uid rows u x = carries_some (volume_with u rows) (claim_with x rows)

-- one of the claims of the mount is carried by the volume
abbrev pub mounts_volume : List Object → Uid → MountRow → Bool
mounts_volume rows u r = list_any (carries_uid rows u) r.claims

-- the pod of the first such mount
abbrev pub user_of : List Object → Uid → List MountRow → Option Uid
user_of rows u [] = None
user_of rows u (r ∷ rs) = if mounts_volume rows u r then Some r.pod else user_of rows u rs

-- a pod that has the volume mounted is a refusal
abbrev pub in_use : Option Uid → Option AttachRefusal
in_use None = None
in_use (Some pod) = Some (InUse pod)

-- why the volume is not detached from the node
abbrev pub detach_fault : World → Uid → List ℕ → List Attachment → Option AttachRefusal
detach_fault w u node att = if is_attached u node att then in_use (user_of w.store.rows u (rows_on node w.devices.mounts)) else Some NotAttached

-- without what is of this volume and to this node
abbrev pub without_attachment : Uid → List ℕ → List Attachment → List Attachment
without_attachment u node att = filter (λ a. not (is_of u node a)) att

-- what is attached after detach
abbrev pub after_detach : World → Uid → List ℕ → List Attachment → List Attachment
after_detach w u node att = unless_refused (detach_fault w u node att) (without_attachment u node att) att
