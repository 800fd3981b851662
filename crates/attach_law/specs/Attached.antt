-- What it means that volumes stand attached to nodes, which requests pass then, and what is to hold of attachments.
-- Source: Kubernetes API reference, VolumeAttachment of `storage.k8s.io/v1`: a volume is attached to a node, or is not. That a Mount
-- waits at a gate until its volumes are attached is a choice of this project.
use Rattle.std.specs.Prelude.{ℕ, ◌≡◌, ◌≢◌, Bool, true, false, ◌&&◌, List, [], ◌∷◌, Option, Some, None, bytes_eq, if◌then◌else◌}
use Rattle.std.specs.List.{list_all, list_any}
use Rattle.kube_parts.specs.declared.uid.Uid.{Uid}
use Rattle.kube_objects.specs.declared.objects.Volume.{Volume as VolumeData}
use Rattle.kube_objects.specs.declared.objects.Claim.{Claim as ClaimData}
use Rattle.kube_objects.specs.declared.objects.Object.{Object}
use Rattle.kube_objects.specs.declared.objects.Object.TheVariants.{Class, Node, Volume, Claim, Pod}
use Rattle.kube_objects.specs.Keys.{row_at}
use Rattle.kube_objects.specs.Bindings.{carries, is_uid}
use Rattle.call_types.specs.declared.request.Request.{Request}
use Rattle.call_types.specs.declared.request.Request.TheVariants.{Mount}
use Rattle.binder_model.specs.Devices.{MountAt}
use Rattle.binder_model.specs.ObjectKeys.{volume_key}
use Rattle.binder_model.specs.Same.{same_uid}
use Rattle.binder_model.specs.Told.{SomeOf}
use Rattle.binder_model.specs.World.{World}
use Rattle.attach_law.specs.declared.attachment.Attachment.{Attachment}

-- ---- objects by UID

-- the first volume of this UID. In a history there is one at most
abbrev pub volume_with : Uid → List Object → Option VolumeData
volume_with u [] = None
volume_with u (Volume v ∷ os) = if is_uid v.meta.uid u then Some v else volume_with u os
volume_with u (Class o ∷ os) = volume_with u os
volume_with u (Node o ∷ os) = volume_with u os
volume_with u (Claim o ∷ os) = volume_with u os
volume_with u (Pod o ∷ os) = volume_with u os

-- the first claim of this UID
abbrev pub claim_with : Uid → List Object → Option ClaimData
claim_with u [] = None
claim_with u (Claim c ∷ os) = if is_uid c.meta.uid u then Some c else claim_with u os
claim_with u (Class o ∷ os) = claim_with u os
claim_with u (Node o ∷ os) = claim_with u os
claim_with u (Volume o ∷ os) = claim_with u os
claim_with u (Pod o ∷ os) = claim_with u os

-- what stands under a name is a volume, and it carries the claim
abbrev pub own_in : ClaimData → Option Object → Option VolumeData
own_in c (Some (Volume v)) = if carries v c then Some v else None
own_in c _ = None

-- a claim's own volume: the one that the claim names, where it carries the claim
abbrev pub own_volume : List Object → ClaimData → Option VolumeData
own_volume rows c = own_in c (row_at (volume_key c.volume_name) rows)

-- ---- what is attached

-- the attachment is of this volume, and to this node
abbrev pub is_of : Uid → List ℕ → Attachment → Bool
is_of u node a = same_uid a.volume u && bytes_eq a.node node

-- the volume of this UID is attached to the node
abbrev pub is_attached : Uid → List ℕ → List Attachment → Bool
is_attached u node att = list_any (is_of u node) att

-- there is a UID, and it is that of a volume that is attached to the node
abbrev pub is_uid_attached : Option Uid → List ℕ → List Attachment → Bool
is_uid_attached None node att = false
is_uid_attached (Some u) node att = is_attached u node att

-- there is a volume, and it is attached to the node
abbrev pub is_volume_attached : Option VolumeData → List ℕ → List Attachment → Bool
is_volume_attached None node att = false
is_volume_attached (Some v) node att = is_uid_attached v.meta.uid node att

-- there is a claim, and its own volume is attached to the node
abbrev pub is_claim_attached : List Object → Option ClaimData → List ℕ → List Attachment → Bool
is_claim_attached rows None node att = false
is_claim_attached rows (Some c) node att = is_volume_attached (own_volume rows c) node att

-- all requests pass but this: a Mount of a claim whose own volume is not attached to the Mount's node
abbrev pub passes : List Object → List Attachment → Request → Bool
passes rows att (Mount node epoch pod claims) = list_all (λ u. is_claim_attached rows (claim_with u rows) node att) claims
passes rows att request = true

-- ---- what is to hold

-- the attachment is one of these
abbrev pub IsAmong : Attachment → List Attachment → Type 0
IsAmong a att = SomeOf (λ x. x ≡ a) att

-- where one volume is attached to two nodes, both attachments were made under modes that allow it
abbrev pub AreApart : List Attachment → Type 0
AreApart att =
    (a b : Attachment) → IsAmong a att → IsAmong b att → a.volume ≡ b.volume → a.node ≢ b.node
    → (a.many ≡ true) × (b.many ≡ true)

-- each claim of each mount has its own volume attached to the node of the mount
abbrev pub AreCarried : World → List Attachment → Type 0
AreCarried w att =
    (m : MountAt) (u : Uid) → SomeOf (λ x. x ≡ m) w.devices.mounts → SomeOf (λ x. x ≡ u) m.row.claims
    → is_claim_attached w.store.rows (claim_with u w.store.rows) m.node att ≡ true
