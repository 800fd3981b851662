-- One step of a turn: a claim's own volume is attached where that is asked for, and the call is noted.
-- A choice of this project.
use Rattle.std.specs.Prelude.{ℕ, ◌≡◌, ◌++◌, ◌&&◌, not, if◌then◌else◌, List, [], ◌∷◌, Option, Some, None}
use Rattle.kube_parts.specs.declared.uid.Uid.{Uid}
use Rattle.kube_objects.specs.declared.objects.Pod.{Pod as PodData}
use Rattle.kube_objects.specs.declared.objects.Object.{Object}
use Rattle.kube_objects.specs.declared.objects.Object.TheVariants.{Pod}
use Rattle.kube_objects.specs.Bindings.{is_deleting, is_scheduled}
use Rattle.binder_model.specs.World.{World}
use Rattle.attach_law.specs.declared.attachment.Attachment.{Attachment}
use Rattle.attach_law.specs.declared.attachment.AttachAsk.{AttachAsk}
use Rattle.attach_law.specs.declared.attachment.AttachAsk.TheVariants.{Attach}
use Rattle.attach_law.specs.Asks.{Makes, after_ask}

-- the volume of this UID, if any, is to be attached to the node
abbrev pub ask_to : List ℕ → Option Uid → Option AttachAsk
ask_to node None = None
ask_to node (Some u) = Some (Attach u node)

-- with these calls before, the calls after are those of a turn so far
abbrev pub Continues : World → List AttachAsk → List Attachment → List AttachAsk → List Attachment → Type 0
Continues w asks att more new = (start : List Attachment) → Makes w start asks att → Makes w start more new

-- the call is made and noted, if there is one
abbrev pub IsTried : World → Option AttachAsk → List Attachment → List AttachAsk → List Attachment → List AttachAsk → Type 0
IsTried w None att asks new more = (new ≡ att) × (more ≡ asks)
IsTried w (Some ask) att asks new more = (new ≡ after_ask w ask att) × (more ≡ asks ++ ask ∷ [])

-- the pod that is the object, where it is scheduled and not deleting
abbrev pub pod_that_asks : Object → Option PodData
pod_that_asks (Pod p) = if is_scheduled p && not (is_deleting p.meta) then Some p else None
pod_that_asks o = None
