-- What an actor is: the kind of its seat, and the node that an agent serves; the kinds of objects that it follows; and which
-- kinds of seats have actors.
-- Source: the informers of each controller in Kubernetes. The order of the kinds is a choice of this project.
use Rattle.std.specs.Prelude.{ℕ, List, [], ◌∷◌, Option, slice_get, ⊤}
use Rattle.kube_parts.specs.declared.parts.Kind.{Kind}
use Rattle.kube_parts.specs.declared.parts.Kind.TheVariants as kinds
use Rattle.call_types.specs.declared.request.SeatKind.{SeatKind}
use Rattle.call_types.specs.declared.request.SeatKind.TheVariants as seats
use Rattle.worker_core.specs.declared.role.Role.{Role}

-- the kinds that an actor follows, in the order in which it lists and watches them
abbrev pub kinds_of : SeatKind → List Kind
kinds_of seats.User = []
kinds_of seats.Binder = kinds.PersistentVolume ∷ kinds.PersistentVolumeClaim ∷ kinds.StorageClass ∷ []
kinds_of seats.Ops = kinds.PersistentVolume ∷ kinds.PersistentVolumeClaim ∷ kinds.StorageClass ∷ kinds.Node ∷ []
kinds_of seats.Scheduler = kinds.PersistentVolume ∷ kinds.PersistentVolumeClaim ∷ kinds.StorageClass ∷ kinds.Node ∷ kinds.Pod ∷ []
kinds_of seats.ClaimProtect = kinds.PersistentVolumeClaim ∷ kinds.Pod ∷ []
kinds_of seats.VolumeProtect = kinds.PersistentVolume ∷ []
kinds_of seats.Agent = kinds.Pod ∷ []

-- the kinds of actors that are built: those of all controllers. A user is no actor
abbrev pub IsBuiltKind : SeatKind → Type 0
IsBuiltKind seats.User = ⊥
IsBuiltKind seats.Binder = ⊤
IsBuiltKind seats.Ops = ⊤
IsBuiltKind seats.Scheduler = ⊤
IsBuiltKind seats.ClaimProtect = ⊤
IsBuiltKind seats.VolumeProtect = ⊤
IsBuiltKind seats.Agent = ⊤

-- the kind at a place of this order
abbrev pub kind_in_order : Role → ℕ → Option Kind
kind_in_order role place = slice_get (kinds_of role.kind) place
