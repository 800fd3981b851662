-- What an actor may rely on, whichever machines there are: no call of theirs lists or watches a whole kind, so that none counts as a
-- read of the actor's own; and the key that is queued in a volume's place is a claim's. A choice of this project.
use Rattle.std.specs.Prelude.{◌≡◌, false, List, Some}
use Rattle.kube_objects.specs.declared.key.Key.{Key}
use Rattle.kube_parts.specs.declared.parts.Kind.{Kind}
use Rattle.kube_parts.specs.declared.parts.Kind.TheVariants as kinds
use Rattle.kube_objects.specs.declared.objects.Object.{Object}
use Rattle.kube_objects.specs.Keys.{row_at}
use Rattle.call_types.specs.declared.request.Request.{Request}
use Rattle.call_types.specs.Kinds.{reads_kind}
use Rattle.binder_machines.specs.declared.decide.FirstMachine.TheVariants.{Queues}
use Rattle.binder_machines.specs.declared.machine.Machine.{Machine}
use Rattle.binder_machines.specs.FirstSteps.{IsFirst}
use Rattle.binder_machines.specs.Machines.{call_of}

-- the binder's calls for a key read no kind
abbrev pub CallsReadNoKind : Type 0
CallsReadNoKind = (machine : Machine) (request : Request) (kind : Kind) → call_of machine ≡ Some request → reads_kind kind request ≡ false

-- only a volume queues another key, and that key is a claim's
abbrev pub VolumesQueueClaims : Type 0
VolumesQueueClaims = (rows : List Object) (key other : Key) → IsFirst rows (row_at key rows) (Queues other) → (key.kind ≡ kinds.PersistentVolume) × (other.kind ≡ kinds.PersistentVolumeClaim)
