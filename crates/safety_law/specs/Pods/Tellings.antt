-- How a seat is told of pods: by lists of all of them, and by watches. A choice of this project.
-- Its own entries stand newest first.
use Rattle.std.specs.Prelude.{◌≡◌, ◌⊎◌, Bool, true, false, ◌&&◌, List, [], ◌∷◌, ⊤}
use Rattle.std.specs.List.{list_any}
use Rattle.kube_parts.specs.declared.parts.Kind.TheVariants as kinds
use Rattle.kube_objects.specs.declared.objects.Object.{Object}
use Rattle.kube_objects.specs.declared.objects.Object.TheVariants.{Pod}
use Rattle.call_types.specs.declared.entry.Entry.{Entry}
use Rattle.call_types.specs.declared.setup.Setup.{Setup}
use Rattle.call_types.specs.declared.request.Request.{Request}
use Rattle.call_types.specs.declared.request.Request.TheVariants as requests
use Rattle.call_types.specs.declared.request.SeatKind.TheVariants.{Agent}
use Rattle.binder_model.specs.AgentLicence.{is_pod_list}
use Rattle.binder_model.specs.Licence.{Licensed}
use Rattle.binder_model.specs.Told.{objects_in}
use Rattle.binder_model.specs.World.{effect, reply_to, world}

-- the object is a pod
abbrev pub is_pod : Object → Bool
is_pod (Pod p) = true
is_pod o = false

-- the entry tells a pod
abbrev pub tells_pod : Entry → Bool
tells_pod e = e.told && list_any is_pod (objects_in e.reply)

-- the request is a watch of the pods
abbrev pub is_watch_of_pods : Request → Bool
is_watch_of_pods (requests.Watch kinds.Pod from) = true
is_watch_of_pods request = false

-- where the entry tells a pod, it is a list of all pods or a watch of them
abbrev pub TellsByRead : Entry → Type 0
TellsByRead e = tells_pod e ≡ true → (is_pod_list e.request e.reply ≡ true) ⊎ (is_watch_of_pods e.request ≡ true)

-- pods are told by lists of all of them and by watches alone
abbrev pub AreToldByReads : List Entry → Type 0
AreToldByReads [] = ⊤
AreToldByReads (e ∷ mine) = TellsByRead e × AreToldByReads mine

-- What an agent may ask is so answered: its reads of single objects are of claims and volumes, and a pod that it finished has
-- left, so that the answer tells it no more
abbrev pub AgentsAreToldByReads : Type 0
AgentsAreToldByReads =
    (setup : Setup) (e : Entry) (past mine : List Entry)
    → e.reply ≡ reply_to (effect setup (world setup past) e.kind e.request) → Licensed Agent mine e.request → TellsByRead e
