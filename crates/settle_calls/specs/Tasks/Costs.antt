-- What is still to be called for: how many calls a task may still make, how many the keys that wait may come to. A call that writes is
-- counted with the writes, and not here.
-- A choice of this project.
use Rattle.std.specs.Prelude.{ℕ, ◌+◌, ◌*◌, List, [], ◌∷◌, Option, Some, None, length, if◌then◌else◌}
use Rattle.kube_objects.specs.declared.key.Key.{Key}
use Rattle.kube_objects.specs.declared.objects.Object.{Object}
use Rattle.kube_objects.specs.declared.objects.Pod.{Pod as PodData}
use Rattle.kube_objects.specs.declared.objects.Object.TheVariants.{Class, Node, Volume, Claim, Pod}
use Rattle.kube_objects.specs.Keys.{row_at}
use Rattle.call_types.specs.declared.request.SeatKind.{SeatKind}
use Rattle.call_types.specs.declared.request.SeatKind.TheVariants as seats
use Rattle.sync_queue.specs.Work.{Taken, Work}

-- how many calls the decision on the object comes to at most, but for those after a write that was done: an agent reads each claim of a
-- pod and its volume
abbrev pub pod_calls : SeatKind → PodData → ℕ
pod_calls seats.Agent p = 3 + 2 * length p.claims
pod_calls kind p = 1

-- the decision on an object; a class and a node need none
abbrev pub calls_for : SeatKind → Object → ℕ
calls_for kind (Class x) = 0
calls_for kind (Node x) = 0
calls_for kind (Volume v) = 3
calls_for kind (Claim c) = 3
calls_for kind (Pod p) = pod_calls kind p

-- the decision on what stands under a key, if anything does
abbrev pub calls_if : SeatKind → Option Object → ℕ
calls_if kind None = 0
calls_if kind (Some o) = calls_for kind o

-- the decision on a key, by the object that stands there
abbrev pub key_cost : SeatKind → List Object → Key → ℕ
key_cost kind rows key = calls_if kind (row_at key rows)

-- the sum of a cost over keys
abbrev pub keys_cost : (Key → ℕ) → List Key → ℕ
keys_cost cost [] = 0
keys_cost cost (key ∷ keys) = cost key + keys_cost cost keys

-- the keys in work that come again
abbrev pub again_cost : (Key → ℕ) → List Taken → ℕ
again_cost cost [] = 0
again_cost cost (t ∷ ts) = (if t.again then cost t.key else 0) + again_cost cost ts

-- the keys that wait, and that will
abbrev pub work_cost : (Key → ℕ) → Work → ℕ
work_cost cost w = keys_cost cost w.waiting + again_cost cost w.taken
