-- How many calls an object costs an actor of each role, beside those after a write that was done.
-- A choice of this project.
use Rattle.std.specs.Prelude.{ℕ, ◌+◌, ◌*◌, length, if◌then◌else◌}
use Rattle.kube_objects.specs.declared.objects.Object.{Object}
use Rattle.kube_objects.specs.declared.objects.Object.TheVariants.{Class, Node, Volume, Claim, Pod}
use Rattle.kube_objects.specs.declared.objects.Pod.{Pod as PodData}
use Rattle.kube_objects.specs.declared.objects.Volume.{Volume as VolumeData}
use Rattle.kube_objects.specs.Bindings.{is_ended}
use Rattle.call_types.specs.declared.request.SeatKind.{SeatKind}
use Rattle.call_types.specs.declared.request.SeatKind.TheVariants as seats

-- how many calls the decision on a volume, a claim or a pod comes to at most, by the role of the actor, but for those after a write that was done:
-- on the volume that is made for a claim, which has not ended
abbrev pub made_calls : SeatKind → ℕ
made_calls seats.Binder = 3
made_calls seats.VolumeProtect = 1
made_calls kind = 0

-- and on any volume: ops acts on one that has ended alone
abbrev pub volume_calls : SeatKind → VolumeData → ℕ
volume_calls seats.Ops v = if is_ended v.phase then 3 else 0
volume_calls kind v = made_calls kind

-- on a claim
abbrev pub claim_calls : SeatKind → ℕ
claim_calls seats.Binder = 2
claim_calls seats.Ops = 2
claim_calls seats.ClaimProtect = 2
claim_calls kind = 0

-- an agent reads each claim of a pod and its volume
abbrev pub pod_calls : SeatKind → PodData → ℕ
pod_calls seats.Scheduler p = 1
pod_calls seats.Agent p = 3 + 2 * length p.claims
pod_calls kind p = 0

-- so much an object costs the actor
abbrev pub own_calls : SeatKind → Object → ℕ
own_calls kind (Class x) = 0
own_calls kind (Node x) = 0
own_calls kind (Volume v) = volume_calls kind v
own_calls kind (Claim c) = claim_calls kind
own_calls kind (Pod p) = pod_calls kind p
