-- What all objects may cost an actor is no more than what they cost an agent: three for each object and each claim that is named.
use Rattle.std.proofs.Common.{ℕ, ◌+◌, ◌*◌, ◌≤◌, List, [], ◌∷◌, arith}
use Rattle.kube_objects.specs.declared.objects.Object.{Object}
use Rattle.kube_objects.specs.declared.objects.Object.TheVariants.{Class, Node, Volume, Claim, Pod}
use Rattle.call_types.specs.declared.request.SeatKind.{SeatKind}
use Rattle.call_types.specs.declared.request.SeatKind.TheVariants as seats
use Rattle.settle_measure.specs.Left.Measure.{total}
use Rattle.settle_calls.specs.Tasks.Costs.{calls_for}
use Rattle.settle_calls.specs.Slots.Rounds.{names_in}

-- no actor's cost is more than an agent's
pub cheaper : (kind : SeatKind) (o : Object) → calls_for kind o ≤ calls_for seats.Agent o
cheaper kind (Class x) = omega arith
cheaper kind (Node x) = omega arith
cheaper kind (Volume v) = omega arith
cheaper kind (Claim c) = omega arith
cheaper seats.Agent (Pod p) = omega arith
cheaper seats.User (Pod p) = omega arith
cheaper seats.Binder (Pod p) = omega arith
cheaper seats.Ops (Pod p) = omega arith
cheaper seats.Scheduler (Pod p) = omega arith
cheaper seats.ClaimProtect (Pod p) = omega arith
cheaper seats.VolumeProtect (Pod p) = omega arith

pub total_less : (f g : Object → ℕ) (rows : List Object) → ((o : Object) → g o ≤ f o) → total g rows ≤ total f rows
total_less f g [] each = omega arith
total_less f g (o ∷ os) each = let a = each o in let b = total_less f g os each in omega (arith, a, b)

-- and an agent's is three for each object and each claim that is named
sized : (o : Object) → calls_for seats.Agent o ≤ 3 * (1 + names_in o)
sized (Class x) = omega arith
sized (Node x) = omega arith
sized (Volume v) = omega arith
sized (Claim c) = omega arith
sized (Pod p) = omega arith

pub total_sized : (rows : List Object) → total (calls_for seats.Agent) rows ≤ 3 * total (λ o. 1 + names_in o) rows
total_sized [] = omega arith
total_sized (o ∷ os) = let a = sized o in let b = total_sized os in omega (arith, a, b)
