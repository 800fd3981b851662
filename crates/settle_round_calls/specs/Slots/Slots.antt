-- How many calls a slot makes at most, by what each object costs an actor of this role and by the writes of the slot.
-- A choice of this project.
use Rattle.std.specs.Prelude.{ℕ, ◌+◌, ◌*◌, ◌-◌, List, [], ◌∷◌, length, if◌then◌else◌}
use Rattle.kube_objects.specs.declared.objects.Object.{Object}
use Rattle.kube_objects.specs.declared.objects.Object.TheVariants.{Volume}
use Rattle.kube_objects.specs.Bindings.{is_ended}
use Rattle.call_types.specs.declared.request.SeatKind.{SeatKind}
use Rattle.settle_measure.specs.Left.Measure.{claims_in, total}
use Rattle.worker_core.specs.Roles.{kinds_of}
use Rattle.settle_round_calls.specs.Slots.Costs.{made_calls, own_calls}

-- what all objects cost an actor, with a volume that may be made for each claim
abbrev pub objects_calls : SeatKind → List Object → ℕ
objects_calls kind rows = total (own_calls kind) rows + claims_in rows * made_calls kind

-- what it costs beyond the calls that 513 writes have left, seven each, that all kinds are listed again behind these and all keys are decided again
unfoldable pub again_calls : SeatKind → List Object → ℕ
again_calls kind rows = (objects_calls kind rows + length (kinds_of kind) * (2 + length (kinds_of kind))) - 7 * 513

-- ---- the provisioner and reclaimer

-- how many volumes have ended
abbrev pub ended_in : List Object → ℕ
ended_in [] = 0
ended_in (Volume v ∷ os) = (if is_ended v.phase then 1 else 0) + ended_in os
ended_in (o ∷ os) = ended_in os

-- what it costs beyond the calls that 513 writes have left that its four kinds are listed again, where these objects stand
unfoldable pub ops_sweep_calls : List Object → ℕ
ops_sweep_calls rows = (2 * claims_in rows + 3 * ended_in rows + 24) - 7 * 513
