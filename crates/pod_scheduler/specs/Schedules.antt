-- What the scheduler has under way for one pod: the writes that prepare a node, or the one that binds the pod, made in order. Each
-- carries the version of the object on which the choice was made.
-- Source: `BindPodVolumes` and `bindAPIUpdate` of the scheduler's volume binding plugin, which makes the writes in order and gives up at the
-- first that fails.
use Rattle.std.specs.Prelude.{Bool, true, false, ◌+◌, ◌&&◌, nat_lt, List, Option, Some, None, length, slice_get, if◌then◌else◌}
use Rattle.kube_objects.specs.declared.objects.Object.TheVariants.{Volume, Claim}
use Rattle.call_types.specs.declared.request.Request.{Request}
use Rattle.call_types.specs.declared.request.Request.TheVariants as requests
use Rattle.call_types.specs.declared.reply.Reply.{Reply}
use Rattle.call_types.specs.declared.reply.Reply.TheVariants.{Done, Refused}
use Rattle.pod_scheduler.specs.declared.schedule.ScheduleOp.{ScheduleOp}
use Rattle.pod_scheduler.specs.declared.schedule.ScheduleStep.{ScheduleStep}
use Rattle.pod_scheduler.specs.declared.schedule.ScheduleStep.TheVariants as steps

-- the request updates an object or binds a pod. Each write of a choice does. So this test fails for no machine that a decision begins
abbrev pub is_write : Request → Bool
is_write (requests.Update new given) = true
is_write (requests.BindPod key uid node) = true
is_write request = false

-- the request, if it is a write
abbrev pub only_write : Option Request → Option Request
only_write None = None
only_write (Some request) = if is_write request then Some request else None

-- the call at a step
abbrev pub schedule_call_at : List Request → ScheduleStep → Option Request
schedule_call_at writes (steps.Writes place) = only_write (slice_get writes place)
schedule_call_at writes step = None

-- the next call, or none where nothing is left to be asked
unfoldable pub schedule_call : ScheduleOp → Option Request
schedule_call op = schedule_call_at op.writes op.step

-- a write of a volume or of a claim was done
abbrev pub is_written : Reply → Bool
is_written (Done (Volume v)) = true
is_written (Done (Claim c)) = true
is_written reply = false

-- the reply is a refusal
abbrev pub is_refused : Reply → Bool
is_refused (Refused refusal) = true
is_refused reply = false

-- where the step leads: a machine that has ended stays so, a refusal parks the key, and a write that was done leads to the next
abbrev pub schedule_step_after : List Request → ScheduleStep → Reply → ScheduleStep
schedule_step_after writes steps.Done reply = steps.Done
schedule_step_after writes steps.Parked reply = steps.Parked
schedule_step_after writes (steps.Writes place) reply =
    if is_refused reply then steps.Parked
    else if is_written reply && nat_lt place (length writes) then steps.Writes (place + 1)
    else steps.Done

-- what the answer to the next call makes of the machine
unfoldable pub schedule_moved : ScheduleOp → Reply → ScheduleOp
schedule_moved op reply = record op { step = schedule_step_after op.writes op.step reply }

-- the key is parked
abbrev pub schedule_parks : ScheduleStep → Bool
schedule_parks steps.Parked = true
schedule_parks step = false
