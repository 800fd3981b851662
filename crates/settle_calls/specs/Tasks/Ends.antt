-- Each call of a task is a write that is done, or leaves it fewer calls to make. What is left of the calls of an agent's start.
-- A choice of this project.
use Rattle.std.specs.Prelude.{None, Option, Some, if◌then◌else◌, true, ℕ, ◌+◌, ◌≡◌, ◌≤◌}
use Rattle.binder_model.specs.Reading.{follows}
use Rattle.call_types.specs.declared.reply.Reply.{Reply}
use Rattle.call_types.specs.declared.reply.Reply.TheVariants as replies
use Rattle.call_types.specs.declared.request.Request.{Request}
use Rattle.call_types.specs.declared.request.Request.TheVariants as requests
use Rattle.call_types.specs.declared.request.SeatKind.{SeatKind}
use Rattle.settle_calls.specs.Tasks.Costs.{calls_for}
use Rattle.settle_calls.specs.Tasks.Tasks.{task_left, under_left}
use Rattle.kube_objects.specs.Keys.{kind_of}
use Rattle.kube_objects.specs.declared.objects.Object.{Object}
use Rattle.worker_core.specs.Memories.{Memory}
use Rattle.worker_core.specs.States.{start_call}
use Rattle.worker_core.specs.Tasks.{task_call, under_after}
use Rattle.worker_core.specs.declared.role.Role.{Role}
use Rattle.worker_core.specs.declared.task.Task.{Task}
use Rattle.worker_core.specs.declared.task.Under.{Under}

-- a write was done: not the second delete of an object, which is answered Done too
abbrev pub done_by : Request → Reply → ℕ
done_by (requests.Delete key given) reply = 0
done_by request (replies.Done o) = 1
done_by request reply = 0

-- how many calls of the start are still to be made
abbrev pub starts_left : Option Request → ℕ
starts_left None = 0
starts_left (Some (requests.TakeNode node)) = 2
starts_left (Some request) = 1

-- an agent that was told that its epoch is stale makes none
abbrev pub start_left : Role → Memory → ℕ
start_left role m = if m.stale then 0 else starts_left (start_call role m)

-- the decision rests on an object of a kind that is followed, and what it begins makes no more calls than that may cost
pub record BeginsOnRow (kind : SeatKind) (row : Option Object) (task : Task) : Type 0 where
  pub object : Object
  pub there : row ≡ Some object
  pub followed : follows kind (kind_of object) ≡ true
  pub light : task_left task ≤ calls_for kind object

-- each answer leaves a task fewer calls, but for a write that was done
abbrev pub TasksEnd : Type 0
TasksEnd = (u : Under) (reply : Reply) → task_call u.task ≡ Some u.call → under_left (under_after u reply) + 1 ≤ task_left u.task + done_by u.call reply
