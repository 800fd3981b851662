-- What is still to be called for of what an actor has under way, by what stands. The task may have been begun on another world: an agent
-- has then read claims that have left since. But each claim that it finds ready from now on is another one that stands, so it reads no
-- more of them than there are.
-- A choice of this project.
use Rattle.std.specs.Prelude.{ℕ, ◌≡◌, ◌≤◌, ◌+◌, ◌*◌, Bool, ◌&&◌, List, [], ◌∷◌, ◌++◌, Option, Some, None, bytes_eq, if◌then◌else◌, map}
use Rattle.binder_model.specs.World.{IsHistory, world}
use Rattle.call_types.specs.declared.entry.Entry.{Entry}
use Rattle.call_types.specs.declared.setup.Setup.{Setup}
use Rattle.settle_calls.specs.Tasks.Ends.{done_by}
use Rattle.settle_calls.specs.Tasks.Tasks.{task_left}
use Rattle.kube_objects.specs.Bindings.{has_name}
use Rattle.kube_objects.specs.declared.objects.Claim.{Claim as ClaimData}
use Rattle.kube_objects.specs.declared.objects.Object.{Object}
use Rattle.kube_objects.specs.declared.objects.Object.TheVariants.{Claim}
use Rattle.node_agent.specs.declared.step.AgentStep.{AgentStep}
use Rattle.node_agent.specs.declared.step.AgentStep.TheVariants as steps
use Rattle.node_agent.specs.declared.step.ReadyClaim.{ReadyClaim}
use Rattle.settle_measure.specs.Left.Measure.{claims_in, total, unless}
use Rattle.worker_core.specs.Tasks.{task_call, under_after}
use Rattle.worker_core.specs.declared.task.Task.{Task}
use Rattle.worker_core.specs.declared.task.Task.TheVariants as tasks
use Rattle.worker_core.specs.declared.task.Under.{Under}

-- the claim is in this namespace and has one of these names
abbrev pub is_among : List ℕ → List (List ℕ) → ClaimData → Bool
is_among namespace names c = bytes_eq c.meta.namespace namespace && has_name c.meta.name names

-- one for a claim that is not
abbrev pub unread : List ℕ → List (List ℕ) → Object → ℕ
unread namespace names (Claim c) = unless (is_among namespace names c) 1
unread namespace names o = 0

-- how many claims that stand are not
abbrev pub unread_in : List ℕ → List (List ℕ) → List Object → ℕ
unread_in namespace names rows = total (unread namespace names) rows

-- the names of the claims that were found ready
abbrev pub names_of : List ReadyClaim → List (List ℕ)
names_of ready = map (λ r. r.claim) ready

-- An agent reads a claim, then its volume, and mounts the pod behind the last. A claim that is to be read was not found ready before: this
-- is not asked for here, so one that was counts two calls more
abbrev pub reads_left : List ℕ → List (List ℕ) → List Object → AgentStep → ℕ
reads_left namespace names rows (steps.ReadsClaim name) = (if has_name name names then 3 else 1) + 2 * unread_in namespace names rows
reads_left namespace names rows (steps.ReadsVolume name c) = 2 + 2 * unread_in namespace (names ++ name ∷ []) rows
reads_left namespace names rows steps.MountsPod = 1
reads_left namespace names rows steps.Unmounts = 3
reads_left namespace names rows steps.ReadsMounts = 2
reads_left namespace names rows steps.Finishes = 1
reads_left namespace names rows step = 0

-- how many calls the task still makes, but for those after a write that was done. Of an agent it depends on what stands
abbrev pub calls_left : List Object → Task → ℕ
calls_left rows (tasks.Agent op) = reads_left op.pod.meta.namespace (names_of op.ready) rows op.step
calls_left rows task = task_left task

-- of what is under way, if anything is
abbrev pub under_calls : List Object → Option Under → ℕ
under_calls rows None = 0
under_calls rows (Some u) = calls_left rows u.task

-- how many it makes at most, where so many claims stand
abbrev pub most_calls : Task → ℕ → ℕ
most_calls (tasks.Agent op) claims = 2 * claims + 3
most_calls task claims = 3

-- whatever the task has done
abbrev pub LeftoversAreFew : Type 0
LeftoversAreFew = (rows : List Object) (task : Task) → calls_left rows task ≤ most_calls task (claims_in rows)

-- each answer leaves a task fewer calls, but for a write that was done, on whichever world it was begun
abbrev pub LeftoverCallsEnd : Type 0
LeftoverCallsEnd =
    (setup : Setup) (e : Entry) (h : List Entry) (u : Under) → IsHistory setup (e ∷ h) → e.request ≡ u.call → task_call u.task ≡ Some u.call
    → under_calls (world setup (e ∷ h)).store.rows (under_after u e.reply) + 1 ≤ calls_left (world setup h).store.rows u.task + done_by u.call e.reply
