-- What is kept by each call of a task is so of each task to which its calls lead.
use Rattle.std.proofs.Common.{◌≡◌, ℕ, List, ◌∷◌, Option, Some, None, refl, subst}
use Rattle.call_types.specs.declared.entry.Entry.{Entry}
use Rattle.call_types.specs.declared.reply.Reply.{Reply}
use Rattle.call_types.specs.declared.request.Request.{Request}
use Rattle.call_types.specs.declared.request.SeatKind.{SeatKind}
use Rattle.call_types.specs.declared.setup.Setup.{Setup}
use Rattle.binder_model.specs.World.{effect, reply_to, world}
use Rattle.model_laws.proofs.Lists.{none_some, one}
use Rattle.worker_core.specs.declared.task.Task.{Task}
use Rattle.worker_core.specs.declared.task.Under.{Under}
use Rattle.worker_core.specs.Tasks.{task_call, task_moved, under_after, with_call, with_task}
use Rattle.settle_slot.specs.Slot.Slots.{own_entry}
use Rattle.settle_slot.specs.Slot.Would.{Here, Leads, On}

-- the task that an answer leaves, with its next call
record Follows (u next : Under) (reply : Reply) : Type 0 where
  moved : task_moved u.task reply ≡ Some next.task
  calls : task_call next.task ≡ Some next.call

follows_so : (u next : Under) (reply : Reply) → under_after u reply ≡ Some next → Follows u next reply
follows_so u next reply e = by_task (task_moved u.task reply) refl e
  where
    by_call : (t : Task) (c : Option Request) → task_moved u.task reply ≡ Some t → task_call t ≡ c → with_call u.key t c ≡ Some next → Follows u next reply
    by_call t None moved at h = none_some h
    by_call t (Some c) moved at h = subst (λ n. Follows u n reply) (one _ next h) (record { moved = moved; calls = at })

    by_task : (x : Option Task) → task_moved u.task reply ≡ x → with_task u.key x ≡ Some next → Follows u next reply
    by_task None moved h = none_some h
    by_task (Some t) moved h = by_call t (task_call t) moved refl h

module _ (setup : Setup) (seat : ℕ) (kind : SeatKind) (Is : List Entry → Task → Type 0)
    (moves : (h : List Entry) (t next : Task) (call : Request) → Is h t → task_call t ≡ Some call
    → task_moved t (reply_to (effect setup (world setup h) kind call)) ≡ Some next → Is (own_entry setup seat kind h call ∷ h) next) where
  pub leads_keep : (h g : List Entry) (u v : Under) → Leads setup seat kind h u g v → Is h u.task → task_call u.task ≡ Some u.call → Is g v.task × (task_call v.task ≡ Some v.call)
  leads_keep h _ u _ Here is calls = (is, calls)
  leads_keep h g u v (On next follows more) is calls =
      let f = follows_so u next (reply_to (effect setup (world setup h) kind u.call)) follows in
      leads_keep (own_entry setup seat kind h u.call ∷ h) g next v more (moves h u.task next.task u.call is calls f.moved) f.calls
