-- What is under way for a key, from its decision on to one of its calls.
use Rattle.std.proofs.Common.{◌≡◌, ◌∙◌, ℕ, List, [], ◌∷◌, ◌++◌, append_assoc, Option, Some, None, refl, sym, ap}
use Rattle.call_types.specs.declared.entry.Entry.{Entry}
use Rattle.call_types.specs.declared.reply.Reply.{Reply}
use Rattle.call_types.specs.declared.request.Request.{Request}
use Rattle.call_types.specs.declared.request.SeatKind.{SeatKind}
use Rattle.call_types.specs.declared.setup.Setup.{Setup}
use Rattle.model_laws.proofs.Lists.{none_some, one}
use Rattle.worker_core.specs.declared.task.Task.{Task}
use Rattle.worker_core.specs.declared.task.Under.{Under}
use Rattle.worker_core.specs.Tasks.{task_call, task_moved, under_after, with_call, with_task}
use Rattle.settle_slot.specs.Slot.Slots.{own_entry}
use Rattle.settle_slot.specs.Slot.Would.{Here, Leads, On}

-- what leads on keeps what each answer keeps
pub leads_keep : (setup : Setup) (seat : ℕ) (kind : SeatKind) (P : Under → Type 0)
    → ((u next : Under) (reply : Reply) → under_after u reply ≡ Some next → P u → P next) → {h g : List Entry} {u v : Under} → Leads setup seat kind h u g v → P u → P v
leads_keep setup seat kind P step Here p = p
leads_keep setup seat kind P step (On next follows more) p = leads_keep setup seat kind P step more (step _ next _ follows p)

-- and comes to more entries
pub record HasMore (h g : List Entry) : Type 0 where
  pub newer : List Entry
  pub are : g ≡ newer ++ h

pub leads_more : (setup : Setup) (seat : ℕ) (kind : SeatKind) {h g : List Entry} {u v : Under} → Leads setup seat kind h u g v → HasMore h g
leads_more setup seat kind Here = record { newer = []; are = refl }
leads_more setup seat kind {h = h} {u = u} (On next follows more) =
    let rest = leads_more setup seat kind more in
    record { newer = rest.newer ++ (own_entry setup seat kind h u.call ∷ []); are = rest.are ∙ sym (append_assoc rest.newer (own_entry setup seat kind h u.call ∷ []) h) }

-- the task and the call of what goes on
pub record GoesOn (task : Task) (next : Under) : Type 0 where
  pub task_is : next.task ≡ task
  pub call : task_call task ≡ Some next.call

pub goes_on : (u next : Under) (reply : Reply) (task : Task) → task_moved u.task reply ≡ Some task → under_after u reply ≡ Some next → GoesOn task next
goes_on u next reply task moved follows = by (task_call task) refl (sym (ap (with_task u.key) moved) ∙ follows)
  where
    by : (x : Option Request) → task_call task ≡ x → with_call u.key task x ≡ Some next → GoesOn task next
    by None at e = none_some e
    by (Some call) at e = let same = one _ next e in record { task_is = ap (λ (v : Under). v.task) (sym same); call = at ∙ ap (λ (v : Under). Some v.call) same }
