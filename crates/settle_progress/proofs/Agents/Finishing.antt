-- An agent acts on a pod that is to go: it unmounts it, reads the mounts, and finishes it.
use Rattle.std.proofs.Common.{◌≡◌, ◌∙◌, ℕ, List, ◌∷◌, true, Some, inl, inr, refl, sym, ap, subst}
use Rattle.kube_objects.specs.declared.key.Key.{Key}
use Rattle.kube_parts.specs.declared.names.Due.TheVariants as dues
use Rattle.kube_objects.specs.declared.objects.Object.TheVariants.{Pod}
use Rattle.kube_objects.specs.Bindings.{is_deleting}
use Rattle.kube_objects.specs.Keys.{key_of, row_at}
use Rattle.kube_objects.proofs.KeyOrder.{row_at_key}
use Rattle.call_types.specs.declared.entry.Entry.{Entry}
use Rattle.call_types.specs.declared.reply.Reply.TheVariants.{Mounted}
use Rattle.call_types.specs.declared.request.Request.{Request}
use Rattle.call_types.specs.declared.request.Request.TheVariants as requests
use Rattle.call_types.specs.declared.request.SeatKind.TheVariants as seats
use Rattle.call_types.specs.declared.setup.Setup.{Setup}
use Rattle.binder_model.specs.Devices.{MountAt, epoch_of, rows_on, with_mounts, without_mount}
use Rattle.binder_model.specs.ObjectKeys.{pod_key}
use Rattle.binder_model.specs.World.{World, effect, reply_to, world, world_after}
use Rattle.model_laws.proofs.Histories.{rows_stand_in_order}
use Rattle.node_agent.specs.declared.step.AgentStep.{AgentStep}
use Rattle.node_agent.specs.declared.step.AgentStep.TheVariants as steps
use Rattle.node_agent.specs.Agents.{agent_call, agent_moved, at_start}
use Rattle.worker_core.specs.declared.task.First.{First}
use Rattle.worker_core.specs.declared.task.First.TheVariants as firsts
use Rattle.worker_core.specs.declared.task.Task.TheVariants as tasks
use Rattle.worker_core.specs.declared.task.Under.{Under}
use Rattle.worker_core.specs.Tasks.{under_after}
use Rattle.actor_rounds.specs.Drainers.{agent_of}
use Rattle.settle_writes.specs.Writes.Lasting.{Lasts}
use Rattle.settle_alike.specs.Alike.Alike.{AreAlike}
use Rattle.settle_alike.proofs.Alike.Calls.{LastsOrAlike, calls_last_or_leave_alike, then_alike}
use Rattle.settle_slot.specs.Slot.Slots.{own_entry}
use Rattle.settle_slot.specs.Slot.Would.{AtOnce, Later, WouldLast}
use Rattle.settle_due.proofs.Upkeep.Deciding.{DecisionLasts}
use Rattle.settle_progress.specs.Agents.Acts.{AgentWouldActOn, FinishesAct}
use Rattle.settle_progress.proofs.Agents.Lasting.{finish_lasts}
use Rattle.settle_progress.proofs.Epochs.Calls.{mounts_is, unmount_is}
use Rattle.settle_progress.proofs.Epochs.Mounts.{unmounted_after}
use Rattle.settle_progress.proofs.Agents.Points.{IsDecided, agent_acts_each, decided_so, finish_due}

module _ (setup : Setup) (seat : ℕ) (node : List ℕ) (start : List Entry) (key : Key) (h : List Entry) (alike : AreAlike (world setup start) (world setup h)) (first : First)
    (d : IsDecided setup node key h dues.Finish first) where
  abbrev under_at : AgentStep → Request → Under
  under_at step call = record { key = key; task = tasks.Agent (at_start node d.epoch d.pod d.uid step); call = call }

  abbrev unmount : Request
  unmount = requests.Unmount node d.epoch d.uid

  abbrev read : Request
  read = requests.Mounts node d.epoch

  abbrev finish : Request
  finish = requests.FinishPod (pod_key d.pod.meta.namespace d.pod.meta.name) d.uid node d.epoch

  going : is_deleting d.pod.meta ≡ true
  going = finish_due (world setup h) d.pod d.due

  begins : first ≡ firsts.Begins (tasks.Agent (at_start node d.epoch d.pod d.uid steps.Unmounts))
  begins = d.is ∙ rw going refl

  -- after the unmount, which changed nothing
  abbrev h_unmounted : List Entry
  h_unmounted = own_entry setup seat seats.Agent h (requests.Unmount node d.epoch d.uid) ∷ h

  abbrev h_read : List Entry
  h_read = own_entry setup seat seats.Agent h_unmounted (requests.Mounts node d.epoch) ∷ h_unmounted

  abbrev gone : List MountAt
  gone = without_mount node d.uid (world setup h).devices.mounts

  world_unmounted : world setup h_unmounted ≡ record (world setup h) { devices = record (world setup h).devices { mounts = gone } }
  unfolding world_after with_mounts
  world_unmounted = ap (world_after (world setup h)) (unmount_is setup (world setup h) seats.Agent node d.epoch d.uid refl d.current)

  current_unmounted : d.epoch ≡ epoch_of node (world setup h_unmounted).devices.epochs
  current_unmounted = d.current ∙ ap (λ (w : World). epoch_of node w.devices.epochs) (sym world_unmounted)

  world_read : world setup h_read ≡ world setup h_unmounted
  unfolding world_after with_mounts
  world_read = ap (world_after (world setup h_unmounted)) (mounts_is setup (world setup h_unmounted) seats.Agent node d.epoch d.uid refl current_unmounted)

  said_unmounted : reply_to (effect setup (world setup h) seats.Agent unmount) ≡ Mounted (rows_on node gone)
  unfolding reply_to with_mounts
  said_unmounted = ap reply_to (unmount_is setup (world setup h) seats.Agent node d.epoch d.uid refl d.current)

  said_read : reply_to (effect setup (world setup h_unmounted) seats.Agent read) ≡ Mounted (rows_on node gone)
  unfolding reply_to with_mounts
  said_read = ap reply_to (mounts_is setup (world setup h_unmounted) seats.Agent node d.epoch d.uid refl current_unmounted)
      ∙ ap (λ (w : World). Mounted (rows_on node w.devices.mounts)) world_unmounted

  after_unmount : under_after (under_at steps.Unmounts unmount) (reply_to (effect setup (world setup h) seats.Agent unmount)) ≡ Some (under_at steps.ReadsMounts read)
  unfolding agent_call agent_moved
  after_unmount = ap (under_after (under_at steps.Unmounts unmount)) said_unmounted

  after_read : under_after (under_at steps.ReadsMounts read) (reply_to (effect setup (world setup h_unmounted) seats.Agent read)) ≡ Some (under_at steps.Finishes finish)
  unfolding agent_call agent_moved
  after_read = ap (under_after (under_at steps.ReadsMounts read)) said_read ∙ rw (unmounted_after node d.uid (world setup h).devices.mounts) refl

  -- the pod stands there still
  there_read : row_at (key_of (Pod d.pod)) (world setup h_read).store.rows ≡ Some (Pod d.pod)
  there_read = ap (λ (w : World). row_at (key_of (Pod d.pod)) w.store.rows) (world_read ∙ world_unmounted)
      ∙ (ap (λ k. row_at k (world setup h).store.rows) (row_at_key key (Pod d.pod) (world setup h).store.rows d.there) ∙ d.there)

  current_read : d.epoch ≡ epoch_of d.pod.node (world setup h_read).devices.epochs
  current_read = current_unmounted ∙ (λ i. epoch_of ((sym d.placed) i) ((sym world_read) i).devices.epochs)

  finishes : Lasts setup (world setup h_read) seats.Agent finish
  finishes = subst (λ n. Lasts setup (world setup h_read) seats.Agent
      (requests.FinishPod (pod_key d.pod.meta.namespace d.pod.meta.name) d.uid n d.epoch)) d.placed
      (finish_lasts setup (world setup h_read) seats.Agent d.pod d.uid d.epoch refl there_read d.known going current_read)

  will : LastsOrAlike (world setup h) (effect setup (world setup h) seats.Agent unmount) → WouldLast setup seat seats.Agent start h (under_at steps.Unmounts unmount)
  will (inl lasts) = AtOnce alike lasts
  will (inr same) =
      let here : AreAlike (world setup start) (world setup h_unmounted) = then_alike _ _ _ alike same in
      Later alike (under_at steps.ReadsMounts read) after_unmount
      (Later here (under_at steps.Finishes finish) after_read
      (AtOnce (subst (AreAlike (world setup start)) (sym world_read) here) finishes))

  pub lasts : DecisionLasts setup seat (agent_of node) start key h first
  unfolding agent_call
  lasts = record {
    task = tasks.Agent (at_start node d.epoch d.pod d.uid steps.Unmounts);
    call = unmount;
    is = begins;
    asks = refl;
    will = will (calls_last_or_leave_alike setup (world setup h) seats.Agent unmount (rows_stand_in_order setup h));
  }

pub finishes_act : FinishesAct
finishes_act setup seat role start key p pass is there scheduled due =
    subst (λ r. AgentWouldActOn setup seat r start key) (sym is)
    (agent_acts_each setup seat (agent_of p.node) start key
    (λ s h point holding first d. lasts setup seat p.node start key h point.alike first (decided_so setup seat p.node start key p pass refl there scheduled s h point holding dues.Finish due first d)))
