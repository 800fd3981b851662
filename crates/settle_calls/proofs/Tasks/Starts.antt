-- The calls of an agent's start, of which each is made once, and the calls of an agent's tasks.
use Rattle.std.proofs.Common.{◌≡◌, ◌∙◌, ℕ, ◌+◌, ◌≤◌, List, Bool, true, false, true≢false, Option, Some, None, refl, sym, ap, subst, arith, if◌then◌else◌}
use Rattle.std.specs.Prelude.{◌==◌, ◌&&◌, ◌||◌, bytes_eq, is_none, is_some, not}
use Rattle.std.proofs.lemmas.Bool.{and_from}
use Rattle.std.proofs.lemmas.Bool.Decides.{nat_tests}
use Rattle.std.proofs.lemmas.Slice.Eq.{bytes_eq-Decides}
use Rattle.kube_objects.specs.declared.key.Key.{Key}
use Rattle.kube_parts.specs.declared.uid.Uid.{Uid}
use Rattle.kube_parts.specs.declared.names.Field.TheVariants as fields
use Rattle.kube_objects.specs.declared.objects.Object.{Object}
use Rattle.kube_objects.specs.declared.objects.Object.TheVariants.{Pod}
use Rattle.kube_objects.specs.declared.objects.Pod.{Pod as PodData}
use Rattle.kube_objects.specs.Bindings.{is_deleting}
use Rattle.kube_objects.specs.Keys.{row_at}
use Rattle.call_types.specs.declared.reply.MountRow.{MountRow}
use Rattle.call_types.specs.declared.reply.Refusal.TheVariants as refusals
use Rattle.call_types.specs.declared.reply.Reply.{Reply}
use Rattle.call_types.specs.declared.reply.Reply.TheVariants as replies
use Rattle.call_types.specs.declared.request.Request.{Request}
use Rattle.call_types.specs.declared.request.Request.TheVariants as requests
use Rattle.call_types.specs.declared.request.SeatKind.{SeatKind}
use Rattle.call_types.specs.declared.request.SeatKind.TheVariants as seats
use Rattle.call_types.specs.declared.setup.Setup.{Setup}
use Rattle.binder_model.specs.AgentLicence.{epoch_told}
use Rattle.binder_model.specs.Answers.{Removes, finish, get, outcome, pod_with, refuse, refuse_stale, reply_of}
use Rattle.binder_model.specs.Devices.{Devices, MountAt, device_answer, epoch_if_stale, epoch_of, take_node, unless_stale, with_mounts}
use Rattle.binder_model.specs.Store.{at_version}
use Rattle.binder_model.specs.Told.{first_some}
use Rattle.binder_model.specs.World.{World, effect, on_devices, reply_to}
use Rattle.model_laws.proofs.Lists.{none_some, one}
use Rattle.node_agent.specs.declared.agent.AgentOp.{AgentOp}
use Rattle.node_agent.specs.declared.step.AgentStep.{AgentStep}
use Rattle.node_agent.specs.declared.step.AgentStep.TheVariants as agent_steps
use Rattle.node_agent.specs.Agents.{agent_call_at}
use Rattle.worker_core.specs.declared.role.Role.{Role}
use Rattle.worker_core.specs.Memories.{Memory, agent_remembers, is_stale_told, memory_after, mounts_after, mounts_told, scheduler_remembers}
use Rattle.worker_core.specs.States.{agent_start, start_call, start_of}
use Rattle.settle_calls.specs.Tasks.Ends.{start_left, starts_left}

abbrev pub is_take : Request → Bool
is_take (requests.TakeNode node) = true
is_take request = false

untaken : (node : List ℕ) (request : Request) (reply : Reply) → is_take request ≡ false → epoch_told node request reply ≡ None
untaken node (requests.TakeNode taken) reply e = absurd (true≢false e)
untaken node _ reply e = refl

-- by what an agent remembers
abbrev agent_left : List ℕ → Bool → Option ℕ → Bool → ℕ
agent_left node stale epoch told = if stale then 0 else starts_left (agent_start node epoch told)

told_less : (node : List ℕ) (stale : Bool) (epoch : Option ℕ) (x : Option (List MountRow)) (mounts : Option (List MountRow))
    → agent_left node stale epoch (is_some (first_some x mounts)) ≤ agent_left node stale epoch (is_some mounts)
told_less node true epoch x mounts = omega arith
told_less node false None x mounts = omega arith
told_less node false (Some epoch) None None = omega arith
told_less node false (Some epoch) None (Some rows) = omega arith
told_less node false (Some epoch) (Some y) None = omega arith
told_less node false (Some epoch) (Some y) (Some rows) = omega arith

staler : (node : List ℕ) (a b : Bool) (epoch : Option ℕ) (told : Bool) → agent_left node (a || b) epoch told ≤ agent_left node a epoch told
staler node true b epoch told = omega arith
staler node false true epoch told = omega arith
staler node false false epoch told = omega arith

agent_less : (node : List ℕ) (request : Request) (reply : Reply) (m : Memory) → is_take request ≡ false
    → agent_left node (agent_remembers node request reply m).stale (agent_remembers node request reply m).epoch
    (is_some (agent_remembers node request reply m).mounts) ≤ agent_left node m.stale m.epoch (is_some m.mounts)
agent_less node request reply m e =
    let none = untaken node request reply e in
    let a = staler node m.stale (is_stale_told reply) m.epoch (is_some (first_some (mounts_told node m.epoch request reply) m.mounts)) in
    let b = told_less node m.stale m.epoch (mounts_told node m.epoch request reply) m.mounts in
    let same : agent_left node (m.stale || is_stale_told reply) (first_some (epoch_told node request reply) m.epoch)
    (is_some (mounts_after (not (is_none (epoch_told node request reply))) (mounts_told node m.epoch request reply) m.mounts))
    ≡ agent_left node (m.stale || is_stale_told reply) m.epoch (is_some (first_some (mounts_told node m.epoch request reply) m.mounts)) =
    ap (λ x. agent_left node (m.stale || is_stale_told reply) (first_some x m.epoch) (is_some (mounts_after (not (is_none x)) (mounts_told node m.epoch request reply) m.mounts))) none in
    omega (arith, a, b, same)

other_left : (role : Role) (m : Memory) → start_of role.kind role.node m ≡ None → start_left role m ≡ 0
other_left role m e = by m.stale
  where
    by : (b : Bool) → (if b then 0 else starts_left (start_call role m)) ≡ 0
    by true = refl
    by false = ap starts_left e

-- no call but a TakeNode sets the start back
pub start_less : (role : Role) (request : Request) (reply : Reply) (m : Memory) → is_take request ≡ false → start_left role (memory_after role request reply m) ≤ start_left role m
start_less role request reply m e = by role.kind
  where
    at : SeatKind → Role
    at kind = record { kind = kind; node = role.node }

    none : (kind : SeatKind) (x : Memory) → start_of kind role.node x ≡ None → start_left (at kind) x ≤ start_left (at kind) m
    none kind x h = let z = other_left (at kind) x h in omega (arith, z)

    by : (kind : SeatKind) → start_left (record { kind = kind; node = role.node }) (memory_after (record { kind = kind; node = role.node }) request
        reply m) ≤ start_left (record { kind = kind; node = role.node }) m
    by seats.Agent = agent_less role.node request reply m e
    by seats.User = none seats.User m refl
    by seats.Binder = none seats.Binder m refl
    by seats.Ops = none seats.Ops m refl
    by seats.Scheduler = none seats.Scheduler (scheduler_remembers request reply m) refl
    by seats.ClaimProtect = none seats.ClaimProtect m refl
    by seats.VolumeProtect = none seats.VolumeProtect m refl

-- what devices answer the start

data StartSays (request : Request) (reply : Reply) : Type 0 where
  TellsEpoch : (epoch : ℕ) → is_take request ≡ true → reply ≡ replies.Epoch epoch → StartSays request reply
  TellsMounts : (rows : List MountRow) → is_take request ≡ false → reply ≡ replies.Mounted rows → StartSays request reply
  TellsStale : (current : ℕ) → is_take request ≡ false → reply ≡ replies.Refused (refusals.StaleEpoch current) → StartSays request reply

take_says : (setup : Setup) (w : World) (node : List ℕ) → StartSays (requests.TakeNode node) (reply_to (effect setup w seats.Agent (requests.TakeNode node)))
unfolding effect on_devices device_answer take_node reply_to
take_says setup w node = TellsEpoch (epoch_of node w.devices.epochs + 1) refl refl

mounts_say : (setup : Setup) (w : World) (node : List ℕ) (epoch : ℕ) (x : Option ℕ) → epoch_if_stale w.devices node epoch ≡ x
    → StartSays (requests.Mounts node epoch) (reply_to (effect setup w seats.Agent (requests.Mounts node epoch)))
unfolding effect on_devices device_answer unless_stale with_mounts reply_to
mounts_say setup w node epoch None is = rw is (TellsMounts _ refl refl)
mounts_say setup w node epoch (Some current) is = rw is (TellsStale current refl refl)

start_says : (setup : Setup) (w : World) (node : List ℕ) (epoch : Option ℕ) (told : Bool) (request : Request)
    → agent_start node epoch told ≡ Some request → StartSays request (reply_to (effect setup w seats.Agent request))
start_says setup w node None told request e = subst (λ r. StartSays r (reply_to (effect setup w seats.Agent r))) (one (requests.TakeNode node) request e) (take_says setup w node)
start_says setup w node (Some epoch) false request e =
    subst (λ r. StartSays r (reply_to (effect setup w seats.Agent r))) (one (requests.Mounts node epoch) request e) (mounts_say setup w node epoch (epoch_if_stale w.devices node epoch) refl)
start_says setup w node (Some epoch) true request e = none_some e

stale_falls : (node : List ℕ) (epoch : Option ℕ) (told : Bool) → agent_left node true epoch told + 1 ≤ 1
stale_falls node epoch told = omega arith

falls : (node : List ℕ) (epoch : Option ℕ) (mounts : Option (List MountRow)) (request : Request) (reply : Reply) → agent_start node epoch (is_some mounts) ≡ Some request → StartSays request reply
    → agent_left node (false || is_stale_told reply) (first_some (epoch_told node request reply) epoch)
    (is_some (mounts_after (not (is_none (epoch_told node request reply))) (mounts_told node epoch request reply) mounts)) + 1
    ≤ agent_left node false epoch (is_some mounts)
falls node None mounts request reply e says =
    subst (λ r. StartSays r reply → agent_left node (false || is_stale_told reply) (first_some (epoch_told node r reply) None) (is_some
    (mounts_after (not (is_none (epoch_told node r reply))) (mounts_told node None r reply) mounts)) + 1 ≤ 2) (one (requests.TakeNode node) request e) taken says
  where
    self : bytes_eq node node ≡ true
    self = (bytes_eq-Decides node node).1 refl

    taken : StartSays (requests.TakeNode node) reply
        → agent_left node (false || is_stale_told reply) (first_some (epoch_told node (requests.TakeNode node) reply) None)
        (is_some (mounts_after (not (is_none (epoch_told node (requests.TakeNode node) reply))) (mounts_told node None (requests.TakeNode node) reply) mounts)) + 1 ≤ 2
    taken (TellsMounts rows untold is) = absurd (true≢false untold)
    taken (TellsStale current untold is) = absurd (true≢false untold)
    taken (TellsEpoch n taking is) = subst (λ a. agent_left node (false || is_stale_told a)
        (first_some (epoch_told node (requests.TakeNode node) a) None)
        (is_some (mounts_after (not (is_none (epoch_told node (requests.TakeNode node) a))) (mounts_told node None (requests.TakeNode node) a) mounts)) + 1 ≤ 2) (sym is) (rw self (omega arith))
falls node (Some epoch) (Some rows) request reply e says = none_some e
falls node (Some epoch) None request reply e says =
    subst (λ r. StartSays r reply → agent_left node (false || is_stale_told reply) (first_some (epoch_told node r reply) (Some epoch)) (is_some
    (mounts_after (not (is_none (epoch_told node r reply))) (mounts_told node (Some epoch) r reply) None)) + 1 ≤ 1) (one (requests.Mounts node epoch) request e) read says
  where
    self : (bytes_eq node node && (epoch == epoch)) ≡ true
    self = and_from (bytes_eq node node) (epoch == epoch) ((bytes_eq-Decides node node).1 refl) (grind (arith, nat_tests))

    read : StartSays (requests.Mounts node epoch) reply
        → agent_left node (false || is_stale_told reply) (first_some (epoch_told node (requests.Mounts node epoch) reply) (Some epoch))
        (is_some (mounts_after (not (is_none (epoch_told node (requests.Mounts node epoch) reply))) (mounts_told node (Some epoch) (requests.Mounts node epoch) reply) None)) + 1 ≤ 1
    read (TellsEpoch n taking is) = absurd (true≢false (sym taking))
    read (TellsMounts rows untold is) = subst (λ a. agent_left node (false || is_stale_told a)
        (first_some (epoch_told node (requests.Mounts node epoch) a) (Some epoch))
        (is_some (mounts_after (not (is_none (epoch_told node (requests.Mounts node epoch) a)))
        (mounts_told node (Some epoch) (requests.Mounts node epoch) a) None)) + 1 ≤ 1) (sym is) (rw self (omega arith))
    read (TellsStale current untold is) = subst (λ a. agent_left node (false || is_stale_told a)
        (first_some (epoch_told node (requests.Mounts node epoch) a) (Some epoch))
        (is_some (mounts_after (not (is_none (epoch_told node (requests.Mounts node epoch) a))) (mounts_told node (Some epoch) (requests.Mounts node epoch) a) None)) + 1 ≤ 1) (sym is) (omega arith)

-- a call of the start leaves one less, and is no write

pub record StartFalls (role : Role) (m : Memory) (request : Request) (reply : Reply) : Type 0 where
  pub less : start_left role (memory_after role request reply m) + 1 ≤ start_left role m
  pub unwritten : (o : Object) → reply ≡ replies.Done o → ⊥

abbrev pub is_done : Reply → Bool
is_done (replies.Done o) = true
is_done reply = false

says_no_done : (request : Request) (reply : Reply) → StartSays request reply → (o : Object) → reply ≡ replies.Done o → ⊥
says_no_done request reply (TellsEpoch n taking is) o e = true≢false (sym (ap is_done (sym is ∙ e)))
says_no_done request reply (TellsMounts rows untold is) o e = true≢false (sym (ap is_done (sym is ∙ e)))
says_no_done request reply (TellsStale current untold is) o e = true≢false (sym (ap is_done (sym is ∙ e)))

pub start_falls : (setup : Setup) (w : World) (role : Role) (m : Memory) (request : Request) (reply : Reply) → m.stale ≡ false
    → start_call role m ≡ Some request → reply ≡ reply_to (effect setup w role.kind request) → StartFalls role m request reply
start_falls setup w role m request reply fresh e answered = by role.kind e answered
  where
    none : (kind : SeatKind) → start_of kind role.node m ≡ Some request → start_of kind role.node m ≡ None → StartFalls (record { kind = kind; node = role.node }) m request reply
    none kind is lacks = none_some (sym lacks ∙ is)

    agent : agent_start role.node m.epoch (is_some m.mounts) ≡ Some request → reply ≡ reply_to (effect setup w seats.Agent request)
        → StartFalls (record { kind = seats.Agent; node = role.node }) m request reply
    agent is said =
        let says = subst (StartSays request) (sym said) (start_says setup w role.node m.epoch (is_some m.mounts) request is) in
        let f = falls role.node m.epoch m.mounts request reply is says in
        let now : agent_left role.node (m.stale || is_stale_told reply) (agent_remembers role.node request reply m).epoch
        (is_some (agent_remembers role.node request reply m).mounts) ≡ agent_left role.node (false || is_stale_told reply)
        (agent_remembers role.node request reply m).epoch (is_some (agent_remembers role.node request reply m).mounts) =
        ap (λ b. agent_left role.node (b || is_stale_told reply) (agent_remembers role.node request reply m).epoch (is_some (agent_remembers role.node request reply m).mounts)) fresh in
        let was : agent_left role.node m.stale m.epoch (is_some m.mounts) ≡ agent_left role.node false m.epoch (is_some m.mounts) = ap (λ b. agent_left role.node b m.epoch (is_some m.mounts)) fresh in
        record { less = omega (arith, f, now, was); unwritten = says_no_done request reply says }

    by : (kind : SeatKind) → start_of kind role.node m ≡ Some request → reply ≡ reply_to (effect setup w kind request) → StartFalls (record { kind = kind; node = role.node }) m request reply
    by seats.Agent is said = agent is said
    by seats.User is said = none seats.User is refl
    by seats.Binder is said = none seats.Binder is refl
    by seats.Ops is said = none seats.Ops is refl
    by seats.Scheduler is said = none seats.Scheduler is refl
    by seats.ClaimProtect is said = none seats.ClaimProtect is refl
    by seats.VolumeProtect is said = none seats.VolumeProtect is refl

-- the calls of an agent's tasks take no node, and none is answered Done: a pod that is finished leaves

pub agent_takes_none : (op : AgentOp) (step : AgentStep) (request : Request) → agent_call_at op step ≡ Some request → is_take request ≡ false
agent_takes_none op (agent_steps.ReadsClaim name) request e = ap is_take (sym (one _ request e))
agent_takes_none op (agent_steps.ReadsVolume name c) request e = ap is_take (sym (one _ request e))
agent_takes_none op agent_steps.MountsPod request e = ap is_take (sym (one _ request e))
agent_takes_none op agent_steps.Unmounts request e = ap is_take (sym (one _ request e))
agent_takes_none op agent_steps.ReadsMounts request e = ap is_take (sym (one _ request e))
agent_takes_none op agent_steps.Finishes request e = ap is_take (sym (one _ request e))
agent_takes_none op agent_steps.Done request e = none_some e
agent_takes_none op agent_steps.Parked request e = none_some e

module _ (setup : Setup) (w : World) where
  get_done : (key : Key) → is_done (reply_to (effect setup w seats.Agent (requests.Get key))) ≡ false
  unfolding effect on_devices device_answer outcome get reply_to reply_of
  get_done key = by (row_at key w.store.rows)
    where
      by : (x : Option Object) → is_done (reply_of (get x)) ≡ false
      by None = refl
      by (Some o) = refl

  stale_done : (d : Devices) (x : Option ℕ) (node : List ℕ) (mounts : List MountAt) → is_done (unless_stale d x (with_mounts d node mounts)).reply ≡ false
  unfolding unless_stale with_mounts
  stale_done d None node mounts = refl
  stale_done d (Some current) node mounts = refl

  mounts_done : (node : List ℕ) (epoch : ℕ) → is_done (reply_to (effect setup w seats.Agent (requests.Mounts node epoch))) ≡ false
  unfolding effect on_devices device_answer reply_to
  mounts_done node epoch = stale_done w.devices (epoch_if_stale w.devices node epoch) node w.devices.mounts

  mount_done : (node : List ℕ) (epoch : ℕ) (pod : Uid) (claims : List Uid) → is_done (reply_to (effect setup w seats.Agent (requests.Mount node epoch pod claims))) ≡ false
  unfolding effect on_devices device_answer reply_to
  mount_done node epoch pod claims = stale_done w.devices (epoch_if_stale w.devices node epoch) node _

  unmount_done : (node : List ℕ) (epoch : ℕ) (pod : Uid) → is_done (reply_to (effect setup w seats.Agent (requests.Unmount node epoch pod))) ≡ false
  unfolding effect on_devices device_answer reply_to
  unmount_done node epoch pod = stale_done w.devices (epoch_if_stale w.devices node epoch) node _

  finish_done : (key : Key) (uid : Uid) (node : List ℕ) (epoch : ℕ) → is_done (reply_to (effect setup w seats.Agent (requests.FinishPod key uid node epoch))) ≡ false
  unfolding effect on_devices device_answer outcome refuse refuse_stale finish reply_to reply_of
  finish_done key uid node epoch = by (pod_with uid (row_at key w.store.rows)) (epoch_if_stale w.devices node epoch)
    where
      tests : (p : PodData) (a b : Bool) → is_done (reply_of
          (refuse a (refusals.Invalid fields.Deletion) (refuse b (refusals.Invalid fields.NodeName) (Removes (at_version (Pod p) (w.store.version + 1)))))) ≡ false
      tests p true b = refl
      tests p false true = refl
      tests p false false = refl

      by : (p : Option PodData) (x : Option ℕ) → is_done (reply_of (finish w.store x node p)) ≡ false
      by None x = refl
      by (Some p) (Some current) = refl
      by (Some p) None = tests p (not (is_deleting p.meta)) (not (bytes_eq p.node node))

  pub agent_done : (op : AgentOp) (step : AgentStep) (request : Request) → agent_call_at op step ≡ Some request → is_done (reply_to (effect setup w seats.Agent request)) ≡ false
  agent_done op (agent_steps.ReadsClaim name) request e = subst (λ r. is_done (reply_to (effect setup w seats.Agent r)) ≡ false) (one _ request e) (get_done _)
  agent_done op (agent_steps.ReadsVolume name c) request e = subst (λ r. is_done (reply_to (effect setup w seats.Agent r)) ≡ false) (one _ request e) (get_done _)
  agent_done op agent_steps.MountsPod request e = subst (λ r. is_done (reply_to (effect setup w seats.Agent r)) ≡ false) (one _ request e) (mount_done _ _ _ _)
  agent_done op agent_steps.Unmounts request e = subst (λ r. is_done (reply_to (effect setup w seats.Agent r)) ≡ false) (one _ request e) (unmount_done _ _ _)
  agent_done op agent_steps.ReadsMounts request e = subst (λ r. is_done (reply_to (effect setup w seats.Agent r)) ≡ false) (one _ request e) (mounts_done _ _)
  agent_done op agent_steps.Finishes request e = subst (λ r. is_done (reply_to (effect setup w seats.Agent r)) ≡ false) (one _ request e) (finish_done _ _ _ _)
  agent_done op agent_steps.Done request e = none_some e
  agent_done op agent_steps.Parked request e = none_some e
