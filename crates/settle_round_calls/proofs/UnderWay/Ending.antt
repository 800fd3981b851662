-- What is under way ends, call by call: each answer leaves it fewer calls and writes.
use Rattle.std.proofs.Common.{◌≡◌, ◌∙◌, ◌⊎◌, ℕ, ◌+◌, ◌*◌, ◌≤◌, List, [], ◌∷◌, Bool, true, false, Option, Some, None, inl, inr, refl, sym, ap, subst, arith, if◌then◌else◌}
use Rattle.std.specs.Prelude.{nat_lt, option_map}
use Rattle.kube_objects.specs.declared.key.Key.{Key}
use Rattle.kube_objects.specs.declared.objects.Claim.{Claim as ClaimData}
use Rattle.kube_objects.specs.declared.objects.Volume.{Volume as VolumeData}
use Rattle.kube_objects.specs.declared.objects.Object.{Object}
use Rattle.kube_objects.specs.declared.objects.Object.TheVariants.{Class, Node, Volume, Claim, Pod}
use Rattle.kube_objects.specs.Bindings.{carries, has_name, is_bound}
use Rattle.kube_objects.specs.Keys.{put_row}
use Rattle.call_types.specs.declared.entry.Entry.{Entry}
use Rattle.call_types.specs.declared.reply.Reply.{Reply}
use Rattle.call_types.specs.declared.reply.Reply.TheVariants as replies
use Rattle.call_types.specs.declared.request.Request.{Request}
use Rattle.call_types.specs.declared.request.Request.TheVariants as requests
use Rattle.call_types.specs.declared.request.SeatKind.{SeatKind}
use Rattle.call_types.specs.declared.setup.Setup.{Setup}
use Rattle.binder_model.specs.Answers.{Removes, Says, Stores, after, reply_of}
use Rattle.binder_model.specs.BindWrites.{is_completed_with, shows_bound}
use Rattle.binder_model.specs.Promises.{IsRunOf}
use Rattle.binder_model.specs.Told.{own}
use Rattle.binder_model.specs.World.{Effect, IsHistory, OnDevices, OnStore, SetsMoment, World, effect, reply_to, world, world_after}
use Rattle.model_laws.proofs.Growing.{runs_are_histories}
use Rattle.model_laws.proofs.Histories.{rows_stand_in_order}
use Rattle.model_laws.proofs.Lists.{none_some}
use Rattle.safety_law.specs.Invariant.Moves.{written_by}
use Rattle.safety_law.specs.Invariant.Writes.{Writes}
use Rattle.safety_law.proofs.Invariant.Effects.{effect_form}
use Rattle.binder_machines.specs.declared.machine.Machine.{Machine}
use Rattle.binder_machines.specs.declared.machine.Machine.TheVariants.{Frees, Binds, MarksBound, ReadsClaim, Releases, Unbinds, ReadsVolume, AssignsClass, Loses}
use Rattle.binder_machines.specs.Machines.{call_of, moved}
use Rattle.node_agent.specs.declared.agent.AgentOp.{AgentOp}
use Rattle.node_agent.specs.declared.step.AgentStep.{AgentStep}
use Rattle.node_agent.specs.declared.step.AgentStep.TheVariants as agent_steps
use Rattle.node_agent.specs.Agents.{agent_call, agent_call_at, agent_moved}
use Rattle.pod_scheduler.specs.Schedules.{schedule_moved}
use Rattle.protect_sync.specs.ClaimGuards.{claim_moved}
use Rattle.protect_sync.specs.VolumeGuards.{volume_moved}
use Rattle.reclaim_ops.specs.Erasures.{erase_moved}
use Rattle.reclaim_ops.specs.Provisions.{provision_moved}
use Rattle.settle_measure.specs.Left.Measure.{claims_in, total, unless, volumes_in}
use Rattle.worker_core.specs.declared.role.Role.{Role}
use Rattle.worker_core.specs.declared.task.Task.{Task}
use Rattle.worker_core.specs.declared.task.Task.TheVariants as tasks
use Rattle.worker_core.specs.declared.task.Under.{Under}
use Rattle.worker_core.specs.Stands.{AnyIsUnderWay}
use Rattle.worker_core.specs.States.{ActorState}
use Rattle.worker_core.specs.Steps.Evidence.{TaskKeeps, task_kind}
use Rattle.worker_core.specs.Tasks.{task_call, task_moved, under_after, with_call, with_task}
use Rattle.worker_core.proofs.Machines.{KeepsUnder, keeps_under}
use Rattle.worker_core.proofs.Owning.{stood}
use Rattle.actor_rounds.specs.Rounds.{Asks, IsHeld, IsIdle, IsReady, IsSpent, Lets, Runs}
use Rattle.settle_calls.specs.Tasks.Ends.{done_by}
use Rattle.settle_calls.specs.Tasks.Tasks.{task_left}
use Rattle.settle_calls.proofs.Tasks.Tasks.{done_few, under_goes}
use Rattle.settle_writes.proofs.Done.Doing.{write_asked}
use Rattle.settle_calls.proofs.Events.Calls.{Stays, Wrote, world_moves}
use Rattle.settle_write_counts.proofs.Rounds.Runs.{run_at}
use Rattle.settle_write_counts.proofs.Rounds.Slots.{counted}
use Rattle.settle_round_calls.specs.UnderWay.Ends.{AndGoesOn, AreFew, EndsThere, HasEnded, LeftoversEnd, leftover_calls, leftover_volumes, leftover_writes, volume_write}
use Rattle.settle_round_calls.specs.UnderWay.Reads.{calls_left, names_of, reads_left, under_calls, unread_in}
use Rattle.settle_round_calls.proofs.UnderWay.AgentReads.{calls_end, few}
use Rattle.settle_round_calls.proofs.UnderWay.Binding.{binds_done, binds_some, binds_wrote}
use Rattle.settle_round_calls.proofs.UnderWay.Counts.{
  agent_ends,
  binds_left,
  erase_ends,
  guard_ends,
  low_claim,
  low_volume,
  machine_if,
  machine_stays,
  machine_writes,
  machine_wrote,
  provision_ends,
  task_volumes,
  task_writes,
  under_by,
  volume_ends,
  volume_few,
  with_few,
  with_none,
}
use Rattle.settle_round_calls.proofs.UnderWay.Scheduling.{LeavesFewer, TaskIsOld, kept_old, schedule_ends, schedule_wrote, task_old}
use Rattle.settle_round_calls.proofs.UnderWay.Walk.{Ended, Further, Made, Moves, There, none_made, walk}

-- ---- a task with a next call makes one

agent_some : (op : AgentOp) (rows : List Object) (step : AgentStep) (request : Request) → agent_call_at op step ≡ Some request → 1 ≤ reads_left op.pod.meta.namespace (names_of op.ready) rows step
agent_some op rows (agent_steps.ReadsClaim name) request call = by (has_name name (names_of op.ready))
  where
    by : (b : Bool) → 1 ≤ (if b then 3 else 1) + 2 * unread_in op.pod.meta.namespace (names_of op.ready) rows
    by true = omega arith
    by false = omega arith
agent_some op rows (agent_steps.ReadsVolume name c) request call = omega arith
agent_some op rows agent_steps.MountsPod request call = omega arith
agent_some op rows agent_steps.Unmounts request call = omega arith
agent_some op rows agent_steps.ReadsMounts request call = omega arith
agent_some op rows agent_steps.Finishes request call = omega arith
agent_some op rows agent_steps.Done request call = none_some call
agent_some op rows agent_steps.Parked request call = none_some call

timed_none : (request : Request) → done_by request replies.Timed ≡ 0
timed_none (requests.Delete key given) = refl
timed_none _ = refl

task_some : (rows : List Object) (t : Task) (request : Request) → task_call t ≡ Some request → 1 ≤ task_left t → 1 ≤ calls_left rows t
unfolding agent_call
task_some rows (tasks.Agent op) request call low = agent_some op rows op.step request call
task_some rows (tasks.Binder m) request call low = low
task_some rows (tasks.ClaimProtect op) request call low = low
task_some rows (tasks.VolumeProtect op) request call low = low
task_some rows (tasks.Provision op) request call low = low
task_some rows (tasks.Erase op) request call low = low
task_some rows (tasks.Schedule op) request call low = low

calls_some : (rows : List Object) (u : Under) → task_call u.task ≡ Some u.call → 1 ≤ under_calls rows (Some u)
calls_some rows u call =
    let goes = under_goes u replies.Timed call in
    let none = timed_none u.call in
    task_some rows u.task u.call call (omega (arith, goes, none))

-- ---- an answer that leaves the world leaves no more writes

record LeavesNoMore (base : ℕ) (old new : List Object) (t : Task) (x : Option Under) : Type 0 where
  writes : under_by (task_writes base new) x ≤ task_writes base old t
  volumes : under_by (task_volumes base new) x ≤ task_volumes base old t

binds_stay : (v : VolumeData) (c : ClaimData) (request : Request) (reply : Reply) → call_of (Binds v c) ≡ Some request → done_by request reply ≡ 0
    → machine_if (moved (Binds v c) reply) ≤ binds_left v c
unfolding moved
binds_stay v c request (replies.Done (Volume w)) call none = let d = binds_done v c request (Volume w) call in absurd (omega (arith, d, none))
binds_stay v c request (replies.Done (Claim w)) call none = let d = binds_done v c request (Claim w) call in absurd (omega (arith, d, none))
binds_stay v c request _ call none = omega arith

binder_stays : (m : Machine) (request : Request) (reply : Reply) → call_of m ≡ Some request → done_by request reply ≡ 0 → machine_if (moved m reply) ≤ machine_writes m
binder_stays (Binds v c) request reply call none = binds_stay v c request reply call none
binder_stays (Frees v) request reply call none = machine_stays (Frees v) reply refl
binder_stays (MarksBound v) request reply call none = machine_stays (MarksBound v) reply refl
binder_stays (Releases v) request reply call none = machine_stays (Releases v) reply refl
binder_stays (AssignsClass c x) request reply call none = machine_stays (AssignsClass c x) reply refl
binder_stays (Loses c) request reply call none = machine_stays (Loses c) reply refl
binder_stays (Unbinds v) request reply call none = machine_stays (Unbinds v) reply refl
binder_stays (ReadsClaim v) request reply call none = machine_stays (ReadsClaim v) reply refl
binder_stays (ReadsVolume c) request reply call none = machine_stays (ReadsVolume c) reply refl

module _ (base : ℕ) (rows : List Object) (key : Key) where
  machine_under : (x : Option Machine) (k : ℕ) → machine_if x ≤ k
      → (under_by (task_writes base rows) (with_task key (option_map (λ m. tasks.Binder m) x)) ≤ k) × (under_by (task_volumes base rows) (with_task key (option_map (λ m. tasks.Binder m) x)) ≤ k)
  machine_under None k low = (omega arith, omega arith)
  machine_under (Some m) k low =
      let a = with_few (task_writes base rows) key (tasks.Binder m) (task_call (tasks.Binder m)) in
      let b = with_few (task_volumes base rows) key (tasks.Binder m) (task_call (tasks.Binder m)) in
      (omega (arith, a, low), omega (arith, b, low))

  stays_few : (old : List Object) → rows ≡ old → (t : Task) (request : Request) (reply : Reply) → task_call t ≡ Some request
      → done_by request reply ≡ 0 → LeavesNoMore base old rows t (with_task key (task_moved t reply))
  stays_few old same (tasks.Binder m) request reply call none = let h =
      machine_under (moved m reply) (machine_writes m) (binder_stays m request reply call none) in record { writes = h.0; volumes = h.1 }
  stays_few old same (tasks.ClaimProtect op) request reply call none =
      record {
        writes = with_few (task_writes base rows) key (tasks.ClaimProtect (claim_moved op reply)) _;
        volumes =
            with_few (task_volumes base rows) key (tasks.ClaimProtect (claim_moved op reply)) _;
      }
  stays_few old same (tasks.VolumeProtect op) request reply call none =
      record {
        writes = with_few (task_writes base rows) key (tasks.VolumeProtect (volume_moved op reply)) _;
        volumes =
            with_few (task_volumes base rows) key (tasks.VolumeProtect (volume_moved op reply)) _;
      }
  stays_few old same (tasks.Agent op) request reply call none =
      record { writes = with_few (task_writes base rows) key (tasks.Agent (agent_moved op reply)) _; volumes = with_few (task_volumes base rows) key (tasks.Agent (agent_moved op reply)) _ }
  stays_few old same (tasks.Provision op) request reply call none =
      record {
        writes = with_few (task_writes base rows) key (tasks.Provision (provision_moved op reply)) _;
        volumes =
            with_few (task_volumes base rows) key (tasks.Provision (provision_moved op reply)) _;
      }
  stays_few old same (tasks.Erase op) request reply call none =
      record { writes = with_few (task_writes base rows) key (tasks.Erase (erase_moved op reply)) _; volumes = with_few (task_volumes base rows) key (tasks.Erase (erase_moved op reply)) _ }
  stays_few old same (tasks.Schedule op) request reply call none =
      let a = with_few (task_writes base rows) key (tasks.Schedule (schedule_moved op reply)) (task_call (tasks.Schedule (schedule_moved op reply))) in
      let b = with_few (task_volumes base rows) key (tasks.Schedule (schedule_moved op reply)) (task_call (tasks.Schedule (schedule_moved op reply))) in
      let v = ap (total (low_volume base)) same in
      let c = ap (total (low_claim base)) same in
      record { writes = omega (arith, a, v, c); volumes = omega (arith, b, v) }

-- ---- and one that wrote leaves fewer

volume_left : (request : Request) (o : Object) → volume_write request (replies.Left o) ≡ 0
volume_left (requests.Update x given) o = by x
  where
    by : (y : Object) → volume_write (requests.Update y given) (replies.Left o) ≡ 0
    by (Volume v) = refl
    by (Claim v) = refl
    by (Class v) = refl
    by (Node v) = refl
    by (Pod v) = refl
volume_left _ o = refl

module _ (base : ℕ) (old rows : List Object) (key : Key) (request : Request) where
  -- a task of one write has ended
  ended : (t next : Task) (reply : Reply) → 1 ≤ task_writes base old t → volume_write request reply ≤ task_volumes base old t → task_call next ≡ None
      → LeavesFewer base old rows t request reply (with_call key next (task_call next))
  ended t next reply some volumes none =
      let a = with_none (task_writes base rows) key next (task_call next) none in
      let b = with_none (task_volumes base rows) key next (task_call next) none in
      record { writes = omega (arith, a, some); volumes = omega (arith, b, volumes) }

  volume_one : (reply : Reply) → volume_write request reply ≤ 1
  volume_one reply = let a = volume_few request reply in let b = done_few request reply in omega (arith, a, b)

  binder_few : (m : Machine) (reply : Reply) → machine_if (moved m reply) + 1 ≤ machine_writes m
      → LeavesFewer base old rows (tasks.Binder m) request reply (with_task key (task_moved (tasks.Binder m) reply))
  binder_few m reply low = by (moved m reply) low
    where
      by : (x : Option Machine) → machine_if x + 1 ≤ machine_writes m → LeavesFewer base old rows (tasks.Binder m) request reply (with_task key (option_map (λ k. tasks.Binder k) x))
      by x le =
          let h = machine_under base rows key x (machine_if x) (omega arith) in
          let a = h.0 in
          let b = h.1 in
          let one_ = volume_one reply in
          record { writes = omega (arith, a, le); volumes = omega (arith, b, le, one_) }

  binds_left_few : (v : VolumeData) (c : ClaimData) (o : Object) → call_of (Binds v c) ≡ Some request → machine_if (moved (Binds v c) (replies.Left o)) + 1 ≤ binds_left v c
  unfolding moved
  binds_left_few v c o call = let some = binds_some v c request call in omega (arith, some)

  binder_left : (m : Machine) (o : Object) → call_of m ≡ Some request → machine_if (moved m (replies.Left o)) + 1 ≤ machine_writes m
  binder_left (Binds v c) o call = binds_left_few v c o call
  binder_left (Frees v) o call = machine_wrote (Frees v) (replies.Left o) refl refl
  binder_left (MarksBound v) o call = machine_wrote (MarksBound v) (replies.Left o) refl refl
  binder_left (Releases v) o call = machine_wrote (Releases v) (replies.Left o) refl refl
  binder_left (AssignsClass c x) o call = machine_wrote (AssignsClass c x) (replies.Left o) refl refl
  binder_left (Loses c) o call = machine_wrote (Loses c) (replies.Left o) refl refl
  binder_left (Unbinds v) o call = machine_wrote (Unbinds v) (replies.Left o) refl refl
  binder_left (ReadsClaim v) o call = machine_wrote (ReadsClaim v) (replies.Left o) refl refl
  binder_left (ReadsVolume c) o call = machine_wrote (ReadsVolume c) (replies.Left o) refl refl

  -- the object has left
  left_few : (t : Task) (o : Object) → task_call t ≡ Some request → LeavesFewer base old rows t request (replies.Left o) (with_task key (task_moved t (replies.Left o)))
  left_few (tasks.Binder m) o call = binder_few m (replies.Left o) (binder_left m o call)
  left_few (tasks.ClaimProtect op) o call =
      ended (tasks.ClaimProtect op) (tasks.ClaimProtect (claim_moved op (replies.Left o))) (replies.Left o) (omega arith) (volume_one (replies.Left o)) (guard_ends (replies.Left o) refl op)
  left_few (tasks.VolumeProtect op) o call =
      ended (tasks.VolumeProtect op) (tasks.VolumeProtect (volume_moved op (replies.Left o))) (replies.Left o) (omega arith) (volume_one (replies.Left o)) (volume_ends (replies.Left o) refl op)
  left_few (tasks.Agent op) o call = ended (tasks.Agent op) (tasks.Agent (agent_moved op (replies.Left o))) (replies.Left o) (omega arith)
      (volume_one (replies.Left o)) (agent_ends (replies.Left o) refl op)
  left_few (tasks.Provision op) o call = ended (tasks.Provision op) (tasks.Provision (provision_moved op (replies.Left o))) (replies.Left o) (omega
      arith) (volume_one (replies.Left o)) (provision_ends (replies.Left o) refl op)
  left_few (tasks.Erase op) o call = ended (tasks.Erase op) (tasks.Erase (erase_moved op (replies.Left o))) (replies.Left o) (omega arith)
      (volume_one (replies.Left o)) (erase_ends (replies.Left o) refl op)
  left_few (tasks.Schedule op) o call = let z = volume_left request o in
      ended (tasks.Schedule op) (tasks.Schedule (schedule_moved op (replies.Left o))) (replies.Left o) (omega arith) (omega (arith, z)) (schedule_ends op (replies.Left o) refl)

-- what was answered as done was written
abbrev done_object : Reply → Option Object
done_object (replies.Done o) = Some o
done_object reply = None

written_is : (w : World) (x : Effect) (o : Object) → (world_after w x).store.version ≡ w.store.version + 1 → reply_to x ≡ replies.Done o → written_by x ≡ Some o
unfolding world_after after reply_to reply_of
written_is w (OnStore (Says reply)) o version e = absurd (omega (arith, version))
written_is w (OnStore (Stores change p)) o version e = ap done_object e
written_is w (OnStore (Removes p)) o version e = none_some (ap done_object e)
written_is w (OnDevices a) o version e = absurd (omega (arith, version))
written_is w (SetsMoment at) o version e = absurd (omega (arith, version))

-- an object stands as it was written
module _ (setup : Setup) (seat base : ℕ) (h : List Entry) (history : IsHistory setup h) (begun : base ≤ (world setup h).store.version)
    (kind : SeatKind) (key : Key) (request : Request) (o : Object) (rows : List Object) (put : rows ≡ put_row o (world setup h).store.rows)
    (writes : Writes (world setup h) kind request o) where
  binder_done : (m : Machine) → TaskKeeps (tasks.Binder m) (own seat h) → call_of m ≡ Some request → machine_if (moved m (replies.Done o)) + 1 ≤ machine_writes m
  binder_done (Binds v c) keeps call = binds_wrote setup seat h history kind v c o keeps.0 keeps.1 request call writes
  binder_done (Frees v) keeps call = machine_wrote (Frees v) (replies.Done o) refl refl
  binder_done (MarksBound v) keeps call = machine_wrote (MarksBound v) (replies.Done o) refl refl
  binder_done (Releases v) keeps call = machine_wrote (Releases v) (replies.Done o) refl refl
  binder_done (AssignsClass c x) keeps call = machine_wrote (AssignsClass c x) (replies.Done o) refl refl
  binder_done (Loses c) keeps call = machine_wrote (Loses c) (replies.Done o) refl refl
  binder_done (Unbinds v) keeps call = machine_wrote (Unbinds v) (replies.Done o) refl refl
  binder_done (ReadsClaim v) keeps call = machine_wrote (ReadsClaim v) (replies.Done o) refl refl
  binder_done (ReadsVolume c) keeps call = machine_wrote (ReadsVolume c) (replies.Done o) refl refl

  abbrev old : List Object
  old = (world setup h).store.rows

  put_few : (t : Task) → TaskKeeps t (own seat h) → TaskIsOld base t → task_call t ≡ Some request → LeavesFewer base old rows t request (replies.Done o) (with_task key (task_moved t (replies.Done o)))
  put_few (tasks.Binder m) keeps told call = binder_few base old rows key request m (replies.Done o) (binder_done m keeps call)
  put_few (tasks.ClaimProtect op) keeps told call =
      ended base old rows key request (tasks.ClaimProtect op) (tasks.ClaimProtect (claim_moved op (replies.Done o))) (replies.Done o) (omega arith)
      (volume_one base old rows key request (replies.Done o)) (guard_ends (replies.Done o) refl op)
  put_few (tasks.VolumeProtect op) keeps told call =
      ended base old rows key request (tasks.VolumeProtect op) (tasks.VolumeProtect (volume_moved op (replies.Done o))) (replies.Done o)
      (omega arith) (volume_one base old rows key request (replies.Done o)) (volume_ends (replies.Done o) refl op)
  put_few (tasks.Agent op) keeps told call =
      ended base old rows key request (tasks.Agent op) (tasks.Agent (agent_moved op (replies.Done o))) (replies.Done o) (omega arith)
      (volume_one base old rows key request (replies.Done o)) (agent_ends (replies.Done o) refl op)
  put_few (tasks.Provision op) keeps told call =
      ended base old rows key request (tasks.Provision op) (tasks.Provision (provision_moved op (replies.Done o))) (replies.Done o) (omega arith)
      (volume_one base old rows key request (replies.Done o)) (provision_ends (replies.Done o) refl op)
  put_few (tasks.Erase op) keeps told call =
      ended base old rows key request (tasks.Erase op) (tasks.Erase (erase_moved op (replies.Done o))) (replies.Done o) (omega arith)
      (volume_one base old rows key request (replies.Done o)) (erase_ends (replies.Done o) refl op)
  put_few (tasks.Schedule op) keeps told call = schedule_wrote base (world setup h) (rows_stand_in_order setup h) begun kind key op request o rows put writes told call

-- ---- one call

module _ (setup : Setup) (seat : ℕ) (role : Role) (base : ℕ) where
  abbrev Keeps : List Entry → Under → Type 0
  Keeps h u = (base ≤ (world setup h).store.version) × TaskIsOld base u.task

  abbrev writes_left : List Object → Option Under → ℕ
  writes_left rows x = under_by (task_writes base rows) x

  abbrev volumes_left : List Object → Option Under → ℕ
  volumes_left rows x = under_by (task_volumes base rows) x

  each : (e : Entry) (h : List Entry) (u : Under) → IsRunOf setup (e ∷ h) → e.request ≡ u.call → e.kind ≡ role.kind → KeepsUnder role u (own seat h)
      → Keeps h u → Moves setup Keeps under_calls writes_left volumes_left e h u
  each e h u run asks kind way keeps = by (world_moves setup e h history.1)
    where
      history : IsHistory setup (e ∷ h)
      history = runs_are_histories setup (e ∷ h) run.run

      call : task_call u.task ≡ Some e.request
      call = way.call ∙ ap Some (sym asks)

      count : under_calls (world setup (e ∷ h)).store.rows (under_after u e.reply) + 1 ≤ calls_left (world setup h).store.rows u.task + done_by e.request e.reply
      count = subst (λ r. under_calls (world setup (e ∷ h)).store.rows (under_after u e.reply) + 1 ≤ calls_left
          (world setup h).store.rows u.task + done_by r e.reply) (sym asks) (calls_end setup e h u history asks way.call)

      goes_on : (world setup h).store.version ≤ (world setup (e ∷ h)).store.version → (n : Under) → under_after u e.reply ≡ Some n → Keeps (e ∷ h) n
      goes_on up n is = let low = keeps.0 in (omega (arith, low, up), kept_old base u n e.reply keeps.1 is)

      wrote : LeavesFewer base (world setup h).store.rows (world setup (e ∷ h)).store.rows u.task e.request e.reply (under_after u e.reply)
          → (world setup (e ∷ h)).store.version ≡ (world setup h).store.version + 1 → Moves setup Keeps under_calls writes_left volumes_left e h u
      wrote fewer version =
          let a = fewer.writes in
          let b = fewer.volumes in
          let c = count in
          let d = done_few e.request e.reply in
          record { kept = goes_on (omega (arith, version)); fewer_calls = omega (arith, c, d, version); fewer_writes = omega (arith, a, version); fewer_volumes = b }

      by : Stays (world setup h) (world setup (e ∷ h)) e.request e.reply ⊎ Wrote (world setup h) (world setup (e ∷ h)) e.reply → Moves setup Keeps under_calls writes_left volumes_left e h u
      by (inl s) =
          let no_more = stays_few base (world setup (e ∷ h)).store.rows u.key (world setup h).store.rows s.rows u.task e.request e.reply call s.none in
          let a = no_more.writes in
          let b = no_more.volumes in
          let c = count in
          let none = s.none in
          let version = s.version in
          let v = volume_few e.request e.reply in
          record { kept = goes_on (omega (arith, version)); fewer_calls = omega (arith, c, none, version); fewer_writes = omega (arith, a, version); fewer_volumes = omega (arith, b, v, none) }
      by (inr w) = elim w.rows [
        | inl done ↦ wrote (subst (λ (r : Reply). LeavesFewer base (world setup h).store.rows (world setup (e ∷ h)).store.rows u.task e.request r (with_task u.key (task_moved u.task r))) (sym done.0)
            (put_few setup seat base h history.0 keeps.0 e.kind u.key e.request w.event.object (world setup (e ∷ h)).store.rows done.1
            (write_asked setup (world setup h) e.kind e.request w.event.object (effect setup (world setup h) e.kind e.request)
            (effect_form setup (world setup h) e.kind e.request (rows_stand_in_order setup h))
            (written_is (world setup h) (effect setup (world setup h) e.kind e.request) w.event.object w.version (sym history.1 ∙ done.0)))
            u.task way.keeps keeps.1 call)) w.version
        | inr gone ↦ wrote (subst (λ (r : Reply). LeavesFewer base (world setup h).store.rows (world setup (e ∷ h)).store.rows u.task e.request r (with_task u.key (task_moved u.task r))) (sym gone.0)
            (left_few base (world setup h).store.rows (world setup (e ∷ h)).store.rows u.key e.request u.task w.event.object call)) w.version
      ]

-- ---- by what stands

unless_one : (b : Bool) → unless b 1 ≤ 1
unless_one true = omega arith
unless_one false = omega arith

volumes_low : (base : ℕ) (rows : List Object) → total (low_volume base) rows ≤ volumes_in rows
volumes_low base [] = omega arith
volumes_low base (Volume v ∷ os) = let a = unless_one (nat_lt base v.meta.version) in let rest = volumes_low base os in omega (arith, a, rest)
volumes_low base (Claim x ∷ os) = let rest = volumes_low base os in omega (arith, rest)
volumes_low base (Class x ∷ os) = let rest = volumes_low base os in omega (arith, rest)
volumes_low base (Node x ∷ os) = let rest = volumes_low base os in omega (arith, rest)
volumes_low base (Pod x ∷ os) = let rest = volumes_low base os in omega (arith, rest)

claims_low : (base : ℕ) (rows : List Object) → total (low_claim base) rows ≤ claims_in rows
claims_low base [] = omega arith
claims_low base (Claim c ∷ os) = let a = unless_one (nat_lt base c.meta.version) in let rest = claims_low base os in omega (arith, a, rest)
claims_low base (Volume x ∷ os) = let rest = claims_low base os in omega (arith, rest)
claims_low base (Class x ∷ os) = let rest = claims_low base os in omega (arith, rest)
claims_low base (Node x ∷ os) = let rest = claims_low base os in omega (arith, rest)
claims_low base (Pod x ∷ os) = let rest = claims_low base os in omega (arith, rest)

machine_four : (m : Machine) → machine_writes m ≤ 4
machine_four (Binds v c) = by (carries v c) (is_bound v.phase) (is_completed_with c v) (shows_bound c v)
  where
    by : (a b d e : Bool) → (if a then (if b then (if d then (if e then 0 else 1) else 2) else 3) else 4) ≤ 4
    by false b d e = omega arith
    by true false d e = omega arith
    by true true false e = omega arith
    by true true true false = omega arith
    by true true true true = omega arith
machine_four (Frees v) = omega arith
machine_four (MarksBound v) = omega arith
machine_four (Releases v) = omega arith
machine_four (AssignsClass c x) = omega arith
machine_four (Loses c) = omega arith
machine_four (Unbinds v) = omega arith
machine_four (ReadsClaim v) = omega arith
machine_four (ReadsVolume c) = omega arith

record IsFew (base : ℕ) (rows : List Object) (kind : SeatKind) (x : Option Under) : Type 0 where
  calls : under_calls rows x ≤ leftover_calls kind rows
  writes : under_by (task_writes base rows) x ≤ leftover_writes kind rows
  volumes : under_by (task_volumes base rows) x ≤ leftover_volumes kind rows

task_few : (base : ℕ) (rows : List Object) (u : Under) (t : Task) → u.task ≡ t → calls_left rows t ≤ leftover_calls (task_kind t) rows
    → (task_writes base rows t ≤ leftover_writes (task_kind t) rows) × (task_volumes base rows t ≤ leftover_volumes (task_kind t) rows) → IsFew base rows (task_kind t) (Some u)
task_few base rows u t is calls rest =
    record {
      calls = subst (λ y. calls_left rows y ≤ leftover_calls (task_kind t) rows) (sym is) calls;
      writes = subst (λ y. task_writes base rows y ≤ leftover_writes (task_kind t) rows) (sym is) rest.0;
      volumes = subst (λ y. task_volumes base rows y ≤ leftover_volumes (task_kind t) rows) (sym is) rest.1;
    }

calls_low : (rows : List Object) (t : Task) → calls_left rows t ≤ leftover_calls (task_kind t) rows
calls_low rows (tasks.Agent op) = let h = few rows (tasks.Agent op) in omega (arith, h)
calls_low rows (tasks.Binder m) = few rows (tasks.Binder m)
calls_low rows (tasks.ClaimProtect op) = few rows (tasks.ClaimProtect op)
calls_low rows (tasks.VolumeProtect op) = few rows (tasks.VolumeProtect op)
calls_low rows (tasks.Provision op) = few rows (tasks.Provision op)
calls_low rows (tasks.Erase op) = few rows (tasks.Erase op)
calls_low rows (tasks.Schedule op) = few rows (tasks.Schedule op)

writes_low : (base : ℕ) (rows : List Object) (t : Task) → (task_writes base rows t ≤ leftover_writes (task_kind t) rows) × (task_volumes base rows t ≤ leftover_volumes (task_kind t) rows)
writes_low base rows (tasks.Binder m) = (machine_four m, machine_four m)
writes_low base rows (tasks.ClaimProtect op) = (omega arith, omega arith)
writes_low base rows (tasks.VolumeProtect op) = (omega arith, omega arith)
writes_low base rows (tasks.Agent op) = (omega arith, omega arith)
writes_low base rows (tasks.Provision op) = (omega arith, omega arith)
writes_low base rows (tasks.Erase op) = (omega arith, omega arith)
writes_low base rows (tasks.Schedule op) = let a = volumes_low base rows in let b = claims_low base rows in (omega (arith, a, b), a)

is_few : (base : ℕ) (rows : List Object) (kind : SeatKind) (x : Option Under) → ((u : Under) → x ≡ Some u → task_kind u.task ≡ kind) → IsFew base rows kind x
is_few base rows kind None of_kind = record { calls = omega arith; writes = omega arith; volumes = omega arith }
is_few base rows kind (Some u) of_kind = subst (λ k. IsFew base rows k (Some u)) (of_kind u refl) (task_few base rows u u.task refl (calls_low rows u.task) (writes_low base rows u.task))

-- ---- the run

module _ (setup : Setup) (lets : Lets) (seat : ℕ) (s after_ : ActorState) (h past : List Entry) (b left : ℕ) (idle : Bool) (run : IsRunOf setup past)
    (runs : Runs lets seat after_ past left idle s h b) where
  abbrev base : ℕ
  base = (world setup h).store.version

  abbrev rows : List Object
  rows = (world setup h).store.rows

  few_of : (entries : List Entry) (budget : ℕ) (calls writes volumes : ℕ) → calls ≤ leftover_calls s.role.kind rows
      → writes ≤ leftover_writes s.role.kind rows → volumes ≤ leftover_volumes s.role.kind rows → Made setup seat s.role.kind calls writes volumes h entries b budget
      → AreFew setup seat s.role.kind h entries b budget
  few_of entries budget calls writes volumes low_calls low_writes low_volumes m =
      let n = counted setup m.newer h entries m.are in
      let a = m.few_calls in
      let w = m.few_writes in
      let v = m.few_volumes in
      record {
        newer = m.newer;
        are = m.are;
        by = m.by;
        called = m.called;
        calls = omega (arith, n, a, low_calls);
        writes = omega (arith, n, w, low_writes);
        volumes = omega (arith, v, low_volumes);
      }

  at_once : past ≡ h → left ≡ b → HasEnded setup lets seat after_ past left idle s h b
  at_once same rest = EndsThere (few_of past left 0 0 0 (omega arith) (omega arith) (omega arith)
      (none_made setup seat s.role.kind 0 0 0 h past b left same (omega (arith, rest)) (omega (arith, rest))))

  whole : IsReady seat s h → HasEnded setup lets seat after_ past left idle s h b
  whole ready = by (walk setup lets seat after_ past left idle run s.role (Keeps setup seat s.role base) under_calls
      (writes_left setup seat s.role base) (volumes_left setup seat s.role base) calls_some (each setup seat s.role base) s h b runs refl begun)
    where
      way : (u : Under) → s.under ≡ Some u → KeepsUnder s.role u (own seat h)
      way u e = keeps_under s.role u (own seat h) (stood s (own seat h) ready.stands.told) (subst (λ y. AnyIsUnderWay s.role y (own seat h)) e ready.stands.told.under_way)

      begun : (u : Under) → s.under ≡ Some u → Keeps setup seat s.role base h u
      begun u e = (omega arith, task_old setup seat h (runs_are_histories setup h (run_at setup lets seat after_ past left idle run s h b runs).run) u.task (way u e).keeps)

      is : IsFew base rows s.role.kind s.under
      is = is_few base rows s.role.kind s.under (λ u e. (way u e).of_kind)

      by : Ended setup lets seat after_ past left idle run s.role (Keeps setup seat s.role base) under_calls (writes_left setup seat s.role base)
          (volumes_left setup seat s.role base) s h b → HasEnded setup lets seat after_ past left idle s h b
      by (There m) = EndsThere (few_of past left _ _ _ is.calls is.writes is.volumes m)
      by (Further state entries budget more none pass role m) =
          AndGoesOn (record {
            state = state;
            entries = entries;
            budget = budget;
            runs = more;
            none = none;
            pass = pass;
            role = role;
            few =
                few_of entries budget _ _ _ is.calls is.writes is.volumes m;
          })

pub leftovers_end : LeftoversEnd
leftovers_end setup lets seat s after_ h past b left idle built run (IsSpent none state entries rest busy) =
    at_once setup lets seat s after_ h past b left idle run (IsSpent none state entries rest busy) entries rest
leftovers_end setup lets seat s after_ h past b left idle built run (IsIdle some ready turn entries rest calm) =
    at_once setup lets seat s after_ h past b left idle run (IsIdle some ready turn entries rest calm) entries rest
leftovers_end setup lets seat s after_ h past b left idle built run (Asks given next request reply some ready turn lets_it absorbs more) =
    whole setup lets seat s after_ h past b left idle run (Asks given next request reply some ready turn lets_it absorbs more) ready
leftovers_end setup lets seat s after_ h past b left idle built run (IsHeld given next request some ready turn held absorbs more) =
    whole setup lets seat s after_ h past b left idle run (IsHeld given next request some ready turn held absorbs more) ready
