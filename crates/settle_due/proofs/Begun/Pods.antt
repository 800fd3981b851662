-- What the scheduler begins lasts: it binds the pod to a node, or takes a volume, or gives claims their node, one of which has none.
use Rattle.std.proofs.Common.{◌≡◌, ◌∙◌, ℕ, List, [], ◌∷◌, Bool, true, false, Option, Some, None, refl, sym, ap, subst}
use Rattle.std.specs.Prelude.{map}
use Rattle.kube_objects.specs.declared.objects.Claim.{Claim as ClaimData}
use Rattle.kube_objects.specs.declared.objects.Pod.{Pod as PodData}
use Rattle.kube_objects.specs.declared.objects.Object.{Object}
use Rattle.kube_objects.specs.declared.objects.Object.TheVariants.{Class, Node, Volume, Claim, Pod}
use Rattle.kube_objects.specs.Bindings.{is_scheduled}
use Rattle.kube_objects.specs.Keys.{AreRows, key_of, row_at}
use Rattle.call_types.specs.declared.entry.Entry.{Entry}
use Rattle.call_types.specs.declared.request.Request.{Request}
use Rattle.call_types.specs.declared.request.Request.TheVariants.{BindPod}
use Rattle.call_types.specs.declared.request.SeatKind.TheVariants as seats
use Rattle.call_types.specs.declared.setup.Setup.{Setup}
use Rattle.binder_model.specs.Answers.{is_user}
use Rattle.binder_model.specs.BindWrites.{write_reference}
use Rattle.binder_model.specs.Choice.{claims_of, others_of}
use Rattle.binder_model.specs.Imports.{ImportsPass}
use Rattle.binder_model.specs.ObjectKeys.{node_key}
use Rattle.binder_model.specs.World.{world}
use Rattle.informer_cache.specs.All.{all_objects}
use Rattle.model_laws.proofs.Histories.{rows_stand_in_order}
use Rattle.model_laws.proofs.Lists.{none_some, one}
use Rattle.delayed_binding.specs.declared.choice.Choice.{Choice}
use Rattle.delayed_binding.specs.declared.choice.Choice.TheVariants.{Assign, Prepare, Wait, NoNode}
use Rattle.delayed_binding.specs.Choices.{IsChoice, stage_of}
use Rattle.delayed_binding.proofs.Known.{AreApart, Each, IsStored as Stands, others_apart, others_stored}
use Rattle.pod_scheduler.specs.declared.schedule.ScheduleOp.{ScheduleOp}
use Rattle.pod_scheduler.specs.declared.schedule.ScheduleStep.TheVariants as steps
use Rattle.pod_scheduler.specs.declared.tries.Tried.{Tried}
use Rattle.pod_scheduler.specs.Decisions.{BeginsIf, BeginsOn, begun_with, binding, last_refused, writes_for}
use Rattle.pod_scheduler.specs.Schedules.{is_write, schedule_call}
use Rattle.worker_core.specs.declared.role.Role.{Role}
use Rattle.worker_core.specs.declared.task.First.TheVariants as firsts
use Rattle.worker_core.specs.declared.task.Task.{Task}
use Rattle.worker_core.specs.declared.task.Task.TheVariants as tasks
use Rattle.worker_core.specs.declared.task.Under.{Under}
use Rattle.worker_core.specs.States.{ActorState}
use Rattle.worker_core.specs.Tasks.{GivesCall, IsFirstOf, IsPodFirst, task_call}
use Rattle.settle_writes.specs.Writes.Lasting.{Lasts}
use Rattle.settle_writes.specs.Writes.Writes.{IsStored}
use Rattle.settle_writes.proofs.Writes.Pods.{bind_lasts, claims_once}
use Rattle.settle_writes.proofs.Writes.Valid.{rows_are_valid}
use Rattle.settle_writes.proofs.Writes.Volumes.{reference_lasts}
use Rattle.settle_slot.specs.Slot.Slots.{IsDecisionPoint}
use Rattle.settle_slot.specs.Slot.Would.{AtOnce, WouldLast}
use Rattle.settle_due.proofs.Upkeep.Deciding.{stored}
use Rattle.settle_due.proofs.Upkeep.Known.{rows_known}
use Rattle.settle_due.proofs.Upkeep.Reclaims.{has_uid}
use Rattle.settle_due.specs.Scheduling.Writes.{AreWritesOn, Places, Takes, placing}
use Rattle.settle_due.proofs.Scheduling.Choosing.{are_writes, assigned_of, claims_known, search_of, some_open}
use Rattle.settle_due.proofs.Scheduling.Placing.{SomeOpen, all_from, places_last}
use Rattle.settle_due.proofs.Scheduling.Seeing.{schedulers_see_all}
use Rattle.settle_due.specs.Begun.Begun.{SchedulingLasts}

-- the machine that begins with these writes
abbrev op_of : List Request → ScheduleOp
op_of writes = record { writes = writes; step = steps.Writes 0 }

first_is : (first : Request) (rest : List Request) → is_write first ≡ true → schedule_call (op_of (first ∷ rest)) ≡ Some first
unfolding schedule_call
first_is first rest is = rw is refl

module _ (setup : Setup) (seat : ℕ) (role : Role) (start : List Entry) (pass : ImportsPass setup.imports) (kind : role.kind ≡ seats.Scheduler)
    (s : ActorState) (h : List Entry) (u : Under) (point : IsDecisionPoint setup seat role start s h) (gives : GivesCall s.role s.memory (all_objects s.caches) u) where
  controller : is_user role.kind ≡ false
  controller = ap is_user kind

  abbrev rows : List Object
  rows = (world setup h).store.rows

  order : AreRows rows
  order = rows_stand_in_order setup h

  abbrev refused : List Tried
  refused = s.memory.tries.refused

  abbrev WouldHere : Type 0
  WouldHere = WouldLast setup seat role.kind start h u

  abbrev WouldWith : ScheduleOp → Request → Type 0
  WouldWith op call = WouldLast setup seat role.kind start h (record { key = u.key; task = tasks.Schedule op; call = call })

  s_kind : s.role.kind ≡ seats.Scheduler
  s_kind = ap (λ (r : Role). r.kind) point.role_is ∙ kind

  -- the scheduler has cached the rows of the store
  decided : IsPodFirst rows refused (row_at u.key rows) (firsts.Begins u.task)
  decided = subst (λ xs. IsPodFirst xs refused (row_at u.key xs) (firsts.Begins u.task)) (schedulers_see_all setup seat role start s h kind point)
      (subst (λ k. IsFirstOf k s.role.node s.memory (all_objects s.caches) u.key (firsts.Begins u.task)) s_kind gives.decided)

  module _ (op : ScheduleOp) (task : u.task ≡ tasks.Schedule op) where
    -- by its first write
    begins_with : (first : Request) (rest writes : List Request) → Some op ≡ begun_with writes → writes ≡ first ∷ rest → is_write first ≡ true → WouldWith (op_of (first ∷ rest)) first → WouldHere
    begins_with first rest writes begins are is will =
        let same : op ≡ op_of (first ∷ rest) = one op (op_of (first ∷ rest)) (begins ∙ ap begun_with are) in
        let own : u.task ≡ tasks.Schedule (op_of (first ∷ rest)) = task ∙ ap (λ x. tasks.Schedule x) same in
        let call : u.call ≡ first = one u.call first (sym gives.call ∙ (ap task_call own ∙ first_is first rest is)) in
        subst (WouldLast setup seat role.kind start h) (λ i. record { key = u.key; task = (sym own) i; call = (sym call) i }) will

    module _ (p : PodData) (there : row_at u.key rows ≡ Some (Pod p)) (unscheduled : is_scheduled p ≡ false) (last : Option (List ℕ)) where
      on_store : IsStored (world setup h) (Pod p)
      on_store = stored setup h u.key (Pod p) pass there

      assigns : (name : List ℕ) → IsChoice rows p last (Assign name) → Some op ≡ begun_with (writes_for rows p (Assign name)) → WouldHere
      assigns name chosen begins =
          let a = assigned_of (stage_of rows p) rows (claims_of rows p) last name chosen in
          let uid = has_uid p.meta.uid (rows_known setup h pass u.key (Pod p) there) in
          let node_valid = rows_are_valid setup h pass (node_key a.node.meta.name) (Node a.node) a.first.there in
          let lasts : Lasts setup (world setup h) role.kind (BindPod (key_of (Pod p)) uid.uid name) =
          subst (λ x. Lasts setup (world setup h) role.kind (BindPod (key_of (Pod p)) uid.uid x)) (sym a.named)
          (bind_lasts setup (world setup h) role.kind controller p uid.uid on_store uid.is unscheduled a.node a.first.there node_valid) in
          begins_with (BindPod (key_of (Pod p)) uid.uid name) [] (binding p p.meta.uid name) begins (ap (λ x. binding p x name) uid.is) refl (AtOnce point.alike lasts)

      -- the first write that takes a volume lasts; of those that give claims the node one does
      prepares : (name : List ℕ) (writes : List Request) → AreWritesOn rows p name writes → SomeOpen (others_of rows p) → Some op ≡ begun_with writes → WouldHere
      prepares name writes (Takes v c rest are apart) some begins =
          let uid = has_uid c.meta.uid apart.known in
          let lasts = reference_lasts setup (world setup h) role.kind v c uid.uid controller
          (stored setup h (key_of (Volume v)) (Volume v) pass apart.volume) (rows_are_valid setup h pass (key_of (Claim c)) (Claim c) apart.claim) uid.is apart.uncarried in
          begins_with (write_reference v c) rest writes begins are refl (AtOnce point.alike lasts)
      prepares name writes (Places are) some begins = by (others_of rows p) (others_stored rows p) (others_apart rows p (claims_once p on_store.valid)) some are
        where
          by : (cs : List ClaimData) → Each (Stands rows) cs → AreApart cs → SomeOpen cs → writes ≡ map (placing name) cs → WouldHere
          by [] stand apart none e = absurd none
          by (c ∷ cs) stand apart open_ e =
              begins_with (placing name c) (map (placing name) cs) writes begins e refl
              (places_last setup seat role start u.key pass kind name (map (placing name) (c ∷ cs)) c cs 0 h point.alike (all_from (map (placing name) (c ∷ cs))) stand apart open_)

      by_choice : (choice : Choice) → IsChoice rows p last choice → Some op ≡ begun_with (writes_for rows p choice) → WouldHere
      by_choice (Assign name) chosen begins = assigns name chosen begins
      by_choice (Prepare name binds provisions) chosen begins =
          let search = search_of rows p last name binds provisions chosen in
          prepares name _ (are_writes rows order p (claims_known rows (rows_known setup h pass) p) last name binds provisions search) (some_open rows p search.waiting) begins
      by_choice Wait chosen begins = none_some (sym begins)
      by_choice NoNode chosen begins = none_some (sym begins)

    of_pod : (p : PodData) → row_at u.key rows ≡ Some (Pod p) → (scheduled : Bool) → is_scheduled p ≡ scheduled → BeginsIf scheduled rows refused p (Some op) → WouldHere
    of_pod p there true is begins = none_some (sym begins)
    of_pod p there false is begins = by_choice p there is (last_refused rows p refused) begins.choice begins.chosen begins.begins

    by_row : (row : Option Object) → row_at u.key rows ≡ row → BeginsOn rows refused row (Some op) → WouldHere
    by_row (Some (Pod p)) is begins = of_pod p is (is_scheduled p) refl begins
    by_row None is begins = none_some (sym begins)
    by_row (Some (Class x)) is begins = none_some (sym begins)
    by_row (Some (Node x)) is begins = none_some (sym begins)
    by_row (Some (Volume x)) is begins = none_some (sym begins)
    by_row (Some (Claim x)) is begins = none_some (sym begins)

  by_task : (task : Task) → u.task ≡ task → IsPodFirst rows refused (row_at u.key rows) (firsts.Begins task) → WouldHere
  by_task (tasks.Schedule op) is begins = by_row op is (row_at u.key rows) refl begins
  by_task (tasks.Binder machine) is begins = absurd begins
  by_task (tasks.ClaimProtect op) is begins = absurd begins
  by_task (tasks.VolumeProtect op) is begins = absurd begins
  by_task (tasks.Agent op) is begins = absurd begins
  by_task (tasks.Provision op) is begins = absurd begins
  by_task (tasks.Erase op) is begins = absurd begins

  pub scheduled : WouldHere
  scheduled = by_task u.task refl decided

pub scheduling_lasts : SchedulingLasts
scheduling_lasts setup seat role pass kind start s h u point gives = scheduled setup seat role start pass kind s h u point gives
