-- The scheduler acts on a pod that no node runs: it is bound to its node, or its claims are prepared on one.
use Rattle.std.proofs.Common.{◌≡◌, ◌∙◌, ℕ, List, [], ◌∷◌, true, false, Option, Some, None, refl, sym, ap, subst}
use Rattle.std.specs.Prelude.{map}
use Rattle.kube_objects.specs.declared.key.Key.{Key}
use Rattle.kube_parts.specs.declared.names.Due.{Due}
use Rattle.kube_objects.specs.declared.objects.Claim.{Claim as ClaimData}
use Rattle.kube_objects.specs.declared.objects.Pod.{Pod as PodData}
use Rattle.kube_objects.specs.declared.objects.Object.{Object}
use Rattle.kube_objects.specs.declared.objects.Object.TheVariants.{Claim, Node, Pod, Volume}
use Rattle.kube_objects.specs.Bindings.{is_scheduled}
use Rattle.kube_objects.specs.Keys.{AreRows, key_of, row_at}
use Rattle.call_types.specs.declared.entry.Entry.{Entry}
use Rattle.call_types.specs.declared.request.Request.{Request}
use Rattle.call_types.specs.declared.request.Request.TheVariants.{BindPod}
use Rattle.call_types.specs.declared.request.SeatKind.TheVariants as seats
use Rattle.call_types.specs.declared.setup.Setup.{Setup}
use Rattle.binder_model.specs.Answers.{is_user}
use Rattle.binder_model.specs.BindWrites.{write_reference}
use Rattle.binder_model.specs.Choice.{claims_of, others_of}
use Rattle.binder_model.specs.Due.{IsDue}
use Rattle.binder_model.specs.Imports.{ImportsPass}
use Rattle.binder_model.specs.ObjectKeys.{node_key}
use Rattle.binder_model.specs.World.{world}
use Rattle.informer_cache.specs.All.{all_objects}
use Rattle.model_laws.proofs.Histories.{rows_stand_in_order}
use Rattle.model_laws.proofs.Lists.{none_some, one}
use Rattle.delayed_binding.specs.declared.choice.Choice.{Choice}
use Rattle.delayed_binding.specs.declared.choice.Choice.TheVariants.{Assign, Prepare, Wait, NoNode}
use Rattle.delayed_binding.specs.ChoiceLaw.{IsDueBy}
use Rattle.delayed_binding.specs.Choices.{IsChoice, stage_of}
use Rattle.delayed_binding.proofs.Dues.{choices_are_due}
use Rattle.delayed_binding.proofs.Known.{AreApart, Each, IsStored as Stands, others_apart, others_stored}
use Rattle.pod_scheduler.specs.declared.schedule.ScheduleOp.{ScheduleOp}
use Rattle.pod_scheduler.specs.declared.schedule.ScheduleStep.TheVariants as steps
use Rattle.pod_scheduler.specs.declared.tries.Tried.{Tried}
use Rattle.pod_scheduler.specs.Decisions.{BeginsFor, BeginsIf, BeginsOn, are_known, begun_with, binding, last_refused, writes_for}
use Rattle.pod_scheduler.specs.Schedules.{is_write, schedule_call}
use Rattle.settle_check.proofs.Placed.{none_in_a_namespace}
use Rattle.worker_core.specs.declared.role.Role.{Role}
use Rattle.worker_core.specs.declared.task.First.{First}
use Rattle.worker_core.specs.declared.task.First.TheVariants as firsts
use Rattle.worker_core.specs.declared.task.Task.TheVariants as tasks
use Rattle.worker_core.specs.States.{ActorState}
use Rattle.worker_core.specs.Tasks.{IsDecision, IsFirstOf, IsPodFirst}
use Rattle.settle_writes.specs.Writes.Lasting.{Lasts}
use Rattle.settle_writes.specs.Writes.Writes.{IsStored}
use Rattle.settle_writes.proofs.Writes.Pods.{bind_lasts, claims_once}
use Rattle.settle_writes.proofs.Writes.Valid.{rows_are_valid}
use Rattle.settle_writes.proofs.Writes.Volumes.{reference_lasts}
use Rattle.settle_alike.specs.Alike.Alike.{AreAlike}
use Rattle.settle_alike.proofs.Alike.Dues.{alike_is_due}
use Rattle.settle_slot.specs.Slot.Slots.{IsDecisionPoint}
use Rattle.settle_slot.specs.Slot.Would.{AtOnce, WouldLast}
use Rattle.settle_due.proofs.Upkeep.Deciding.{DecisionLasts, IsPodAt, acts_each, pod_alike, stored}
use Rattle.settle_due.proofs.Upkeep.Known.{rows_known}
use Rattle.settle_due.proofs.Upkeep.Reclaims.{has_uid}
use Rattle.settle_due.specs.Scheduling.Acts.{PodsAct}
use Rattle.settle_due.specs.Scheduling.Writes.{AreWritesOn, Places, Takes, placing}
use Rattle.settle_due.proofs.Scheduling.Choosing.{are_writes, assigned_of, claims_known, search_of, some_open}
use Rattle.settle_due.proofs.Scheduling.Placing.{SomeOpen, all_from, places_last}
use Rattle.settle_due.proofs.Scheduling.Seeing.{schedulers_see_all}

-- a machine begins that will make a call that lasts
record BeginsWith (setup : Setup) (seat : ℕ) (role : Role) (start : List Entry) (key : Key) (h : List Entry) (op : Option ScheduleOp) : Type 0 where
  machine : ScheduleOp
  is : op ≡ Some machine
  call : Request
  asks : schedule_call machine ≡ Some call
  will : WouldLast setup seat role.kind start h (record { key = key; task = tasks.Schedule machine; call = call })

-- by its first write
begins_with : (setup : Setup) (seat : ℕ) (role : Role) (start : List Entry) (key : Key) (h : List Entry) (op : Option ScheduleOp) (first : Request)
    (rest writes : List Request) → op ≡ begun_with writes → writes ≡ first ∷ rest → is_write first ≡ true
    → WouldLast setup seat role.kind start h
    (record { key = key; task = tasks.Schedule (record { writes = first ∷ rest; step = steps.Writes 0 }); call = first }) → BeginsWith setup seat role start key h op
unfolding schedule_call
begins_with setup seat role start key h op first rest writes begins are is_one will = record {
  machine = record { writes = first ∷ rest; step = steps.Writes 0 };
  is = begins ∙ ap begun_with are;
  call = first;
  asks = rw is_one refl;
  will = will;
}

-- a decision of the scheduler is one of a machine
by_machine : (setup : Setup) (seat : ℕ) (role : Role) (start : List Entry) (key : Key) (h : List Entry) (rows : List Object) (refused : List Tried)
    (row : Option Object) → ((op : Option ScheduleOp) → BeginsOn rows refused row op → BeginsWith setup seat role start key h op)
    → (first : First) → IsPodFirst rows refused row first → DecisionLasts setup seat role start key h first
by_machine setup seat role start key h rows refused row each firsts.Drops i = let m = each None i in none_some m.is
by_machine setup seat role start key h rows refused row each (firsts.Queues other) i = absurd i
by_machine setup seat role start key h rows refused row each (firsts.Begins (tasks.Schedule op)) i =
    let m = each (Some op) i in
    record { task = tasks.Schedule m.machine; call = m.call; is = ap (λ x. firsts.Begins (tasks.Schedule x)) (one op m.machine m.is); asks = m.asks; will = m.will }
by_machine setup seat role start key h rows refused row each (firsts.Begins (tasks.Binder machine)) i = absurd i
by_machine setup seat role start key h rows refused row each (firsts.Begins (tasks.ClaimProtect op)) i = absurd i
by_machine setup seat role start key h rows refused row each (firsts.Begins (tasks.VolumeProtect op)) i = absurd i
by_machine setup seat role start key h rows refused row each (firsts.Begins (tasks.Agent op)) i = absurd i
by_machine setup seat role start key h rows refused row each (firsts.Begins (tasks.Provision op)) i = absurd i
by_machine setup seat role start key h rows refused row each (firsts.Begins (tasks.Erase op)) i = absurd i

module _ (setup : Setup) (seat : ℕ) (role : Role) (start : List Entry) (key : Key) (pass : ImportsPass setup.imports) (kind : role.kind ≡ seats.Scheduler) where
  controller : is_user role.kind ≡ false
  controller = ap is_user kind

  -- the pod as it stands in a world that is like that of the start
  module _ (h : List Entry) (alike : AreAlike (world setup start) (world setup h)) (p : PodData)
      (there : row_at key (world setup h).store.rows ≡ Some (Pod p)) (unscheduled : is_scheduled p ≡ false) (last : Option (List ℕ)) where
    abbrev rows : List Object
    rows = (world setup h).store.rows

    order : AreRows rows
    order = rows_stand_in_order setup h

    on_store : IsStored (world setup h) (Pod p)
    on_store = stored setup h key (Pod p) pass there

    known : are_known rows p ≡ true
    known = claims_known rows (rows_known setup h pass) p

    assigns : (name : List ℕ) → IsChoice rows p last (Assign name) → (op : Option ScheduleOp) → op ≡ begun_with (writes_for rows p (Assign name)) → BeginsWith setup seat role start key h op
    assigns name f op begins =
        let a = assigned_of (stage_of rows p) rows (claims_of rows p) last name f in
        let uid = has_uid p.meta.uid (rows_known setup h pass key (Pod p) there) in
        let node_valid = rows_are_valid setup h pass (node_key a.node.meta.name) (Node a.node) a.first.there in
        let lasts : Lasts setup (world setup h) role.kind (BindPod (key_of (Pod p)) uid.uid name) =
        subst (λ x. Lasts setup (world setup h) role.kind (BindPod (key_of (Pod p)) uid.uid x)) (sym a.named)
        (bind_lasts setup (world setup h) role.kind controller p uid.uid on_store uid.is unscheduled a.node a.first.there node_valid) in
        begins_with setup seat role start key h op (BindPod (key_of (Pod p)) uid.uid name) [] (binding p p.meta.uid name) begins (ap (λ u. binding p u name) uid.is) refl (AtOnce alike lasts)

    -- the writes that prepare a node: the first that takes a volume lasts; of those that give claims the node one does
    writes_last : (name : List ℕ) (writes : List Request) → AreWritesOn rows p name writes → SomeOpen (others_of rows p) → (op : Option ScheduleOp)
        → op ≡ begun_with writes → BeginsWith setup seat role start key h op
    writes_last name writes (Takes v c rest are apart) some op begins =
        let uid = has_uid c.meta.uid apart.known in
        let lasts = reference_lasts setup (world setup h) role.kind v c uid.uid controller
        (stored setup h (key_of (Volume v)) (Volume v) pass apart.volume) (rows_are_valid setup h pass (key_of (Claim c)) (Claim c) apart.claim) uid.is apart.uncarried in
        begins_with setup seat role start key h op (write_reference v c) rest writes begins are refl (AtOnce alike lasts)
    writes_last name writes (Places are) some op begins = by (others_of rows p) (others_stored rows p) (others_apart rows p (claims_once p on_store.valid)) some are
      where
        by : (cs : List ClaimData) → Each (Stands rows) cs → AreApart cs → SomeOpen cs → writes ≡ map (placing name) cs → BeginsWith setup seat role start key h op
        by [] stand apart none e = absurd none
        by (c ∷ cs) stand apart open_ e =
            begins_with setup seat role start key h op (placing name c) (map (placing name) cs) writes begins e refl
            (places_last setup seat role start key pass kind name (map (placing name) (c ∷ cs)) c cs 0 h alike (all_from (map (placing name) (c ∷ cs))) stand apart open_)

    prepares : (name : List ℕ) (binds : List (Key × Key)) (provisions : List Key) → IsChoice rows p last (Prepare name binds provisions)
        → (op : Option ScheduleOp) → op ≡ begun_with (writes_for rows p (Prepare name binds provisions)) → BeginsWith setup seat role start key h op
    prepares name binds provisions f op begins =
        let search = search_of rows p last name binds provisions f in
        writes_last name _ (are_writes rows order p known last name binds provisions search) (some_open rows p search.waiting) op begins

    begins_by : (action : Due) (choice : Choice) → IsChoice rows p last choice → IsDueBy setup (world setup h) p choice (Some action)
        → (op : Option ScheduleOp) → op ≡ begun_with (writes_for rows p choice) → BeginsWith setup seat role start key h op
    begins_by action (Assign name) f due op begins = assigns name f op begins
    begins_by action (Prepare name binds provisions) f due op begins = prepares name binds provisions f op begins
    begins_by action Wait f due op begins = none_some (sym due)
    begins_by action NoNode f due op begins = none_some (sym due)

  module _ (p : PodData) (action : Due) (there : row_at key (world setup start).store.rows ≡ Some (Pod p)) (unscheduled : is_scheduled p ≡ false)
      (due : IsDue setup (world setup start) (Pod p) (Some action)) where
    at_point : (s : ActorState) (h : List Entry) → IsDecisionPoint setup seat role start s h → (first : First)
        → IsDecision s.role s.memory (all_objects s.caches) key first → DecisionLasts setup seat role start key h first
    at_point s h point first decided =
        by_machine setup seat role start key h (world setup h).store.rows s.memory.tries.refused (Some (Pod at.pod)) each first
        (subst (λ x. IsPodFirst (world setup h).store.rows s.memory.tries.refused x first) at.is on_rows)
      where
        at : IsPodAt (row_at key (world setup h).store.rows) p
        at = pod_alike (world setup start) (world setup h) key p point.alike there

        open_ : is_scheduled at.pod ≡ false
        open_ = ap (λ (x : PodData). is_scheduled x) at.same ∙ unscheduled

        due_here : IsDue setup (world setup h) (Pod at.pod) (Some action)
        due_here = alike_is_due setup (world setup start) (world setup h) (Pod p) (Pod at.pod) (Some action) point.alike (ap Pod (sym at.same)) due

        s_kind : s.role.kind ≡ seats.Scheduler
        s_kind = ap (λ (r : Role). r.kind) point.role_is ∙ kind

        on_rows : IsPodFirst (world setup h).store.rows s.memory.tries.refused (row_at key (world setup h).store.rows) first
        on_rows = subst (λ rows. IsPodFirst rows s.memory.tries.refused (row_at key rows) first)
            (schedulers_see_all setup seat role start s h kind point) (subst (λ k. IsFirstOf k s.role.node s.memory (all_objects s.caches) key first) s_kind decided)

        each : (op : Option ScheduleOp) → BeginsOn (world setup h).store.rows s.memory.tries.refused (Some (Pod at.pod)) op → BeginsWith setup seat role start key h op
        each op begins =
            let b : BeginsFor (world setup h).store.rows s.memory.tries.refused at.pod op = subst (λ x. BeginsIf x (world setup h).store.rows s.memory.tries.refused at.pod op) open_ begins in
            let last = last_refused (world setup h).store.rows at.pod s.memory.tries.refused in
            let chosen = choices_are_due setup (world setup h) at.pod last b.choice (Some action) (rows_stand_in_order setup h) (none_in_a_namespace setup pass h) open_ b.chosen in
            begins_by h point.alike at.pod at.is open_ last action b.choice b.chosen (chosen.0 due_here) op b.begins

pub pods_act : PodsAct
pods_act setup seat role start key p action pass kind there unscheduled due = acts_each setup seat role start key (at_point setup seat role start key pass kind p action there unscheduled due)
