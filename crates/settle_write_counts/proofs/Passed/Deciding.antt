-- What a scheduler decides on the store as it is costs no more writes than the pods may.
use Rattle.std.proofs.Common.{◌≡◌, ◌∙◌, ℕ, zero, suc, ◌+◌, ◌≤◌, List, [], ◌∷◌, ◌++◌, Bool, true, false, true≢false, Option, Some, None, refl, sym, ap, subst, arith, length, if◌then◌else◌}
use Rattle.std.specs.Prelude.{◌==◌, map, slice_get}
use Rattle.std.specs.List.{list_all}
use Rattle.std.proofs.lemmas.Bool.Decides.{nat_tests}
use Rattle.kube_objects.specs.declared.key.Key.{Key}
use Rattle.kube_parts.specs.declared.uid.Uid.{Uid}
use Rattle.kube_parts.specs.declared.parts.Kind.TheVariants as kinds
use Rattle.kube_objects.specs.declared.objects.Claim.{Claim as ClaimData}
use Rattle.kube_objects.specs.declared.objects.Node.{Node as NodeData}
use Rattle.kube_objects.specs.declared.objects.Pod.{Pod as PodData}
use Rattle.kube_objects.specs.declared.objects.Object.{Object}
use Rattle.kube_objects.specs.declared.objects.Object.TheVariants.{Class, Node, Volume, Claim, Pod}
use Rattle.kube_objects.specs.Bindings.{is_empty, is_scheduled, is_uid}
use Rattle.kube_objects.specs.Keys.{AreRows, key_of, put_row, row_at}
use Rattle.kube_objects.proofs.KeyOrder.{row_at_key}
use Rattle.kube_objects.proofs.RowPlaces.{row_at_place}
use Rattle.call_types.specs.declared.entry.Entry.{Entry}
use Rattle.call_types.specs.declared.reply.Change.TheVariants.{Modified}
use Rattle.call_types.specs.declared.request.Request.{Request}
use Rattle.call_types.specs.declared.request.Request.TheVariants.{BindPod}
use Rattle.call_types.specs.declared.request.SeatKind.TheVariants as seats
use Rattle.call_types.specs.declared.setup.Setup.{Setup}
use Rattle.binder_model.specs.Answers.{Stores, after, bind, outcome, pod_with, refuse}
use Rattle.binder_model.specs.Choice.{AreShares, IsProvisioned, Share, TakesVolume, claims_of, is_under_way}
use Rattle.binder_model.specs.Devices.{device_answer}
use Rattle.binder_model.specs.Imports.{ImportsPass}
use Rattle.binder_model.specs.ObjectKeys.{node_key}
use Rattle.binder_model.specs.Store.{at_version, with_meta}
use Rattle.binder_model.specs.World.{Effect, OnStore, effect, log_after, on_devices, world, world_after}
use Rattle.informer_cache.specs.All.{all_objects}
use Rattle.model_laws.proofs.Histories.{rows_stand_in_order}
use Rattle.model_laws.proofs.Lists.{none_some, one}
use Rattle.delayed_binding.specs.declared.choice.Choice.{Choice}
use Rattle.delayed_binding.specs.declared.choice.Choice.TheVariants.{Assign, Prepare, Wait, NoNode}
use Rattle.delayed_binding.specs.Choices.{IsChoice, others_in, set_aside, stage_of}
use Rattle.delayed_binding.specs.Writes.{bind_write, node_write}
use Rattle.delayed_binding.proofs.Known.{Each, IsStored as Stands, others_apart, others_sought, others_stored}
use Rattle.pod_scheduler.specs.declared.schedule.ScheduleOp.{ScheduleOp}
use Rattle.pod_scheduler.specs.declared.tries.Tried.{Tried}
use Rattle.pod_scheduler.specs.Decisions.{BeginsIf, BeginsOn, are_known, begun_with, binding, last_refused, present, writes_for}
use Rattle.pod_scheduler.specs.Schedules.{is_write, schedule_call}
use Rattle.pod_scheduler.proofs.Begun.{all_known}
use Rattle.settle_measure.specs.Left.Measure.{total}
use Rattle.worker_core.specs.declared.role.Role.{Role}
use Rattle.worker_core.specs.declared.task.First.TheVariants as firsts
use Rattle.worker_core.specs.declared.task.Task.{Task}
use Rattle.worker_core.specs.declared.task.Task.TheVariants as tasks
use Rattle.worker_core.specs.declared.task.Under.{Under}
use Rattle.worker_core.specs.States.{ActorState}
use Rattle.worker_core.specs.Tasks.{GivesCall, IsFirstOf, IsPodFirst, task_call}
use Rattle.settle_writes.proofs.Writes.Pods.{claims_once, node_named}
use Rattle.settle_writes.proofs.Writes.Valid.{rows_are_valid}
use Rattle.settle_due.proofs.Upkeep.Known.{rows_known}
use Rattle.settle_due.proofs.Upkeep.Reclaims.{has_uid}
use Rattle.settle_slot.specs.Slot.Slots.{IsDecisionPoint, own_entry}
use Rattle.settle_due.specs.Scheduling.Writes.{placing}
use Rattle.settle_due.proofs.Scheduling.Choosing.{assigned_of, claims_known, node_writes, search_of, written}
use Rattle.settle_due.proofs.Scheduling.Placing.{all_from}
use Rattle.settle_due.proofs.Scheduling.Seeing.{schedulers_see_all}
use Rattle.settle_pays.proofs.Scheduler.Open.{each_placed, others_seek, placed_apart, placed_of, provisions_are}
use Rattle.settle_pays.proofs.Scheduler.Paying.{IsOpen, all_free, all_open, at_call, from_begun, next_of, present_both, refs_are, refs_in}
use Rattle.settle_write_counts.proofs.Passed.Costs.{Grows, costs_apart, costs_beside, costs_fall, costs_on, pod_costs, put_grows}
use Rattle.settle_write_counts.proofs.Passed.Covered.{all_covered, others_few, shared_few, shared_in, takers_of}
use Rattle.settle_write_counts.proofs.Passed.Spending.{EachSpends, Spends, spends_more, takes}

-- ---- each request of a preparation is a write

each_at : {X : Type 0} (P : X → Type 0) (xs : List X) → Each P xs → (i : ℕ) (x : X) → slice_get xs i ≡ Some x → P x
each_at P [] each i x e = none_some e
each_at P (y ∷ ys) each zero x e = subst P (one y x e) each.0
each_at P (y ∷ ys) each (suc i) x e = each_at P ys each.1 i x e

each_joined : {X : Type 0} (P : X → Type 0) (xs ys : List X) → Each P xs → Each P ys → Each P (xs ++ ys)
each_joined P [] ys a b = b
each_joined P (x ∷ xs) ys a b = (a.0, each_joined P xs ys a.1 b)

refs_write : (rows : List Object) (n : NodeData) (cs : List ClaimData) (shares : List Share) (taken : List ℕ)
    (are : AreShares rows n taken cs shares) → Each (λ r. is_write r ≡ true) (refs_in rows n cs shares taken are)
refs_write rows n [] [] taken are = tt
refs_write rows n [] (TakesVolume place ∷ shares) taken are = absurd are
refs_write rows n [] (IsProvisioned ∷ shares) taken are = absurd are
refs_write rows n (c ∷ cs) [] taken are = absurd are
refs_write rows n (c ∷ cs) (TakesVolume place ∷ shares) taken are = (refl, refs_write rows n cs shares (place ∷ taken) are.1)
refs_write rows n (c ∷ cs) (IsProvisioned ∷ shares) taken are = refs_write rows n cs shares taken are.2

nodes_write : (name : List ℕ) (cs : List ClaimData) → Each (λ r. is_write r ≡ true) (map (placing name) cs)
nodes_write name [] = tt
nodes_write name (c ∷ cs) = (refl, nodes_write name cs)

-- ---- what begins for a pod

module _ (setup : Setup) (past : List Entry) (seat : ℕ) (p : PodData) (pass : ImportsPass setup.imports)
    (there : row_at (key_of (Pod p)) (world setup past).store.rows ≡ Some (Pod p)) (unscheduled : is_scheduled p ≡ false) (last : Option (List ℕ)) (op : ScheduleOp) (call : Request)
    (asks : schedule_call op ≡ Some call) where
  abbrev rows : List Object
  rows = (world setup past).store.rows

  order : AreRows rows
  order = rows_stand_in_order setup past

  known : are_known rows p ≡ true
  known = claims_known rows (rows_known setup past pass) p

  abbrev Here : Under → Type 0
  Here u = Spends setup seat (costs_on rows) past u

  abbrev at_pod : ScheduleOp → Under
  at_pod x = record { key = key_of (Pod p); task = tasks.Schedule x; call = call }

  -- the pod is bound to a node
  module _ (uid : Uid) (has : p.meta.uid ≡ Some uid) (n : NodeData) (n_there : row_at (node_key n.meta.name) rows ≡ Some (Node n)) where
    named : is_empty n.meta.name ≡ false
    named = node_named n (rows_are_valid setup past pass (node_key n.meta.name) (Node n) n_there)

    abbrev bound : Object
    bound = at_version (Pod (record p { node = n.meta.name })) ((world setup past).store.version + 1)

    abbrev binds : Request
    binds = BindPod (key_of (Pod p)) uid n.meta.name

    abbrev behind : List Entry
    behind = own_entry setup seat seats.Scheduler past binds ∷ past

    comes : effect setup (world setup past) seats.Scheduler binds ≡ OnStore (Stores Modified bound)
    unfolding effect on_devices device_answer outcome refuse bind pod_with
    comes =
        let itself : (uid.0 == uid.0) ≡ true = grind (arith, nat_tests) in
        let same : is_uid p.meta.uid uid ≡ true = ap (λ u. is_uid u uid) has ∙ itself in
        rw (there, same, unscheduled, n_there, named) refl

    rows_bound : (world setup behind).store.rows ≡ put_row bound rows
    unfolding world_after after log_after
    rows_bound = ap (λ (x : Effect). (world_after (world setup past) x).store.rows) comes

    version_bound : (world setup behind).store.version ≡ (world setup past).store.version + 1
    unfolding world_after after log_after
    version_bound = ap (λ (x : Effect). (world_after (world setup past) x).store.version) comes

    abbrev is_pod : Object → Bool
    is_pod (Pod x) = true
    is_pod o = false

    grows : Grows rows (put_row bound rows)
    unfolding at_version with_meta
    grows = put_grows rows bound (Pod p) order there (λ d stands e. true≢false (sym e)) (λ d e. absurd (true≢false (ap is_pod e)))

    falls : costs_on (put_row bound rows) + pod_costs rows (Pod p) ≤ costs_on rows
    unfolding at_version with_meta
    falls = costs_fall bound (Pod p) rows order there grows (rw named refl)

    costs_some : 1 ≤ pod_costs rows (Pod p)
    costs_some = by (is_scheduled p) (list_all (is_under_way rows) (claims_of rows p)) unscheduled
      where
        by : (a b : Bool) → a ≡ false → 1 ≤ (if a then 0 else if b then 1 else 1 + length p.claims)
        by true b e = absurd (true≢false e)
        by false true e = omega arith
        by false false e = omega arith

    spent : Here (at_call setup seat (key_of (Pod p)) (binds ∷ []) 0 binds)
    spent =
        EachSpends (costs_on (world setup behind).store.rows) (let v = version_bound in let r = ap costs_on rows_bound in let f = falls in let s = costs_some in omega (arith, v, r, f, s))
        (λ next e. let m = next_of setup seat (key_of (Pod p)) (binds ∷ []) 0 binds _ next e in none_some m.there) (λ e. omega arith)

  assigns : (name : List ℕ) → IsChoice rows p last (Assign name) → Some op ≡ begun_with (writes_for rows p (Assign name)) → Here (at_pod op)
  assigns name f begins =
      let a = assigned_of (stage_of rows p) rows (claims_of rows p) last name f in
      let uid = has_uid p.meta.uid (rows_known setup past pass (key_of (Pod p)) (Pod p) there) in
      let bind_it = BindPod (key_of (Pod p)) uid.uid a.node.meta.name in
      from_begun setup seat (key_of (Pod p)) Here op call (bind_it ∷ []) (begins ∙ (ap (λ u. begun_with (binding p u name)) uid.is ∙ ap (λ x. begun_with (binding p (Some uid.uid) x)) a.named)) asks
      (λ at. subst (λ r. Here (at_call setup seat (key_of (Pod p)) (bind_it ∷ []) 0 r)) (one bind_it call at) (spent uid.uid uid.is a.node a.first.there))

  -- its claims are prepared
  prepares : (name : List ℕ) (binds_ : List (Key × Key)) (provisions : List Key) → IsChoice rows p last (Prepare name binds_ provisions)
      → Some op ≡ begun_with (writes_for rows p (Prepare name binds_ provisions)) → Here (at_pod op)
  prepares name binds_ provisions f begins =
      let search = search_of rows p last name binds_ provisions f in
      let n = search.prepared.node in
      let shares = search.prepared.prepares.shares in
      let are = search.prepared.prepares.serves.shared in
      let others = others_in rows (claims_of rows p) in
      let nodes = placed_of others shares in
      let stand = others_stored rows p in
      let sought = others_sought rows p (all_known rows p known) search.here in
      let open_ = all_open rows others (others_seek rows p search.whole search.here) sought in
      let apart = others_apart rows p (claims_once p (rows_are_valid setup past pass (key_of (Pod p)) (Pod p) there)) in
      let writes = refs_in rows n others shares (set_aside rows) are ++ map (placing name) nodes in
      let provided : provisions ≡ map (λ c. key_of (Claim c)) nodes = search.prepared.prepares.provisions_are ∙ provisions_are others shares in
      let taken_are : present (map (bind_write rows) binds_) ≡ refs_in rows n others shares (set_aside rows) are =
      ap (λ bs. present (map (bind_write rows) bs)) search.prepared.prepares.binds_are ∙ refs_are rows order n others shares (set_aside rows) are stand in
      let placed_are : present (map (node_write rows name) provisions) ≡ map (placing name) nodes =
      ap (λ ks. present (map (node_write rows name) ks)) provided ∙ node_writes rows name nodes (each_placed (Stands rows) others shares stand) in
      let writes_are : writes_for rows p (Prepare name binds_ provisions) ≡ writes =
      written rows order p known last name binds_ provisions ∙ (present_both (map (bind_write rows) binds_) (map (node_write rows name) provisions) ∙ (λ i. taken_are i ++ placed_are i)) in
      let all_write = each_joined (λ r. is_write r ≡ true) (refs_in rows n others shares (set_aside rows) are) (map (placing name) nodes)
      (refs_write rows n others shares (set_aside rows) are) (nodes_write name nodes) in
      let few : length (takers_of others shares ++ nodes) ≤ length p.claims = let a = shared_few others shares in let b = others_few rows p in omega (arith, a, b) in
      from_begun setup seat (key_of (Pod p)) Here op call writes (begins ∙ ap begun_with writes_are) asks
      (λ at. spends_more setup seat _ (costs_on rows) past _ (enough (length (takers_of others shares ++ nodes)) few search.waiting)
      (takes setup seat p writes (each_at (λ r. is_write r ≡ true) writes all_write) pass name rows order n nodes
      (each_placed (Stands rows) others shares stand) (each_placed IsOpen others shares open_) (placed_apart others shares apart) others shares (set_aside rows) are 0 past
      (record {
        claims = λ c. refl;
        volumes = λ place v spot out. row_at_place kinds.PersistentVolume place (Volume v) rows order spot;
        uncarried =
            all_free rows others sought;
      }) stand open_ apart (all_from writes) there
      (all_covered rows p (takers_of others shares ++ nodes) (λ d i. shared_in rows n d others shares (set_aside rows) are i)) call at))
    where
      enough : (k : ℕ) → k ≤ length p.claims → list_all (is_under_way rows) (claims_of rows p) ≡ false → total (costs_beside (key_of (Pod p)) rows) rows + k + 1 ≤ costs_on rows
      enough k few waits =
          let apart = costs_apart (key_of (Pod p)) (Pod p) rows order there in
          let costs : pod_costs rows (Pod p) ≡ 1 + length p.claims = rw (unscheduled, waits) refl in
          omega (arith, apart, costs, few)

  begins_by : (choice : Choice) → IsChoice rows p last choice → Some op ≡ begun_with (writes_for rows p choice) → Here (at_pod op)
  begins_by (Assign name) f begins = assigns name f begins
  begins_by (Prepare name binds_ provisions) f begins = prepares name binds_ provisions f begins
  begins_by Wait f begins = none_some (sym begins)
  begins_by NoNode f begins = none_some (sym begins)

begun_spends : (setup : Setup) (past : List Entry) (seat : ℕ) (p : PodData) (refused : List Tried) (op : ScheduleOp) (call : Request)
    → ImportsPass setup.imports → row_at (key_of (Pod p)) (world setup past).store.rows ≡ Some (Pod p)
    → BeginsOn (world setup past).store.rows refused (Some (Pod p)) (Some op) → schedule_call op ≡ Some call
    → Spends setup seat (costs_on (world setup past).store.rows) past (record { key = key_of (Pod p); task = tasks.Schedule op; call = call })
begun_spends setup past seat p refused op call pass there begins asks = by (is_scheduled p) refl begins
  where
    by : (b : Bool) → is_scheduled p ≡ b → BeginsIf b (world setup past).store.rows refused p (Some op)
        → Spends setup seat (costs_on (world setup past).store.rows) past (record { key = key_of (Pod p); task = tasks.Schedule op; call = call })
    by true e b = none_some (sym b)
    by false e b = begins_by setup past seat p pass there e (last_refused (world setup past).store.rows p refused) op call asks b.choice b.chosen b.begins

-- ---- a decision

module _ (setup : Setup) (seat : ℕ) (role : Role) (kind : role.kind ≡ seats.Scheduler) (s : ActorState) (h : List Entry) (u : Under)
    (pass : ImportsPass setup.imports) (point : IsDecisionPoint setup seat role h s h) (gives : GivesCall s.role s.memory (all_objects s.caches) u) where
  abbrev stand : List Object
  stand = (world setup h).store.rows

  abbrev refused : List Tried
  refused = s.memory.tries.refused

  decided : IsPodFirst stand refused (row_at u.key stand) (firsts.Begins u.task)
  decided =
      let s_kind : s.role.kind ≡ seats.Scheduler = ap (λ (r : Role). r.kind) point.role_is ∙ kind in
      subst (λ xs. IsPodFirst xs refused (row_at u.key xs) (firsts.Begins u.task)) (schedulers_see_all setup seat role h s h kind point)
      (subst (λ k. IsFirstOf k s.role.node s.memory (all_objects s.caches) u.key (firsts.Begins u.task)) s_kind gives.decided)

  -- by the machine that began
  by_op : (op : ScheduleOp) → u.task ≡ tasks.Schedule op → (row : Option Object) → row_at u.key stand ≡ row → BeginsOn stand refused row (Some op) → Spends setup seat (costs_on stand) h u
  by_op op task (Some (Pod q)) there begins =
      let asks : schedule_call op ≡ Some u.call = ap task_call (sym task) ∙ gives.call in
      let key : key_of (Pod q) ≡ u.key = row_at_key u.key (Pod q) stand there in
      let spends = begun_spends setup h seat q refused op u.call pass (ap (λ k. row_at k stand) key ∙ there) begins asks in
      subst (Spends setup seat (costs_on stand) h) (λ i. record { key = key i; task = (sym task) i; call = u.call }) spends
  by_op op task None there begins = none_some (sym begins)
  by_op op task (Some (Class x)) there begins = none_some (sym begins)
  by_op op task (Some (Node x)) there begins = none_some (sym begins)
  by_op op task (Some (Volume x)) there begins = none_some (sym begins)
  by_op op task (Some (Claim x)) there begins = none_some (sym begins)

  by_task : (task : Task) → u.task ≡ task → IsPodFirst stand refused (row_at u.key stand) (firsts.Begins task) → Spends setup seat (costs_on stand) h u
  by_task (tasks.Schedule op) is begins = by_op op is (row_at u.key stand) refl begins
  by_task (tasks.Binder machine) is begins = absurd begins
  by_task (tasks.ClaimProtect op) is begins = absurd begins
  by_task (tasks.VolumeProtect op) is begins = absurd begins
  by_task (tasks.Agent op) is begins = absurd begins
  by_task (tasks.Provision op) is begins = absurd begins
  by_task (tasks.Erase op) is begins = absurd begins

  pub decision_spends : Spends setup seat (costs_on stand) h u
  decision_spends = by_task u.task refl decided
