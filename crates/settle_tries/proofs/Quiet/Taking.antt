-- A claim from which ops takes a node back was to lose it when the slot began.
use Rattle.std.proofs.Common.{◌≡◌, ◌≢◌, ◌∙◌, ◌⊎◌, ℕ, ◌≤◌, List, [], ◌∷◌, ◌++◌, append_assoc, Bool, true, false, true≢false, Option, Some, None, inl, inr, refl, sym, ap, subst, if◌then◌else◌}
use Rattle.std.specs.Prelude.{is_some, ⊤}
use Rattle.plain_data.specs.Pairs.{Pair}
use Rattle.kube_objects.specs.declared.key.Key.{Key}
use Rattle.kube_parts.specs.declared.uid.Uid.{Uid}
use Rattle.kube_parts.specs.declared.names.Due.TheVariants as dues
use Rattle.kube_objects.specs.declared.objects.Class.{Class as ClassData}
use Rattle.kube_objects.specs.declared.objects.Claim.{Claim as ClaimData}
use Rattle.kube_objects.specs.declared.objects.Volume.{Volume as VolumeData}
use Rattle.kube_objects.specs.declared.objects.Object.{Object}
use Rattle.kube_objects.specs.declared.objects.Object.TheVariants.{Claim, Volume}
use Rattle.kube_objects.specs.Bindings.{has_key, selected_node}
use Rattle.kube_objects.specs.Keys.{key_of, row_at}
use Rattle.kube_objects.proofs.KeyOrder.{row_at_key}
use Rattle.kube_objects.proofs.SameKeys.{key_tells}
use Rattle.call_types.specs.declared.entry.Entry.{Entry}
use Rattle.call_types.specs.declared.reply.Reply.{Reply}
use Rattle.call_types.specs.declared.reply.Reply.TheVariants as replies
use Rattle.call_types.specs.declared.request.Request.{Request}
use Rattle.call_types.specs.declared.request.Request.TheVariants as requests
use Rattle.call_types.specs.declared.request.SeatKind.{SeatKind}
use Rattle.call_types.specs.declared.request.SeatKind.TheVariants as seats
use Rattle.call_types.specs.declared.setup.Setup.{Setup}
use Rattle.binder_model.specs.Answers.{is_user}
use Rattle.binder_model.specs.Due.{is_served, provision_due, provision_if_new}
use Rattle.binder_model.specs.Promises.{IsRunOf}
use Rattle.binder_model.specs.World.{effect, reply_to, world}
use Rattle.model_laws.proofs.Histories.{rows_stand_in_order}
use Rattle.model_laws.proofs.Lists.{none_some, one}
use Rattle.reclaim_ops.specs.declared.provision.ProvisionOp.{ProvisionOp}
use Rattle.reclaim_ops.specs.declared.provision.ProvisionStep.{ProvisionStep}
use Rattle.reclaim_ops.specs.declared.provision.ProvisionStep.TheVariants as steps
use Rattle.reclaim_ops.specs.Decisions.{at_step, claim_for}
use Rattle.reclaim_ops.specs.DueLaw.{due_at, due_of_provision}
use Rattle.reclaim_ops.specs.Provisions.{ask_call, clear_call, provision_call, provision_call_at, provision_moved, provision_step_after}
use Rattle.reclaim_ops.proofs.Dues.{begins_what_is_due}
use Rattle.worker_core.specs.declared.task.Task.TheVariants as tasks
use Rattle.worker_core.specs.declared.task.Under.{Under}
use Rattle.worker_core.specs.Absorbs.{woken}
use Rattle.worker_core.specs.Roles.{IsBuiltKind}
use Rattle.worker_core.specs.States.{ActorState}
use Rattle.worker_core.specs.Tasks.{task_call, task_moved, under_after}
use Rattle.actor_rounds.specs.Rounds.{Runs, all_pass}
use Rattle.settle_measure.specs.Left.Measure.{work_left}
use Rattle.settle_writes.specs.Writes.Lasting.{Lasts, content_of}
use Rattle.settle_alike.proofs.Alike.Calls.{LastsOrAlike, calls_last_or_leave_alike}
use Rattle.settle_alike.specs.Alike.Alike.{AreAlike}
use Rattle.settle_slot.specs.Slot.Would.{Here, Leads, On}
use Rattle.settle_due.proofs.Provisioning.Begun.{BeginsNone, BeginsOne, Begun, HasNode, IsChosen, begun}
use Rattle.settle_due.proofs.Provisioning.Devices.{Fails, Gives, Lacks, ProvisionSays, provision_says}
use Rattle.settle_due.proofs.Provisioning.Provisions.{is_asking}
use Rattle.settle_pays.specs.Pays.Pays.{HavePaid, worth}
use Rattle.settle_budget.specs.Drains.Budget.{AreAlwaysInOrder}
use Rattle.settle_alike.proofs.Near.Near.{claim_near, near_provisions}
use Rattle.settle_tries.specs.Tries.Coming.{IsCallOf}
use Rattle.settle_tries.specs.Tries.Deciding.{IsWithin}
use Rattle.settle_tries.specs.Tries.Moving.{MovesNodes, StoodSo}
use Rattle.settle_tries.specs.Tries.Taking.{TakenWereDue}
use Rattle.settle_tries.proofs.Slots.Coming.{lasting_are_decided}
use Rattle.settle_tries.proofs.Slots.Leading.{HasMore, goes_on, leads_keep, leads_more}
use Rattle.settle_tries.proofs.Moves.Moving.{one_node_so}
use Rattle.settle_tries.proofs.Quiet.Ops.{ErasesIt, ProvidesFor, begins_for, begins_on, decides_on, erases_it, erases_on, erases_worth, others_stay, provides_on, provides_worth}
use Rattle.settle_tries.proofs.Moves.Points.{HaveKind, moves_behind, near_ahead, order_within, run_kinds, run_within, worth_none}
use Rattle.settle_tries.proofs.Quiet.Quiet.{stands_alike}

-- ---- no node is taken back once data were given

abbrev IsOver : ProvisionStep → Type 0
IsOver (steps.Provisions labels) = ⊥
IsOver steps.ClearsNode = ⊥
IsOver step = ⊤

over_after : (step : ProvisionStep) (x : ClassData) (reply : Reply) → IsOver step → IsOver (provision_step_after step x reply)
over_after steps.Done x reply over = tt
over_after steps.Parked x reply over = tt
over_after (steps.Provisions labels) x reply over = absurd over
over_after steps.ClearsNode x reply over = absurd over
over_after (steps.Creates id topology) x (replies.Refused refusal) over = tt
over_after (steps.Creates id topology) x _ over = tt

record IsOverFor (u : Under) : Type 0 where
  op : ProvisionOp
  task : u.task ≡ tasks.Provision op
  over : IsOver op.step
  call : provision_call op ≡ Some u.call

over_on : (u next : Under) (reply : Reply) → under_after u reply ≡ Some next → IsOverFor u → IsOverFor next
unfolding provision_moved
over_on u next reply follows p =
    let g = goes_on u next reply (tasks.Provision (provision_moved p.op reply)) (ap (λ t. task_moved t reply) p.task) follows in
    record { op = provision_moved p.op reply; task = g.task_is; over = over_after p.op.step p.op.class reply p.over; call = g.call }

abbrev is_update : Request → Bool
is_update (requests.Update x given) = true
is_update request = false

over_never : (c : ClaimData) (u : Under) → IsOverFor u → u.call ≡ clear_call c → ⊥
unfolding provision_call
over_never c u p clear = by p.op.step p.over p.call
  where
    by : (step : ProvisionStep) → IsOver step → provision_call_at step p.op.claim p.op.uid p.op.class ≡ Some u.call → ⊥
    by (steps.Creates id topology) over e = true≢false (sym (ap is_update (one _ u.call e ∙ clear)))
    by (steps.Provisions labels) over e = over
    by steps.ClearsNode over e = over
    by steps.Done over e = none_some e
    by steps.Parked over e = none_some e

-- ---- what was begun on a claim and takes its node back was due

record IsTaken (setup : Setup) (h : List Entry) (op : ProvisionOp) : Type 0 where
  due : due_at setup (world setup h) op op.step ≡ Some dues.ClearNode
  has : HasNode op.claim

module _ (setup : Setup) (seat : ℕ) (kind : SeatKind) (controller : is_user kind ≡ false) (h : List Entry) (c : ClaimData) (uid : Uid) (x : ClassData) where
  module _ (labels : Option (List Pair)) (chosen : IsChosen c x (steps.Provisions labels)) (u : Under) (task : u.task ≡ tasks.Provision (at_step c uid x (steps.Provisions labels))) where
    over_next : (next : Under) (reply : Reply) → under_after u reply ≡ Some next → IsOver (provision_step_after (steps.Provisions labels) x reply) → IsOverFor next
    unfolding provision_moved
    over_next next reply follows over =
        let op = at_step c uid x (steps.Provisions labels) in
        let g = goes_on u next reply (tasks.Provision (provision_moved op reply)) (ap (λ t. task_moved t reply) task) follows in
        record { op = provision_moved op reply; task = g.task_is; over = over; call = g.call }

    lacking : is_served setup (world setup h).devices c uid x labels ≡ false → x.delayed ≡ true → IsTaken setup h (at_step c uid x (steps.Provisions labels))
    lacking served late = record {
      due = λ i. if served i then provision_if_new (world setup h).store.rows uid else if late i then Some dues.ClearNode else None;
      has = elim chosen [ inl any ↦ absurd (true≢false (sym late ∙ any.0)) | inr has ↦ has ];
    }

    after_asking : (next : Under) (reply : Reply) → under_after u reply ≡ Some next
        → ProvisionSays (is_served setup (world setup h).devices c uid x labels) reply → IsOverFor next ⊎ IsTaken setup h (at_step c uid x (steps.Provisions labels))
    after_asking next reply follows (Gives id topology served e) = inl (over_next next reply follows (subst (λ r. IsOver (provision_step_after (steps.Provisions labels) x r)) (sym e) tt))
    after_asking next reply follows (Fails call e) = inl (over_next next reply follows (subst (λ r. IsOver (provision_step_after (steps.Provisions labels) x r)) (sym e) tt))
    after_asking next reply follows (Lacks free served e) = by x.delayed refl
      where
        by : (late : Bool) → x.delayed ≡ late → IsOverFor next ⊎ IsTaken setup h (at_step c uid x (steps.Provisions labels))
        by true late = inr (lacking served late)
        by false late =
            inl (over_next next reply follows (subst (λ r. IsOver (provision_step_after (steps.Provisions labels) x r)) (sym e)
            (subst (λ b. IsOver (if b then steps.ClearsNode else steps.Parked)) (sym late) tt)))

    asks : (g : List Entry) (v : Under) → u.call ≡ ask_call c uid x labels → Leads setup seat kind h u g v → v.call ≡ clear_call c → IsTaken setup h (at_step c uid x (steps.Provisions labels))
    asks g v call Here clear = absurd (true≢false (sym (ap is_update (sym call ∙ clear))))
    asks g v call (On next follows more) clear =
        elim (after_asking next (reply_to (effect setup (world setup h) kind u.call)) follows
        (subst (λ r. ProvisionSays (is_served setup (world setup h).devices c uid x labels) (reply_to (effect setup (world setup h) kind r)))
        (sym call) (provision_says setup (world setup h) kind controller c uid x labels))) [
          | inl over ↦ absurd (over_never c v (leads_keep setup seat kind IsOverFor over_on more over) clear)
          | inr taken ↦ taken
        ]

  by_step : (step : ProvisionStep) (u v : Under) (g : List Entry) → IsChosen c x step → u.task ≡ tasks.Provision (at_step c uid x step)
      → provision_call_at step c uid x ≡ Some u.call → Leads setup seat kind h u g v → v.call ≡ clear_call c → IsTaken setup h (at_step c uid x step)
  unfolding provision_call
  by_step (steps.Provisions labels) u v g chosen task call leads clear = asks labels chosen u task g v (sym (one _ u.call call)) leads clear
  by_step steps.ClearsNode u v g chosen task call leads clear = record {
    due = refl;
    has = elim chosen [ inl any ↦ absurd (true≢false (sym (ap is_asking any.1))) | inr has ↦ has ];
  }
  by_step (steps.Creates id topology) u v g chosen task call leads clear =
      absurd (over_never c v (leads_keep setup seat kind IsOverFor over_on leads (record { op = at_step c uid x (steps.Creates id topology); task = task; over = tt; call = call })) clear)
  by_step steps.Done u v g chosen task call leads clear = none_some call
  by_step steps.Parked u v g chosen task call leads clear = none_some call

record WasTaken (setup : Setup) (h : List Entry) (c : ClaimData) : Type 0 where
  due : provision_due setup (world setup h) c ≡ Some dues.ClearNode
  has : HasNode c

-- of the claim as the store has it
was_taken : (setup : Setup) (seat : ℕ) (kind : SeatKind) (h g : List Entry) (c : ClaimData) (op : ProvisionOp) (u v : Under) → is_user kind ≡ false
    → claim_for (world setup h).store.rows c ≡ Some op → u.task ≡ tasks.Provision op → task_call u.task ≡ Some u.call
    → Leads setup seat kind h u g v → v.call ≡ clear_call c → WasTaken setup h c
unfolding provision_call
was_taken setup seat kind h g c op u v controller on task call leads clear = by (begun (world setup h).store.rows c)
  where
    by : Begun c (claim_for (world setup h).store.rows c) → WasTaken setup h c
    by (BeginsNone e) = none_some (sym e ∙ on)
    by (BeginsOne uid x step e chosen) =
        let task_is : u.task ≡ tasks.Provision (at_step c uid x step) = task ∙ ap tasks.Provision (sym (one (at_step c uid x step) op (sym e ∙ on))) in
        let t = by_step setup seat kind controller h c uid x step u v g chosen task_is (sym (ap task_call task_is) ∙ call) leads clear in
        record { due = sym (begins_what_is_due setup (world setup h) c) ∙ (ap (due_of_provision setup (world setup h)) e ∙ t.due); has = t.has }

-- ---- the entry that takes it back

abbrev pub has_node : Option Object → Bool
has_node (Some (Claim c)) = has_key selected_node c.meta.annotations
has_node x = false

abbrev pub claim_in : ClaimData → Option Object → ClaimData
claim_in c (Some (Claim x)) = x
claim_in c x = c

-- a claim stands there
pub record StandsThere (setup : Setup) (key : Key) (x : List Entry) : Type 0 where
  pub claim : ClaimData
  pub there : row_at key (world setup x).store.rows ≡ Some (Claim claim)

record IsLoss (setup : Setup) (key : Key) (h past : List Entry) : Type 0 where
  newer : List Entry
  older : List Entry
  entry : Entry
  are : past ≡ newer ++ (entry ∷ older ++ h)
  before : ClaimData
  stood : row_at key (world setup (older ++ h)).store.rows ≡ Some (Claim before)
  had : has_key selected_node before.meta.annotations ≡ true
  now : ClaimData
  stands : row_at key (world setup (entry ∷ older ++ h)).store.rows ≡ Some (Claim now)
  none : has_key selected_node now.meta.annotations ≡ false

module _ (setup : Setup) (key : Key) (h past : List Entry) (at : (x : List Entry) → IsWithin h x past → StandsThere setup key x) (c : ClaimData)
    (was : row_at key (world setup h).store.rows ≡ Some (Claim c)) (had : has_key selected_node c.meta.annotations ≡ true) where
  loss : (ahead newer : List Entry) (d : ClaimData) → past ≡ ahead ++ (newer ++ h)
      → row_at key (world setup (newer ++ h)).store.rows ≡ Some (Claim d) → has_key selected_node d.meta.annotations ≡ false → IsLoss setup key h past
  loss ahead [] d are there none = absurd (true≢false (sym had ∙ (ap has_node (sym was ∙ there) ∙ none)))
  loss ahead (e ∷ newer) d are there none = by (at (newer ++ h) w) (λ x at_x lacks. loss (ahead ++ (e ∷ [])) newer x w.ahead at_x lacks)
    where
      w : IsWithin h (newer ++ h) past
      w = record { newer = ahead ++ (e ∷ []); older = newer; ahead = are ∙ sym (append_assoc ahead (e ∷ []) (newer ++ h)); behind = refl }

      by : StandsThere setup key (newer ++ h)
          → ((x : ClaimData) → row_at key (world setup (newer ++ h)).store.rows ≡ Some (Claim x) → has_key selected_node x.meta.annotations ≡ false → IsLoss setup key h past) → IsLoss setup key h past
      by s before = test (has_key selected_node s.claim.meta.annotations) refl
        where
          test : (b : Bool) → has_key selected_node s.claim.meta.annotations ≡ b → IsLoss setup key h past
          test true has = record { newer = ahead; older = newer; entry = e; are = are; before = s.claim; stood = s.there; had = has; now = d; stands = there; none = none }
          test false has = before s.claim s.there has

module _ (setup : Setup) (seat : ℕ) (old after : ActorState) (h past : List Entry) (b left : ℕ) (idle : Bool) (key : Key) (c d : ClaimData)
    (kind : old.role.kind ≡ seats.Ops) (run : IsRunOf setup past) (order : AreAlwaysInOrder setup past) (under : old.under ≡ None)
    (runs : Runs all_pass seat after past left idle (woken old) h b) (paid : HavePaid setup h past)
    (le : work_left setup (world setup h) ≤ work_left setup (world setup past)) (was : row_at key (world setup h).store.rows ≡ Some (Claim c))
    (is : row_at key (world setup past).store.rows ≡ Some (Claim d))
    (had : has_key selected_node c.meta.annotations ≡ true) (none : has_key selected_node d.meta.annotations ≡ false) where
  abbrev ToLose : Type 0
  ToLose = provision_due setup (world setup h) c ≡ Some dues.ClearNode

  kinds : HaveKind seats.Ops h past
  kinds = run_kinds all_pass seat seats.Ops after past left idle (woken old) h b runs kind

  stands_at : (x : List Entry) → IsWithin h x past → StandsThere setup key x
  stands_at x w = let n = claim_near (world setup x) (world setup past) key d (near_ahead setup h past run order paid le x w) is in record { claim = n.claim; there = n.there }

  lost : IsLoss setup key h past
  lost = loss setup key h past stands_at c was had [] kinds.newer d kinds.are (ap (λ es. row_at key (world setup es).store.rows) (sym kinds.are) ∙ is) none

  abbrev g : List Entry
  g = lost.older ++ h

  at_g : IsWithin h g past
  at_g = record { newer = lost.newer ++ (lost.entry ∷ []); older = lost.older; ahead = lost.are ∙ sym (append_assoc lost.newer (lost.entry ∷ []) g); behind = refl }

  next_g : IsWithin h (lost.entry ∷ g) past
  next_g = record { newer = lost.newer; older = lost.entry ∷ lost.older; ahead = lost.are; behind = refl }

  changes : AreAlike (world setup g) (world setup (lost.entry ∷ g)) → ⊥
  changes alike =
      let s = stands_alike setup g (lost.entry ∷ g) key (Claim lost.now) alike lost.stands in
      let same : content_of (Claim lost.before) ≡ content_of (Claim lost.now) = sym (ap content_of (one s.object (Claim lost.before) (sym s.there ∙ lost.stood))) ∙ s.same in
      true≢false (sym lost.had ∙ (ap is_some (one_node_so lost.before lost.now same) ∙ lost.none))

  entry_lasts : Lasts setup (world setup g) lost.entry.kind lost.entry.request
  entry_lasts = by (calls_last_or_leave_alike setup (world setup g) lost.entry.kind lost.entry.request (rows_stand_in_order setup g))
    where
      by : LastsOrAlike (world setup g) (effect setup (world setup g) lost.entry.kind lost.entry.request) → Lasts setup (world setup g) lost.entry.kind lost.entry.request
      by (inl lasts) = lasts
      by (inr alike) = absurd (changes alike)

  called : IsCallOf setup seat old.role h lost.entry g
  called = lasting_are_decided setup seat old after h past b left idle lost.newer lost.older lost.entry (subst IsBuiltKind (sym kind) tt) run under runs lost.are entry_lasts

  entry_kind : lost.entry.kind ≡ seats.Ops
  entry_kind = ap (λ (e : Entry). e.kind) (sym called.is) ∙ kind

  more : HasMore called.decided.point g
  more = leads_more setup seat old.role.kind called.decided.leads

  at_point : IsWithin h called.decided.point past
  at_point = record {
    newer = lost.newer ++ (lost.entry ∷ more.newer);
    older = called.decided.older;
    ahead = lost.are ∙ (ap (λ es. lost.newer ++ (lost.entry ∷ es)) more.are ∙ sym (append_assoc lost.newer (lost.entry ∷ more.newer) called.decided.point));
    behind = called.decided.behind;
  }

  worthless : {X : Type 0} → worth seats.Ops called.under.call ≡ 1 → X
  worthless one_ = worth_none setup h past run order paid le lost.entry g lost.newer lost.are at_g entry_lasts
      (ap (λ (e : Entry). worth e.kind e.request) (sym called.is) ∙ (ap (λ k. worth k called.under.call) kind ∙ one_))

  moved : MovesNodes false (world setup h) (world setup called.decided.point)
  moved = moves_behind setup h past run order paid le seats.Ops kinds called.decided.point at_point

  -- the claim that was decided is this one
  module _ (x : ClaimData) (there : row_at called.decided.first.key (world setup called.decided.point).store.rows ≡ Some (Claim x)) (clear : called.under.call ≡ clear_call x) where
    same_key : key_of (Claim x) ≡ key
    same_key = elim (key_tells (key_of (Claim x)) key) [
      | inl same ↦ same
      | inr other ↦ absurd (true≢false (sym lost.had ∙ (ap has_node (sym lost.stood ∙ (sym (stays other) ∙ lost.stands)) ∙ lost.none)))
    ]
      where
        stays : key_of (Claim x) ≢ key → row_at key (world setup (lost.entry ∷ g)).store.rows ≡ row_at key (world setup g).store.rows
        stays other =
            others_stay setup lost.entry g (run_within setup h past run order paid le (lost.entry ∷ g) next_g)
            (order_within setup h past run order paid le g at_g [] g refl) entry_kind x (ap (λ (e : Entry). e.request) (sym called.is) ∙ clear) entry_lasts key other

    there_now : row_at key (world setup called.decided.point).store.rows ≡ Some (Claim x)
    there_now = ap (λ k. row_at k (world setup called.decided.point).store.rows)
        (sym same_key ∙ row_at_key called.decided.first.key (Claim x) (world setup called.decided.point).store.rows there) ∙ there

    then_due : WasTaken setup called.decided.point x → ToLose
    then_due t = by (moved.claims key x there_now)
      where
        by : StoodSo (world setup h) key x ⊎ (has_key selected_node x.meta.annotations ≡ false) → ToLose
        by (inl s) =
            let due_then = near_provisions setup (world setup h) (world setup called.decided.point) s.claim x moved.near s.same ∙ t.due in
            ap (provision_due setup (world setup h)) (ap (claim_in c) (sym was ∙ s.there)) ∙ due_then
        by (inr lacks) = absurd (true≢false (sym t.has ∙ lacks))

  on_claim : (x : ClaimData) → row_at called.decided.first.key (world setup called.decided.point).store.rows ≡ Some (Claim x) → ToLose
  on_claim x there =
      let i = called.decided in
      let f = begins_on setup seat old.role kind i.first.key i.state i.point i.sees i.first refl i.gives x there in
      let begun_ = begins_for setup seat old.role kind i.first.key i.state i.point i.sees i.first refl i.gives x there in
      let last = leads_keep setup seat old.role.kind (ProvidesFor x begun_.class) (provides_on x begun_.class) i.leads begun_.provides in
      elim (provides_worth x begun_.class called.under last) [
        | inl one_ ↦ worthless one_
        | inr clear ↦ then_due x there clear.1 (was_taken setup seat old.role.kind i.point g x f.0 i.first called.under (ap is_user kind) f.1.0 f.1.1 i.gives.call i.leads clear.1)
      ]

  on_volume : (v : VolumeData) → row_at called.decided.first.key (world setup called.decided.point).store.rows ≡ Some (Volume v) → ToLose
  on_volume v there =
      let i = called.decided in
      let begun_ = erases_it setup seat old.role kind i.first.key i.state i.point i.sees i.first refl i.gives v there in
      worthless (erases_worth called.under (leads_keep setup seat old.role.kind ErasesIt erases_on i.leads begun_))

  to_lose : ToLose
  to_lose =
      let i = called.decided in
      elim (decides_on setup seat old.role kind i.first.key i.state i.point i.sees i.first refl i.gives) [
        | inl x ↦ on_claim x.0 x.1
        | inr v ↦ on_volume v.0 v.1
      ]

pub taken_were_due : TakenWereDue
taken_were_due setup seat old after h past b left idle key c d kind run order under runs paid le was is had none =
    to_lose setup seat old after h past b left idle key c d kind run order under runs paid le was is had none
