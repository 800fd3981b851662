-- Behind a slot of the provisioner and reclaimer in which as much is left to do nothing is due for it that it had cached.
use Rattle.std.proofs.Common.{◌≡◌, ◌≢◌, ◌∙◌, ◌⊎◌, ℕ, ◌+◌, ◌≤◌, List, [], ◌∷◌, ◌++◌, append_assoc, Bool, true, false, true≢false, Option, Some, None, inl, inr, refl, sym, ap, subst, if◌then◌else◌}
use Rattle.std.specs.Prelude.{◌&&◌, not, is_some}
use Rattle.plain_data.specs.Pairs.{value_at}
use Rattle.kube_objects.specs.declared.key.Key.{Key}
use Rattle.kube_parts.specs.declared.uid.Uid.{Uid}
use Rattle.kube_parts.specs.declared.names.Due.{Due}
use Rattle.kube_objects.specs.declared.objects.Class.{Class as ClassData}
use Rattle.kube_objects.specs.declared.objects.Claim.{Claim as ClaimData}
use Rattle.kube_objects.specs.declared.objects.Volume.{Volume as VolumeData}
use Rattle.kube_objects.specs.declared.objects.Object.{Object}
use Rattle.kube_objects.specs.declared.objects.Object.TheVariants.{Class, Node, Volume, Claim, Pod}
use Rattle.kube_objects.specs.Bindings.{class_of_claim, has_key, selected_node}
use Rattle.kube_objects.specs.Keys.{key_of, row_at}
use Rattle.kube_objects.proofs.KeyOrder.{row_at-put_row, row_at-put_row_other, row_at-without_row, row_at-without_row_other, row_at_key}
use Rattle.call_types.specs.declared.entry.Entry.{Entry}
use Rattle.call_types.specs.declared.reply.Refusal.TheVariants as refusals
use Rattle.call_types.specs.declared.reply.Reply.{Reply}
use Rattle.call_types.specs.declared.reply.Reply.TheVariants as replies
use Rattle.call_types.specs.declared.request.Request.{Request}
use Rattle.call_types.specs.declared.request.SeatKind.{SeatKind}
use Rattle.call_types.specs.declared.request.SeatKind.TheVariants as seats
use Rattle.call_types.specs.declared.setup.Setup.{Setup}
use Rattle.binder_model.specs.Due.{by_class_due, delayed_due, immediate_due, provision_due, reclaim_due}
use Rattle.binder_model.specs.Matching.{has_match, is_delayed}
use Rattle.binder_model.specs.ObjectKeys.{class_key}
use Rattle.binder_model.specs.Promises.{IsRunOf}
use Rattle.binder_model.specs.Provisioning.{is_wanting, provisions}
use Rattle.binder_model.specs.Reading.{follows}
use Rattle.binder_model.specs.World.{IsHistory, World, effect, world}
use Rattle.informer_cache.specs.All.{all_objects}
use Rattle.model_laws.proofs.Growing.{runs_are_histories}
use Rattle.model_laws.proofs.Histories.{rows_stand_in_order}
use Rattle.model_laws.proofs.Lists.{none_some, one}
use Rattle.reclaim_ops.specs.declared.erase.EraseOp.{EraseOp}
use Rattle.reclaim_ops.specs.declared.erase.EraseStep.{EraseStep}
use Rattle.reclaim_ops.specs.declared.erase.EraseStep.TheVariants as erase_steps
use Rattle.reclaim_ops.specs.declared.provision.ProvisionOp.{ProvisionOp}
use Rattle.reclaim_ops.specs.declared.provision.ProvisionStep.{ProvisionStep}
use Rattle.reclaim_ops.specs.declared.provision.ProvisionStep.TheVariants as steps
use Rattle.reclaim_ops.specs.Decisions.{at_step, begins_at, by_class, claim_begins, claim_for, delayed_step, first_step, volume_begins}
use Rattle.reclaim_ops.specs.Erasures.{erase_call, erase_call_at, erase_moved}
use Rattle.reclaim_ops.specs.Provisions.{clear_call, provision_call, provision_call_at, provision_moved, provision_step_after}
use Rattle.worker_core.specs.declared.task.First.{First}
use Rattle.worker_core.specs.declared.task.First.TheVariants as firsts
use Rattle.worker_core.specs.declared.task.Task.{Task}
use Rattle.worker_core.specs.declared.task.Task.TheVariants as tasks
use Rattle.worker_core.specs.declared.task.Under.{Under}
use Rattle.worker_core.specs.Absorbs.{woken}
use Rattle.worker_core.specs.Roles.{IsBuiltKind}
use Rattle.worker_core.specs.States.{ActorState}
use Rattle.worker_core.specs.Tasks.{GivesCall, IsFirstOf, ops_first, task_call, task_moved, under_after}
use Rattle.actor_rounds.specs.Rounds.{Runs, all_pass}
use Rattle.settle_measure.specs.Left.Measure.{work_left}
use Rattle.settle_writes.specs.Writes.Lasting.{Lasts}
use Rattle.settle_slot.specs.Slot.Slots.{ActsOn, IsDecisionPoint, own_entry}
use Rattle.settle_slot.proofs.Slot.Slots.{others_stay_awake}
use Rattle.settle_slot.proofs.Slot.Would.{would_act_where_calls_pass}
use Rattle.settle_due.proofs.Upkeep.Reclaims.{reclaims_act}
use Rattle.settle_due.proofs.Upkeep.Deciding.{task_in}
use Rattle.settle_due.proofs.Provisioning.Begun.{begins_same}
use Rattle.settle_due.proofs.Provisioning.Provisions.{provisioner_acts}
use Rattle.settle_pays.specs.Pays.Pays.{HavePaid, worth}
use Rattle.settle_budget.specs.Drains.Budget.{AreAlwaysInOrder}
use Rattle.settle_alike.specs.Near.Near.{rest_of}
use Rattle.settle_alike.proofs.Near.Annotations.{class_rest}
use Rattle.settle_alike.proofs.Near.Near.{ClassNear, back_near, claim_near, class_near, near_immediates, near_provisions, one_rest_claim, rest_content, volume_near}
use Rattle.settle_tries.specs.Tries.Deciding.{IsActedOn, IsWithin}
use Rattle.settle_tries.specs.Tries.Moving.{MovesNodes, StoodSo}
use Rattle.settle_tries.proofs.Slots.Deciding.{cached_are_decided}
use Rattle.settle_tries.proofs.Moves.Moving.{one_node_so}
use Rattle.settle_tries.proofs.Moves.Points.{HaveKind, moves_ahead, order_within, run_kinds, run_within, worth_none}
use Rattle.reclaim_ops.specs.Provisions.{unselected}
use Rattle.settle_tries.proofs.Moves.Moving.{clears, node_is}
use Rattle.model_laws.proofs.Identity.{key-updated}
use Rattle.binder_model.specs.Told.{own}
use Rattle.binder_model.specs.Licence.{Licensed}
use Rattle.settle_writes.specs.Writes.Lasting.{LastsBetween}
use Rattle.settle_writes.proofs.Done.Doing.{write_asked}
use Rattle.safety_law.proofs.Invariant.Effects.{effect_form}
use Rattle.safety_law.specs.Invariant.Writes.{IsUpdate, Writes}
use Rattle.safety_law.specs.Invariant.Moves.{written_by}
use Rattle.settle_alike.proofs.Near.Near.{VolumeNear}
use Rattle.settle_pays.proofs.Pays.Calls.{lasting_writes, stored_effect}
use Rattle.settle_write_counts.proofs.Rounds.Nodes.{IsMoved}
use Rattle.settle_write_counts.specs.Rounds.Counts.{AnnotationsAreInOrder}
use Rattle.binder_model.specs.Answers.{is_for_store}
use Rattle.binder_model.specs.World.{reply_to, world_after}
use Rattle.worker_core.specs.declared.role.Role.{Role}
use Rattle.std.specs.Prelude.{⊤}
use Rattle.settle_progress.proofs.Drains.Rounds.{is_agent, not_agent}
use Rattle.settle_tries.proofs.Slots.Leading.{HasMore, goes_on, leads_keep, leads_more}
use Rattle.settle_budget.proofs.Drains.Entries.{moves_by}

-- ---- of a claim

-- a node is taken back only under a delayed class
abbrev pub IsLate : ProvisionStep → ClassData → Type 0
IsLate steps.ClearsNode x = x.delayed ≡ true
IsLate step x = ⊤

pub record ProvidesFor (c : ClaimData) (x : ClassData) (u : Under) : Type 0 where
  pub op : ProvisionOp
  pub task : u.task ≡ tasks.Provision op
  pub claim : op.claim ≡ c
  pub class : op.class ≡ x
  pub late : IsLate op.step x
  pub call : provision_call op ≡ Some u.call

late_after : (step : ProvisionStep) (x : ClassData) (reply : Reply) → IsLate (provision_step_after step x reply) x
late_after steps.Done x reply = tt
late_after steps.Parked x reply = tt
late_after (steps.Provisions labels) x (replies.Refused (refusals.Exhausted free)) = by x.delayed refl
  where
    by : (b : Bool) → x.delayed ≡ b → IsLate (if b then steps.ClearsNode else steps.Parked) x
    by true e = e
    by false e = tt
late_after (steps.Provisions labels) x _ = tt
late_after (steps.Creates id topology) x (replies.Refused refusal) = tt
late_after (steps.Creates id topology) x _ = tt
late_after steps.ClearsNode x (replies.Refused refusal) = tt
late_after steps.ClearsNode x _ = tt

pub provides_on : (c : ClaimData) (x : ClassData) (u next : Under) (reply : Reply) → under_after u reply ≡ Some next → ProvidesFor c x u → ProvidesFor c x next
unfolding provision_moved
provides_on c x u next reply follows p =
    let g = goes_on u next reply (tasks.Provision (provision_moved p.op reply)) (ap (λ t. task_moved t reply) p.task) follows in
    record {
      op = provision_moved p.op reply;
      task = g.task_is;
      claim = p.claim;
      class = p.class;
      late =
          subst (λ y. IsLate (provision_step_after p.op.step y reply) x) (sym p.class) (late_after p.op.step x reply);
      call = g.call;
    }

-- each call is worth something, or takes a node back
pub provides_worth : (c : ClaimData) (x : ClassData) (u : Under) → ProvidesFor c x u → (worth seats.Ops u.call ≡ 1) ⊎ ((x.delayed ≡ true) × (u.call ≡ clear_call c))
unfolding provision_call
provides_worth c x u p = by p.op.step p.late p.call
  where
    by : (step : ProvisionStep) → IsLate step x → provision_call_at step p.op.claim p.op.uid p.op.class ≡ Some u.call → (worth seats.Ops u.call ≡ 1) ⊎ ((x.delayed ≡ true) × (u.call ≡ clear_call c))
    by (steps.Provisions labels) late e = inl (ap (worth seats.Ops) (sym (one _ u.call e)))
    by (steps.Creates id topology) late e = inl (ap (worth seats.Ops) (sym (one _ u.call e)))
    by steps.ClearsNode late e = inr (late, sym (one _ u.call e) ∙ ap clear_call p.claim)
    by steps.Done late e = none_some e
    by steps.Parked late e = none_some e

-- how it begins

record HasBegun (rows : List Object) (c : ClaimData) (op : ProvisionOp) : Type 0 where
  class : ClassData
  there : row_at (class_key (class_of_claim c)) rows ≡ Some (Class class)
  claim : op.claim ≡ c
  is : op.class ≡ class
  late : IsLate op.step class

late_of : (step : ProvisionStep) (x : ClassData) → x.delayed ≡ true → IsLate step x
late_of steps.ClearsNode x e = e
late_of (steps.Provisions labels) x e = tt
late_of (steps.Creates id topology) x e = tt
late_of steps.Done x e = tt
late_of steps.Parked x e = tt

first_late : (rows : List Object) (c : ClaimData) (x : ClassData) (step : ProvisionStep) → first_step rows c x ≡ Some step → IsLate step x
first_late rows c x step e = by (provisions x) x.delayed refl e
  where
    by : (real late : Bool) → x.delayed ≡ late
        → (if not real then None else if late then delayed_step rows (value_at selected_node c.meta.annotations) else Some (steps.Provisions None)) ≡ Some step → IsLate step x
    by false late is e_ = none_some e_
    by true true is e_ = late_of step x is
    by true false is e_ = subst (λ s. IsLate s x) (one (steps.Provisions None) step e_) tt

begun_so : (rows : List Object) (c : ClaimData) (op : ProvisionOp) → claim_for rows c ≡ Some op → HasBegun rows c op
begun_so rows c op e = by (is_wanting c && not (has_match rows c)) c.meta.uid (row_at (class_key (class_of_claim c)) rows) refl e
  where
    stepped : (uid : Uid) (x : ClassData) (step : Option ProvisionStep) → row_at (class_key (class_of_claim c)) rows ≡ Some (Class x)
        → first_step rows c x ≡ step → begins_at c uid x step ≡ Some op → HasBegun rows c op
    stepped uid x None there at e_ = none_some e_
    stepped uid x (Some step) there at e_ =
        let same = one (at_step c uid x step) op e_ in
        record {
          class = x;
          there = there;
          claim = ap (λ (o : ProvisionOp). o.claim) (sym same);
          is =
              ap (λ (o : ProvisionOp). o.class) (sym same);
          late = subst (λ (o : ProvisionOp). IsLate o.step x) same (first_late rows c x step at);
        }

    by : (b : Bool) (u : Option Uid) (row : Option Object) → row_at (class_key (class_of_claim c)) rows ≡ row → (if b then by_class rows c u row else None) ≡ Some op → HasBegun rows c op
    by false u row at e_ = none_some e_
    by true None row at e_ = none_some e_
    by true (Some uid) None at e_ = none_some e_
    by true (Some uid) (Some (Class x)) at e_ = stepped uid x (first_step rows c x) at refl e_
    by true (Some uid) (Some (Node x)) at e_ = none_some e_
    by true (Some uid) (Some (Volume x)) at e_ = none_some e_
    by true (Some uid) (Some (Claim x)) at e_ = none_some e_
    by true (Some uid) (Some (Pod x)) at e_ = none_some e_

-- ---- of a volume

pub record ErasesIt (u : Under) : Type 0 where
  pub op : EraseOp
  pub task : u.task ≡ tasks.Erase op
  pub call : erase_call op ≡ Some u.call

pub erases_on : (u next : Under) (reply : Reply) → under_after u reply ≡ Some next → ErasesIt u → ErasesIt next
erases_on u next reply follows p =
    let g = goes_on u next reply (tasks.Erase (erase_moved p.op reply)) (ap (λ t. task_moved t reply) p.task) follows in
    record { op = erase_moved p.op reply; task = g.task_is; call = g.call }

pub erases_worth : (u : Under) → ErasesIt u → worth seats.Ops u.call ≡ 1
unfolding erase_call
erases_worth u p = by p.op.step p.call
  where
    by : (step : EraseStep) → erase_call_at step p.op.volume ≡ Some u.call → worth seats.Ops u.call ≡ 1
    by erase_steps.ReadsVolume e = ap (worth seats.Ops) (sym (one _ u.call e))
    by (erase_steps.Erases uid) e = ap (worth seats.Ops) (sym (one _ u.call e))
    by (erase_steps.Deletes uid) e = ap (worth seats.Ops) (sym (one _ u.call e))
    by erase_steps.WritesFailed e = ap (worth seats.Ops) (sym (one _ u.call e))
    by erase_steps.Done e = none_some e
    by erase_steps.Parked e = none_some e

-- ---- the decision of ops

abbrev begins : First → Bool
begins (firsts.Begins task) = true
begins first = false

provides_first : (x : Option ProvisionOp) (task : Task) → firsts.Begins task ≡ ops_first x None → (op : ProvisionOp) × ((x ≡ Some op) × (task ≡ tasks.Provision op))
provides_first (Some op) task e = (op, (refl, ap (task_in task) e))
provides_first None task e = absurd (true≢false (ap begins e))

erases_first : (x : Option EraseOp) (task : Task) → firsts.Begins task ≡ ops_first None x → (op : EraseOp) × (task ≡ tasks.Erase op)
erases_first (Some op) task e = (op, ap (task_in task) e)
erases_first None task e = absurd (true≢false (ap begins e))

module _ (setup : Setup) (seat : ℕ) (role : Role) (kind : role.kind ≡ seats.Ops) (key : Key) (s : ActorState) (h : List Entry)
    (p : IsDecisionPoint setup seat role h s h) (u : Under) (own : u.key ≡ key) (gives : GivesCall s.role s.memory (all_objects s.caches) u) where
  s_kind : s.role.kind ≡ seats.Ops
  s_kind = ap (λ (r : Role). r.kind) p.role_is ∙ kind

  agree : (k : Key) → follows seats.Ops k.kind ≡ true → row_at k (all_objects s.caches) ≡ row_at k (world setup h).store.rows
  agree k f = p.sees k (ap (λ x. follows x k.kind) s_kind ∙ f)

  decided : firsts.Begins u.task ≡ ops_first (claim_begins (all_objects s.caches) (row_at key (all_objects s.caches))) (volume_begins (row_at key (all_objects s.caches)))
  decided = subst (λ k. firsts.Begins u.task ≡ ops_first (claim_begins (all_objects s.caches) (row_at k (all_objects s.caches)))
      (volume_begins (row_at k (all_objects s.caches)))) own (subst (λ k. IsFirstOf k s.role.node s.memory (all_objects s.caches) u.key (firsts.Begins u.task)) s_kind gives.decided)

  -- on a claim

  pub record BeginsFor (c : ClaimData) : Type 0 where
    pub class : ClassData
    pub there : row_at (class_key (class_of_claim c)) (world setup h).store.rows ≡ Some (Class class)
    pub provides : ProvidesFor c class u

  -- what begins is what the store says
  pub begins_on : (c : ClaimData) → row_at key (world setup h).store.rows ≡ Some (Claim c) → (op : ProvisionOp) × ((claim_for (world setup h).store.rows c ≡ Some op) × (u.task ≡ tasks.Provision op))
  begins_on c there =
      let seen : row_at key (all_objects s.caches) ≡ Some (Claim c) =
      agree key (ap (λ (k : Key). follows seats.Ops k.kind) (sym (row_at_key key (Claim c) (world setup h).store.rows there))) ∙ there in
      let f = provides_first (claim_for (all_objects s.caches) c) u.task (decided ∙ ap (λ y. ops_first (claim_begins (all_objects s.caches) y) (volume_begins y)) seen) in
      (f.0, (sym (begins_same (all_objects s.caches) (world setup h).store.rows c agree p.ready.rows (rows_stand_in_order setup h)) ∙ f.1.0, f.1.1))

  pub begins_for : (c : ClaimData) → row_at key (world setup h).store.rows ≡ Some (Claim c) → BeginsFor c
  begins_for c there =
      let f = begins_on c there in
      let b = begun_so (world setup h).store.rows c f.0 f.1.0 in
      record { class = b.class; there = b.there; provides = record { op = f.0; task = f.1.1; claim = b.claim; class = b.is; late = b.late; call = sym (ap task_call f.1.1) ∙ gives.call } }

  -- on a volume
  pub erases_it : (v : VolumeData) → row_at key (world setup h).store.rows ≡ Some (Volume v) → ErasesIt u
  erases_it v there =
      let seen : row_at key (all_objects s.caches) ≡ Some (Volume v) =
      agree key (ap (λ (k : Key). follows seats.Ops k.kind) (sym (row_at_key key (Volume v) (world setup h).store.rows there))) ∙ there in
      let f = erases_first (volume_begins (Some (Volume v))) u.task (decided ∙ ap (λ y. ops_first (claim_begins (all_objects s.caches) y) (volume_begins y)) seen) in
      record { op = f.0; task = f.1; call = sym (ap task_call f.1) ∙ gives.call }

  -- it decides a claim or a volume
  pub decides_on : ((c : ClaimData) × (row_at key (world setup h).store.rows ≡ Some (Claim c))) ⊎ ((v : VolumeData) × (row_at key (world setup h).store.rows ≡ Some (Volume v)))
  decides_on = by (row_at key (all_objects s.caches)) refl
    where
      stands : (o : Object) → row_at key (all_objects s.caches) ≡ Some o → follows seats.Ops (key_of o).kind ≡ true → row_at key (world setup h).store.rows ≡ Some o
      stands o at f = sym (agree key (ap (λ (k : Key). follows seats.Ops k.kind) (sym (row_at_key key o (all_objects s.caches) at)) ∙ f)) ∙ at

      begins_at_all : (x : Option Object) → row_at key (all_objects s.caches) ≡ x → begins (ops_first (claim_begins (all_objects s.caches) x) (volume_begins x)) ≡ true
      begins_at_all x at = sym (ap begins (decided ∙ ap (λ y. ops_first (claim_begins (all_objects s.caches) y) (volume_begins y)) at))

      by : (x : Option Object) → row_at key (all_objects s.caches) ≡ x
          → ((c : ClaimData) × (row_at key (world setup h).store.rows ≡ Some (Claim c))) ⊎ ((v : VolumeData) × (row_at key (world setup h).store.rows ≡ Some (Volume v)))
      by (Some (Claim c)) at = inl (c, stands (Claim c) at refl)
      by (Some (Volume v)) at = inr (v, stands (Volume v) at refl)
      by (Some (Class x)) at = absurd (true≢false (sym (begins_at_all (Some (Class x)) at)))
      by (Some (Node x)) at = absurd (true≢false (sym (begins_at_all (Some (Node x)) at)))
      by (Some (Pod x)) at = absurd (true≢false (sym (begins_at_all (Some (Pod x)) at)))
      by None at = absurd (true≢false (sym (begins_at_all None at)))

-- ---- a claim without a node has nothing due under a delayed class

no_node_no_due : (setup : Setup) (w : World) (c : ClaimData) (x : ClassData) → row_at (class_key (class_of_claim c)) w.store.rows ≡ Some (Class x)
    → x.delayed ≡ true → value_at selected_node c.meta.annotations ≡ None → provision_due setup w c ≡ None
no_node_no_due setup w c x there late none = by (is_wanting c && not (has_match w.store.rows c)) c.meta.uid
  where
    by_real : (uid : Uid) (real : Bool) → (if not real then None else if x.delayed then delayed_due setup w c uid x
        (value_at selected_node c.meta.annotations) else immediate_due setup w c uid x) ≡ None
    by_real uid false = refl
    by_real uid true = rw (late, none) refl

    by : (b : Bool) (u : Option Uid) → (if b then by_class_due setup w c u (row_at (class_key (class_of_claim c)) w.store.rows) else None) ≡ None
    by false u = refl
    by true None = refl
    by true (Some uid) = ap (by_class_due setup w c (Some uid)) there ∙ by_real uid (provisions x)

no_value : (c : ClaimData) → has_key selected_node c.meta.annotations ≡ false → value_at selected_node c.meta.annotations ≡ None
no_value c none = by (value_at selected_node c.meta.annotations) refl
  where
    by : (x : Option (List ℕ)) → value_at selected_node c.meta.annotations ≡ x → value_at selected_node c.meta.annotations ≡ None
    by None e = e
    by (Some node) e = absurd (true≢false (sym (ap is_some e) ∙ none))

-- a class that waits stands there
delayed_class : (rows : List Object) (key : Key) → is_delayed (row_at key rows) ≡ true → (x : ClassData) × ((row_at key rows ≡ Some (Class x)) × (x.delayed ≡ true))
delayed_class rows key e = by (row_at key rows) refl e
  where
    by : (o : Option Object) → row_at key rows ≡ o → is_delayed o ≡ true → (x : ClassData) × ((row_at key rows ≡ Some (Class x)) × (x.delayed ≡ true))
    by (Some (Class x)) at l = (x, (at, l))
    by (Some (Node x)) at l = absurd (true≢false (sym l))
    by (Some (Volume x)) at l = absurd (true≢false (sym l))
    by (Some (Claim x)) at l = absurd (true≢false (sym l))
    by (Some (Pod x)) at l = absurd (true≢false (sym l))
    by None at l = absurd (true≢false (sym l))

-- ---- a node that was taken back is gone

module _ (setup : Setup) (e : Entry) (h : List Entry) (run : IsRunOf setup (e ∷ h)) (in_order : AnnotationsAreInOrder (world setup h))
    (kind : e.kind ≡ seats.Ops) (c : ClaimData) (call : e.request ≡ clear_call c) (lasts : Lasts setup (world setup h) e.kind e.request) where
  history : IsHistory setup (e ∷ h)
  history = runs_are_histories setup (e ∷ h) run.run

  record IsTakenBack (x : Object) : Type 0 where
    key : key_of x ≡ key_of (Claim (unselected c))
    none : (d : ClaimData) → x ≡ Claim d → has_key selected_node d.meta.annotations ≡ false
    moved : IsMoved (world setup h).store.rows (world setup (e ∷ h)).store.rows x

  -- the claim that was written, by kind and request as they are
  taken_back : (x : Object) × IsTakenBack x
  taken_back =
      let stored = stored_effect setup (world setup h) e.kind e.request (ap is_for_store call) in
      let writes = lasting_writes (world setup h) stored.0 stored.1.1 (subst (λ y. LastsBetween (world setup h) (world_after (world setup h) y) (reply_to y)) stored.1.0 lasts) in
      let written = ap written_by stored.1.0 ∙ writes.written in
      let asked : Writes (world setup h) e.kind e.request writes.object =
      write_asked setup (world setup h) e.kind e.request writes.object (effect setup (world setup h) e.kind e.request)
      (effect_form setup (world setup h) e.kind e.request (rows_stand_in_order setup h)) written in
      let u : IsUpdate (world setup h).store seats.Ops (Claim (unselected c)) (Some c.meta.version) writes.object =
      subst (λ (x : SeatKind × Request). Writes (world setup h) x.0 x.1 writes.object) (λ i. (kind i, call i)) asked in
      let may : Licensed seats.Ops (own e.seat h) (clear_call c) = subst (λ (x : SeatKind × Request). Licensed x.0 (own e.seat h) x.1) (λ i. (kind i, call i)) run.run.2 in
      let n = clears setup e.seat h history.0 in_order (unselected c) (Some c.meta.version) writes.object may.1 u in (
        writes.object,
        record {
          key = ap key_of u.is ∙ key-updated u.old (Claim (unselected c)) ((world setup h).store.version + 1);
          none = λ d is. node_is false (world setup h) (rows_stand_in_order setup h) writes.object n d is;
          moved = moves_by (world setup h) (effect setup (world setup h) e.kind e.request) writes.object written;
        },
      )

  -- so the claim that stands there then has no node
  none_then : (key : Key) (d : ClaimData) → key ≡ key_of (Claim c) → row_at key (world setup (e ∷ h)).store.rows ≡ Some (Claim d) → has_key selected_node d.meta.annotations ≡ false
  none_then key d own there = by taken_back.0 taken_back.1
    where
      by_move : (x : Object) → IsTakenBack x → IsMoved (world setup h).store.rows (world setup (e ∷ h)).store.rows x → has_key selected_node d.meta.annotations ≡ false
      by_move x t (inl put) = t.none d (one x (Claim d)
          (sym (row_at-put_row x (world setup h).store.rows) ∙ (ap (row_at (key_of x)) (sym put) ∙ (ap (λ k. row_at k (world setup (e ∷ h)).store.rows) (t.key ∙ sym own) ∙ there))))
      by_move x t (inr gone) = none_some (sym (row_at-without_row (key_of x) (world setup h).store.rows (rows_stand_in_order setup h)) ∙
          (ap (row_at (key_of x)) (sym gone) ∙ (ap (λ k. row_at k (world setup (e ∷ h)).store.rows) (t.key ∙ sym own) ∙ there)))

      by : (x : Object) → IsTakenBack x → has_key selected_node d.meta.annotations ≡ false
      by x t = by_move x t t.moved

  -- what stands under another key stays as it was
  pub others_stay : (key : Key) → key_of (Claim c) ≢ key → row_at key (world setup (e ∷ h)).store.rows ≡ row_at key (world setup h).store.rows
  others_stay key other = by taken_back.0 taken_back.1
    where
      by_move : (x : Object) → IsTakenBack x → IsMoved (world setup h).store.rows (world setup (e ∷ h)).store.rows x
          → row_at key (world setup (e ∷ h)).store.rows ≡ row_at key (world setup h).store.rows
      by_move x t (inl put) = ap (row_at key) put ∙ row_at-put_row_other key x (world setup h).store.rows (λ same. other (sym t.key ∙ same))
      by_move x t (inr gone) = ap (row_at key) gone ∙ row_at-without_row_other (key_of x) key (world setup h).store.rows (λ same. other (sym t.key ∙ same))

      by : (x : Object) → IsTakenBack x → row_at key (world setup (e ∷ h)).store.rows ≡ row_at key (world setup h).store.rows
      by x t = by_move x t t.moved

-- ---- a slot

-- a claim at a point of the slot, where the same was due
record IsDueAt (setup : Setup) (key : Key) (c : ClaimData) (action : Due) (x : List Entry) : Type 0 where
  claim : ClaimData
  stands : row_at key (world setup x).store.rows ≡ Some (Claim claim)
  same : rest_of (Claim claim) ≡ rest_of (Claim c)
  due_there : provision_due setup (world setup x) claim ≡ Some action

module _ (setup : Setup) (seat : ℕ) (old after : ActorState) (h past : List Entry) (b left : ℕ) (kind : old.role.kind ≡ seats.Ops)
    (run : IsRunOf setup past) (order : AreAlwaysInOrder setup past) (idle : old.under ≡ None)
    (runs : Runs all_pass seat after past left true (woken old) h b) (paid : HavePaid setup h past) (le : work_left setup (world setup h) ≤ work_left setup (world setup past)) where
  built : IsBuiltKind old.role.kind
  built = subst IsBuiltKind (sym kind) tt

  awake : after.memory.stale ≡ false
  awake = others_stay_awake all_pass seat (woken old) after h past b left (not_agent _ (ap is_agent kind)) runs

  kinds : HaveKind seats.Ops h past
  kinds = run_kinds all_pass seat seats.Ops after past left true (woken old) h b runs kind

  moves : (x : List Entry) → IsWithin h x past → MovesNodes false (world setup x) (world setup past)
  moves x w = moves_ahead setup h past run order paid le seats.Ops kinds x w

  followed : (key : Key) (o : Object) → row_at key (world setup past).store.rows ≡ Some o → follows seats.Ops (key_of o).kind ≡ true → follows old.role.kind key.kind ≡ true
  followed key o there is = ap (λ k. follows k key.kind) kind ∙ (ap (λ (k : Key). follows seats.Ops k.kind) (sym (row_at_key key o (world setup past).store.rows there)) ∙ is)

  -- a volume that ops had cached is not to be reclaimed

  pub no_reclaim : (key : Key) (v : VolumeData) (action : Due) (o : Object) → row_at key (world setup past).store.rows ≡ Some (Volume v)
      → reclaim_due v ≡ Some action → row_at key (all_objects old.caches) ≡ Some o → ⊥
  no_reclaim key v action o there due cached = by acted
    where
      at_point : (x : List Entry) → IsWithin h x past → VolumeNear (world setup x) key v
      at_point x w = volume_near (world setup x) (world setup past) key v (moves x w).near there

      acts : (x : List Entry) → IsWithin h x past → ActsOn setup all_pass seat old.role x key
      acts x w =
          let n = at_point x w in
          would_act_where_calls_pass setup all_pass seat old.role x key (λ s g y u z p own gives leads same. refl)
          (reclaims_act setup seat old.role x key n.volume action run.imports kind n.there (ap reclaim_due n.same ∙ due))

      acted : IsActedOn setup seat old.role key h past
      acted = cached_are_decided setup all_pass seat key o old after h past b left built (runs_are_histories setup past run.run) idle (followed key (Volume v) there refl) cached runs awake acts

      by : IsActedOn setup seat old.role key h past → ⊥
      by a =
          let n = at_point a.point a.within in
          let begun = erases_it setup seat old.role kind key a.state a.point a.sees a.under a.own a.gives n.volume n.there in
          let last = leads_keep setup seat old.role.kind ErasesIt erases_on a.reaches.leads begun in
          let more = leads_more setup seat old.role.kind a.reaches.leads in
          let e = own_entry setup seat old.role.kind a.reaches.at a.reaches.last.call in
          let w : IsWithin h a.reaches.at past = record {
            newer = a.reaches.newer ++ (e ∷ []);
            older = more.newer ++ a.within.older;
            ahead = a.reaches.are ∙ sym (append_assoc a.reaches.newer (e ∷ []) a.reaches.at);
            behind = more.are ∙ (ap (λ es. more.newer ++ es) a.within.behind ∙ sym (append_assoc more.newer a.within.older h));
          } in
          worth_none setup h past run order paid le e a.reaches.at a.reaches.newer a.reaches.are w a.reaches.lasts (ap (λ k. worth k a.reaches.last.call) kind ∙ erases_worth a.reaches.last last)

  -- nothing is to be provisioned for a claim that it had cached, and no node to be taken back

  pub no_provision : (key : Key) (c : ClaimData) (action : Due) (o : Object) → row_at key (world setup past).store.rows ≡ Some (Claim c)
      → provision_due setup (world setup past) c ≡ Some action → row_at key (all_objects old.caches) ≡ Some o → ⊥
  no_provision key c action o there due cached = by acted
    where
      -- without a node its class does not wait
      at_once : has_key selected_node c.meta.annotations ≡ false → is_delayed (row_at (class_key (class_of_claim c)) (world setup past).store.rows) ≡ false
      at_once none = test (is_delayed (row_at (class_key (class_of_claim c)) (world setup past).store.rows)) refl
        where
          test : (late : Bool) → is_delayed (row_at (class_key (class_of_claim c)) (world setup past).store.rows) ≡ late → late ≡ false
          test false e = refl
          test true e =
              let x = delayed_class (world setup past).store.rows (class_key (class_of_claim c)) e in
              none_some (sym (no_node_no_due setup (world setup past) c x.0 x.1.0 x.1.1 (no_value c none)) ∙ due)

      due_at : (x : List Entry) → IsWithin h x past → IsDueAt setup key c action x
      due_at x w = by_claims ((moves x w).claims key c there)
        where
          by_claims : StoodSo (world setup x) key c ⊎ (has_key selected_node c.meta.annotations ≡ false) → IsDueAt setup key c action x
          by_claims (inl s) = record {
            claim = s.claim;
            stands = s.there;
            same = sym (rest_content (Claim s.claim)) ∙ (ap rest_of s.same ∙ rest_content (Claim c));
            due_there = near_provisions setup (world setup x) (world setup past) s.claim c (moves x w).near s.same ∙ due;
          }
          by_claims (inr none) =
              let n = claim_near (world setup x) (world setup past) key c (moves x w).near there in
              record {
                claim = n.claim;
                stands = n.there;
                same = n.same;
                due_there =
                    sym (near_immediates setup (world setup past) (world setup x) c n.claim (back_near (world setup x) (world setup past) (moves x w).near) (sym n.same) (at_once none)) ∙ due;
              }

      acts : (x : List Entry) → IsWithin h x past → ActsOn setup all_pass seat old.role x key
      acts x w =
          let d = due_at x w in
          would_act_where_calls_pass setup all_pass seat old.role x key (λ s g y u z p own gives leads same. refl)
          (provisioner_acts action setup seat old.role x key d.claim run.imports kind d.stands d.due_there)

      acted : IsActedOn setup seat old.role key h past
      acted = cached_are_decided setup all_pass seat key o old after h past b left built (runs_are_histories setup past run.run) idle (followed key (Claim c) there refl) cached runs awake acts

      by : IsActedOn setup seat old.role key h past → ⊥
      by a = elim (provides_worth d.claim begun.class a.reaches.last last) [
        | inl one_ ↦ worth_none setup h past run order paid le e a.reaches.at a.reaches.newer a.reaches.are w a.reaches.lasts (ap (λ k. worth k a.reaches.last.call) kind ∙ one_)
        | inr clear ↦ cleared clear.0 clear.1
      ]
        where
          d : IsDueAt setup key c action a.point
          d = due_at a.point a.within

          begun : BeginsFor setup seat old.role kind key a.state a.point a.sees a.under a.own a.gives d.claim
          begun = begins_for setup seat old.role kind key a.state a.point a.sees a.under a.own a.gives d.claim d.stands

          last : ProvidesFor d.claim begun.class a.reaches.last
          last = leads_keep setup seat old.role.kind (ProvidesFor d.claim begun.class) (provides_on d.claim begun.class) a.reaches.leads begun.provides

          more : HasMore a.point a.reaches.at
          more = leads_more setup seat old.role.kind a.reaches.leads

          e : Entry
          e = own_entry setup seat old.role.kind a.reaches.at a.reaches.last.call

          w : IsWithin h a.reaches.at past
          w = record {
            newer = a.reaches.newer ++ (e ∷ []);
            older = more.newer ++ a.within.older;
            ahead = a.reaches.are ∙ sym (append_assoc a.reaches.newer (e ∷ []) a.reaches.at);
            behind = more.are ∙ (ap (λ es. more.newer ++ es) a.within.behind ∙ sym (append_assoc more.newer a.within.older h));
          }

          next : IsWithin h (e ∷ a.reaches.at) past
          next = record { newer = a.reaches.newer; older = e ∷ w.older; ahead = a.reaches.are; behind = ap (λ es. e ∷ es) w.behind }

          -- the node was taken back, and under a class that waits nothing is due then
          cleared : begun.class.delayed ≡ true → a.reaches.last.call ≡ clear_call d.claim → ⊥
          cleared late call = none_some (sym
              (no_node_no_due setup (world setup past) c class.class
              (ap (λ name. row_at (class_key name) (world setup past).store.rows) (sym named) ∙ class.there) (class.delayed ∙ late) (no_value c none)) ∙ due)
            where
              named : class_of_claim d.claim ≡ class_of_claim c
              named = sym (class_rest d.claim) ∙ (ap class_of_claim (one_rest_claim d.claim c d.same) ∙ class_rest c)

              class : ClassNear (world setup past) (class_key (class_of_claim d.claim)) begun.class
              class = class_near (world setup past) (world setup a.point) (class_key (class_of_claim d.claim)) begun.class
                  (back_near (world setup a.point) (world setup past) (moves a.point a.within).near) begun.there

              then_none : (x : ClaimData) → row_at key (world setup (e ∷ a.reaches.at)).store.rows ≡ Some (Claim x) → has_key selected_node x.meta.annotations ≡ false
              then_none x at =
                  none_then setup e a.reaches.at (run_within setup h past run order paid le (e ∷ a.reaches.at) next)
                  (order_within setup h past run order paid le a.reaches.at w [] a.reaches.at refl) kind d.claim call a.reaches.lasts key x
                  (sym (row_at_key key (Claim d.claim) (world setup a.point).store.rows d.stands)) at

              by_claims : StoodSo (world setup (e ∷ a.reaches.at)) key c ⊎ (has_key selected_node c.meta.annotations ≡ false) → has_key selected_node c.meta.annotations ≡ false
              by_claims (inl s) = sym (ap is_some (one_node_so s.claim c s.same)) ∙ then_none s.claim s.there
              by_claims (inr none_) = none_

              none : has_key selected_node c.meta.annotations ≡ false
              none = by_claims ((moves (e ∷ a.reaches.at) next).claims key c there)
