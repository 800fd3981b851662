-- The provisioner acts on what is due for a claim: it asks for data and creates the volume over them, or clears the claim's node.
use Rattle.std.proofs.Common.{◌≡◌, ◌∙◌, ℕ, List, ◌∷◌, Bool, true, false, true≢false, Option, Some, None, inl, inr, refl, sym, ap, subst, if◌then◌else◌}
use Rattle.std.specs.Prelude.{is_none}
use Rattle.plain_data.specs.Pairs.{Pair}
use Rattle.kube_objects.specs.declared.key.Key.{Key}
use Rattle.kube_parts.specs.declared.uid.Uid.{Uid}
use Rattle.kube_parts.specs.declared.names.Due.{Due}
use Rattle.kube_parts.specs.declared.names.Due.TheVariants as dues
use Rattle.kube_objects.specs.declared.objects.Class.{Class as ClassData}
use Rattle.kube_objects.specs.declared.objects.Claim.{Claim as ClaimData}
use Rattle.kube_objects.specs.declared.objects.DataId.{DataId}
use Rattle.kube_objects.specs.declared.objects.Object.{Object}
use Rattle.kube_objects.specs.declared.objects.Object.TheVariants.{Claim}
use Rattle.kube_objects.specs.Keys.{key_of, row_at}
use Rattle.kube_objects.proofs.KeyOrder.{row_at_key}
use Rattle.call_types.specs.declared.entry.Entry.{Entry}
use Rattle.call_types.specs.declared.reply.Refusal.TheVariants.{Exhausted}
use Rattle.call_types.specs.declared.reply.Reply.TheVariants.{Refused}
use Rattle.call_types.specs.declared.request.SeatKind.TheVariants as seats
use Rattle.call_types.specs.declared.setup.Setup.{Setup}
use Rattle.binder_model.specs.Answers.{is_user}
use Rattle.binder_model.specs.Due.{is_served, provision_due, provision_if_new}
use Rattle.binder_model.specs.Imports.{ImportsPass}
use Rattle.binder_model.specs.ObjectKeys.{volume_key}
use Rattle.binder_model.specs.Provisioning.{data_name}
use Rattle.binder_model.specs.Reading.{follows}
use Rattle.binder_model.specs.World.{effect, reply_to, world}
use Rattle.informer_cache.specs.All.{all_objects}
use Rattle.model_laws.proofs.Histories.{rows_stand_in_order}
use Rattle.model_laws.proofs.Lists.{none_some}
use Rattle.reclaim_ops.specs.declared.provision.ProvisionStep.{ProvisionStep}
use Rattle.reclaim_ops.specs.declared.provision.ProvisionStep.TheVariants as steps
use Rattle.reclaim_ops.specs.Decisions.{at_step, claim_begins, claim_for, volume_begins}
use Rattle.reclaim_ops.specs.DueLaw.{due_at, due_of_provision}
use Rattle.reclaim_ops.specs.Provisions.{ask_call, clear_call, create_call, provision_call, provision_moved}
use Rattle.reclaim_ops.proofs.Dues.{begins_what_is_due}
use Rattle.worker_core.specs.declared.role.Role.{Role}
use Rattle.worker_core.specs.declared.task.First.{First}
use Rattle.worker_core.specs.declared.task.First.TheVariants as firsts
use Rattle.worker_core.specs.declared.task.Task.TheVariants as tasks
use Rattle.worker_core.specs.declared.task.Under.{Under}
use Rattle.worker_core.specs.States.{ActorState}
use Rattle.worker_core.specs.Tasks.{IsDecision, IsFirstOf, ops_first, under_after}
use Rattle.settle_writes.specs.Writes.Lasting.{IsBackFault, Lasts}
use Rattle.settle_writes.specs.Writes.Writes.{IsStored}
use Rattle.settle_writes.proofs.Writes.Claims.{clear_lasts}
use Rattle.settle_writes.proofs.Writes.CreateLasts.{provisioned_lasts}
use Rattle.settle_alike.proofs.Alike.Calls.{LastsOrAlike, calls_last_or_leave_alike, then_alike}
use Rattle.settle_alike.proofs.Alike.Dues.{one_plain, provision_plain}
use Rattle.settle_alike.proofs.Alike.Rows.{plain_claim}
use Rattle.settle_slot.specs.Slot.Slots.{IsDecisionPoint, own_entry}
use Rattle.settle_slot.specs.Slot.Would.{AtOnce, Later, WouldLast}
use Rattle.settle_due.proofs.Upkeep.Deciding.{BeginsLasting, acts_by, claim_alike, stored}
use Rattle.settle_due.specs.Provisioning.Provisioning.{ActsWhereDue, ClearsAct, ProvisionsAct}
use Rattle.settle_due.proofs.Provisioning.Begun.{BeginsNone, BeginsOne, Begun, HasNode, IsChosen, begins_same, begun}
use Rattle.settle_due.proofs.Provisioning.Devices.{Fails, Gives, Lacks, ProvisionSays, provision_keeps, provision_says}

abbrev pub is_asking : ProvisionStep → Bool
is_asking (steps.Provisions labels) = true
is_asking step = false

-- where a node is taken back one was selected
node_taken : (c : ClaimData) (x : ClassData) → IsChosen c x steps.ClearsNode → HasNode c
node_taken c x (inl any) = absurd (true≢false (sym (ap is_asking any.1)))
node_taken c x (inr has) = has

-- so it was under a delayed class
node_late : (c : ClaimData) (x : ClassData) (step : ProvisionStep) → IsChosen c x step → x.delayed ≡ true → HasNode c
node_late c x step (inl any) late = absurd (true≢false (sym late ∙ any.0))
node_late c x step (inr has) late = has

-- data that can be given are asked for where the name of their volume is free; others only under a delayed class
record IsWorthAsking (served : Bool) (x : ClassData) (uid : Uid) (rows : List Object) : Type 0 where
  free : served ≡ true → row_at (volume_key (data_name uid)) rows ≡ None
  late : served ≡ false → x.delayed ≡ true

row_free : (row : Option Object) (action : Due) → (if is_none row then Some dues.Provision else None) ≡ Some action → row ≡ None
row_free None action e = refl
row_free (Some o) action e = none_some e

worth_asking : (served : Bool) (x : ClassData) (uid : Uid) (rows : List Object) (action : Due)
    → (if served then provision_if_new rows uid else if x.delayed then Some dues.ClearNode else None) ≡ Some action → IsWorthAsking served x uid rows
worth_asking true x uid rows action e = record { free = λ s. row_free (row_at (volume_key (data_name uid)) rows) action e; late = λ s. absurd (true≢false s) }
worth_asking false x uid rows action e = record { free = λ s. absurd (true≢false (sym s)); late = λ s. by x.delayed e }
  where
    by : (b : Bool) → (if b then Some dues.ClearNode else None) ≡ Some action → b ≡ true
    by true e = refl
    by false e = none_some e

module _ (setup : Setup) (seat : ℕ) (role : Role) (start : List Entry) (key : Key) (c : ClaimData) (action : Due) (pass : ImportsPass setup.imports) (kind : role.kind ≡ seats.Ops)
    (there : row_at key (world setup start).store.rows ≡ Some (Claim c)) (due : provision_due setup (world setup start) c ≡ Some action) where
  controller : is_user role.kind ≡ false
  controller = ap is_user kind

  module _ (s : ActorState) (h : List Entry) (p : IsDecisionPoint setup seat role start s h) (d : ClaimData)
      (is : row_at key (world setup h).store.rows ≡ Some (Claim d)) (same : plain_claim d ≡ plain_claim c) where
    s_kind : s.role.kind ≡ seats.Ops
    s_kind = ap (λ (r : Role). r.kind) p.role_is ∙ kind

    agree : (k : Key) → follows seats.Ops k.kind ≡ true → row_at k (all_objects s.caches) ≡ row_at k (world setup h).store.rows
    agree k f = p.sees k (ap (λ x. follows x k.kind) s_kind ∙ f)

    seen : row_at key (all_objects s.caches) ≡ Some (Claim d)
    seen = agree key (ap (λ (k : Key). follows seats.Ops k.kind) (sym (row_at_key key (Claim d) (world setup h).store.rows is))) ∙ is

    due_here : provision_due setup (world setup h) d ≡ Some action
    due_here =
        let plain = one_plain (world setup start) (world setup h) p.alike in
        sym (provision_plain setup (world setup h) d) ∙ ((λ i. provision_due setup ((sym plain) i) (same i)) ∙ (provision_plain setup (world setup start) c ∙ due))

    on_store : IsStored (world setup h) (Claim d)
    on_store = stored setup h key (Claim d) pass is

    abbrev beginning : Uid → ClassData → ProvisionStep → First
    beginning uid x step = firsts.Begins (tasks.Provision (at_step d uid x step))

    -- the decision on the caches is the one on the store
    decided : (uid : Uid) (x : ClassData) (step : ProvisionStep) → claim_for (world setup h).store.rows d ≡ Some (at_step d uid x step)
        → (first : First) → IsDecision s.role s.memory (all_objects s.caches) key first → first ≡ beginning uid x step
    decided uid x step on first f =
        (subst (λ k. IsFirstOf k s.role.node s.memory (all_objects s.caches) key first) s_kind f)
        ∙ (ap (λ y. ops_first (claim_begins (all_objects s.caches) y) (volume_begins y)) seen
        ∙ ap (λ op. ops_first op None) (begins_same (all_objects s.caches) (world setup h).store.rows d agree p.ready.rows (rows_stand_in_order setup h) ∙ on))

    -- the node is cleared in a world with this store
    clears : (g : List Entry) → (world setup g).store ≡ (world setup h).store → HasNode d → Lasts setup (world setup g) role.kind (clear_call d)
    clears g stays has = clear_lasts setup (world setup g) role.kind d controller (record { there = ap (λ x. row_at (key_of (Claim d)) x.rows) stays ∙ on_store.there; valid = on_store.valid }) has

    module _ (uid : Uid) (x : ClassData) (labels : Option (List Pair)) (chosen : IsChosen d x (steps.Provisions labels)) where
      abbrev asking : Under
      asking = record { key = key; task = tasks.Provision (at_step d uid x (steps.Provisions labels)); call = ask_call d uid x labels }

      abbrev creating : DataId → Option (List ℕ × List ℕ) → Under
      creating id topology = record { key = key; task = tasks.Provision (at_step d uid x (steps.Creates id topology)); call = create_call d uid x id topology }

      abbrev clearing : Under
      clearing = record { key = key; task = tasks.Provision (at_step d uid x steps.ClearsNode); call = clear_call d }

      abbrev h_asked : List Entry
      h_asked = own_entry setup seat role.kind h (ask_call d uid x labels) ∷ h

      stays : (world setup h_asked).store ≡ (world setup h).store
      stays = provision_keeps setup (world setup h) role.kind controller d uid x labels

      -- no pool has the bytes: the node is cleared next
      refused : (free : ℕ) → x.delayed ≡ true → under_after asking (Refused (Exhausted free)) ≡ Some clearing
      unfolding provision_call provision_moved
      refused free late = rw late refl

      asks : IsWorthAsking (is_served setup (world setup h).devices d uid x labels) x uid (world setup h).store.rows
          → LastsOrAlike (world setup h) (effect setup (world setup h) role.kind (ask_call d uid x labels))
          → ProvisionSays (is_served setup (world setup h).devices d uid x labels) (reply_to (effect setup (world setup h) role.kind (ask_call d uid x labels)))
          → WouldLast setup seat role.kind start h asking
      unfolding provision_call provision_moved
      asks worth (inl lasts) says = AtOnce p.alike lasts
      asks worth (inr alike) (Fails call e) = AtOnce p.alike (inr (inr (subst IsBackFault (sym e) tt)))
      asks worth (inr alike) (Gives id topology served e) =
          let free : row_at (volume_key (data_name uid)) (world setup h_asked).store.rows ≡ None = ap (λ y. row_at (volume_key (data_name uid)) y.rows) stays ∙ worth.free served in
          Later p.alike (creating id topology) (ap (under_after asking) e)
          (AtOnce (then_alike _ _ _ p.alike alike) (provisioned_lasts setup (world setup h_asked) role.kind d uid x id topology controller on_store.valid free))
      asks worth (inr alike) (Lacks free served e) =
          let late = worth.late served in
          Later p.alike clearing (ap (under_after asking) e ∙ refused free late)
          (AtOnce (then_alike _ _ _ p.alike alike) (clears h_asked stays (node_late d x (steps.Provisions labels) chosen late)))

    by_step : (uid : Uid) (x : ClassData) (step : ProvisionStep) → claim_for (world setup h).store.rows d ≡ Some (at_step d uid x step)
        → IsChosen d x step → due_at setup (world setup h) (at_step d uid x step) step ≡ Some action → BeginsLasting setup seat role start key s h
    unfolding provision_call
    by_step uid x (steps.Provisions labels) on chosen e = record {
      task = tasks.Provision (at_step d uid x (steps.Provisions labels));
      call = ask_call d uid x labels;
      only = decided uid x (steps.Provisions labels) on;
      asks = refl;
      will = asks uid x labels chosen (worth_asking (is_served setup (world setup h).devices d uid x labels) x uid (world setup h).store.rows action e)
          (calls_last_or_leave_alike setup (world setup h) role.kind (ask_call d uid x labels) (rows_stand_in_order setup h))
          (provision_says setup (world setup h) role.kind controller d uid x labels);
    }
    by_step uid x steps.ClearsNode on chosen e = record {
      task = tasks.Provision (at_step d uid x steps.ClearsNode);
      call = clear_call d;
      only = decided uid x steps.ClearsNode on;
      asks = refl;
      will = AtOnce p.alike (clears h refl (node_taken d x chosen));
    }
    by_step uid x (steps.Creates id topology) on chosen e = none_some e
    by_step uid x steps.Done on chosen e = none_some e
    by_step uid x steps.Parked on chosen e = none_some e

    -- what begins is what is due
    begins_by : Begun d (claim_for (world setup h).store.rows d) → BeginsLasting setup seat role start key s h
    begins_by (BeginsNone e) = none_some (sym (ap (due_of_provision setup (world setup h)) e) ∙ (begins_what_is_due setup (world setup h) d ∙ due_here))
    begins_by (BeginsOne uid x step e chosen) = by_step uid x step e chosen (sym (ap (due_of_provision setup (world setup h)) e) ∙ (begins_what_is_due setup (world setup h) d ∙ due_here))

  at_point : (s : ActorState) (h : List Entry) → IsDecisionPoint setup seat role start s h → BeginsLasting setup seat role start key s h
  at_point s h p = let at = claim_alike (world setup start) (world setup h) key c p.alike there in begins_by s h p at.claim at.is at.same (begun (world setup h).store.rows at.claim)

pub provisioner_acts : (action : Due) → ActsWhereDue action
provisioner_acts action setup seat role start key c pass kind there due = acts_by setup seat role start key (at_point setup seat role start key c action pass kind there due)

pub provisions_act : ProvisionsAct
provisions_act = provisioner_acts dues.Provision

pub clears_act : ClearsAct
clears_act = provisioner_acts dues.ClearNode
