-- The binder acts on what is due for a volume.
use Rattle.std.proofs.Common.{◌≡◌, ◌≢◌, ◌∙◌, ℕ, List, ◌∷◌, Bool, true, false, true≢false, Option, Some, None, refl, sym, ap, subst, if◌then◌else◌}
use Rattle.std.specs.Prelude.{◌||◌, bytes_eq, is_some, not}
use Rattle.kube_objects.specs.declared.key.Key.{Key}
use Rattle.kube_parts.specs.declared.uid.Uid.{Uid}
use Rattle.kube_parts.specs.declared.names.Due.{Due}
use Rattle.kube_parts.specs.declared.names.Due.TheVariants as dues
use Rattle.kube_types.specs.declared.lookup.Live.TheVariants.{NotAsked}
use Rattle.kube_parts.specs.declared.parts.VolumePhase.{VolumePhase}
use Rattle.kube_parts.specs.declared.parts.VolumePhase.TheVariants as volumes
use Rattle.kube_objects.specs.declared.objects.Ref.{Ref}
use Rattle.kube_objects.specs.declared.objects.Claim.{Claim as ClaimData}
use Rattle.kube_objects.specs.declared.objects.Volume.{Volume as VolumeData}
use Rattle.kube_objects.specs.declared.objects.Object.{Object}
use Rattle.kube_objects.specs.declared.objects.Object.TheVariants.{Volume}
use Rattle.kube_objects.specs.Bindings.{is_available, is_bound, is_empty, is_ended, is_protected_volume, ref_uid}
use Rattle.kube_objects.specs.Keys.{row_at}
use Rattle.kube_objects.proofs.KeyOrder.{row_at_key}
use Rattle.call_types.specs.declared.entry.Entry.{Entry}
use Rattle.call_types.specs.declared.reply.Refusal.TheVariants.{NotFound}
use Rattle.call_types.specs.declared.reply.Reply.{Reply}
use Rattle.call_types.specs.declared.reply.Reply.TheVariants.{Found, Refused}
use Rattle.call_types.specs.declared.request.Request.TheVariants.{Get}
use Rattle.call_types.specs.declared.request.SeatKind.{SeatKind}
use Rattle.call_types.specs.declared.request.SeatKind.TheVariants as seats
use Rattle.call_types.specs.declared.setup.Setup.{Setup}
use Rattle.binder_model.specs.Answers.{after, get, is_user, outcome, reply_of}
use Rattle.binder_model.specs.BinderDue.{claim_with, is_reclaimed, reference_due, referred_due, uid_due, volume_due}
use Rattle.binder_model.specs.Devices.{device_answer}
use Rattle.binder_model.specs.Imports.{ImportsPass}
use Rattle.binder_model.specs.ObjectKeys.{claim_key}
use Rattle.binder_model.specs.Reading.{follows}
use Rattle.binder_model.specs.World.{World, effect, log_after, on_devices, reply_to, world, world_after}
use Rattle.informer_cache.specs.All.{all_objects}
use Rattle.model_laws.proofs.Lists.{none_some}
use Rattle.volume_sync.specs.declared.action.VolumeAction.{VolumeAction}
use Rattle.volume_sync.specs.declared.action.VolumeAction.TheVariants as actions
use Rattle.volume_sync.specs.VolumeDecision.{claim_by_reference, claim_by_uid, claim_of, free_action, or_else, referred_action, volume_decision}
use Rattle.binder_machines.specs.declared.decide.FirstMachine.{FirstMachine as BinderFirst}
use Rattle.binder_machines.specs.declared.decide.FirstMachine.TheVariants as binder_firsts
use Rattle.binder_machines.specs.declared.machine.Machine.{Machine}
use Rattle.binder_machines.specs.declared.machine.Machine.TheVariants as machines
use Rattle.binder_machines.specs.FirstSteps.{IsFirst, volume_first}
use Rattle.binder_machines.specs.Machines.{call_of, moved, volume_read, write_phase}
use Rattle.worker_core.specs.declared.role.Role.{Role}
use Rattle.worker_core.specs.declared.task.First.{First}
use Rattle.worker_core.specs.declared.task.First.TheVariants as firsts
use Rattle.worker_core.specs.declared.task.Task.TheVariants as tasks
use Rattle.worker_core.specs.States.{ActorState}
use Rattle.worker_core.specs.Tasks.{IsBinderFirst, IsDecision, IsFirstOf, under_after}
use Rattle.settle_writes.specs.Writes.Writes.{IsStored}
use Rattle.settle_writes.proofs.Writes.Fitting.{no_namespace}
use Rattle.settle_writes.proofs.Writes.Volumes.{phase_lasts, unbind_lasts}
use Rattle.settle_alike.specs.Alike.Alike.{AreAlike}
use Rattle.settle_alike.proofs.Alike.Binding.{volume_due_plain}
use Rattle.settle_alike.proofs.Alike.Rows.{plain_volume}
use Rattle.settle_slot.specs.Slot.Slots.{IsDecisionPoint, own_entry}
use Rattle.settle_slot.specs.Slot.Would.{AtOnce, Later, WouldLast}
use Rattle.settle_due.specs.Upkeep.Acts.{VolumesAct}
use Rattle.settle_due.proofs.Upkeep.Deciding.{BeginsLasting, acts_by, stored, volume_alike}
use Rattle.settle_due.proofs.Upkeep.Known.{rows_known}

-- a read tells what stands, and changes nothing

abbrev pub got : Option Object → Reply
got None = Refused NotFound
got (Some o) = Found o

pub get_said : (setup : Setup) (w : World) (kind : SeatKind) (key : Key) → reply_to (effect setup w kind (Get key)) ≡ got (row_at key w.store.rows)
unfolding effect on_devices device_answer outcome get reply_to reply_of
get_said setup w kind key = by (row_at key w.store.rows)
  where
    by : (x : Option Object) → reply_of (get x) ≡ got x
    by None = refl
    by (Some o) = refl

pub get_stays : (setup : Setup) (w : World) (kind : SeatKind) (key : Key) → world_after w (effect setup w kind (Get key)) ≡ w
unfolding effect on_devices device_answer outcome get world_after after log_after
get_stays setup w kind key = by (row_at key w.store.rows)
  where
    by : (x : Option Object) → record w { store = after w.store (get x); log = log_after (get x) w.log } ≡ w
    by None = refl
    by (Some o) = refl

-- what the decision on a volume is where something is due

data VolumeCase (rows : List Object) (v : VolumeData) (action : VolumeAction) : Type 0 where
  Frees : action ≡ actions.Available → is_available v.phase ≡ false → VolumeCase rows v action
  Bounds : action ≡ actions.Bound → is_bound v.phase ≡ false → VolumeCase rows v action
  Releases : action ≡ actions.Release → is_ended v.phase ≡ false → VolumeCase rows v action
  Unbinds : (uid : Uid) → action ≡ actions.Unbind → ref_uid v.claim_ref ≡ Some uid → VolumeCase rows v action
  Reads : (r : Ref) (uid : Uid) → action ≡ actions.ReadClaim → is_ended v.phase ≡ false → v.claim_ref ≡ Some r → r.uid ≡ Some uid
      → claim_with uid (row_at (claim_key r.namespace r.name) rows) ≡ None → VolumeCase rows v action

abbrev is_due : Option Due → Bool
is_due None = false
is_due (Some action) = true

nothing_due : {G : Type 0} (action : Due) → None ≡ Some action → G
nothing_due action e = none_some e

free_case : (rows : List Object) (v : VolumeData) (due : Due) → (if is_available v.phase then None else Some dues.Available) ≡ Some due → VolumeCase rows v (free_action v)
free_case rows v due e = by (is_available v.phase) refl e
  where
    by : (b : Bool) → is_available v.phase ≡ b → (if b then None else Some dues.Available) ≡ Some due → VolumeCase rows v (if b then actions.Nothing else actions.Available)
    by true is e = none_some e
    by false is e = Frees refl is

referred_case : (rows : List Object) (v : VolumeData) (r : Ref) (uid : Uid) (due : Due) → v.claim_ref ≡ Some r → r.uid ≡ Some uid
    → is_ended v.phase ≡ false → (x : Option ClaimData) → claim_with uid (row_at (claim_key r.namespace r.name) rows) ≡ x
    → referred_due v x ≡ Some due → VolumeCase rows v (referred_action v false (or_else x None))
unfolding referred_due
referred_case rows v r uid due refers known open_ None is e = Reads r uid refl open_ refers known is
referred_case rows v r uid due refers known open_ (Some c) is e = by (is_empty c.volume_name) (bytes_eq c.volume_name v.meta.name) (is_bound v.phase) (is_protected_volume v) (is_reclaimed v) refl e
  where
    by : (empty same bound guarded reclaimed : Bool) → is_bound v.phase ≡ bound
        → (if empty then None else if same then (if bound || not guarded then None else Some dues.Bound) else if reclaimed then Some dues.Release else Some dues.Unbind) ≡ Some due
        → VolumeCase rows v (if empty then actions.QueueClaim else if same then
        (if bound || not guarded then actions.Nothing else actions.Bound) else if reclaimed then actions.Release else actions.Unbind)
    by true same bound guarded reclaimed is_b e = none_some e
    by false true true guarded reclaimed is_b e = none_some e
    by false true false false reclaimed is_b e = none_some e
    by false true false true reclaimed is_b e = Bounds refl is_b
    by false false bound guarded true is_b e = Releases refl open_
    by false false bound guarded false is_b e = Unbinds uid refl (ap ref_uid refers ∙ known)

-- by the rows that are looked at, of which the claim's stands as in the store
case_of : (seen rows : List Object) (v : VolumeData) (due : Due)
    → ((r : Ref) → row_at (claim_key r.namespace r.name) seen ≡ row_at (claim_key r.namespace r.name) rows) → volume_due rows v ≡ Some due → VolumeCase rows v (volume_decision seen v NotAsked)
unfolding volume_due reference_due volume_decision
case_of seen rows v due same e = by v.claim_ref refl e
  where
    by_uid : (r : Ref) → v.claim_ref ≡ Some r → (u : Option Uid) → r.uid ≡ u → uid_due rows v r u ≡ Some due
        → VolumeCase rows v (if not (is_some u) then free_action v else if is_ended v.phase then actions.Nothing else referred_action v false (claim_by_uid seen r u NotAsked))
    by_uid r refers None known e = free_case rows v due e
    by_uid r refers (Some uid) known e = ended (is_ended v.phase) refl e
      where
        ended : (b : Bool) → is_ended v.phase ≡ b → (if b then None else referred_due v (claim_with uid (row_at (claim_key r.namespace r.name) rows))) ≡ Some due
            → VolumeCase rows v (if b then actions.Nothing else referred_action v false (claim_of seen r uid NotAsked))
        ended true is e = none_some e
        ended false is e = subst (λ x. VolumeCase rows v (referred_action v false (or_else (claim_with uid x) None))) (sym (same r))
            (referred_case rows v r uid due refers known is (claim_with uid (row_at (claim_key r.namespace r.name) rows)) refl e)

    by : (r : Option Ref) → v.claim_ref ≡ r → reference_due rows v r ≡ Some due
        → VolumeCase rows v (if not (is_some (ref_uid r)) then free_action v else if is_ended v.phase then actions.Nothing else referred_action v false (claim_by_reference seen r NotAsked))
    by None refers e = free_case rows v due e
    by (Some r) refers e = by_uid r refers r.uid refl e

phase_differs : (test : VolumePhase → Bool) (a b : VolumePhase) → test a ≡ false → test b ≡ true → a ≢ b
phase_differs test a b f t e = true≢false (sym t ∙ (ap test (sym e) ∙ f))

-- the binder's decision begins this machine and no other

abbrev pub machine_in : Machine → BinderFirst → Machine
machine_in m (binder_firsts.Begins machine) = machine
machine_in m first = m

abbrev pub begins_one : BinderFirst → Bool
begins_one (binder_firsts.Begins machine) = true
begins_one first = false

only_one : (rows : List Object) (key : Key) (v : VolumeData) (machine : Machine) → row_at key rows ≡ Some (Volume v) → volume_first v (volume_decision rows v NotAsked) ≡ binder_firsts.Begins machine
    → (first : First) → IsBinderFirst rows key first → first ≡ firsts.Begins (tasks.Binder machine)
only_one rows key v machine there begins first d = by first d
  where
    at : (f : BinderFirst) → IsFirst rows (row_at key rows) f → f ≡ binder_firsts.Begins machine
    at f i = subst (λ x. IsFirst rows x f) there i ∙ begins

    no : {G : Type 0} (f : BinderFirst) → begins_one f ≡ false → f ≡ binder_firsts.Begins machine → G
    no f e is = absurd (true≢false (sym (ap begins_one is) ∙ e))

    by : (f : First) → IsBinderFirst rows key f → f ≡ firsts.Begins (tasks.Binder machine)
    by firsts.Drops i = no binder_firsts.Drops refl (at binder_firsts.Drops i)
    by (firsts.Queues other) i = no (binder_firsts.Queues other) refl (at (binder_firsts.Queues other) i)
    by (firsts.Begins (tasks.Binder m)) i = ap (λ x. firsts.Begins (tasks.Binder x)) (ap (machine_in m) (at (binder_firsts.Begins m) i))
    by (firsts.Begins (tasks.ClaimProtect op)) i = absurd i
    by (firsts.Begins (tasks.VolumeProtect op)) i = absurd i
    by (firsts.Begins (tasks.Agent op)) i = absurd i
    by (firsts.Begins (tasks.Provision op)) i = absurd i
    by (firsts.Begins (tasks.Erase op)) i = absurd i
    by (firsts.Begins (tasks.Schedule op)) i = absurd i

module _ (setup : Setup) (seat : ℕ) (role : Role) (start : List Entry) (key : Key) (v : VolumeData) (action : Due) (pass : ImportsPass setup.imports) (kind : role.kind ≡ seats.Binder)
    (there : row_at key (world setup start).store.rows ≡ Some (Volume v)) (due : volume_due (world setup start).store.rows v ≡ Some action) where
  controller : is_user role.kind ≡ false
  controller = ap is_user kind

  -- the volume as it stands at a point
  module _ (s : ActorState) (h : List Entry) (p : IsDecisionPoint setup seat role start s h) (u : VolumeData)
      (is : row_at key (world setup h).store.rows ≡ Some (Volume u)) (same : plain_volume u ≡ plain_volume v) where
    s_kind : s.role.kind ≡ seats.Binder
    s_kind = ap (λ (r : Role). r.kind) p.role_is ∙ kind

    follows_it : (k : Key) → follows seats.Binder k.kind ≡ true → follows s.role.kind k.kind ≡ true
    follows_it k f = ap (λ x. follows x k.kind) s_kind ∙ f

    seen : row_at key (all_objects s.caches) ≡ Some (Volume u)
    seen = p.sees key (follows_it key (ap (λ (k : Key). follows seats.Binder k.kind) (sym (row_at_key key (Volume u) (world setup h).store.rows is)))) ∙ is

    due_here : volume_due (world setup h).store.rows u ≡ Some action
    due_here =
        sym (volume_due_plain (world setup h).store.rows u)
        ∙ ((λ i. volume_due ((sym p.alike.rows) i) (same i)) ∙ (volume_due_plain (world setup start).store.rows v ∙ due))

    on_store : IsStored (world setup h) (Volume u)
    on_store = stored setup h key (Volume u) pass is

    unplaced : is_empty u.meta.namespace ≡ true
    unplaced = ap is_empty (no_namespace u on_store.valid)

    known : is_some u.meta.uid ≡ true
    known = rows_known setup h pass key (Volume u) is

    only : (machine : Machine) → volume_first u (volume_decision (all_objects s.caches) u NotAsked) ≡ binder_firsts.Begins machine → (first : First)
        → IsDecision s.role s.memory (all_objects s.caches) key first → first ≡ firsts.Begins (tasks.Binder machine)
    only machine begins first d = only_one (all_objects s.caches) key u machine seen begins first (subst (λ k. IsFirstOf k s.role.node s.memory (all_objects s.caches) key first) s_kind d)

    begins_by : VolumeCase (world setup h).store.rows u (volume_decision (all_objects s.caches) u NotAsked) → BeginsLasting setup seat role start key s h
    unfolding call_of moved volume_read claim_with
    begins_by (Frees e open_) = record {
      task = tasks.Binder (machines.Frees u);
      call = write_phase u volumes.Available;
      only = only (machines.Frees u) (ap (volume_first u) e);
      asks = rw unplaced refl;
      will = AtOnce p.alike (phase_lasts setup (world setup h) role.kind u volumes.Available controller on_store (phase_differs is_available u.phase volumes.Available open_ refl));
    }
    begins_by (Bounds e open_) = record {
      task = tasks.Binder (machines.MarksBound u);
      call = write_phase u volumes.Bound;
      only = only (machines.MarksBound u) (ap (volume_first u) e);
      asks = rw unplaced refl;
      will = AtOnce p.alike (phase_lasts setup (world setup h) role.kind u volumes.Bound controller on_store (phase_differs is_bound u.phase volumes.Bound open_ refl));
    }
    begins_by (Releases e open_) = record {
      task = tasks.Binder (machines.Releases u);
      call = write_phase u volumes.Released;
      only = only (machines.Releases u) (ap (volume_first u) e);
      asks = rw unplaced refl;
      will = AtOnce p.alike (phase_lasts setup (world setup h) role.kind u volumes.Released controller on_store (phase_differs is_ended u.phase volumes.Released open_ refl));
    }
    begins_by (Unbinds uid e refers) = record {
      task = tasks.Binder (machines.Unbinds u);
      call = _;
      only = only (machines.Unbinds u) (ap (volume_first u) e);
      asks = refl;
      will = AtOnce p.alike (unbind_lasts setup (world setup h) role.kind u uid controller on_store refers);
    }
    begins_by (Reads r uid e open_ refers uid_is none) = record {
      task = tasks.Binder (machines.ReadsClaim u);
      call = Get (claim_key r.namespace r.name);
      only = only (machines.ReadsClaim u) (ap (volume_first u) e);
      asks = rw (unplaced, known, refers) refl;
      will = Later p.alike (record { key = key; task = tasks.Binder (machines.Releases u); call = write_phase u volumes.Released }) after_read then_;
    }
      where
        own_ref : ref_uid u.claim_ref ≡ Some uid
        own_ref = ap ref_uid refers ∙ uid_is

        read_so : (x : Option Object) → claim_with uid x ≡ None → under_after (record { key = key; task = tasks.Binder (machines.ReadsClaim u); call = Get (claim_key r.namespace r.name) }) (got x)
            ≡ Some (record { key = key; task = tasks.Binder (machines.Releases u); call = write_phase u volumes.Released })
        read_so None away = rw (own_ref, open_, unplaced) refl
        read_so (Some o) away = rw (own_ref, open_) (rw (away, unplaced) refl)

        after_read : under_after (record { key = key; task = tasks.Binder (machines.ReadsClaim u); call = Get (claim_key r.namespace r.name) })
            (reply_to (effect setup (world setup h) role.kind (Get (claim_key r.namespace r.name))))
            ≡ Some (record { key = key; task = tasks.Binder (machines.Releases u); call = write_phase u volumes.Released })
        after_read = ap (under_after (record { key = key; task = tasks.Binder (machines.ReadsClaim u); call = Get (claim_key r.namespace r.name) }))
            (get_said setup (world setup h) role.kind (claim_key r.namespace r.name)) ∙ read_so (row_at (claim_key r.namespace r.name) (world setup h).store.rows) none

        same_world : world setup (own_entry setup seat role.kind h (Get (claim_key r.namespace r.name)) ∷ h) ≡ world setup h
        same_world = get_stays setup (world setup h) role.kind (claim_key r.namespace r.name)

        still : AreAlike (world setup start) (world setup (own_entry setup seat role.kind h (Get (claim_key r.namespace r.name)) ∷ h))
        still = subst (AreAlike (world setup start)) (sym same_world) p.alike

        then_ : WouldLast setup seat role.kind start (own_entry setup seat role.kind h (Get (claim_key r.namespace r.name)) ∷ h)
            (record { key = key; task = tasks.Binder (machines.Releases u); call = write_phase u volumes.Released })
        then_ = AtOnce still (phase_lasts setup _ role.kind u volumes.Released controller
            (subst (λ w. IsStored w (Volume u)) (sym same_world) on_store) (phase_differs is_ended u.phase volumes.Released open_ refl))

    begins : BeginsLasting setup seat role start key s h
    begins = begins_by (case_of (all_objects s.caches) (world setup h).store.rows u action (λ r. p.sees (claim_key r.namespace r.name) (follows_it (claim_key r.namespace r.name) refl)) due_here)

  at_point : (s : ActorState) (h : List Entry) → IsDecisionPoint setup seat role start s h → BeginsLasting setup seat role start key s h
  at_point s h p = let at = volume_alike (world setup start) (world setup h) key v p.alike there in begins s h p at.volume at.is at.same

pub volumes_act : VolumesAct
volumes_act setup seat role start key v action pass kind there due = acts_by setup seat role start key (at_point setup seat role start key v action pass kind there due)
