-- Volume protection pays.
use Rattle.std.proofs.Common.{◌≡◌, ◌∙◌, ℕ, List, Bool, true, false, true≢false, Option, Some, None, refl, sym, ap, subst}
use Rattle.std.specs.Prelude.{◌&&◌}
use Rattle.kube_objects.specs.declared.key.Key.{Key}
use Rattle.kube_parts.specs.declared.names.Due.{Due}
use Rattle.kube_parts.specs.declared.names.Due.TheVariants as dues
use Rattle.kube_objects.specs.declared.objects.Volume.{Volume as VolumeData}
use Rattle.kube_objects.specs.declared.objects.Object.{Object}
use Rattle.kube_objects.specs.declared.objects.Object.TheVariants.{Class, Node, Volume, Claim, Pod}
use Rattle.kube_objects.specs.Bindings.{is_bound, is_deleting, is_protected_volume}
use Rattle.kube_objects.specs.Keys.{key_of, row_at}
use Rattle.kube_objects.proofs.KeyOrder.{row_at_key}
use Rattle.call_types.specs.declared.entry.Entry.{Entry}
use Rattle.call_types.specs.declared.reply.Reply.{Reply}
use Rattle.call_types.specs.declared.reply.Reply.TheVariants as replies
use Rattle.call_types.specs.declared.request.Request.{Request}
use Rattle.call_types.specs.declared.request.SeatKind.TheVariants as seats
use Rattle.call_types.specs.declared.setup.Setup.{Setup}
use Rattle.binder_model.specs.Due.{guard_due, volume_guard_due}
use Rattle.binder_model.specs.ObjectKeys.{volume_key}
use Rattle.binder_model.specs.Promises.{IsRunOf}
use Rattle.binder_model.specs.Reading.{follows}
use Rattle.binder_model.specs.Store.{has_no_names, leaves}
use Rattle.binder_model.specs.World.{world}
use Rattle.informer_cache.specs.All.{all_objects}
use Rattle.model_laws.proofs.Histories.{rows_stand_in_order}
use Rattle.model_laws.proofs.Lists.{none_some, one}
use Rattle.protect_sync.specs.Decisions.{volume_guard_begins, volume_guard_for}
use Rattle.protect_sync.specs.VolumeGuards.{guarded_volume, unguarded_volume, volume_guard_call, volume_moved, volume_write_over}
use Rattle.protect_sync.specs.declared.volumes.VolumeGuardStep.{VolumeGuardStep}
use Rattle.protect_sync.specs.declared.volumes.VolumeGuardStep.TheVariants as steps
use Rattle.safety_law.proofs.Invariant.KeptBindings.{unguarded}
use Rattle.settle_measure.specs.Left.Lowers.{StandsVolume}
use Rattle.settle_measure.proofs.Upkeep.Guards.{volume_guard_pays, volume_unguard_pays}
use Rattle.worker_core.specs.declared.role.Role.{Role}
use Rattle.worker_core.specs.declared.task.First.{First}
use Rattle.worker_core.specs.declared.task.First.TheVariants as firsts
use Rattle.worker_core.specs.declared.task.Task.TheVariants as tasks
use Rattle.worker_core.specs.declared.task.Under.{Under}
use Rattle.worker_core.specs.States.{ActorState}
use Rattle.worker_core.specs.Tasks.{GivesCall, IsFirstOf, task_call, under_after, volume_guard_first}
use Rattle.settle_writes.specs.Writes.Writes.{IsStored}
use Rattle.settle_writes.proofs.Writes.Fitting.{no_namespace}
use Rattle.settle_slot.specs.Slot.Slots.{IsDecisionPoint}
use Rattle.settle_due.proofs.Upkeep.Deciding.{stored, task_in}
use Rattle.settle_pays.specs.Pays.Guards.{VolumeGuardsPay}
use Rattle.settle_pays.specs.Pays.Pays.{EachPays, WillPay}
use Rattle.settle_pays.proofs.Pays.Calls.{lowering_pays}

-- ---- what protection has to do

-- of protection a finalizer is to be added or dropped, or nothing is due
pub data Guarding (deleting guarded needed : Bool) : Type 0 where
  Adds : deleting ≡ false → guarded ≡ false → guard_due deleting guarded needed ≡ Some dues.Guard → Guarding deleting guarded needed
  Drops : deleting ≡ true → guarded ≡ true → needed ≡ false → guard_due deleting guarded needed ≡ Some dues.Unguard → Guarding deleting guarded needed
  Rests : guard_due deleting guarded needed ≡ None → Guarding deleting guarded needed

pub guarding : (deleting guarded needed : Bool) → Guarding deleting guarded needed
guarding true true false = Drops refl refl refl refl
guarding true true true = Rests refl
guarding true false needed = Rests refl
guarding false true needed = Rests refl
guarding false false needed = Adds refl refl refl

-- ---- the machine has one call

ends : (key : Key) (v : VolumeData) (step : VolumeGuardStep) (call : Request) (reply : Reply)
    → under_after (record { key = key; task = tasks.VolumeProtect (record { volume = v; step = step }); call = call }) reply ≡ None
unfolding volume_guard_call volume_moved
ends key v steps.Adds call (replies.Refused refusal) = refl
ends key v steps.Adds call _ = refl
ends key v steps.Drops call (replies.Refused refusal) = refl
ends key v steps.Drops call _ = refl
ends key v steps.Done call reply = refl
ends key v steps.Parked call reply = refl

-- ---- a decision

abbrev pub is_drop : First → Bool
is_drop firsts.Drops = true
is_drop first = false

module _ (setup : Setup) (seat : ℕ) (role : Role) (kind : role.kind ≡ seats.VolumeProtect) (s : ActorState) (h : List Entry) (u : Under)
    (run : IsRunOf setup h) (p : IsDecisionPoint setup seat role h s h) (gives : GivesCall s.role s.memory (all_objects s.caches) u) where
  s_kind : s.role.kind ≡ seats.VolumeProtect
  s_kind = ap (λ (r : Role). r.kind) p.role_is ∙ kind

  decided : firsts.Begins u.task ≡ volume_guard_first (volume_guard_begins (row_at u.key (all_objects s.caches)))
  decided = subst (λ k. IsFirstOf k s.role.node s.memory (all_objects s.caches) u.key (firsts.Begins u.task)) s_kind gives.decided

  not_dropped : {X : Type 0} → firsts.Begins u.task ≡ firsts.Drops → X
  not_dropped e = absurd (true≢false (sym (ap is_drop e)))

  module _ (v : VolumeData) (row : row_at u.key (all_objects s.caches) ≡ Some (Volume v)) where
    there : row_at u.key (world setup h).store.rows ≡ Some (Volume v)
    there = sym (p.sees u.key (ap (λ k. follows k u.key.kind) s_kind ∙ ap (λ (k : Key). follows seats.VolumeProtect k.kind) (sym (row_at_key u.key (Volume v) (all_objects s.caches) row)))) ∙ row

    on_store : IsStored (world setup h) (Volume v)
    on_store = stored setup h u.key (Volume v) run.imports there

    own_key : key_of (Volume v) ≡ volume_key v.meta.name
    own_key = rw (no_namespace v on_store.valid) refl

    at_key : row_at (volume_key v.meta.name) (world setup h).store.rows ≡ Some (Volume v)
    at_key = ap (λ k. row_at k (world setup h).store.rows) (sym own_key) ∙ on_store.there

    stands : leaves (Volume v) ≡ false → StandsVolume (world setup h) v
    stands stays = record { order = rows_stand_in_order setup h; there = at_key; stays = stays }

    -- the machine that began, with its call
    begun : (action : Option Due) → volume_guard_due v ≡ action → firsts.Begins u.task ≡ volume_guard_first (volume_guard_for v action)
    begun action e = decided ∙ (ap (λ x. volume_guard_first (volume_guard_begins x)) row ∙ ap (λ x. volume_guard_first (volume_guard_for v x)) e)

    will : (step : VolumeGuardStep) (call : Request)
        → firsts.Begins u.task ≡ firsts.Begins (tasks.VolumeProtect (record { volume = v; step = step })) → task_call (tasks.VolumeProtect (record { volume = v; step = step })) ≡ Some call
        → WillPay setup seat seats.VolumeProtect h (record { key = u.key; task = tasks.VolumeProtect (record { volume = v; step = step }); call = call }) → WillPay setup seat seats.VolumeProtect h u
    will step call begins asks pays =
        let task : u.task ≡ tasks.VolumeProtect (record { volume = v; step = step }) = ap (task_in u.task) begins in
        let same : u.call ≡ call = one u.call call (sym gives.call ∙ (ap task_call task ∙ asks)) in
        subst (WillPay setup seat seats.VolumeProtect h) (λ i. record { key = u.key; task = (sym task) i; call = (sym same) i }) pays

    stays_new : is_deleting v.meta ≡ false → leaves (Volume v) ≡ false
    unfolding leaves
    stays_new e = ap (λ b. b && has_no_names v.meta.finalizers) e

    stays_guarded : is_protected_volume v ≡ true → leaves (Volume v) ≡ false
    stays_guarded guarded_ = by (leaves (Volume v)) refl
      where
        by : (b : Bool) → leaves (Volume v) ≡ b → leaves (Volume v) ≡ false
        by false e = e
        by true e = absurd (true≢false (sym guarded_ ∙ unguarded v e))

    of_guarding : Guarding (is_deleting v.meta) (is_protected_volume v) (is_bound v.phase) → WillPay setup seat seats.VolumeProtect h u
    unfolding volume_guard_call
    of_guarding (Adds staying lacking e) =
        will steps.Adds (volume_write_over v (guarded_volume v)) (begun _ e) refl
        (EachPays (lowering_pays setup (world setup h) seats.VolumeProtect (volume_write_over v (guarded_volume v)) refl
        (volume_guard_pays setup (world setup h) seats.VolumeProtect v (stands (stays_new staying)) e))
        (λ next is. none_some (sym (ends u.key v steps.Adds (volume_write_over v (guarded_volume v)) _) ∙ is)))
    of_guarding (Drops deleting guarded_ free e) =
        will steps.Drops (volume_write_over v (unguarded_volume v)) (begun _ e) refl
        (EachPays (lowering_pays setup (world setup h) seats.VolumeProtect (volume_write_over v (unguarded_volume v)) refl
        (volume_unguard_pays setup (world setup h) seats.VolumeProtect v (stands (stays_guarded guarded_)) e))
        (λ next is. none_some (sym (ends u.key v steps.Drops (volume_write_over v (unguarded_volume v)) _) ∙ is)))
    of_guarding (Rests e) = not_dropped (begun _ e)

  by_row : (row : Option Object) → row_at u.key (all_objects s.caches) ≡ row → WillPay setup seat seats.VolumeProtect h u
  by_row None e = not_dropped (decided ∙ ap (λ x. volume_guard_first (volume_guard_begins x)) e)
  by_row (Some (Volume v)) e = of_guarding v e (guarding (is_deleting v.meta) (is_protected_volume v) (is_bound v.phase))
  by_row (Some (Class x)) e = not_dropped (decided ∙ ap (λ x. volume_guard_first (volume_guard_begins x)) e)
  by_row (Some (Node x)) e = not_dropped (decided ∙ ap (λ x. volume_guard_first (volume_guard_begins x)) e)
  by_row (Some (Claim x)) e = not_dropped (decided ∙ ap (λ x. volume_guard_first (volume_guard_begins x)) e)
  by_row (Some (Pod x)) e = not_dropped (decided ∙ ap (λ x. volume_guard_first (volume_guard_begins x)) e)

pub volume_guards_pay : VolumeGuardsPay
volume_guards_pay setup seat role kind s h u run p gives = subst (λ k. WillPay setup seat k h u) (sym kind) (by_row setup seat role kind s h u run p gives (row_at u.key (all_objects s.caches)) refl)
