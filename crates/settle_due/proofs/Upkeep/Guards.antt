-- Protection acts on what is due of it.
use Rattle.std.proofs.Common.{◌≡◌, ◌∙◌, ℕ, List, Bool, true, false, true≢false, Option, Some, None, refl, sym, ap, subst}
use Rattle.kube_objects.specs.declared.key.Key.{Key}
use Rattle.kube_parts.specs.declared.names.Due.{Due}
use Rattle.kube_parts.specs.declared.names.Due.TheVariants as dues
use Rattle.kube_objects.specs.declared.objects.Volume.{Volume as VolumeData}
use Rattle.kube_objects.specs.declared.objects.Object.TheVariants.{Volume}
use Rattle.kube_objects.specs.Bindings.{is_bound, is_deleting, is_protected_volume}
use Rattle.kube_objects.specs.Keys.{row_at}
use Rattle.kube_objects.proofs.KeyOrder.{row_at_key}
use Rattle.call_types.specs.declared.entry.Entry.{Entry}
use Rattle.call_types.specs.declared.request.SeatKind.TheVariants as seats
use Rattle.call_types.specs.declared.setup.Setup.{Setup}
use Rattle.binder_model.specs.Answers.{is_user}
use Rattle.binder_model.specs.Due.{guard_due, volume_guard_due}
use Rattle.binder_model.specs.Imports.{ImportsPass}
use Rattle.binder_model.specs.Reading.{follows}
use Rattle.binder_model.specs.World.{world}
use Rattle.informer_cache.specs.All.{all_objects}
use Rattle.protect_sync.specs.Decisions.{volume_guard_begins, volume_guard_for}
use Rattle.protect_sync.specs.VolumeGuards.{volume_guard_call}
use Rattle.protect_sync.specs.declared.volumes.VolumeGuardStep.TheVariants as steps
use Rattle.worker_core.specs.declared.role.Role.{Role}
use Rattle.worker_core.specs.declared.task.First.{First}
use Rattle.worker_core.specs.declared.task.Task.TheVariants as tasks
use Rattle.worker_core.specs.States.{ActorState}
use Rattle.worker_core.specs.Tasks.{IsDecision, IsFirstOf, volume_guard_first}
use Rattle.settle_writes.proofs.Writes.Volumes.{volume_guard_lasts, volume_unguard_lasts}
use Rattle.settle_slot.specs.Slot.Slots.{IsDecisionPoint}
use Rattle.settle_slot.specs.Slot.Would.{AtOnce}
use Rattle.settle_due.specs.Upkeep.Acts.{VolumeGuardsAct}
use Rattle.settle_due.proofs.Upkeep.Deciding.{BeginsLasting, IsVolumeAt, acts_by, stored, volume_alike}

abbrev is_action : Due → Option Due → Bool
is_action dues.Guard (Some dues.Guard) = true
is_action dues.Unguard (Some dues.Unguard) = true
is_action a o = false

-- of protection either a finalizer is to be added, or it is to be dropped
pub data GuardOrUnguard (x : Option Due) : Type 0 where
  IsGuard : x ≡ Some dues.Guard → GuardOrUnguard x
  IsUnguard : x ≡ Some dues.Unguard → GuardOrUnguard x

abbrev is_due : Option Due → Bool
is_due None = false
is_due (Some action) = true

pub one_of : (a b c : Bool) (action : Due) → guard_due a b c ≡ Some action → GuardOrUnguard (guard_due a b c)
one_of true true false action e = IsUnguard refl
one_of true true true action e = absurd (true≢false (sym (ap is_due e)))
one_of true false c action e = absurd (true≢false (sym (ap is_due e)))
one_of false false c action e = IsGuard refl
one_of false true c action e = absurd (true≢false (sym (ap is_due e)))

module _ (setup : Setup) (seat : ℕ) (role : Role) (start : List Entry) (key : Key) (v : VolumeData) (pass : ImportsPass setup.imports) (kind : role.kind ≡ seats.VolumeProtect)
    (there : row_at key (world setup start).store.rows ≡ Some (Volume v)) where
  controller : is_user role.kind ≡ false
  controller = ap is_user kind

  at_point : (s : ActorState) (h : List Entry) → IsDecisionPoint setup seat role start s h → GuardOrUnguard (volume_guard_due v) → BeginsLasting setup seat role start key s h
  unfolding volume_guard_call
  at_point s h p due = by (volume_alike (world setup start) (world setup h) key v p.alike there)
    where
      s_kind : s.role.kind ≡ seats.VolumeProtect
      s_kind = ap (λ (r : Role). r.kind) p.role_is ∙ kind

      followed : follows s.role.kind key.kind ≡ true
      followed = ap (λ k. follows k key.kind) s_kind ∙ ap (λ (k : Key). follows seats.VolumeProtect k.kind) (sym (row_at_key key (Volume v) (world setup start).store.rows there))

      by : IsVolumeAt (row_at key (world setup h).store.rows) v → BeginsLasting setup seat role start key s h
      by at = act due
        where
          due_same : volume_guard_due at.volume ≡ volume_guard_due v
          due_same = ap volume_guard_due at.same

          seen : row_at key (all_objects s.caches) ≡ Some (Volume at.volume)
          seen = p.sees key followed ∙ at.is

          decided : (first : First) → IsDecision s.role s.memory (all_objects s.caches) key first → first ≡ volume_guard_first (volume_guard_for at.volume (volume_guard_due at.volume))
          decided first d = (subst (λ k. IsFirstOf k s.role.node s.memory (all_objects s.caches) key first) s_kind d) ∙ ap (λ x. volume_guard_first (volume_guard_begins x)) seen

          act : GuardOrUnguard (volume_guard_due v) → BeginsLasting setup seat role start key s h
          act (IsGuard e) =
              let due_is : volume_guard_due at.volume ≡ Some dues.Guard = due_same ∙ e in
              record {
                task = tasks.VolumeProtect (record { volume = at.volume; step = steps.Adds });
                call = _;
                only = λ first d. decided first d ∙ ap (λ x. volume_guard_first (volume_guard_for at.volume x)) due_is;
                asks = refl;
                will = AtOnce p.alike (volume_guard_lasts setup (world setup h) role.kind at.volume controller (stored setup h key (Volume at.volume) pass at.is) due_is);
              }
          act (IsUnguard e) =
              let due_is : volume_guard_due at.volume ≡ Some dues.Unguard = due_same ∙ e in
              record {
                task = tasks.VolumeProtect (record { volume = at.volume; step = steps.Drops });
                call = _;
                only = λ first d. decided first d ∙ ap (λ x. volume_guard_first (volume_guard_for at.volume x)) due_is;
                asks = refl;
                will = AtOnce p.alike (volume_unguard_lasts setup (world setup h) role.kind at.volume controller (stored setup h key (Volume at.volume) pass at.is) due_is);
              }

pub volume_guards_act : VolumeGuardsAct
volume_guards_act setup seat role start key v action pass kind there due =
    acts_by setup seat role start key (λ s h p. at_point setup seat role start key v pass kind there s h p (one_of (is_deleting v.meta) (is_protected_volume v) (is_bound v.phase) action due))
