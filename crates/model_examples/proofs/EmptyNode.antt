-- The history on the node without a name, computed.
use Rattle.std.proofs.Common.{sym, refl, inl, inr, true≢false}
use Rattle.std.specs.Prelude.{[], ◌∷◌, Some, codes}
use mathlib.Core.Bool.{xor}
use Rattle.kube_parts.specs.Uids.{uid_of_serial}
use Rattle.kube_parts.specs.declared.parts.VolumePhase.TheVariants as volumes
use Rattle.call_types.specs.declared.request.SeatKind.TheVariants as seats
use Rattle.binder_model.specs.Store.{with_meta, at_version, marked_object, admitted_object, without_status, created_object, with_status_of, updated_object, leaves, leaves_at_once, lacks_node}
use Rattle.binder_model.specs.Fields.{faulty, volume_fault, claim_fault, pod_fault, kind_fault, create_fault, changed_field, update_fault}
use Rattle.binder_model.specs.Guard.{breaks, guard}
use Rattle.binder_model.specs.Answers.{refuse, refuse_field, refuse_rule, guard_on, create, update, with_status, written_if_fits, update_status, delete, delete_of, get, list, outcome, reply_of, after}
use Rattle.binder_model.specs.Devices.{device_answer, unless_stale, take_node, with_mounts}
use Rattle.binder_model.specs.World.{IsHistory, effect, on_devices, reply_to, world_after, log_after}
use Rattle.binder_model.specs.ObjectKeys.{claim_key}
use Rattle.binder_model.specs.BindWrites.{taken_for, completed_with}
use Rattle.binder_model.specs.BinderLicence.{MayTake, MayBind, MayComplete, MayShow}
use Rattle.binder_model.specs.AgentLicence.{WasShownReady, IsReadyPod}
use Rattle.binder_model.specs.Licence.{Licensed}
use Rattle.binder_model.specs.Reading.{NamesClaim}
use Rattle.binder_model.specs.Run.{Run}
use Rattle.binder_model.specs.Safe.{Safe}
use Rattle.model_laws.specs.Worked.{no_setup, a, c, completed_c, once, amount}
use Rattle.model_examples.proofs.Tellings.{neither, sole, told_pods}
use Rattle.model_examples.specs.EmptyNode.{a_at, c_deleted, pod_stands, e3, e4, e5, e6, e7, e8, e10, e11, e12, e13, e14, until_list, history, MountsOnNoNode}

may_take : MayTake (e4 ∷ e3 ∷ []) (a 1 volumes.Pending) (a_at 1 volumes.Pending)
unfolding taken_for
may_take = record { live = refl; told = inl (refl, inl (record { known = refl; free = tt; change = refl })) }

may_bind : MayBind (e5 ∷ e4 ∷ e3 ∷ []) (a_at 3 volumes.Pending)
may_bind = record { live = refl; guarded = refl; uid = uid_of_serial 2; refers = refl; told = inr (inl (refl, inl (record { claim = refl; names = inl refl }))) }

may_complete : MayComplete (e6 ∷ e5 ∷ e4 ∷ e3 ∷ []) (c 2) (completed_c 2)
unfolding completed_with
may_complete = inl (refl, inl (record { bound = refl; carries = refl; names = inl refl; change = refl }))

may_show : MayShow (e7 ∷ e6 ∷ e5 ∷ e4 ∷ e3 ∷ []) (completed_c 5) once (Some (amount 5))
may_show = record { completed = refl; told = inr (inl (refl, inl (record { named = refl; bound = refl; carries = refl; same_modes = refl; same_amount = refl }))) }

l3 : Licensed seats.Binder [] e3.request
l3 = (tt, (refl, tt))

l4 : Licensed seats.Binder (e3 ∷ []) e4.request
l4 = ((refl, tt), (refl, tt))

l5 : Licensed seats.Binder (e4 ∷ e3 ∷ []) e5.request
l5 = ((refl, (refl, tt)), inr (inl (refl, inl (record { version = refl; placed = refl; named = refl }, may_take))))

l6 : Licensed seats.Binder (e5 ∷ e4 ∷ e3 ∷ []) e6.request
l6 = ((refl, (refl, (refl, tt))), (refl, inl (refl, inl (record { version = refl; placed = refl; named = refl }, may_bind))))

l7 : Licensed seats.Binder (e6 ∷ e5 ∷ e4 ∷ e3 ∷ []) e7.request
l7 = ((refl, (refl, (refl, (refl, tt)))), inr (inr (inl (refl, inl (record { version = refl; placed = refl; named = refl }, may_complete)))))

l8 : Licensed seats.Binder (e7 ∷ e6 ∷ e5 ∷ e4 ∷ e3 ∷ []) e8.request
l8 = ((refl, (refl, (refl, (refl, (refl, tt))))), (refl, inl (refl, inl (record { version = refl; placed = refl; named = refl }, may_show))))

l10 : Licensed seats.Agent [] e10.request
l10 = (tt, tt)

l11 : Licensed seats.Agent (e10 ∷ []) e11.request
l11 = ((refl, tt), (refl, tt))

unread : Licensed seats.Agent (e11 ∷ e10 ∷ []) e12.request → ⊥
unread l = neither (λ h. true≢false (sym
    (sole (told_pods (NamesClaim (e11 ∷ e10 ∷ []) (claim_key (codes "default") (codes "c"))) (e11 ∷ e10 ∷ []) h)).scheduled)) (neither (λ h. h.1) (neither (λ h. h.1) (λ h. h))) l.1

unscheduled : WasShownReady (e13 ∷ e12 ∷ e11 ∷ e10 ∷ []) [] (uid_of_serial 7) (uid_of_serial 2 ∷ []) [] (e13 ∷ e12 ∷ e11 ∷ []) → ⊥
unscheduled s = neither (λ h. sole h.1.1) (neither (λ h. sole h.1.1) (neither (λ h. waiting (sole h.1.1)) (λ h. h))) s
  where
    waiting : IsReadyPod (e13 ∷ e12 ∷ e11 ∷ e10 ∷ []) (e13 ∷ e12 ∷ []) [] (uid_of_serial 7) (uid_of_serial 2 ∷ []) pod_stands → ⊥
    waiting r = true≢false (sym r.on_node.scheduled)

refused : Licensed seats.Agent (e13 ∷ e12 ∷ e11 ∷ e10 ∷ []) e14.request → ⊥
refused l = unscheduled l.1.shown

until : Run no_setup until_list
unfolding effect on_devices device_answer unless_stale take_node with_mounts outcome create update update_status delete delete_of get list
    with_status written_if_fits refuse refuse_field refuse_rule guard_on guard breaks create_fault kind_fault volume_fault claim_fault pod_fault
    update_fault changed_field faulty lacks_node admitted_object without_status created_object with_status_of updated_object at_version marked_object
    leaves leaves_at_once with_meta reply_to world_after reply_of after log_after xor
until = (((((((((((tt, refl, tt), refl, tt), refl, l3), refl, l4), refl, l5), refl, l6), refl, l7), refl, l8), refl, tt), refl, l10), refl, l11)

is_history : IsHistory no_setup history
unfolding effect on_devices device_answer unless_stale take_node with_mounts outcome create update update_status delete delete_of get list
    with_status written_if_fits refuse refuse_field refuse_rule guard_on guard breaks create_fault kind_fault volume_fault claim_fault pod_fault
    update_fault changed_field faulty lacks_node admitted_object without_status created_object with_status_of updated_object at_version marked_object
    leaves leaves_at_once with_meta reply_to world_after reply_of after log_after xor
is_history = ((((((((((((((((((tt, refl), refl), refl), refl), refl), refl), refl), refl), refl), refl), refl), refl), refl), refl), refl), refl), refl), refl)

unsafe : Safe no_setup history → ⊥
unfolding effect on_devices device_answer unless_stale take_node with_mounts outcome create update update_status delete delete_of get list
    with_status written_if_fits refuse refuse_field refuse_rule guard_on guard breaks create_fault kind_fault volume_fault claim_fault pod_fault
    update_fault changed_field faulty lacks_node admitted_object without_status created_object with_status_of updated_object at_version marked_object
    leaves leaves_at_once with_meta reply_to world_after reply_of after log_after xor
unsafe s = true≢false (sym (s.0.claims (claim_key (codes "default") (codes "c")) c_deleted refl refl))

pub mounts_on_no_node : MountsOnNoNode
mounts_on_no_node = record { runs_until_then = until; read_is_refused = unread; mount_is_refused = refused; is_no_run = λ r. unread r.0.0.0.0.0.0.2; is_a_history = is_history; is_not_safe = unsafe }
