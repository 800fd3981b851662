-- The guard of a released volume, computed.
use Rattle.std.proofs.Common.{refl}
use mathlib.Core.Bool.{xor}
use Rattle.binder_model.specs.Store.{with_meta, with_status_of, updated_object, leaves, lacks_node}
use Rattle.binder_model.specs.Fields.{faulty, volume_fault, kind_fault, create_fault, changed_field, update_fault}
use Rattle.binder_model.specs.Guard.{breaks, guard}
use Rattle.binder_model.specs.Edits.{edited_object}
use Rattle.binder_model.specs.Answers.{refuse, refuse_field, refuse_rule, guard_on, update, edit, edit_to, outcome, reply_of, after}
use Rattle.binder_model.specs.Devices.{device_answer}
use Rattle.binder_model.specs.World.{effect, on_devices, reply_to, world_after, log_after}
use Rattle.model_examples.specs.GuardRuns.{GuardOfReleased}

pub guard_of_released : GuardOfReleased
unfolding effect on_devices device_answer outcome update edit edit_to edited_object refuse refuse_field refuse_rule guard_on guard breaks
    create_fault kind_fault volume_fault update_fault changed_field faulty lacks_node with_status_of updated_object leaves with_meta reply_to world_after reply_of after log_after xor
guard_of_released = record {
  clears_released = refl;
  keeps_mark = refl;
  mark_after_reference_is_refused = refl;
  mark_alone_is_refused = refl;
  bound_volume_is_refused = refl;
  failed_volume_is_refused = refl;
  policy_delete_is_refused = refl;
  reference_of_policy_delete_is_refused = refl;
  uid_alone_is_refused = refl;
  policy_of_ended_is_refused = refl;
}
