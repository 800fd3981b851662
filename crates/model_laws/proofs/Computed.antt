-- The worked runs, by computation.
use Rattle.std.specs.Prelude.{refl}
use mathlib.Core.Bool.{xor}
use Rattle.binder_model.specs.Store.{with_meta, at_version, marked_object, admitted_object, without_status, created_object, with_status_of, updated_object, leaves, leaves_at_once, lacks_node}
use Rattle.binder_model.specs.Fields.{faulty, volume_fault, claim_fault, kind_fault, create_fault, changed_field, update_fault}
use Rattle.binder_model.specs.Guard.{breaks, guard}
use Rattle.binder_model.specs.Edits.{edited_object}
use Rattle.binder_model.specs.Answers.{
  refuse,
  refuse_field,
  refuse_rule,
  guard_on,
  create,
  update,
  with_status,
  written_if_fits,
  update_status,
  edit_to,
  edit,
  delete_of,
  delete,
  get,
  outcome,
  reply_of,
  after,
}
use Rattle.binder_model.specs.Devices.{device_answer, unless_stale, take_node, with_mounts}
use Rattle.binder_model.specs.World.{effect, on_devices, watch, reply_to, world_after, log_after}
use Rattle.binder_model.specs.BindWrites.{taken_for, completed_with, claim_write, next_write}
use Rattle.binder_model.specs.BinderDue.{binder_due, volume_due, reference_due, referred_due, claim_with, claim_due, completed_due}
use Rattle.model_laws.specs.Worked.{FirstRun, ClaimGoneBetweenWrites, TwoClaimsOneVolume, DeletedVolumeRefuses, GuardOnAnnotations, Watches, IsTieByName, IsModesBeforeSize, StaleEpochs}

pub stale_epochs : StaleEpochs
unfolding effect on_devices device_answer unless_stale take_node with_mounts reply_to world_after reply_of after
stale_epochs = refl

pub watches : Watches
unfolding effect watch reply_to world_after reply_of after log_after
watches = refl

pub tie_by_name : IsTieByName
tie_by_name = record { first = refl; by_name = refl; by_size = refl }

pub modes_before_size : IsModesBeforeSize
modes_before_size = record { both = refl; modes_first = refl; too_small = refl }

pub guard_on_annotations : GuardOnAnnotations
unfolding effect on_devices device_answer outcome create edit edit_to edited_object refuse_field refuse_rule guard_on guard breaks create_fault
    kind_fault claim_fault faulty lacks_node admitted_object without_status created_object with_meta reply_to world_after reply_of after log_after xor
guard_on_annotations = refl

pub deleted_volume_refuses : DeletedVolumeRefuses
unfolding effect on_devices device_answer outcome create edit edit_to edited_object delete delete_of update get refuse refuse_field refuse_rule
    guard_on guard breaks create_fault kind_fault volume_fault update_fault changed_field faulty lacks_node admitted_object without_status
    created_object with_status_of updated_object marked_object leaves leaves_at_once with_meta reply_to world_after reply_of after log_after xor
deleted_volume_refuses = refl

pub two_claims_one_volume : TwoClaimsOneVolume
unfolding effect on_devices device_answer outcome create update update_status with_status written_if_fits refuse refuse_field refuse_rule guard_on
    guard breaks create_fault kind_fault volume_fault claim_fault update_fault changed_field faulty lacks_node admitted_object without_status
    created_object with_status_of updated_object at_version leaves with_meta taken_for reply_to world_after reply_of after log_after xor
two_claims_one_volume = refl

pub claim_gone_between_writes : ClaimGoneBetweenWrites
unfolding effect on_devices device_answer outcome create update update_status delete delete_of with_status written_if_fits refuse refuse_field
    refuse_rule guard_on guard breaks create_fault kind_fault volume_fault claim_fault update_fault changed_field faulty lacks_node admitted_object
    without_status created_object with_status_of updated_object at_version marked_object leaves leaves_at_once with_meta taken_for completed_with reply_to world_after reply_of after log_after xor
claim_gone_between_writes = refl

pub first_run : FirstRun
unfolding effect on_devices device_answer outcome create update update_status with_status written_if_fits refuse refuse_field refuse_rule guard_on
    guard breaks create_fault kind_fault volume_fault claim_fault update_fault changed_field faulty lacks_node admitted_object without_status
    created_object with_status_of updated_object at_version leaves with_meta taken_for completed_with reply_to world_after reply_of after log_after
    xor binder_due volume_due reference_due referred_due claim_with claim_due completed_due next_write claim_write
first_run = record { rows = refl; version = refl; volume_due = refl; claim_due = refl }
