-- The volume in a namespace, computed.
use Rattle.std.proofs.Common.{sym, refl}
use Rattle.std.specs.Prelude.{Bool, true, false}
use Rattle.call_types.specs.declared.reply.Reply.{Reply}
use Rattle.call_types.specs.declared.reply.Reply.TheVariants as replies
use mathlib.Core.Bool.{xor}
use Rattle.binder_model.specs.Store.{with_meta, admitted_object, without_status, created_object, lacks_node}
use Rattle.binder_model.specs.Fields.{faulty, volume_fault, class_fault, kind_fault, create_fault}
use Rattle.binder_model.specs.Guard.{breaks, guard}
use Rattle.binder_model.specs.Answers.{refuse_field, refuse_rule, guard_on, create, outcome, reply_of, after}
use Rattle.binder_model.specs.Devices.{device_answer}
use Rattle.binder_model.specs.World.{effect, on_devices, reply_to, world_after, log_after}
use Rattle.binder_model.specs.Run.{Run}
use Rattle.model_laws.specs.Worked.{no_setup}
use Rattle.model_examples.specs.NamespacedVolume.{history, NamespacedVolumeIsRefused}
use Rattle.model_examples.proofs.Tellings.{differ}

abbrev is_refused : Reply → Bool
is_refused (replies.Refused r) = true
is_refused r = false

no_run : Run no_setup history → ⊥
unfolding effect on_devices device_answer outcome create refuse_field refuse_rule guard_on guard breaks create_fault kind_fault volume_fault faulty
    lacks_node admitted_object without_status created_object with_meta reply_to world_after reply_of after log_after xor
no_run r = differ is_refused (sym r.0.0.0.0.0.0.1) refl refl

pub namespaced_volume_is_refused : NamespacedVolumeIsRefused
unfolding effect on_devices device_answer outcome create refuse_field refuse_rule guard_on guard breaks create_fault kind_fault volume_fault
    class_fault faulty lacks_node admitted_object without_status created_object with_meta reply_to world_after reply_of after log_after xor
namespaced_volume_is_refused = record { volume = refl; volume_by_controller = refl; class = refl; node = refl; is_no_run = no_run }
