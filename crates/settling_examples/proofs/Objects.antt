-- A run in which the provisioner makes a volume, computed.
use Rattle.std.proofs.Common.{None, inl, refl}
use Rattle.std.specs.Fmt.{digits}
use mathlib.Core.Bool.{xor}
use Rattle.uuid.specs.Text.{by_index}
use Rattle.kube_parts.specs.Uids.{uid_of_serial, uid_text}
use Rattle.binder_model.specs.Answers.{after, create, guard_on, list, outcome, refuse, refuse_field, refuse_rule, reply_of}
use Rattle.binder_model.specs.Devices.{device_answer, provision, provision_new, unless_planned}
use Rattle.binder_model.specs.Fields.{claim_fault, class_fault, create_fault, faulty, kind_fault, volume_fault}
use Rattle.binder_model.specs.Guard.{breaks, guard}
use Rattle.binder_model.specs.Provisioning.{provisioned_volume}
use Rattle.binder_model.specs.Run.{Run}
use Rattle.binder_model.specs.Store.{admitted_object, created_object, lacks_node, with_meta, without_status}
use Rattle.binder_model.specs.World.{effect, log_after, on_devices, reply_to, world_after}
use Rattle.model_laws.specs.Worked.{c}
use Rattle.settling_examples.specs.Objects.{ObjectExamples, data_1, made, pool_setup, slow_stands}

made_run : Run pool_setup made
unfolding effect on_devices device_answer unless_planned provision provision_new outcome create list refuse refuse_field refuse_rule guard_on guard
    breaks create_fault kind_fault class_fault volume_fault claim_fault faulty digits lacks_node admitted_object without_status created_object
    with_meta provisioned_volume reply_to world_after reply_of after log_after xor
made_run = ((
  (
    ((((tt, refl, tt), refl, tt), refl, (tt, (refl, tt))), refl, ((refl, tt), (refl, tt))),
    refl,
    (
      (refl, (refl, tt)),
      record {
        claim = c 2;
        uid = uid_of_serial 2;
        known = refl;
        newest = refl;
        wanting = refl;
        class = slow_stands;
        class_newest = refl;
        by_class = refl;
        real = refl;
        named = refl;
        sized = refl;
        placed = refl;
      },
    ),
  ),
  refl,
  (
    (refl, (refl, (refl, tt))),
    record {
      claim = c 2;
      uid = uid_of_serial 2;
      known = refl;
      newest = refl;
      class = slow_stands;
      class_newest = refl;
      id = data_1;
      topology = None;
      given = inl ((refl, (refl, refl, refl)), inl (refl, inl refl));
      object = refl;
    },
  ),
))

pub object_examples : ObjectExamples
unfolding effect on_devices device_answer unless_planned provision provision_new outcome create list refuse refuse_field refuse_rule guard_on guard
    breaks create_fault kind_fault class_fault volume_fault claim_fault faulty digits uid_text by_index lacks_node admitted_object without_status
    created_object with_meta provisioned_volume reply_to world_after reply_of after log_after xor
object_examples = record { is_run = made_run; asked_for = refl; stand = refl; made_too = refl; not_asked_for = refl; refused = refl; counted = refl }
