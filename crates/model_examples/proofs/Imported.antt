-- Imports, computed.
use Rattle.std.proofs.Common.{refl}
use Rattle.std.specs.Prelude.{is_some}
use Rattle.binder_model.specs.Store.{leaves, with_meta}
use Rattle.binder_model.specs.Answers.{reply_of}
use Rattle.binder_model.specs.Fields.{create_fault, kind_fault, volume_fault, claim_fault, class_fault, pod_fault, faulty}
use Rattle.binder_model.specs.Imports.{import_fault, fault_if, fault_of_field, imported_object}
use Rattle.binder_model.specs.World.{effect, watch, reply_to}
use Rattle.model_examples.specs.Imported.{ImportFaultExamples, FirstWorldExamples}
use Rattle.model_examples.proofs.Tellings.{differ}

pub import_fault_examples : ImportFaultExamples
unfolding import_fault fault_if fault_of_field create_fault kind_fault volume_fault claim_fault class_fault pod_fault faulty
import_fault_examples = record {
  volume_passes = refl;
  claim_passes = refl;
  class_passes = refl;
  node_passes = refl;
  pod_passes = refl;
  no_uid = refl;
  greatest_version_passes = refl;
  version_too_great = refl;
  greatest_serial_passes = refl;
  serial_too_great = refl;
  serial_in_reference_too_great = refl;
  foreign_uid_passes = refl;
  random_uid_passes = refl;
  random_uid_in_reference_passes = refl;
  uid_above_the_serials_passes = refl;
  random_uid_again = refl;
  bad_name = refl;
  volume_in_namespace = refl;
  no_bytes = refl;
  name_again = refl;
  name_of_other_kind_passes = refl;
  uid_again = refl;
  uid_of_other_kind_again = refl;
  reference_to_other_name = refl;
  reference_to_other_name_later = refl;
  reference_to_no_claim = refl;
  reference_to_itself = refl;
  reference_to_absent_claim_passes = refl;
  ended_for_claim_that_names_it = refl;
  ended_for_claim_that_names_none = refl;
  ended_for_claim_elsewhere_passes = refl;
  ended_for_absent_claim_passes = refl;
  first_is_the_uid = refl;
  version_before_serial = refl;
  serial_before_value = refl;
  value_before_name = refl;
  name_before_uid = refl;
  uid_before_reference = refl;
  reference_before_phase = refl;
  all_pass = (refl, (refl, (refl, (refl, tt))));
  second_fails = λ h. differ is_some h.1.0 refl refl;
  last_fails = λ h. differ is_some h.1.1.0 refl refl;
}

pub first_world_examples : FirstWorldExamples
unfolding imported_object leaves with_meta effect watch reply_to reply_of
first_world_examples = record {
  nothing = refl;
  nothing_at_version_zero = refl;
  in_order = refl;
  volume_is_protected = refl;
  claim_is_protected_and_pending = refl;
  bound_claim_stays = refl;
  lost_without_volume = refl;
  lost_where_volume_is_not_bound = refl;
  lost_where_volume_has_no_uid = refl;
  lost_where_volume_has_other_name = refl;
  leaving_class_is_dropped = refl;
  leaving_class_with_finalizer_stays = refl;
  leaving_waiting_pod_is_dropped = refl;
  leaving_pod_on_node_stays = refl;
  begins_with_greatest_version = refl;
  begins_with_greatest_serial = refl;
  begins_with_serial_in_reference = refl;
  foreign_uid_has_no_serial = refl;
  random_uid_has_no_serial = refl;
  random_uid_in_reference_has_no_serial = refl;
  creation_of_class_stays = refl;
  creation_of_node_stays = refl;
  creation_of_volume_stays = refl;
  creation_of_claim_stays = refl;
  creation_of_pod_stays = refl;
  class_without_creation = refl;
  node_without_creation = refl;
  claim_without_creation = refl;
  pod_without_creation = refl;
  waiting_pod_stays = refl;
  watch_from_before_is_gone = refl;
  watch_from_the_beginning = refl;
}
