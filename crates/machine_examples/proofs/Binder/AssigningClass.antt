-- The default class in retrospect, computed.
use Rattle.std.proofs.Common.{refl}
use Rattle.binder_model.specs.BindWrites.{claim_write, next_write}
use Rattle.claim_sync.specs.ClaimDecision.{claim_decision}
use Rattle.binder_machines.specs.Machines.{call_of, moved, parks_at}
use Rattle.machine_examples.specs.Binder.AssigningClass.{AssigningExamples, ClassWriteExamples, LostOnceExamples, newer}

pub assigning_examples : AssigningExamples
unfolding claim_decision
assigning_examples = record {
  classless_claim_gets_the_default = refl;
  match_is_taken_first = refl;
  without_a_marked_class_none_is_assigned = refl;
  class_stays = refl;
  empty_class_stays = refl;
  older_annotation_stays = refl;
  deleting_claim_gets_none = refl;
  claim_that_names_a_volume_gets_none = refl;
  completed_claim_gets_none = refl;
  older_default_is_not_it = λ default. default.first newer refl refl refl;
}

pub class_write_examples : ClassWriteExamples
unfolding call_of moved parks_at
class_write_examples = record {
  sets_the_class_alone = refl;
  claim_without_uid_is_left = refl;
  class_in_a_namespace_is_left = refl;
  ends_with_its_answer = refl;
  refusal_parks = refl;
}

pub lost_once_examples : LostOnceExamples
unfolding claim_decision next_write claim_write
lost_once_examples = record {
  nameless_claim_is_lost = refl;
  nameless_stays_lost = refl;
  lost_claim_is_not_read = refl;
  absence_is_not_written_again = refl;
  volume_of_another_claim_is_no_reason = refl;
  volume_that_carries_it_is_bound = refl;
}
