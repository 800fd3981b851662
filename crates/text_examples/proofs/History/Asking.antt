-- What requests and replies are, computed.
use Rattle.std.proofs.Common.{refl}
use Rattle.std.specs.Fmt.{digits}
use Rattle.std.specs.Str.{is_utf8, chars}
use Rattle.uuid.specs.Text.{by_index}
use Rattle.serde_json.proofs.OnLiterals.{serde_json_on_literals}
use Rattle.quantity_text.specs.Quantity.{amount_of, refuse, unsigned_amount, scale_of, scaled, has_too_many_digits, value_of}
use Rattle.kube_parts.specs.Uids.{uid_of_text}
use Rattle.object_text.specs.ExtraMembers.{extra_at}
use Rattle.object_text.specs.KindReaders.{node_of}
use Rattle.object_text.specs.MetaReaders.{identity_at, marks_at, meta_of}
use Rattle.object_text.specs.Reading.{kind_at, object_of}
use Rattle.history_lines.specs.Requests.{request_in}
use Rattle.history_lines.specs.Replies.{event_in, mounted_in, reply_in}
use Rattle.text_examples.specs.History.Requests.{RequestExamples}
use Rattle.text_examples.specs.History.Replies.{ReplyExamples}

pub request_examples : RequestExamples
unfolding request_in object_of kind_at node_of meta_of identity_at marks_at extra_at uid_of_text by_index amount_of refuse unsigned_amount scale_of
    scaled has_too_many_digits value_of digits is_utf8 chars serde_json_on_literals
request_examples = record {
  creates = refl;
  creates_no_other_kind = refl;
  creates_nothing_at_all = refl;
  updates = refl;
  updates_one_version = refl;
  a_version_is_a_number = refl;
  writes_the_status_of_a_volume = refl;
  no_volume_is_lost = refl;
  writes_the_status_of_a_claim = refl;
  writes_one_without_an_amount = refl;
  no_claim_is_released = refl;
  no_other_mode = refl;
  an_amount_is_a_quantity = refl;
  adds_a_finalizer = refl;
  drops_a_finalizer = refl;
  drops_a_label = refl;
  drops_an_annotation = refl;
  sets_a_label = refl;
  sets_no_half_a_label = refl;
  sets_an_annotation = refl;
  sets_a_volume_name = refl;
  sets_a_policy = refl;
  sets_no_other_policy = refl;
  sets_a_reference = refl;
  clears_the_reference = refl;
  edits_nothing = refl;
  deletes = refl;
  deletes_one_uid = refl;
  a_uid_is_a_uuid = refl;
  gets = refl;
  gets_no_other_kind = refl;
  gets_no_name = refl;
  lists = refl;
  lists_a_namespace = refl;
  lists_no_null = refl;
  watches = refl;
  watches_from_somewhere = refl;
  binds = refl;
  binds_one_uid = refl;
  finishes = refl;
  finishes_in_an_epoch = refl;
  provisions = refl;
  provisions_by_labels = refl;
  labels_are_texts = refl;
  bytes_are_a_number = refl;
  erases = refl;
  erases_one_id = refl;
  takes = refl;
  takes_a_node = refl;
  asks_for_mounts = refl;
  asks_in_an_epoch = refl;
  mounts = refl;
  claims_are_a_list = refl;
  claims_are_uids = refl;
  unmounts = refl;
  unmounts_a_pod = refl;
  sets_the_time = refl;
  sets_some_time = refl;
  asks_nothing_else = refl;
  asks_something = refl;
}

pub reply_examples : ReplyExamples
unfolding reply_in event_in mounted_in object_of kind_at node_of meta_of identity_at marks_at extra_at uid_of_text by_index is_utf8 chars serde_json_on_literals
reply_examples = record {
  is_done = refl;
  has_left = refl;
  is_found = refl;
  finds_an_object = refl;
  is_listed = refl;
  lists_at_a_version = refl;
  are_events = refl;
  no_other_change = refl;
  events_reach_a_version = refl;
  is_provisioned = refl;
  is_provisioned_for_a_label = refl;
  a_label_has_a_value = refl;
  is_erased = refl;
  is_erased_or_not = refl;
  is_an_epoch = refl;
  are_mounted = refl;
  a_pod_is_mounted = refl;
  is_timed = refl;
  is_absent = refl;
  exists = refl;
  conflicts = refl;
  is_invalid = refl;
  is_forbidden = refl;
  is_gone = refl;
  is_exhausted = refl;
  faults = refl;
  is_stale = refl;
  is_assigned = refl;
  conflicts_with_a_version = refl;
  no_other_field = refl;
  no_other_rule = refl;
  no_other_refusal = refl;
  replies_something = refl;
}
