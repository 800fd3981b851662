-- Replies as JSON shows them, and JSON that shows none.
-- A choice of this project: the history format.
use Rattle.std.specs.Prelude.{◌≡◌, ℕ, List, [], ◌∷◌, false, Option, Some, None, codes}
use Rattle.kube_parts.specs.Uids.{uid_of_serial}
use Rattle.kube_parts.specs.declared.names.Field.TheVariants as fields
use Rattle.kube_parts.specs.declared.names.Rule.TheVariants as rules
use Rattle.call_types.specs.declared.reply.Change.TheVariants as changes
use Rattle.call_types.specs.declared.reply.Refusal.TheVariants as refusals
use Rattle.call_types.specs.declared.reply.Reply.{Reply}
use Rattle.call_types.specs.declared.reply.Reply.TheVariants as replies
use Rattle.object_text.specs.Reading.{value_of}
use Rattle.history_lines.specs.Answers.{◌>>=◌, taken}
use Rattle.history_lines.specs.Replies.{reply_in}
use Rattle.text_examples.specs.History.Samples.{node_named}

-- the reply of a JSON text
abbrev pub replies_with : List ℕ → Option Reply
replies_with s = taken (value_of s) >>= λ d. reply_in d

pub record ReplyExamples : Type 0 where
  pub is_done : replies_with (codes "{\"done\":{\"apiVersion\":\"v1\",\"kind\":\"Node\",\"metadata\":{\"name\":\"n\"}}}") ≡ Some (replies.Done (node_named (codes "n") None))
  pub has_left : replies_with (codes "{\"left\":{\"apiVersion\":\"v1\",\"kind\":\"Node\",\"metadata\":{\"name\":\"n\"}}}") ≡ Some (replies.Left (node_named (codes "n") None))
  pub is_found : replies_with (codes "{\"found\":{\"apiVersion\":\"v1\",\"kind\":\"Node\",\"metadata\":{\"name\":\"n\"}}}") ≡ Some (replies.Found (node_named (codes "n") None))
  pub finds_an_object : replies_with (codes "{\"found\":true}") ≡ None
  pub is_listed : replies_with (codes "{\"items\":[{\"apiVersion\":\"v1\",\"kind\":\"Node\",\"metadata\":{\"name\":\"n\"}}],\"listed\":7}") ≡ Some
      (replies.Listed ((node_named (codes "n") None) ∷ []) 7)
  pub lists_at_a_version : replies_with (codes "{\"items\":[{\"apiVersion\":\"v1\",\"kind\":\"Node\",\"metadata\":{\"name\":\"n\"}}]}") ≡ None
  pub are_events : replies_with (codes
      "{\"events\":[{\"change\":\"DELETED\",\"object\":{\"apiVersion\":\"v1\",\"kind\":\"Node\",\"metadata\":{\"name\":\"n\"}},\"version\":7}],\"upto\":8}") ≡ Some
      (replies.Events (record { events = record { change = changes.Deleted; object = (node_named (codes "n") None); version = 7 } ∷ []; upto = 8 }))
  pub no_other_change : replies_with (codes
      "{\"events\":[{\"change\":\"Deleted\",\"object\":{\"apiVersion\":\"v1\",\"kind\":\"Node\",\"metadata\":{\"name\":\"n\"}},\"version\":7}],\"upto\":8}") ≡ None
  pub events_reach_a_version : replies_with (codes "{\"events\":[]}") ≡ None
  pub is_provisioned : replies_with (codes "{\"driver\":\"x\",\"id\":\"d\"}") ≡ Some (replies.Provisioned (record { driver = codes "x"; id = codes "d" }) None)
  pub is_provisioned_for_a_label : replies_with (codes "{\"driver\":\"x\",\"id\":\"d\",\"label\":\"l\",\"value\":\"v\"}") ≡ Some
      (replies.Provisioned (record { driver = codes "x"; id = codes "d" }) (Some (codes "l", codes "v")))
  pub a_label_has_a_value : replies_with (codes "{\"driver\":\"x\",\"id\":\"d\",\"label\":\"l\"}") ≡ None
  pub is_erased : replies_with (codes "{\"erased\":false}") ≡ Some (replies.Erased false)
  pub is_erased_or_not : replies_with (codes "{\"erased\":1}") ≡ None
  pub is_an_epoch : replies_with (codes "{\"epoch\":3}") ≡ Some (replies.Epoch 3)
  pub are_mounted : replies_with (codes
      "{\"mounted\":[{\"claims\":[\"00000000-0000-8000-8000-000000000008\"],\"pod\":\"00000000-0000-8000-8000-000000000009\"}]}") ≡ Some
      (replies.Mounted (record { pod = uid_of_serial 9; claims = uid_of_serial 8 ∷ [] } ∷ []))
  pub a_pod_is_mounted : replies_with (codes "{\"mounted\":[{\"claims\":[\"00000000-0000-8000-8000-000000000008\"]}]}") ≡ None
  pub is_timed : replies_with (codes "{\"timed\":true}") ≡ Some (replies.Timed)
  pub is_absent : replies_with (codes "{\"refused\":\"NotFound\"}") ≡ Some (replies.Refused refusals.NotFound)
  pub exists : replies_with (codes "{\"refused\":\"AlreadyExists\"}") ≡ Some (replies.Refused refusals.AlreadyExists)
  pub conflicts : replies_with (codes "{\"current\":7,\"refused\":\"Conflict\"}") ≡ Some (replies.Refused (refusals.Conflict 7))
  pub is_invalid : replies_with (codes "{\"field\":\"Capacity\",\"refused\":\"Invalid\"}") ≡ Some (replies.Refused (refusals.Invalid fields.Capacity))
  pub is_forbidden : replies_with (codes "{\"refused\":\"Forbidden\",\"rule\":\"Verb\"}") ≡ Some (replies.Refused (refusals.Forbidden rules.Verb))
  pub is_gone : replies_with (codes "{\"oldest\":7,\"refused\":\"Gone\"}") ≡ Some (replies.Refused (refusals.Gone 7))
  pub is_exhausted : replies_with (codes "{\"free\":7,\"refused\":\"Exhausted\"}") ≡ Some (replies.Refused (refusals.Exhausted 7))
  pub faults : replies_with (codes "{\"planned\":7,\"refused\":\"BackFault\"}") ≡ Some (replies.Refused (refusals.BackFault 7))
  pub is_stale : replies_with (codes "{\"current\":7,\"refused\":\"StaleEpoch\"}") ≡ Some (replies.Refused (refusals.StaleEpoch 7))
  pub is_assigned : replies_with (codes "{\"node\":\"n\",\"refused\":\"Assigned\"}") ≡ Some (replies.Refused (refusals.Assigned (codes "n")))
  pub conflicts_with_a_version : replies_with (codes "{\"refused\":\"Conflict\"}") ≡ None
  pub no_other_field : replies_with (codes "{\"field\":\"capacity\",\"refused\":\"Invalid\"}") ≡ None
  pub no_other_rule : replies_with (codes "{\"refused\":\"Forbidden\",\"rule\":\"Law\"}") ≡ None
  pub no_other_refusal : replies_with (codes "{\"refused\":\"Unknown\"}") ≡ None
  pub replies_something : replies_with (codes "{}") ≡ None
