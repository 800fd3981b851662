-- The requests and replies of a line that was read are such that a text can give.
use Rattle.std.proofs.Common.{Option, Some, None, IfSome, codes}
use Rattle.std.specs.List.{All}
use Rattle.serde_json.specs.Data.{Data}
use Rattle.plain_data.specs.Pairs.{ArePairs}
use Rattle.kube_parts.specs.Named.{volume_phase_named, claim_phase_named}
use Rattle.object_laws.specs.Given.{IsGivenObject, IsAmount, IsUid}
use Rattle.history_lines.specs.declared.words.AskWord.{AskWord}
use Rattle.history_lines.specs.declared.words.AskWord.TheVariants as asks
use Rattle.history_lines.specs.declared.words.ReplyWord.{ReplyWord}
use Rattle.history_lines.specs.declared.words.ReplyWord.TheVariants as words
use Rattle.history_lines.specs.declared.words.RefusalWord.{RefusalWord}
use Rattle.history_lines.specs.declared.words.RefusalWord.TheVariants as names
use Rattle.history_lines.specs.Words.{ask_named, replied_word, all_replies, refusal_named, change_named, field_named, rule_named}
use Rattle.history_lines.specs.Members.{
  Look,
  look_in,
  standing,
  text_at,
  some_text_at,
  number_at,
  some_number_at,
  flag_at,
  uid_in,
  uid_at,
  some_uid_at,
  some_amount_at,
  object_in,
  object_at,
  list_at,
  modes_at,
  some_labels_at,
  kind_at,
  key_at,
  data_id_at,
  some_topology_at,
}
use Rattle.history_lines.specs.Requests.{edit_at, status_from, status_at, request_by, request_in}
use Rattle.history_lines.specs.Replies.{event_in, mounted_in, refusal_by, refusal_at, reply_by, reply_in}
use Rattle.history_laws.specs.Read.Given.{IsNumber, IsStatus, IsRequest, IsEvent, IsMountRow, IsRefusal, IsReply}
use Rattle.history_laws.proofs.Read.ReadParts.{
  step,
  past,
  IsRead,
  AllRead,
  looks,
  number_at_given,
  IsSomeNumber,
  some_number_given,
  uid_in_given,
  uid_at_given,
  some_uid_given,
  some_amount_given,
  object_in_given,
  object_at_given,
  list_at_given,
  some_labels_given,
}

-- ---- requests

status_given : (m : Look) → IfSome (status_at m) IsStatus
status_given m = by (m (codes "modes"))
  where
    by : (o : Option Data) → IfSome (status_from o m) IsStatus
    by None = past IsStatus (text_at (codes "phase") m) _ (λ word. past IsStatus (volume_phase_named word) _ (λ phase. tt))
    by (Some d) =
        past IsStatus (text_at (codes "phase") m) _ (λ word. past IsStatus (claim_phase_named word) _ (λ phase. past IsStatus (modes_at (codes "modes") m) _ (λ modes.
        step (λ a. IfSome a IsAmount) IsStatus (some_amount_at (codes "amount") m) _ (some_amount_given (codes "amount") m) (λ a is. is))))

by_request : (ask : AskWord) (m : Look) → AllRead m → IfSome (request_by ask m) IsRequest
by_request asks.Create m all = step IsGivenObject IsRequest (object_at (codes "object") m) _ (object_at_given (codes "object") m all) (λ o is. is)
by_request asks.Update m all =
    step IsGivenObject IsRequest (object_at (codes "object") m) _ (object_at_given (codes "object") m all) (λ o is.
    step IsSomeNumber IsRequest (some_number_at (codes "version") m) _ (some_number_given (codes "version") m all) (λ v number. (is, number)))
by_request asks.Status m all =
    past IsRequest (key_at m) _ (λ key.
    step IsStatus IsRequest (status_at m) _ (status_given m) (λ s is.
    step IsSomeNumber IsRequest (some_number_at (codes "version") m) _ (some_number_given (codes "version") m all) (λ v number. (is, number))))
by_request asks.Edit m all = past IsRequest (key_at m) _ (λ key. past IsRequest (edit_at m) _ (λ edit. tt))
by_request asks.Delete m all = past IsRequest (key_at m) _ (λ key. step (λ u. IfSome u IsUid) IsRequest (some_uid_at (codes "uid") m) _ (some_uid_given (codes "uid") m) (λ u is. is))
by_request asks.Get m all = past IsRequest (key_at m) _ (λ key. tt)
by_request asks.List m all = past IsRequest (kind_at m) _ (λ kind. past IsRequest (some_text_at (codes "namespace") m) _ (λ namespace. tt))
by_request asks.Watch m all = past IsRequest (kind_at m) _ (λ kind. step IsNumber IsRequest (number_at (codes "from") m) _ (number_at_given (codes "from") m all) (λ n is. is))
by_request asks.Bind m all =
    past IsRequest (key_at m) _ (λ key.
    step IsUid IsRequest (uid_at (codes "uid") m) _ (uid_at_given (codes "uid") m) (λ u is.
    past IsRequest (text_at (codes "node") m) _ (λ node. is)))
by_request asks.Finish m all =
    past IsRequest (key_at m) _ (λ key.
    step IsUid IsRequest (uid_at (codes "uid") m) _ (uid_at_given (codes "uid") m) (λ u is.
    past IsRequest (text_at (codes "node") m) _ (λ node.
    step IsNumber IsRequest (number_at (codes "epoch") m) _ (number_at_given (codes "epoch") m all) (λ n number. (is, number)))))
by_request asks.Provision m all =
    past IsRequest (text_at (codes "name") m) _ (λ name.
    past IsRequest (text_at (codes "provisioner") m) _ (λ provisioner.
    step IsNumber IsRequest (number_at (codes "bytes") m) _ (number_at_given (codes "bytes") m all) (λ n number.
    step (λ l. IfSome l ArePairs) IsRequest (some_labels_at m) _ (some_labels_given m) (λ l are. (number, are)))))
by_request asks.Erase m all = past IsRequest (data_id_at m) _ (λ id. tt)
by_request asks.Take m all = past IsRequest (text_at (codes "node") m) _ (λ node. tt)
by_request asks.Mounts m all =
    past IsRequest (text_at (codes "node") m) _ (λ node.
    step IsNumber IsRequest (number_at (codes "epoch") m) _ (number_at_given (codes "epoch") m all) (λ n is. is))
by_request asks.Mount m all =
    past IsRequest (text_at (codes "node") m) _ (λ node.
    step IsNumber IsRequest (number_at (codes "epoch") m) _ (number_at_given (codes "epoch") m all) (λ n number.
    step IsUid IsRequest (uid_at (codes "pod") m) _ (uid_at_given (codes "pod") m) (λ u is.
    step (All IsUid) IsRequest (list_at uid_in (codes "claims") m) _ (list_at_given uid_in IsUid (λ d t. uid_in_given d) (codes "claims") m all) (λ us are. (number, is, are)))))
by_request asks.Unmount m all =
    past IsRequest (text_at (codes "node") m) _ (λ node.
    step IsNumber IsRequest (number_at (codes "epoch") m) _ (number_at_given (codes "epoch") m all) (λ n number.
    step IsUid IsRequest (uid_at (codes "pod") m) _ (uid_at_given (codes "pod") m) (λ u is. (number, is))))
by_request asks.Time m all = past IsRequest (text_at (codes "at") m) _ (λ moment. tt)

pub request_given : (d : Data) → IsRead d → IfSome (request_in d) IsRequest
unfolding request_in
request_given d t =
    past IsRequest (text_at (codes "do") (look_in d)) _ (λ word. past IsRequest (ask_named word) _ (λ ask. by_request ask (look_in d) (looks d t)))

-- ---- replies

event_given : (d : Data) → IsRead d → IfSome (event_in d) IsEvent
unfolding event_in
event_given d t =
    let m : Look = look_in d in
    past IsEvent (text_at (codes "change") m) _ (λ word. past IsEvent (change_named word) _ (λ change.
    step IsGivenObject IsEvent (object_at (codes "object") m) _ (object_at_given (codes "object") m (looks d t)) (λ o is.
    step IsNumber IsEvent (number_at (codes "version") m) _ (number_at_given (codes "version") m (looks d t)) (λ n number.
    record { object = is; version = number }))))

mounted_given : (d : Data) → IsRead d → IfSome (mounted_in d) IsMountRow
unfolding mounted_in
mounted_given d t =
    let m : Look = look_in d in
    step (All IsUid) IsMountRow (list_at uid_in (codes "claims") m) _ (list_at_given uid_in IsUid (λ e s. uid_in_given e) (codes "claims") m (looks d t)) (λ us are.
    step IsUid IsMountRow (uid_at (codes "pod") m) _ (uid_at_given (codes "pod") m) (λ u is. record { pod = is; claims = are }))

by_refusal : (name : RefusalWord) (m : Look) → AllRead m → IfSome (refusal_by name m) IsRefusal
by_refusal names.NotFound m all = tt
by_refusal names.AlreadyExists m all = tt
by_refusal names.Conflict m all = step IsNumber IsRefusal (number_at (codes "current") m) _ (number_at_given (codes "current") m all) (λ n is. is)
by_refusal names.Invalid m all = past IsRefusal (text_at (codes "field") m) _ (λ word. past IsRefusal (field_named word) _ (λ field. tt))
by_refusal names.Forbidden m all = past IsRefusal (text_at (codes "rule") m) _ (λ word. past IsRefusal (rule_named word) _ (λ rule. tt))
by_refusal names.Gone m all = step IsNumber IsRefusal (number_at (codes "oldest") m) _ (number_at_given (codes "oldest") m all) (λ n is. is)
by_refusal names.Exhausted m all = step IsNumber IsRefusal (number_at (codes "free") m) _ (number_at_given (codes "free") m all) (λ n is. is)
by_refusal names.BackFault m all = step IsNumber IsRefusal (number_at (codes "planned") m) _ (number_at_given (codes "planned") m all) (λ n is. is)
by_refusal names.StaleEpoch m all = step IsNumber IsRefusal (number_at (codes "current") m) _ (number_at_given (codes "current") m all) (λ n is. is)
by_refusal names.Assigned m all = past IsRefusal (text_at (codes "node") m) _ (λ node. tt)

refusal_given : (m : Look) → AllRead m → IfSome (refusal_at m) IsRefusal
refusal_given m all = past IsRefusal (text_at (codes "refused") m) _ (λ word. past IsRefusal (refusal_named word) _ (λ name. by_refusal name m all))

by_reply : (word : ReplyWord) (m : Look) → AllRead m → IfSome (reply_by word m) IsReply
by_reply words.Done m all = step IsGivenObject IsReply (object_at (codes "done") m) _ (object_at_given (codes "done") m all) (λ o is. is)
by_reply words.Left m all = step IsGivenObject IsReply (object_at (codes "left") m) _ (object_at_given (codes "left") m all) (λ o is. is)
by_reply words.Found m all = step IsGivenObject IsReply (object_at (codes "found") m) _ (object_at_given (codes "found") m all) (λ o is. is)
by_reply words.Listed m all =
    step (All IsGivenObject) IsReply (list_at object_in (codes "items") m) _ (list_at_given object_in IsGivenObject object_in_given (codes "items") m all) (λ os are.
    step IsNumber IsReply (number_at (codes "listed") m) _ (number_at_given (codes "listed") m all) (λ n number. (are, number)))
by_reply words.Events m all =
    step (All IsEvent) IsReply (list_at event_in (codes "events") m) _ (list_at_given event_in IsEvent event_given (codes "events") m all) (λ es are.
    step IsNumber IsReply (number_at (codes "upto") m) _ (number_at_given (codes "upto") m all) (λ n number. record { events = are; upto = number }))
by_reply words.Provisioned m all = past IsReply (data_id_at m) _ (λ id. past IsReply (some_topology_at m) _ (λ topology. tt))
by_reply words.Erased m all = past IsReply (flag_at (codes "erased") m) _ (λ removed. tt)
by_reply words.Epoch m all = step IsNumber IsReply (number_at (codes "epoch") m) _ (number_at_given (codes "epoch") m all) (λ n is. is)
by_reply words.Mounted m all = step (All IsMountRow) IsReply (list_at mounted_in (codes "mounted") m) _ (list_at_given mounted_in IsMountRow mounted_given (codes "mounted") m all) (λ rows are. are)
by_reply words.Timed m all = tt
by_reply words.Refused m all = step IsRefusal IsReply (refusal_at m) _ (refusal_given m all) (λ r is. is)

pub reply_given : (d : Data) → IsRead d → IfSome (reply_in d) IsReply
unfolding reply_in
reply_given d t = past IsReply (standing replied_word all_replies (look_in d)) _ (λ word. by_reply word (look_in d) (looks d t))
