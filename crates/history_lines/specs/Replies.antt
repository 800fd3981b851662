-- The reply that the member `reply` of an entry gives, by the first of its members that stands.
-- A choice of this project: the history format.
use Rattle.std.specs.Prelude.{Option, Some, codes}
use Rattle.serde_json.specs.Data.{Data}
use Rattle.call_types.specs.declared.reply.Event.{Event}
use Rattle.call_types.specs.declared.reply.MountRow.{MountRow}
use Rattle.call_types.specs.declared.reply.Refusal.{Refusal}
use Rattle.call_types.specs.declared.reply.Refusal.TheVariants as refusals
use Rattle.call_types.specs.declared.reply.Reply.{Reply}
use Rattle.call_types.specs.declared.reply.Reply.TheVariants as replies
use Rattle.history_lines.specs.declared.words.ReplyWord.{ReplyWord}
use Rattle.history_lines.specs.declared.words.ReplyWord.TheVariants as words
use Rattle.history_lines.specs.declared.words.RefusalWord.{RefusalWord}
use Rattle.history_lines.specs.declared.words.RefusalWord.TheVariants as names
use Rattle.history_lines.specs.Answers.{◌>>=◌}
use Rattle.history_lines.specs.Words.{replied_word, all_replies, refusal_named, change_named, field_named, rule_named}
use Rattle.history_lines.specs.Members.{Look, look_in, standing, text_at, number_at, flag_at, uid_in, uid_at, object_in, object_at, list_at, data_id_at, some_topology_at}

-- ---- events, and pods that are mounted

-- a watch event, by its members
abbrev pub event_at : Look → Option Event
event_at m = do
  word ← text_at (codes "change") m
  change ← change_named word
  object ← object_at (codes "object") m
  version ← number_at (codes "version") m
  Some (record { change = change; object = object; version = version })

-- a watch event, as an object
unfoldable pub event_in : Data → Option Event
event_in d = event_at (look_in d)

-- a pod and the claims that are mounted for it, by their UIDs
abbrev pub mounted_at : Look → Option MountRow
mounted_at m = do
  claims ← list_at uid_in (codes "claims") m
  pod ← uid_at (codes "pod") m
  Some (record { pod = pod; claims = claims })

-- the same as an object
unfoldable pub mounted_in : Data → Option MountRow
mounted_in d = mounted_at (look_in d)

-- ---- refusals

-- the refusal that names the invalid field
abbrev pub invalid_at : Look → Option Refusal
invalid_at m = do
  word ← text_at (codes "field") m
  field ← field_named word
  Some (refusals.Invalid field)

-- the refusal that names the rule that forbids the request
abbrev pub forbidden_at : Look → Option Refusal
forbidden_at m = do
  word ← text_at (codes "rule") m
  rule ← rule_named word
  Some (refusals.Forbidden rule)

-- the refusal of this word, with what it carries
abbrev pub refusal_by : RefusalWord → Look → Option Refusal
refusal_by names.NotFound m = Some refusals.NotFound
refusal_by names.AlreadyExists m = Some refusals.AlreadyExists
refusal_by names.Conflict m = number_at (codes "current") m >>= λ n. Some (refusals.Conflict n)
refusal_by names.Invalid m = invalid_at m
refusal_by names.Forbidden m = forbidden_at m
refusal_by names.Gone m = number_at (codes "oldest") m >>= λ n. Some (refusals.Gone n)
refusal_by names.Exhausted m = number_at (codes "free") m >>= λ n. Some (refusals.Exhausted n)
refusal_by names.BackFault m = number_at (codes "planned") m >>= λ n. Some (refusals.BackFault n)
refusal_by names.StaleEpoch m = number_at (codes "current") m >>= λ n. Some (refusals.StaleEpoch n)
refusal_by names.Assigned m = text_at (codes "node") m >>= λ s. Some (refusals.Assigned s)

-- a refusal, by its word
abbrev pub refusal_at : Look → Option Refusal
refusal_at m = do
  word ← text_at (codes "refused") m
  name ← refusal_named word
  refusal_by name m

-- ---- each reply

-- the answer of a list: the objects, and the version at which they stand
abbrev pub listed_at : Look → Option Reply
listed_at m = do
  items ← list_at object_in (codes "items") m
  version ← number_at (codes "listed") m
  Some (replies.Listed items version)

-- the answer of a watch: the events, and the version up to which they were told
abbrev pub events_at : Look → Option Reply
events_at m = do
  events ← list_at event_in (codes "events") m
  upto ← number_at (codes "upto") m
  Some (replies.Events (record { events = events; upto = upto }))

-- the answer of a provision call: which data these are, and where they can be reached
abbrev pub provisioned_at : Look → Option Reply
provisioned_at m = do
  id ← data_id_at m
  topology ← some_topology_at m
  Some (replies.Provisioned id topology)

-- the reply of the kind that this member tells
abbrev pub reply_by : ReplyWord → Look → Option Reply
reply_by words.Done m = object_at (codes "done") m >>= λ object. Some (replies.Done object)
reply_by words.Left m = object_at (codes "left") m >>= λ object. Some (replies.Left object)
reply_by words.Found m = object_at (codes "found") m >>= λ object. Some (replies.Found object)
reply_by words.Listed m = listed_at m
reply_by words.Events m = events_at m
reply_by words.Provisioned m = provisioned_at m
reply_by words.Erased m = flag_at (codes "erased") m >>= λ removed. Some (replies.Erased removed)
reply_by words.Epoch m = number_at (codes "epoch") m >>= λ epoch. Some (replies.Epoch epoch)
reply_by words.Mounted m = list_at mounted_in (codes "mounted") m >>= λ rows. Some (replies.Mounted rows)
reply_by words.Timed m = Some replies.Timed
reply_by words.Refused m = refusal_at m >>= λ refusal. Some (replies.Refused refusal)

-- a reply, by the first member that tells its kind
abbrev pub reply_at : Look → Option Reply
reply_at m = standing replied_word all_replies m >>= λ word. reply_by word m

-- a reply, as an object
unfoldable pub reply_in : Data → Option Reply
reply_in d = reply_at (look_in d)
